-- What single tokens are read as: for `leaf` and `number`.
use Rattle.std.proofs.Common.{◌≡◌, ◌-◌, ◌<◌, ℕ, zero, suc, Bool, List, [], ◌∷◌, Some, length}
use Rattle.std.proofs.Common.{option_map, refl, sym, ap, subst, ◌∙◌, arith, false, true, pos, negsuc, ℤ}
use Rattle.std.proofs.Common.{◌^◌, ◌&&◌, nat_lt, None, Option}
use Rattle.std.specs.Str.Parse.{AllDigits, digits_value}
use Rattle.std.proofs.lemmas.Bool.{and_from, cond-true, lt-ltb}
use Rattle.std.proofs.lemmas.Bool.Decides.{nat_tests}
use Rattle.std.proofs.lemmas.Float.Parse.{scan_numeral-text_of}
use Rattle.std.proofs.lemmas.List.{append-nil}
use Rattle.std.proofs.lemmas.Option.{same_Some}
use Rattle.std.proofs.lemmas.Str.Parse.{digit_at}
use Rattle.fast_float.specs.Text.{IsWellFormed, Parts, digits_of, scan, text_of}
use Rattle.json.specs.Json as json
use Rattle.json.specs.Json.{after_end_array, items, members, parse_map, value}
use Rattle.json.specs.Token.{Token}
use Rattle.json.proofs.Grammar.{value_is, value-begin_array, value-begin_object}
use Rattle.serde_json.specs.Data.{unsigned}
use Rattle.serde_json.specs.Read.{is_integer, number_from}
use Rattle.jp_document.specs.OfJson.{items_of_json, members_of_json, value_of_json}
use Rattle.jp_flat.specs.Private.Integer.{IsWholeText}
use Rattle.jp_document.specs.NumberTexts.{numbers_of}
use Rattle.jp_decimal.specs.TextValue.{value_of_text}
use Rattle.jp_document.specs.NumberValue.{number_value}
use Rattle.jp_flat.proofs.Numbers.{value-bounded, value-leaf, whole-kept}
use Rattle.jp_document.specs.Location.{entries}
use Rattle.jp_flat.specs.Private.FromTokens.{ReadsItems, ReadsMembers, ReadsValue, converted}
use Rattle.jp_document.specs.Value.{Value, null, boolean, text, whole, decimal, list, object}
use Rattle.jp_document.specs.Value.{items_of, members_of}
use Rattle.jp_reading.proofs.Conjunctions.{and-both}
use Rattle.jp_flat.proofs.Rounds.{converted-map, from_zero_text, one_token}
use Rattle.jp_flat.specs.Asked.{is_leaf}
use Rattle.jp_flat.specs.Flat.{Shown, flat_value, number_of, text_at}
use Rattle.jp_flat.specs.Private.Kept.{IsBare}
use Rattle.jp_flat.specs.Private.Reading.{ReadsLeaf, IsWholeItem, ReadsFlat, ReadsFlatItems}
use Rattle.jp_flat.specs.Private.Taken.{IsHeld, IsTaken}
use Rattle.jp_flat.specs.Private.Reading.{ReadsFlatMembers, with_items}
use Rattle.jp_flat.specs.declared.item.Halves.{Halves}
use Rattle.jp_flat.specs.declared.item.Item.{Item}
use Rattle.jp_flat.specs.declared.item.Item.TheVariants as code
use Rattle.jp_flat.specs.declared.item.Span.{Span}

-- ---- the values of leaves

pub null_means : (n : ℕ) (t : Shown) → flat_value n t code.Null ≡ Some null
unfolding flat_value
null_means zero t = refl
null_means (suc n) t = refl

pub boolean_means : (n : ℕ) (t : Shown) (b : Bool) → flat_value n t (code.Bool b) ≡ Some (boolean b)
unfolding flat_value
boolean_means zero t b = refl
boolean_means (suc n) t b = refl

pub text_means : (n : ℕ) (t : Shown) (p : Span) (x : List ℕ) → text_at t p ≡ Some x
    → flat_value n t (code.Text p) ≡ Some (text x)
unfolding flat_value
text_means zero t p x is = ap (option_map text) is
text_means (suc n) t p x is = ap (option_map text) is

pub numeral-means : (n : ℕ) (t : Shown) (p : Span) (x : List ℕ) → text_at t p ≡ Some x
    → flat_value n t (code.Numeral p) ≡ Some (number_value (value_of_text x))
unfolding flat_value
numeral-means zero t p x is = ap (option_map (λ s. number_value (value_of_text s))) is
numeral-means (suc n) t p x is = ap (option_map (λ s. number_value (value_of_text s))) is

pub above_means : (n : ℕ) (t : Shown) (h : Halves)
    → flat_value n t (code.Above h) ≡ Some (whole (pos (number_of h)))
unfolding flat_value
above_means zero t h = refl
above_means (suc n) t h = refl

pub below_means : (n : ℕ) (t : Shown) (h : Halves)
    → flat_value n t (code.Below h) ≡ Some (whole (negsuc (number_of h)))
unfolding flat_value
below_means zero t h = refl
below_means (suc n) t h = refl

-- nothing can be inside the one value that an item has
pub bare-by : (t : Shown) (i : Item) (w : Value) → ((n : ℕ) → flat_value n t i ≡ Some w)
    → is_leaf w ≡ true → IsBare t i
bare-by t i w means leaf =
    λ n v is. subst (λ u. is_leaf u ≡ true) (same_Some w v (sym (means n) ∙ is)) leaf

-- ---- whole numbers

pub above_is : (z : ℤ) (h : Halves) → z ≡ pos (number_of h) → (n : ℕ) (t : Shown)
    → flat_value n t (code.Above h) ≡ Some (whole z)
above_is z h is n t = above_means n t h ∙ ap (λ z. Some (whole z)) (sym is)

pub below_is : (z : ℤ) (h : Halves) → z ≡ negsuc (number_of h) → (n : ℕ) (t : Shown)
    → flat_value n t (code.Below h) ≡ Some (whole z)
below_is z h is n t = below_means n t h ∙ ap (λ z. Some (whole z)) (sym is)

pub above_item : (s : List ℕ) (z : ℤ) (h : Halves) → IsWholeText s z → z ≡ pos (number_of h)
    → IsWholeItem s (code.Above h)
above_item s z h written is = record {
  number = pos (number_of h);
  written = subst (IsWholeText s) is written;
  means = λ m t. above_means m t h;
}

-- digits alone are read as the number that they write
digits_read : (s : List ℕ) (n : ℕ) → 0 < length s → AllDigits 10 s → digits_value 10 s ≡ n
    → n < 2 ^ 64 → number_from false (scan s) ≡ Some (unsigned n)
digits_read [] n some digits is fits = absurd (omega (arith, some))
digits_read (c ∷ cs) n some digits write fits =
    let p : Parts = record {
      whole = c ∷ cs;
      point = false;
      fraction = [];
      exponent_negative = false;
      exponent = [];
      len = length (c ∷ cs);
    } in
    let written : text_of p ≡ c ∷ cs = append-nil (c ∷ cs) in
    let well : IsWellFormed p = record {
      whole_digits = digits;
      fraction_digits = tt;
      exponent_digits = tt;
      no_point = λ e. refl;
      no_exponent = λ e. refl;
      len_is = ap length (sym written);
    } in
    let is : digits_of p ≡ n = ap (digits_value 10) (append-nil (c ∷ cs)) ∙ write in
    ap (λ t. number_from false (scan t)) (sym written)
    ∙ ap (number_from false) (scan_numeral-text_of p well)
    ∙ cond-true (is_integer p && nat_lt (digits_of p) (2 ^ 64)) _ _
    (and_from _ _ (and_from _ _ (and_from _ _ (lt-ltb _ _ some) refl) refl)
    (lt-ltb (digits_of p) (2 ^ 64) (omega (arith, is, fits))))
    ∙ ap (λ k. Some (unsigned k)) is

pub digits_item : (s : List ℕ) (n : ℕ) (h : Halves) → 0 < length s → AllDigits 10 s
    → digits_value 10 s ≡ n → n < 2 ^ 64 → number_of h ≡ n → IsWholeItem s (code.Above h)
digits_item s n h some digits write fits is =
    let first = digit_at s 0 digits some in
    above_item s (pos n) h
    (from_zero_text s n (pos n) (grind (arith, nat_tests, first))
    (digits_read s n some digits write fits) refl) (ap pos (sym is))

-- ---- tokens

pub leaf-null : (k : Token) (t : Shown) → k ≡ Token.null → ReadsLeaf k t code.Null
leaf-null k t is = λ depth r items. (
  record {
    value = null;
    reads = one_token depth (k ∷ r) r Token.null null (ap (λ k. k ∷ r) is)
        (ap (converted (value_of_json (numbers_of t.exact))) (value_is depth (Token.null ∷ r)));
    short = refl;
    means = null_means depth (with_items t items);
  },
  refl,
)

pub leaf-boolean : (k : Token) (t : Shown) (b : Bool) → k ≡ Token.boolean b
    → ReadsLeaf k t (code.Bool b)
leaf-boolean k t b is = λ depth r items. (
  record {
    value = boolean b;
    reads = one_token depth (k ∷ r) r (Token.boolean b) (boolean b) (ap (λ k. k ∷ r) is)
        (ap (converted (value_of_json (numbers_of t.exact))) (value_is depth (Token.boolean b ∷ r)));
    short = refl;
    means = boolean_means depth (with_items t items) b;
  },
  refl,
)

pub text-read : {N : List ℕ → Option Value} (depth : ℕ) (k : Token) (r : List Token) (x : List ℕ)
    → k ≡ Token.string x → ReadsValue N depth (k ∷ r) r (text x)
text-read {N = N} depth k r x is =
    one_token depth (k ∷ r) r (Token.string x) (text x) (ap (λ k. k ∷ r) is)
    (ap (converted (value_of_json N)) (value_is depth (Token.string x ∷ r)))

pub leaf-text : (k : Token) (t : Shown) (p : Span) (x : List ℕ) → k ≡ Token.string x
    → text_at t p ≡ Some x → ReadsLeaf k t (code.Text p)
leaf-text k t p x is at = λ depth r items. (
  record {
    value = text x;
    reads = text-read depth k r x is;
    short = refl;
    means = text_means depth (with_items t items) p x at;
  },
  refl,
)

-- a number that is taken is read as its value
pub number-read : {N : List ℕ → Option Value} (depth : ℕ) (k : Token) (r : List Token) (s : List ℕ)
    (v : Value) → k ≡ Token.number s → N s ≡ Some v → ReadsValue N depth (k ∷ r) r v
number-read {N = N} depth k r s v is taken =
    one_token depth (k ∷ r) r (Token.number s) v (ap (λ k. k ∷ r) is)
    (ap (converted (value_of_json N)) (value_is depth (Token.number s ∷ r))
    ∙ ap (option_map (λ v. (v, r))) taken)

-- whole numbers are taken in each mode
whole-taken : (b : Bool) (s : List ℕ) (z : ℤ) → IsWholeText s z → numbers_of b s ≡ Some (whole z)
whole-taken false s z x = x.is
whole-taken true s z x = ap Some (whole-kept s (whole z) x.is)

pub leaf-whole : (k : Token) (t : Shown) (i : Item) (s : List ℕ) → k ≡ Token.number s
    → IsWholeItem s i → ReadsLeaf k t i
leaf-whole k t i s is x = λ depth r items. (
  record {
    value = whole x.number;
    reads = number-read depth k r s (whole x.number) is (whole-taken t.exact s x.number x.written);
    short = refl;
    means = x.means depth (with_items t items);
  },
  refl,
)

leaf-empty : (v : Value) → is_leaf v ≡ true → entries v ≡ []
leaf-empty null is = refl
leaf-empty (boolean b) is = refl
leaf-empty (whole z) is = refl
leaf-empty (decimal c e) is = refl
leaf-empty (text s) is = refl
leaf-empty (list vs) is = absurd (cc)
leaf-empty (object ms) is = absurd (cc)

pub leaf-taken : (k : Token) (t : Shown) (i : Item) (s : List ℕ) → k ≡ Token.number s
    → IsTaken t s i → ReadsLeaf k t i
leaf-taken k t i s is x = λ depth r items. (
  record {
    value = x.value;
    reads = number-read depth k r s x.value is x.taken;
    short = x.short;
    means = x.means depth items;
  },
  leaf-empty x.value x.alone,
)

pub numeral-taken : (t : Shown) (p : Span) (s : List ℕ) → IsHeld t s → text_at t p ≡ Some s
    → IsTaken t s (code.Numeral p)
numeral-taken t p s x at = record {
  value = number_value (value_of_text s);
  taken = ap (λ b. numbers_of b s) x.exact;
  short = value-bounded (value_of_text s) x.number x.held;
  alone = value-leaf (value_of_text s) x.number x.held;
  means = λ k items. numeral-means k (with_items t items) p s at;
}

pub leaf-read : (depth : ℕ) (ts r : List Token) (token : Token) (t : Shown) (i : Item)
    → ts ≡ token ∷ r → ReadsLeaf token t i → ReadsFlat depth ts r t i
leaf-read depth ts r token t i first x =
    subst (λ ks. ReadsFlat depth ks r t i) (sym first) (x depth r t.items).0

no_value : {N : List ℕ → Option Value} (depth : ℕ) (ts r : List Token) (v : Value)
    → value depth ts ≡ None → ReadsValue N depth ts r v → ⊥
no_value {N = N} depth ts r v none x =
    let never : converted (value_of_json N) None ≡ Some (v, r) =
    sym (ap (converted (value_of_json N)) none) ∙ x.read in
    absurd (cc)

-- no list ends where a value begins
pub value_goes : {N : List ℕ → Option Value} (depth : ℕ) (ts r : List Token) (v : Value)
    → ReadsValue N depth ts r v → after_end_array ts ≡ None
value_goes depth [] r v x = refl
value_goes depth (Token.begin_object ∷ ts) r v x = refl
value_goes depth (Token.end_object ∷ ts) r v x = refl
value_goes depth (Token.begin_array ∷ ts) r v x = refl
value_goes depth (Token.end_array ∷ ts) r v x =
    absurd (no_value depth (Token.end_array ∷ ts) r v (value_is depth (Token.end_array ∷ ts)) x)
value_goes depth (Token.key s ∷ ts) r v x = refl
value_goes depth (Token.string s ∷ ts) r v x = refl
value_goes depth (Token.number s ∷ ts) r v x = refl
value_goes depth (Token.boolean b ∷ ts) r v x = refl
value_goes depth (Token.null ∷ ts) r v x = refl
value_goes depth (Token.bad ∷ ts) r v x = refl

-- ---- lists and objects

pub reads_list : {N : List ℕ → Option Value} (depth : ℕ) (ts s r : List Token) (vs : List Value)
    → 0 < depth → ts ≡ Token.begin_array ∷ s
    → ReadsItems N (depth - 1) (length s) s r (items_of vs)
    → ReadsValue N depth ts r (list (items_of vs))
reads_list {N = N} depth ts s r vs deep first x = record {
  read =
      ap (converted (value_of_json N)) (ap (value depth) first ∙ value-begin_array depth s deep)
      ∙ converted-map (items_of_json N) (value_of_json N) json.array list (λ js. refl)
      (items (value (depth - 1)) (length s) s)
      ∙ ap (parse_map list) x.read;
}

pub reads_object : {N : List ℕ → Option Value} (depth : ℕ) (ts s r : List Token)
    (ms : List (List ℕ × Value)) → 0 < depth → ts ≡ Token.begin_object ∷ s
    → ReadsMembers N (depth - 1) (length s) s r ms
    → ReadsValue N depth ts r (object (members_of ms))
reads_object {N = N} depth ts s r ms deep first x = record {
  read =
      ap (converted (value_of_json N)) (ap (value depth) first ∙ value-begin_object depth s deep)
      ∙ converted-map (λ js. members_of_json N js []) (value_of_json N) json.object
      (λ found. object (members_of found)) (λ js. refl)
      (members (value (depth - 1)) (length s) s)
      ∙ ap (parse_map (λ found. object (members_of found))) x.read;
}

pub flat-list : (depth : ℕ) (ts s r : List Token) (t : Shown) (i : Item) → 0 < depth
    → ts ≡ Token.begin_array ∷ s → ReadsFlatItems (depth - 1) s r t i → ReadsFlat depth ts r t i
flat-list depth ts s r t i deep first x = record {
  value = list (items_of x.values);
  reads = reads_list depth ts s r x.values deep first x.reads;
  short = and-both _ _ x.short x.within;
  means =
      let same : suc (depth - 1) ≡ depth = omega arith in
      subst (λ n. flat_value n t i ≡ Some (list (items_of x.values))) same x.means;
}

pub flat-object : (depth : ℕ) (ts s r : List Token) (t : Shown) (i : Item) → 0 < depth
    → ts ≡ Token.begin_object ∷ s → ReadsFlatMembers (depth - 1) s r t i → ReadsFlat depth ts r t i
flat-object depth ts s r t i deep first x = record {
  value = object (members_of x.members);
  reads = reads_object depth ts s r x.members deep first x.reads;
  short = and-both _ _ refl x.within;
  means =
      let same : suc (depth - 1) ≡ depth = omega arith in
      subst (λ n. flat_value n t i ≡ Some (object (members_of x.members))) same x.means;
}
