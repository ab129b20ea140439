-- The values of a tree that were put into tables: for the loops of `put_items` and `put_members`.
use Rattle.std.proofs.Common.{◌≡◌, ◌+◌, ◌<◌, ◌++◌, ℕ, ℤ, Vec, Bool, true, false, subst, Global, List, [], ◌∷◌, Option, Some, String}
use Rattle.std.proofs.Common.{ap, append_assoc, append-nil, get_or, length, map, option_and_then}
use Rattle.std.proofs.Common.{option_map, refl, rules, string_bytes, sym, take, ◌∙◌}
use Rattle.std.specs.List.{list_all}
use Rattle.std.proofs.lemmas.Bool.{false≢true}
use Rattle.std.proofs.lemmas.List.{map_more, take-map}
use Rattle.std.proofs.lemmas.List.Folds.{list_all-map, list_all_at}
use Rattle.jp_reading.proofs.Conjunctions.{and-right}
use Rattle.jp_decimal.specs.Number.{is_decimal, scaled_decimal}
use Rattle.jp_decimal.specs.NumberText.{number_text}
use Rattle.jp_decimal.specs.declared.number.Decimal.{Decimal as Held}
use Rattle.jp_decimal.specs.declared.number.Number.TheVariants.{Decimal as AsDecimal}
use Rattle.jp_decimal.proofs.Told.{decimal-told}
use Rattle.jp_document.proofs.Descent.Inside.{all-items, all-members}
use Rattle.jp_document.proofs.NumberValues.{written-value}
use Rattle.jp_document.specs.Value.{IsDocumentValue, Value, boolean, decimal, everywhere, is_allowed}
use Rattle.jp_document.specs.Value.{items_of, list, member_of, members_of, null, object, text, value_of}
use Rattle.jp_document.specs.declared.value.Json.{Json, Null, Bool as Truth, Decimal, Text, the_lemmas}
use Rattle.jp_document.specs.declared.value.Json.{List as AsList, Members as AsMembers}
use Rattle.jp_document.specs.declared.value.Member.{Member}
use Rattle.jp_flat.specs.Flat.{Grows, Shown, all_of, flat_value, member_with, text_at}
use Rattle.jp_flat.specs.declared.item.Item.{Item}
use Rattle.jp_flat.specs.declared.item.Item.TheVariants as code
use Rattle.jp_flat.specs.declared.item.Span.{Span}
use Rattle.jp_flat.specs.declared.item.Named.{Named}
use Rattle.jp_flat.proofs.Growth.{all_of_grows, all_of_push, grows_on, grows_same, member_grows}
use Rattle.jp_flat.proofs.Growth.{text_grows, value_grows}
use Rattle.jp_flat.proofs.Leaves.{numeral-means}

-- ---- values without parts

pub null_is : value_of Null ≡ null
null_is = search (rules, the_lemmas)

pub boolean_is : (b : Bool) → value_of (Truth b) ≡ boolean b
boolean_is b = search (rules, the_lemmas)

pub text_is : (s : String Global) → value_of (Text s) ≡ text (string_bytes s)
text_is s = search (rules, the_lemmas)

pub decimal-is : (e c : ℤ) → value_of (Decimal e c) ≡ decimal c e
decimal-is e c = search (rules, the_lemmas)

pub list-is : (v : Vec Json Global) → value_of (AsList v) ≡ list (items_of (map value_of v.items))
list-is v = search (rules, the_lemmas)

pub members-is : (v : Vec Member Global)
    → value_of (AsMembers v) ≡ object (members_of (map member_of v.items))
members-is v = search (rules, the_lemmas)

-- the text of a decimal that is held stands for that decimal
pub decimal-means : (n : ℕ) (t : Shown) (p : Span) (d : Held) → is_decimal d.coefficient d.exponent ≡ true
    → text_at t p ≡ Some (number_text (AsDecimal d))
    → flat_value n t (code.Numeral p) ≡ Some (decimal d.coefficient d.exponent)
decimal-means n t p d fits at =
    numeral-means n t p (number_text (AsDecimal d)) at
    ∙ ap Some (written-value (AsDecimal d) ((decimal-told (scaled_decimal d)).0 fits))

-- ---- what may be a document's value

pub decimal-allowed : (j : Json) (e c : ℤ) → IsDocumentValue (value_of j) → j ≡ Decimal e c
    → is_decimal c e ≡ true
decimal-allowed j e c may is =
    subst IsDocumentValue (ap value_of is ∙ decimal-is e c) may

pub items-allowed : (j : Json) (v : Vec Json Global) → IsDocumentValue (value_of j) → j ≡ AsList v
    → list_all (everywhere is_allowed) (map value_of v.items) ≡ true
items-allowed j v may is =
    sym (all-items is_allowed (map value_of v.items))
    ∙ and-right _ _ (subst IsDocumentValue (ap value_of is ∙ list-is v) may)

pub members-allowed : (j : Json) (v : Vec Member Global) → IsDocumentValue (value_of j)
    → j ≡ AsMembers v
    → list_all (λ m. everywhere is_allowed m.1) (map member_of v.items) ≡ true
members-allowed j v may is =
    sym (all-members is_allowed (map member_of v.items))
    ∙ and-right _ _ (subst IsDocumentValue (ap value_of is ∙ members-is v) may)

-- what each passes, the one at i passes
pub passes-at : {X Y : Type 0} (p : Y → Bool) (f : X → Y) (xs : List X) (i : ℕ) (x : X)
    → list_all p (map f xs) ≡ true → i < length xs → x ≡ get_or xs i x → p (f x) ≡ true
passes-at p f xs i x all within is = by (p (f x)) refl
  where
    by : (b : Bool) → p (f x) ≡ b → p (f x) ≡ true
    by true so = so
    by false so = absurd (false≢true
        (sym (list_all_at (λ y. p (f y)) xs i x within (ap (λ y. p (f y)) (sym is) ∙ so))
        ∙ sym (list_all-map p f xs) ∙ all))

-- ---- parts

pub taken_more : {X Y : Type 0} (f : X → Y) (xs : List X) (i : ℕ) (x : X) → i < length xs
    → x ≡ get_or xs i x → take (i + 1) (map f xs) ≡ take i (map f xs) ++ f x ∷ []
taken_more f xs i x within is =
    take-map f (i + 1) xs ∙ map_more f xs i x within
    ∙ ap (λ ys. ys ++ f (get_or xs i x) ∷ []) (sym (take-map f i xs))
    ∙ ap (λ y. take i (map f xs) ++ f y ∷ []) (sym is)

-- behind the old items stand new ones, which have these values
pub record ItemsPut (depth : ℕ) (t s : Shown) (old all : List Item) (vs : List Value) : Type 0 where
  pub new : List Item
  pub behind : all ≡ old ++ new
  pub mean : all_of (flat_value depth s) new ≡ Some vs
  pub grows : Grows t s

pub items_none : (depth : ℕ) (t : Shown) (old : List Item) → ItemsPut depth t t old old []
items_none depth t old = record {
  new = [];
  behind = sym (append-nil old);
  mean = refl;
  grows = grows_same t;
}

pub items_one : (depth : ℕ) (t s u : Shown) (old all : List Item) (vs : List Value) (i : Item) (v : Value)
    → ItemsPut depth t s old all vs → Grows s u → flat_value depth u i ≡ Some v
    → ItemsPut depth t u old (all ++ i ∷ []) (vs ++ v ∷ [])
items_one depth t s u old all vs i v so more is = record {
  new = so.new ++ i ∷ [];
  behind = ap (λ xs. xs ++ i ∷ []) so.behind ∙ append_assoc old so.new (i ∷ []);
  mean = all_of_push (flat_value depth u) so.new vs i v
      (all_of_grows (flat_value depth s) (flat_value depth u) so.new vs (value_grows depth s u more) so.mean) is;
  grows = grows_on t s u so.grows more;
}

-- behind the old members stand new ones, which have these names and values
pub record MembersPut (depth : ℕ) (t s : Shown) (old all : List Named) (ms : List (List ℕ × Value))
    : Type 0 where
  pub new : List Named
  pub behind : all ≡ old ++ new
  pub mean : all_of (member_with (flat_value depth s) s) new ≡ Some ms
  pub grows : Grows t s

pub members_none : (depth : ℕ) (t : Shown) (old : List Named) → MembersPut depth t t old old []
members_none depth t old = record {
  new = [];
  behind = sym (append-nil old);
  mean = refl;
  grows = grows_same t;
}

named_value : (f : Item → Option Value) (t : Shown) (p : Named) (name : List ℕ) (v : Value)
    → text_at t p.name ≡ Some name → f p.item ≡ Some v → member_with f t p ≡ Some (name, v)
named_value f t p name v named is =
    ap (option_and_then (λ n. option_map (λ w. (n, w)) (f p.item))) named
    ∙ ap (option_map (λ w. (name, w))) is

pub members_one : (depth : ℕ) (t s r u : Shown) (old all : List Named) (ms : List (List ℕ × Value))
    (p : Named) (name : List ℕ) (v : Value)
    → MembersPut depth t s old all ms → Grows s r → text_at r p.name ≡ Some name
    → Grows r u → flat_value depth u p.item ≡ Some v
    → MembersPut depth t u old (all ++ p ∷ []) (ms ++ (name, v) ∷ [])
members_one depth t s r u old all ms p name v so one named two is =
    let more : Grows s u = grows_on s r u one two in record {
      new = so.new ++ p ∷ [];
      behind = ap (λ xs. xs ++ p ∷ []) so.behind ∙ append_assoc old so.new (p ∷ []);
      mean = all_of_push (member_with (flat_value depth u) u) so.new ms p (name, v)
          (all_of_grows (member_with (flat_value depth s) s) (member_with (flat_value depth u) u) so.new ms
          (member_grows (flat_value depth s) (flat_value depth u) s u more (value_grows depth s u more)) so.mean)
          (named_value (flat_value depth u) u p name v (text_grows r u p.name name two named) is);
      grows = grows_on t s u so.grows more;
    }
