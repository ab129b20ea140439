-- Whatever items are to come, they complete what was read and what was kept: for the loop of
-- `thin_items`; and values of which all is kept.
use Rattle.std.proofs.Common.{◌≡◌, ◌+◌, ◌^◌, ◌<◌, ◌≤◌, ◌++◌, ℕ, true, List, []}
use Rattle.std.proofs.Common.{◌∷◌, Some, length, drop, take, ap, subst, ◌∙◌, arith}
use Rattle.std.proofs.Common.{append_assoc, nat_le}
use Rattle.std.proofs.lemmas.List.{length-append}
use Rattle.json.specs.Json.{after_end_array}
use Rattle.json.specs.Token.{Token}
use Rattle.jp_reading.specs.Numbers.{largest_exact}
use Rattle.jp_document.specs.Value.{Value, items_of, list}
use Rattle.jp_flat.specs.Private.Bounded.{is_bounded}
use Rattle.jp_flat.specs.Asked.{AreThinned, IsThinned}
use Rattle.jp_flat.specs.Asked.IsThinned.{all as whole, in_list}
use Rattle.jp_flat.specs.Asked.AreThinned.{no_item, next_item}
use Rattle.jp_flat.specs.Flat.{Grows, Shown, all_of, flat_value}
use Rattle.jp_flat.specs.Private.Kept.{KeepsFlat, KeepsFlatItems}
use Rattle.jp_document.specs.NumberTexts.{numbers_of}
use Rattle.jp_flat.specs.Private.Reading.{BeginsItems, BeginsValues, IsTheListOf}
use Rattle.jp_flat.specs.Private.Reading.{ReadsFlat, ReadsFlatItems, ReadsLeaves, with_items}
use Rattle.jp_flat.specs.declared.item.Item.{Item}
use Rattle.jp_flat.proofs.Growth.{all_of_grows, all_of_push, grows_on, length-all_of}
use Rattle.jp_flat.proofs.Growth.{value_grows}
use Rattle.jp_flat.proofs.Loops.{begins-in, cut_back, cut_front, few_fit, values_end, values_more}
use Rattle.jp_flat.proofs.Thinned.{same-count}

-- ---- values of which all is kept

pub keeps-all : (n : List ℕ) (depth : ℕ) (ts r : List Token) (t : Shown) (i : Item)
    → ReadsFlat depth ts r t i → KeepsFlat (IsThinned n) depth ts r t i
keeps-all n depth ts r t i x = record {
  value = x.value;
  kept = x.value;
  reads = x.reads;
  short = x.short;
  keeps = whole x.value;
  means = x.means;
}

pub keeps-all_items : (n : List ℕ) (depth : ℕ) (ts r : List Token) (t : Shown) (i : Item)
    → ReadsFlatItems depth ts r t i → KeepsFlatItems (IsThinned n) depth ts r t i
keeps-all_items n depth ts r t i x = record {
  values = x.values;
  kept = list (items_of x.values);
  reads = x.reads;
  within = x.within;
  short = x.short;
  keeps = whole (list (items_of x.values));
  means = x.means;
}

-- ---- items

-- the tokens begin with values in a list, of which so much is kept as the items stand for
pub record BeginsKept (n : List ℕ) (depth : ℕ) (ts rest : List Token) (t : Shown) (items : List Item)
    : Type 0 where
  pub values : List Value
  pub begins : BeginsValues (numbers_of t.exact) depth ts rest values
  pub kept : List Value
  pub thin : AreThinned n (items_of values) (items_of kept)
  pub mean : all_of (flat_value depth t) items ≡ Some kept

all-items : (n : List ℕ) (vs : List Value) → AreThinned n (items_of vs) (items_of vs)
all-items n [] = no_item
all-items n (v ∷ vs) = next_item v v (items_of vs) (items_of vs) (whole v) (all-items n vs)

begins-all : (n : List ℕ) (depth : ℕ) (ts rest : List Token) (t : Shown) (items : List Item)
    → BeginsItems depth ts rest t items → BeginsKept n depth ts rest t items
begins-all n depth ts rest t items x = record {
  values = x.values;
  begins = x.begins;
  kept = x.values;
  thin = all-items n x.values;
  mean = x.mean;
}

item-push : (n : List ℕ) (vs us : List Value) (v u : Value) → AreThinned n (items_of vs) (items_of us)
    → IsThinned n v u → AreThinned n (items_of (vs ++ v ∷ [])) (items_of (us ++ u ∷ []))
item-push n [] [] v u so here = next_item v u _ _ here no_item
item-push n [] (w ∷ us) v u so here = elim so [ ]
item-push n (w ∷ vs) [] v u so here = elim so [ ]
item-push n (w ∷ vs) (x ∷ us) v u (next_item a b ws xs there so) here =
    next_item w x _ _ there (item-push n vs us v u so here)

begins-more : (n : List ℕ) (depth : ℕ) (initial ts r : List Token) (s u : Shown) (items : List Item)
    (i : Item) → length r < length ts → Grows s u → KeepsFlat (IsThinned n) depth ts r u i
    → BeginsKept n depth initial ts s items → BeginsKept n depth initial r u (items ++ i ∷ [])
begins-more n depth initial ts r s u items i less more x so = record {
  values = so.values ++ x.value ∷ [];
  begins =
      values_more depth initial ts r so.values x.value less x.reads x.short
      (begins-in s.exact u.exact depth initial ts so.values more.exact so.begins);
  kept = so.kept ++ x.kept ∷ [];
  thin = item-push n so.values so.kept x.value x.kept so.thin x.keeps;
  mean = all_of_push (flat_value depth u) items so.kept i x.kept
      (all_of_grows (flat_value depth s) (flat_value depth u) items so.kept
      (value_grows depth s u more) so.mean) x.means;
}

-- the items so far, which stand behind the old ones, and the items to come
pub record KeptItems (n : List ℕ) (depth : ℕ) (initial ts : List Token) (before now : Shown)
    (base : ℕ) (old all : List Item) : Type 0 where
  pub new : List Item
  pub begins : BeginsKept n depth initial ts now new
  pub shorter : length ts ≤ length initial
  pub pushed : all ≡ old ++ new
  pub at : base ≡ length old
  pub grows : Grows before now

-- the leaves moved from the tables, and the first item that is none
pub kept_items-begin : (n : List ℕ) (depth : ℕ) (initial ts r : List Token) (t s u : Shown)
    (first base : ℕ) (old all : List Item) (i : Item) → first ≡ length t.items → base ≡ length old
    → length ts ≤ length initial → ReadsLeaves initial ts t s
    → all ≡ old ++ drop first s.items → Grows (with_items s (take first s.items)) u
    → length r < length ts → KeepsFlat (IsThinned n) depth ts r u i
    → KeptItems n depth initial r t u base old (all ++ i ∷ [])
kept_items-begin n depth initial ts r t s u first base old all i at here shorter leaves moved more less
    x =
    let back = cut_back first t.items leaves.new s.items leaves.behind at in
    let front = cut_front first t.items leaves.new s.items leaves.behind at in
    let grown : Grows (with_items s t.items) u =
    subst (λ xs. Grows (with_items s xs) u) front more in
    record {
      new = leaves.new ++ i ∷ [];
      begins =
          begins-more n depth initial ts r (with_items s t.items) u leaves.new i less grown x
          (begins-all n depth initial ts (with_items s t.items) leaves.new (leaves.begins depth));
      shorter = omega (arith, less, shorter);
      pushed =
          ap (λ xs. xs ++ i ∷ []) (moved ∙ ap (λ xs. old ++ xs) back)
          ∙ append_assoc old leaves.new (i ∷ []);
      at = here;
      grows = grows_on t (with_items s t.items) u leaves.grows grown;
    }

pub kept_items-more : (n : List ℕ) (depth : ℕ) (initial ts r : List Token) (t s u : Shown) (base : ℕ)
    (old all : List Item) (i : Item) → length r < length ts → KeepsFlat (IsThinned n) depth ts r u i
    → Grows s u → KeptItems n depth initial ts t s base old all
    → KeptItems n depth initial r t u base old (all ++ i ∷ [])
kept_items-more n depth initial ts r t s u base old all i less x more so = record {
  new = so.new ++ i ∷ [];
  begins = begins-more n depth initial ts r s u so.new i less more x so.begins;
  shorter = omega (arith, less, so.shorter);
  pushed = ap (λ xs. xs ++ i ∷ []) so.pushed ∙ append_assoc old so.new (i ∷ []);
  at = so.at;
  grows = grows_on t s u so.grows more;
}

pub kept_items-end : (n : List ℕ) (depth : ℕ) (initial ts r : List Token) (t s u : Shown) (base : ℕ)
    (old all : List Item) (i : Item) → after_end_array ts ≡ Some r → length all < base + 2 ^ 32
    → IsTheListOf (drop base all) s u i → Grows s u → KeptItems n depth initial ts t s base old all
    → KeepsFlatItems (IsThinned n) depth initial r u i
kept_items-end n depth initial ts r t s u base old all i over few closed more so =
    let back = cut_back base old so.new all so.pushed so.at in
    let x = so.begins in
    let long : length so.new < 2 ^ 32 =
    omega (arith, few, so.at, ap length so.pushed, length-append old so.new) in
    let fits : is_bounded (list (items_of x.kept)) ≡ true =
    few_fit x.kept (omega (arith, long, length-all_of (flat_value depth s) so.new x.kept x.mean)) in
    record {
      values = x.values;
      kept = list (items_of x.kept);
      reads =
          values_end depth initial ts r x.values over
          (begins-in s.exact u.exact depth initial ts x.values more.exact x.begins);
      within = x.begins.short;
      short = ap (λ k. nat_le k largest_exact)
          (same-count n (items_of x.values) (items_of x.kept) x.thin) ∙ fits;
      keeps = in_list (items_of x.values) (items_of x.kept) x.thin;
      means = subst (λ xs. IsTheListOf xs s u i) back closed depth x.kept x.mean;
    }
