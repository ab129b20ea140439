-- Members that sink to their places among others whose names rise: for `sinks`, `sort_few` and
-- `close_object`.
use Rattle.std.proofs.Common.{◌≡◌, ◌+◌, ◌-◌, ◌++◌, ◌∷◌, ◌<◌, ◌≤◌, ℕ, suc, Bool, true, false, List, []}
use Rattle.std.proofs.Common.{Some, Less, Greater, is_eq, is_lt, cond, inl, inr, length, get_or, take, drop}
use Rattle.std.proofs.Common.{map, refl, sym, ap, subst, ◌∙◌, arith, append_assoc, append-nil}
use Rattle.std.proofs.Common.{length-append}
use Rattle.std.proofs.Math.ListN.{set}
use Rattle.std.proofs.Math.Seq.{drop-cons, get_or-append_seam, take-append_seam}
use Rattle.std.specs.List.{filter, list_all}
use Rattle.std.specs.Ordering.{ordering_reverse}
use Rattle.std.proofs.lemmas.Bool.{and_from}
use Rattle.std.proofs.lemmas.Cmp.{nat_list_cmp_total}
use Rattle.std.proofs.lemmas.List.{length-take-le, map-append, take-append-drop}
use Rattle.std.proofs.lemmas.List.Sorted.{IsPermutation-append_comm, IsPermutation-append_left}
use Rattle.std.proofs.lemmas.List.Sorted.{IsPermutation-refl}
use Rattle.std.proofs.lemmas.Map.Lookups.{exact_bytes}
use Rattle.jp_document.specs.Value.{names_rise}
use Rattle.jp_document.proofs.Members.ByName.{bytes_cmp}
use Rattle.jp_flat.specs.Flat.{Shown}
use Rattle.jp_flat.specs.Private.Parts.{is_named, name_in}
use Rattle.jp_flat.specs.Private.Sorting.{IsSameByName, MembersRise, PutsAll}
use Rattle.jp_flat.specs.declared.item.Named.{Named}
use Rattle.jp_flat.proofs.ByKeys.{equal, same_behind, same_trans}
use Rattle.jp_flat.proofs.Moved.{puts_moved}
use Rattle.jp_flat.proofs.Names.{last_of, put_all-rising, rise-between}
use Rattle.jp_flat.proofs.Putting.{keys-named}

-- ---- neighbours of different names in each other's places

pub same-refl : (t : Shown) (ms : List Named) → IsSameByName t ms ms
same-refl t ms = record { moved = IsPermutation-refl ms; named = λ q. refl }

same-swapped : (t : Shown) (front : List Named) (a b : Named) (rest : List Named)
    → bytes_cmp (name_in t a) (name_in t b) ≡ Greater
    → IsSameByName t (front ++ a ∷ b ∷ rest) (front ++ b ∷ a ∷ rest)
same-swapped t front a b rest greater =
    same_behind t front (a ∷ b ∷ rest) (b ∷ a ∷ rest) (record {
      moved =
          IsPermutation-append_left rest (a ∷ b ∷ []) (b ∷ a ∷ [])
          (IsPermutation-append_comm (a ∷ []) (b ∷ []));
      named = λ q. by (is_named t q a) (is_named t q b) (filter (is_named t q) rest) (other q);
    })
  where
    other : (q : List ℕ) → is_named t q a ≡ true → is_named t q b ≡ false
    other q is =
        ap (λ n. is_eq (bytes_cmp n (name_in t b))) (exact_bytes q (name_in t a) (equal _ is))
        ∙ ap is_eq greater

    by : (x y : Bool) (ms : List Named) → (x ≡ true → y ≡ false)
        → cond y (b ∷ cond x (a ∷ ms) ms) (cond x (a ∷ ms) ms)
        ≡ cond x (a ∷ cond y (b ∷ ms) ms) (cond y (b ∷ ms) ms)
    by true true ms not = absurd (cc (not refl))
    by true false ms not = refl
    by false true ms not = refl
    by false false ms not = refl

set-swapped : (front : List Named) (a b : Named) (rest : List Named)
    → set (set (front ++ a ∷ b ∷ rest) (suc (length front)) a) (length front) b
    ≡ front ++ b ∷ a ∷ rest
set-swapped [] a b rest = refl
set-swapped (m ∷ front) a b rest = ap (λ ms. m ∷ ms) (set-swapped front a b rest)

-- ---- a member that sinks

abbrev is_below_all : Shown → List ℕ → List Named → Bool
is_below_all t name ms = list_all (λ n. is_lt (bytes_cmp name n)) (map (name_in t) ms)

-- at the place stands a member of that name, and those behind it, up to the index, are above it; where
-- the names before the index rose, the names without its own do
pub record HasSunk (t : Shown) (place index : ℕ) (name : List ℕ) (before after : List Named)
    : Type 0 where
  pub member : Named
  pub named : name ≡ name_in t member
  pub front : List Named
  pub above : List Named
  pub rest : List Named
  pub cut : after ≡ front ++ member ∷ (above ++ rest)
  pub low : length front ≡ place
  pub high : place + length above ≡ index
  pub same : IsSameByName t before after
  pub rise : MembersRise t (take index before) → MembersRise t (front ++ above)
  pub below : is_below_all t name above ≡ true

pub sunk-none : (t : Shown) (index : ℕ) (name : List ℕ) (ms : List Named) (d : Named)
    → index < length ms → name ≡ name_in t (get_or ms index d)
    → HasSunk t index index name ms ms
sunk-none t index name ms d within is = record {
  member = get_or ms index d;
  named = is;
  front = take index ms;
  above = [];
  rest = drop (suc index) ms;
  cut =
      sym (take-append-drop index ms)
      ∙ ap (λ ns. take index ms ++ ns) (drop-cons ms index d within);
  low = length-take-le index ms (omega (arith, within));
  high = omega arith;
  same = same-refl t ms;
  rise = λ rise. ap (λ ns. names_rise (map (name_in t) ns)) (append-nil (take index ms)) ∙ rise;
  below = refl;
}

-- what stands before it
record HasBefore (front : List Named) (place : ℕ) (a : Named) : Type 0 where
  pub these : List Named
  pub is : front ≡ these ++ a ∷ []
  pub under : place - 1 ≡ length these
  pub at : place ≡ suc (length these)

has-before : (t : Shown) (place index : ℕ) (name : List ℕ) (before after : List Named) (d : Named)
    (so : HasSunk t place index name before after) → 0 < place
    → HasBefore so.front place (get_or after (place - 1) d)
has-before t place index name before after d so some = elim (last_of so.front) [
  | inl none ↦ absurd (omega (arith, so.low, some, ap length none))
  | inr h ↦
      let tail = so.member ∷ (so.above ++ so.rest) in
      let long : length so.front ≡ length h.0 + 1 = ap length h.2 ∙ length-append h.0 (h.1 ∷ []) in
      let under : place - 1 ≡ length h.0 = omega (arith, long, so.low) in
      let last : get_or after (place - 1) d ≡ h.1 =
      ap (λ i. get_or after i d) under
      ∙ ap (λ ms. get_or ms (length h.0) d)
      (so.cut ∙ ap (λ ms. ms ++ tail) h.2 ∙ append_assoc h.0 (h.1 ∷ []) tail)
      ∙ get_or-append_seam h.0 h.1 tail d in
      record {
        these = h.0;
        is = h.2 ∙ ap (λ m. h.0 ++ m ∷ []) (sym last);
        under = under;
        at = omega (arith, long, so.low);
      }
]

above-less : (a b : List ℕ) → bytes_cmp a b ≡ Greater → is_lt (bytes_cmp b a) ≡ true
above-less a b greater = ap is_lt (nat_list_cmp_total.antisymm b a ∙ ap ordering_reverse greater)

pub sunk-more : (t : Shown) (place index : ℕ) (name : List ℕ) (before after : List Named)
    (d : Named) → HasSunk t place index name before after → 0 < place
    → bytes_cmp (name_in t (get_or after (place - 1) d)) name ≡ Greater
    → HasSunk t (place - 1) index name before
    (set (set after place (get_or after (place - 1) d)) (place - 1) (get_or after place d))
sunk-more t place index name before after d so some greater =
    let a = get_or after (place - 1) d in
    let b = get_or after place d in
    let member = so.member in
    let h = has-before t place index name before after d so some in
    let tail = so.above ++ so.rest in
    let cut : after ≡ h.these ++ a ∷ member ∷ tail =
    so.cut ∙ ap (λ ms. ms ++ member ∷ tail) h.is
    ∙ append_assoc h.these (a ∷ []) (member ∷ tail) in
    let here : b ≡ member =
    ap (λ i. get_or after i d) (sym so.low) ∙ ap (λ ms. get_or ms (length so.front) d) so.cut
    ∙ get_or-append_seam so.front member tail d in
    let swapped : set (set after place a) (place - 1) b ≡ h.these ++ member ∷ a ∷ tail =
    ap (set (set after place a) (place - 1)) here
    ∙ ap (λ i. set (set after place a) i member) h.under
    ∙ ap (λ i. set (set after i a) (length h.these) member) h.at
    ∙ ap (λ ms. set (set ms (suc (length h.these)) a) (length h.these) member) cut
    ∙ set-swapped h.these a member tail in
    record {
      member = member;
      named = so.named;
      front = h.these;
      above = a ∷ so.above;
      rest = so.rest;
      cut = swapped;
      low = sym h.under;
      high = omega (arith, so.high, some);
      same =
          same_trans t before after (set (set after place a) (place - 1) b) so.same
          (subst (IsSameByName t after) (sym swapped)
          (subst (λ ms. IsSameByName t ms (h.these ++ member ∷ a ∷ tail)) (sym cut)
          (same-swapped t h.these a member tail
          (ap (bytes_cmp (name_in t a)) (sym so.named) ∙ greater))));
      rise = λ rise.
          ap (λ ms. names_rise (map (name_in t) ms))
          (sym (ap (λ ms. ms ++ so.above) h.is ∙ append_assoc h.these (a ∷ []) so.above))
          ∙ so.rise rise;
      below = and_from _ _ (above-less (name_in t a) name greater) so.below;
    }

-- ---- a member in its place

sunk-take : (t : Shown) (place index : ℕ) (name : List ℕ) (before after : List Named)
    (so : HasSunk t place index name before after)
    → take (index + 1) after ≡ so.front ++ so.member ∷ so.above
sunk-take t place index name before after so =
    let these = so.front ++ so.member ∷ so.above in
    let long : index + 1 ≡ length these =
    omega (arith, so.low, so.high, length-append so.front (so.member ∷ so.above)) in
    ap (take (index + 1)) (so.cut ∙ sym (append_assoc so.front (so.member ∷ so.above) so.rest))
    ∙ ap (λ n. take n (these ++ so.rest)) long ∙ take-append_seam these so.rest

nothing : (ms : List Named) → length ms ≡ 0 → ms ≡ []
nothing [] none = refl
nothing (m ∷ ms) none = absurd (omega (arith, none))

below-member : (t : Shown) (place index : ℕ) (name : List ℕ) (before after : List Named)
    (so : HasSunk t place index name before after)
    → is_below_all t (name_in t so.member) so.above ≡ true
below-member t place index name before after so =
    ap (λ n. is_below_all t n so.above) (sym so.named) ∙ so.below

-- nothing stands before it
pub sunk-whole : (t : Shown) (place index : ℕ) (name : List ℕ) (before after : List Named)
    → HasSunk t place index name before after → place ≤ 0 → MembersRise t (take index before)
    → MembersRise t (take (index + 1) after)
sunk-whole t place index name before after so low rise =
    let none = nothing so.front (omega (arith, so.low, low)) in
    ap (λ ms. names_rise (map (name_in t) ms))
    (sunk-take t place index name before after so ∙ ap (λ ms. ms ++ so.member ∷ so.above) none)
    ∙ and_from _ _ (below-member t place index name before after so)
    (ap (λ ms. names_rise (map (name_in t) (ms ++ so.above))) (sym none) ∙ so.rise rise)

-- what stands before it is below it
pub sunk-upon : (t : Shown) (place index : ℕ) (name : List ℕ) (before after : List Named)
    (d : Named) → HasSunk t place index name before after → 0 < place
    → bytes_cmp (name_in t (get_or after (place - 1) d)) name ≡ Less
    → MembersRise t (take index before) → MembersRise t (take (index + 1) after)
sunk-upon t place index name before after d so some less rise =
    let a = get_or after (place - 1) d in
    let h = has-before t place index name before after d so some in
    let names : List Named → List (List ℕ) = map (name_in t) in
    let joined =
    λ (ms : List Named). ap names
    (ap (λ ns. ns ++ ms) h.is ∙ append_assoc h.these (a ∷ []) ms)
    ∙ map-append (name_in t) h.these (a ∷ ms) in
    ap (λ ms. names_rise (names ms)) (sunk-take t place index name before after so)
    ∙ ap names_rise (joined (so.member ∷ so.above))
    ∙ rise-between (names h.these) (name_in t a) (name_in t so.member) (names so.above)
    (ap names_rise (sym (joined so.above)) ∙ so.rise rise)
    (ap (λ n. is_lt (bytes_cmp (name_in t a) n)) (sym so.named) ∙ ap is_lt less)
    (below-member t place index name before after so)

-- ---- members whose names rise

puts-rising : (t : Shown) (ms : List Named) → MembersRise t ms → PutsAll t ms ms
puts-rising t ms rise f ps is =
    is
    ∙ ap Some (sym (put_all-rising ps (ap names_rise (sym (keys-named f t ms ps is)) ∙ rise)))

-- members that were put in order stand for those that they were
pub puts-sorted : (t : Shown) (members sorted : List Named) → IsSameByName t members sorted
    → MembersRise t sorted → PutsAll t members sorted
puts-sorted t members sorted same rise =
    puts_moved t members sorted sorted same (puts-rising t sorted rise)
