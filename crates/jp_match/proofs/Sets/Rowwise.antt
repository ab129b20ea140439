-- What is reached from each offset alone, put together.
use Rattle.std.proofs.Common.{◌≡◌, ◌↔◌, ◌⊎◌, inl, inr, ℕ, zero, suc, ◌≤◌, ◌<◌, Bool, false, List}
use Rattle.std.proofs.Common.{[], ◌∷◌, Vec, Global, nat_eq, length, map, get_or}
use Rattle.std.proofs.Common.{refl, sym, ap, ◌∙◌, subst, arith}
use Rattle.std.proofs.lemmas.Bool.{cases_lt}
use Rattle.std.proofs.lemmas.List.{get_or-map}
use Rattle.jp_iregexp.specs.Tree.{Tree, tree, nothing, branches, pieces}
use Rattle.jp_iregexp.specs.Language.{Language}
use Rattle.jp_iregexp.specs.declared.pattern.Pattern.{Pattern}
use Rattle.jp_match.specs.Private.Offset.{Marked, Holds, IsImage}
use Rattle.jp_match.specs.Private.Rows.{marks_of, IsRow, AreRows, AreKnown}
use Rattle.jp_match.specs.Private.Rows.{EachKnown, IsUnion, parts_of}
use Rattle.jp_match.proofs.Sets.Cuts.{marked_below}
use Rattle.jp_match.proofs.Sets.Reaching.{reached_by}

-- the marks of one set of a list
pub mark_at : (sets : List (Vec Bool Global)) (i : ℕ) (set : Vec Bool Global) → i < length sets
    → set ≡ get_or sets i set → get_or (marks_of sets) i [] ≡ set.items
mark_at sets i set below is =
    get_or-map (λ s. s.items) sets i set [] below ∙ ap (λ s. s.items) (sym is)

-- the offsets of the first rows are in the set
pub record Unites (rows : List (List Bool)) (from now : List Bool) (count : ℕ) : Type 0 where
  pub same_length : length now ≡ length from
  pub each : (offset : ℕ) → Marked now offset ↔ ((start : ℕ) × (start < count) × Marked from start ×
      Marked (get_or rows start []) offset)

pub unites_more : {rows : List (List Bool)} {from now next : List Bool} {count : ℕ}
    → Marked from count
    → Holds (λ offset. Marked now offset ⊎ Marked (get_or rows count []) offset) now next
    → Unites rows from now count → Unites rows from next (suc count)
unites_more {rows} {count = count} marked both so_far = record {
  same_length = both.same_length ∙ so_far.same_length;
  each = λ offset. (
    λ m. elim ((both.each offset).0 m) [
      | inl old ↦
          let (start, below, begins, reached) = (so_far.each offset).0 old in
          (start, omega arith, begins, reached)
      | inr new ↦ (count, omega arith, marked, new)
    ],
    λ h.
        let (start, below, begins, reached) = h in
        (both.each offset).1 (elim (cases_lt start count) [
          | inl earlier ↦ inl ((so_far.each offset).1 (start, earlier, begins, reached))
          | inr here ↦
              let at : start ≡ count = omega arith in
              inr (subst (λ s. Marked (get_or rows s []) offset) at reached)
        ]),
  );
}

pub unites_same : {rows : List (List Bool)} {from now : List Bool} {count : ℕ}
    → (Marked from count → ⊥) → Unites rows from now count → Unites rows from now (suc count)
unites_same {from = from} {count = count} not so_far = record {
  same_length = so_far.same_length;
  each = λ offset. (
    λ m.
        let (start, below, begins, reached) = (so_far.each offset).0 m in
        (start, omega arith, begins, reached),
    λ h.
        let (start, below, begins, reached) = h in
        elim (cases_lt start count) [
          | inl earlier ↦ (so_far.each offset).1 (start, earlier, begins, reached)
          | inr here ↦
              let at : start ≡ count = omega arith in
              absurd (not (subst (Marked from) at begins))
        ],
  );
}

pub unites_all : {rows : List (List Bool)} {from now : List Bool} {count : ℕ}
    → length from ≤ count → Unites rows from now count → IsUnion rows from now
unites_all {from = from} all so_far = record {
  same_length = so_far.same_length;
  each = λ offset. (
    λ m.
        let (start, below, begins, reached) = (so_far.each offset).0 m in
        (start, begins, reached),
    λ h.
        let (start, begins, reached) = h in
        let inside = marked_below from start begins in
        (so_far.each offset).1 (start, omega arith, begins, reached),
  );
}

-- the rows of the offsets of a set are together its image
pub image_rows : {L : List ℕ → Type 0} {text : List ℕ} {rows : List (List Bool)} {from to : List
    Bool} → length from ≡ suc (length text) → AreRows L text rows → IsUnion rows from to
    → IsImage L text from to
image_rows {from = from} long are union = record {
  same_length = union.same_length;
  reached = λ offset. (
    λ m.
        let (start, begins, reached) = (union.each offset).0 m in
        let inside = marked_below from start begins in
        let row = are.each start (omega arith) in
        let r = (row.image.reached offset).0 reached in
        let at : length r.before ≡ start = (row.only (length r.before)).0 r.begins in
        reached_by r (subst (Marked from) (sym at) begins) r.holds,
    λ r.
        let start = length r.before in
        let begins = r.begins in
        let inside = marked_below from (length r.before) begins in
        let row = are.each (length r.before) (omega arith) in
        (union.each offset).1 (
          length r.before,
          begins,
          (row.image.reached offset).1 (reached_by r ((row.only (length r.before)).1 refl) r.holds),
        ),
  );
}

-- where there is a row, the rows are known
pub rows_when_known : {L : List ℕ → Type 0} {text : List ℕ} (sets : List (Vec Bool Global))
    → false ≡ nat_eq (length sets) 0 → AreKnown L text (marks_of sets) → AreRows L text (marks_of sets)
rows_when_known [] some known = absurd (let e = some in cc)
rows_when_known (set ∷ sets) some known = elim known.known [
  | inl none ↦ absurd (let e = none in cc)
  | inr are ↦ are
]

-- the parts of branches and pieces are those of the list
pub parts_branches : (ts : List Tree) → parts_of (branches ts) ≡ ts
parts_branches [] = refl
parts_branches (t ∷ ts) = ap (λ us. t ∷ us) (parts_branches ts)

pub parts_pieces : (ts : List Tree) → parts_of (pieces ts) ≡ ts
parts_pieces [] = refl
parts_pieces (t ∷ ts) = ap (λ us. t ∷ us) (parts_pieces ts)

-- what is known of a list is known of the same list
pub known_as : {ts us : List Tree} {text : List ℕ} {known : List (List (List Bool))} → ts ≡ us
    → EachKnown ts text known → EachKnown us text known
known_as {text = text} {known} same each = subst (λ ts. EachKnown ts text known) same each

-- what is known of a pattern alone
pub known_only : {a : Tree} {text : List ℕ} {rows : List (List Bool)} → AreKnown (Language a) text
    rows → EachKnown (a ∷ []) text (rows ∷ [])
known_only {a} {text} {rows} known = record { each = only } where
  only : (i : ℕ) → i < 1
      → AreKnown (Language (get_or (a ∷ []) i nothing)) text (get_or (rows ∷ []) i [])
  only zero below = known
  only (suc i) below = absurd (omega arith)

-- what is known of the first patterns of a list
pub record KnownTo (ps : List Pattern) (text : List ℕ) (known : List (List (List Bool))) (count : ℕ)
    : Type 0 where
  pub long : length known ≡ count
  pub each : (i : ℕ) → i < count → AreKnown (Language (get_or (map tree ps) i nothing)) text (get_or
      known i [])

-- the rows of the first offsets
pub record RowsTo (L : List ℕ → Type 0) (text : List ℕ) (rows : List (List Bool)) (count : ℕ) :
    Type 0 where
  pub long : length rows ≡ count
  pub each : (start : ℕ) → start < count → IsRow L text start (get_or rows start [])
