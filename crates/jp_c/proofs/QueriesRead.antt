-- The queries of questions that were read, and the document for them.
use Rattle.std.proofs.Common.{◌≡◌, ℕ, ◌<◌, List, [], ◌∷◌, ◌++◌, ◌+◌, ◌∙◌, Result, Ok, Err, Some, IfOk, ap, arith}
use Rattle.std.proofs.Common.{Bor, IfSome, None, Option, drop, get_or, inl, inr, length, refl, slice_get, subst}
use Rattle.std.proofs.Common.{sym}
use Rattle.std.specs.Slice.{IsItemAt}
use Rattle.jp_tree.specs.Views.{query_of}
use Rattle.jp_c.proofs.Questions.{same_item, within-both}
use Rattle.std.proofs.lemmas.Bool.{cases_lt}
use Rattle.std.proofs.lemmas.List.{get_or_append_left, get_or_push, length-append}
use Rattle.std.proofs.lemmas.Option.{get_or_from_slice_get, same_Some, slice_get-get_or}
use Rattle.std.proofs.lemmas.Option.{slice_get_read, slice_get_within}
use Rattle.jp_check.specs.Checked.{Profiled}
use Rattle.jp_decimal.specs.declared.numbers.Numbers.{Numbers}
use Rattle.jp_evaluate.specs.Plan.{HoldsPortion, IsReadToAnswer, Serves}
use Rattle.jp_flat.specs.declared.flat.Flat.{Flat}
use Rattle.jp_held.specs.declared.portion.Excerpt.TheVariants.{Document}
use Rattle.jp_held.specs.declared.portion.Portion.{Portion}
use Rattle.jp_query.specs.declared.refusal.Refusal.{Refusal}
use Rattle.jp_tree.specs.Tree.{QueryTree}
use Rattle.jsonpath.specs.Size.{Fits}
use Rattle.jsonpath.specs.declared.fault.FindFault.{FindFault}
use Rattle.jp_c.specs.Many.{query_asked}
use Rattle.jp_c.specs.Private.Subjects.{AreRead, IsReadToServe}
use Rattle.jp_c.specs.declared.many.Question.{Question}

-- ---- one more query

-- what is served by a portion is served by another
abbrev pub Widens : Portion → Portion → Type 0
Widens before after = (q : QueryTree) → Serves q before → Serves q after

still-served : (before after : Portion) (profile : ℕ) (query : List ℕ) (r : Result Profiled Refusal)
    → Widens before after → IsReadToServe profile before query r → IsReadToServe profile after query r
still-served before after profile query (Ok c) wider read = record {
  is = read.is;
  serves = wider (query_of c.query) read.serves;
}
still-served before after profile query (Err e) wider read = record {
  is = read.is;
  serves = read.serves;
}

pub reads-wider : (profile : ℕ) (before after : Portion) (bytes : List ℕ) (qs : List Question)
    (rs : List (Result Profiled Refusal)) → Widens before after
    → AreRead profile before bytes qs rs → AreRead profile after bytes qs rs
reads-wider profile before after bytes qs rs wider read = λ i q r asked at.
    still-served before after profile (query_asked bytes q) r wider (read i q r asked at)

pub read-more : (profile : ℕ) (portion : Portion) (bytes : List ℕ) (qs : List Question)
    (rs : List (Result Profiled Refusal)) (d : Question) (e : Result Profiled Refusal)
    → AreRead profile portion bytes qs rs → slice_get qs (length rs) ≡ Some d
    → IsReadToServe profile portion (query_asked bytes d) e
    → AreRead profile portion bytes qs (rs ++ e ∷ [])
read-more profile portion bytes qs rs d e read last one = λ i q r asked at.
    elim (cases_lt i (length rs)) [
      | inl before ↦
          read i q r asked
          (slice_get-get_or rs i r before
          ∙ ap Some (sym (get_or_append_left rs (e ∷ []) r i before)
          ∙ get_or_from_slice_get (rs ++ e ∷ []) i r r at))
      | inr past ↦
          let within : i < length (rs ++ e ∷ []) = slice_get_within (rs ++ e ∷ []) i r at in
          let longer : length (rs ++ e ∷ []) ≡ length rs + 1 = length-append rs (e ∷ []) in
          let here : i ≡ length rs = omega (arith, past, within, longer) in
          let question : d ≡ q =
          same_Some d q (sym last ∙ ap (slice_get qs) (sym here) ∙ asked) in
          let item : e ≡ r =
          sym (get_or_push rs e r i (sym here)) ∙ get_or_from_slice_get (rs ++ e ∷ []) i r r at in
          subst (λ x. IsReadToServe profile portion (query_asked bytes q) x) item
          (subst (λ x. IsReadToServe profile portion (query_asked bytes x) e) question one)
    ]

-- the query of the next question was read
pub read-next : (profile : ℕ) (before after : Portion) (bytes : List ℕ) (qs : List Question)
    (rs : List (Result Profiled Refusal)) (i : ℕ) (d : Question) (query : List ℕ)
    (e : Result Profiled Refusal) → Widens before after → AreRead profile before bytes qs rs
    → length rs ≡ i → i < length qs → query ≡ query_asked bytes (get_or qs i d)
    → IsReadToServe profile after query e → AreRead profile after bytes qs (rs ++ e ∷ [])
read-next profile before after bytes qs rs i d query e wider read counted within asks one =
    read-more profile after bytes qs rs (get_or qs i d) e
    (reads-wider profile before after bytes qs rs wider read)
    (ap (slice_get qs) counted ∙ slice_get-get_or qs i d within)
    (subst (λ x. IsReadToServe profile after x e) asks one)

-- what was read for a question that is answered now
pub read-at : (profile : ℕ) (portion : Portion) (bytes : List ℕ) (olds news : List Question)
    (rs : List (Result Profiled Refusal)) (k i : ℕ) (d : Question)
    (o : Option (Bor (Result Profiled Refusal))) → k ≡ i → IsItemAt rs k o
    → AreRead profile portion bytes olds rs → drop i news ≡ drop i olds → i < length news
    → IfSome o (λ r. IsReadToServe profile portion (query_asked bytes (get_or news i d)) r.now)
read-at profile portion bytes olds news rs k i d (Some b) same at read rest within =
    read i (get_or news i d) b.now
    (slice_get-get_or olds i d (within-both olds news i rest within)
    ∙ ap Some (same_item olds news i d rest))
    (ap (slice_get rs) (sym same) ∙ slice_get_read rs (length rs) k b.now refl at.3.0 at.1)
read-at profile portion bytes olds news rs k i d None same at read rest within = tt

-- ---- the document

-- so much of a document as serves a query answers it
portion-answers : (n : Numbers) (q : QueryTree) (portion : Portion) (bytes : List ℕ) (flat : Flat)
    → Serves q portion → HoldsPortion n portion bytes flat → IsReadToAnswer n q bytes (Document flat)
portion-answers n q portion bytes flat serves holds = record {
  document = holds.document;
  is = holds.is;
  same = holds.nodes q serves;
}

pub read-answers : (n : Numbers) (asked : Result Profiled Refusal) (portion : Portion) (bytes : List ℕ)
    (read : Result Flat FindFault) → IfOk asked (λ c. Serves (query_of c.query) portion)
    → IfOk read (λ flat. HoldsPortion n portion bytes flat × Fits bytes)
    → IfOk asked (λ c. IfOk read
    (λ flat. IsReadToAnswer n (query_of c.query) bytes (Document flat) × Fits bytes))
read-answers n (Ok c) portion bytes (Ok flat) serves holds =
    (portion-answers n (query_of c.query) portion bytes flat serves holds.0, holds.1)
read-answers n (Ok c) portion bytes (Err f) serves holds = tt
read-answers n (Err r) portion bytes read serves holds = tt
