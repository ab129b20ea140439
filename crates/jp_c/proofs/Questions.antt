-- One more question answered, in a list of which those from it on are as they were.
use Rattle.std.proofs.Common.{◌≡◌, ℕ, ◌+◌, ◌-◌, ◌<◌, List, [], ◌∷◌, ◌++◌, ◌∙◌, ap, arith, drop, get_or}
use Rattle.std.proofs.Common.{length, set, subst, sym, take}
use Rattle.std.proofs.lemmas.List.{drop-drop, drop-set-lt, get_or-drop, length-drop, take_more, take_more_set}
use Rattle.jp_c.specs.Many.{AnswersEach, AnswersOne, next}
use Rattle.jp_c.specs.declared.many.Question.{Question}
use Rattle.jp_c.specs.declared.outcome.Outcome as outcome

pub questions-left : (olds news : List Question) (i : ℕ) (new : Question)
    → drop i news ≡ drop i olds → drop (i + 1) (set news i new) ≡ drop (i + 1) olds
questions-left olds news i new rest =
    let less : i < i + 1 = omega arith in
    drop-set-lt (i + 1) news i new less
    ∙ sym (drop-drop 1 i news) ∙ ap (drop 1) rest ∙ drop-drop 1 i olds

pub within-both : (olds news : List Question) (i : ℕ)
    → drop i news ≡ drop i olds → i < length news → i < length olds
within-both olds news i rest h =
    let same : length news - i ≡ length olds - i =
    sym (length-drop i news) ∙ ap length rest ∙ length-drop i olds
    in
    omega (arith, same, h)

pub same_item : (olds news : List Question) (i : ℕ) (d : Question)
    → drop i news ≡ drop i olds → get_or olds i d ≡ get_or news i d
same_item olds news i d rest =
    let zero : i + 0 ≡ i = omega arith in
    ap (λ k. get_or olds k d) (sym zero) ∙ sym (get_or-drop i olds 0 d)
    ∙ ap (λ xs. get_or xs 0 d) (sym rest)
    ∙ get_or-drop i news 0 d ∙ ap (λ k. get_or news k d) zero

pub question-answered : (IsOutcome : List ℕ → outcome.Outcome → ℕ → Type 0) (bytes : List ℕ)
    (olds news : List Question) (texts text : List ℕ) (i : ℕ) (d new : Question)
    → AnswersEach IsOutcome bytes (take i olds) (take i news) texts
    → drop i news ≡ drop i olds → i < length news
    → AnswersOne IsOutcome bytes (get_or news i d) new text
    → AnswersEach IsOutcome bytes (take (i + 1) olds) (take (i + 1) (set news i new))
    (texts ++ text)
question-answered IsOutcome bytes olds news texts text i d new before rest h one =
    let old = get_or news i d in
    let asked = take_more olds i d (within-both olds news i rest h)
    ∙ ap (λ q. take i olds ++ q ∷ []) (same_item olds news i d rest)
    in
    subst (λ os. AnswersEach IsOutcome bytes os (take (i + 1) (set news i new)) (texts ++ text))
    (sym asked)
    (subst (λ ns. AnswersEach IsOutcome bytes (take i olds ++ old ∷ []) ns (texts ++ text))
    (sym (take_more_set news i new h))
    (next before old new text one))
