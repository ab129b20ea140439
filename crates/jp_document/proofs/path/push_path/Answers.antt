use Rattle.std.proofs.Common.{◌≡◌, ℕ, ◌+◌, ◌<◌, List, ◌++◌, length, get_or, drop, map}
use Rattle.std.proofs.Common.{string_bytes, ap, sym, ◌∙◌, append_assoc, arith}
use Rattle.std.proofs.lemmas.List.{drop_more}
use Rattle.std.specs.List.{flat_map}
use Rattle.jp_document.specs.Location.{step_of}
use Rattle.jp_document.specs.Path.{step_text}
use Rattle.jp_document.specs.declared.location.Step.{Step}
use Rattle.jp_decimal.proofs.Begun.{all-of}
use Rattle.jp_document.proofs.Writing.Appended.{on}
use Rattle.jp_document.proofs.path.push_path.Goals as goal

-- the steps to come, after the next
next : (now all : List ℕ) (steps : List Step) (i : ℕ) (d : Step) → i < length steps
    → now ++ flat_map step_text (map step_of (drop i steps)) ≡ all
    → now ++ (step_text (step_of (get_or steps i d))
    ++ flat_map step_text (map step_of (drop (i + 1) steps))) ≡ all
next now all steps i d within before =
    ap (λ xs. now ++ flat_map step_text (map step_of xs)) (sym (drop_more steps i d within)) ∙ before

pub returns-in_err-push_step-clause-kept : goal.returns-in_err-push_step-clause-kept
returns-in_err-push_step-clause-kept c =
    let now = string_bytes c.loop-step.out in
    on _ _ now _ _ _ c.loop-step.invariant.kept
    (next now _ c.args.location.now c.loop-step.step-index _ (omega arith)
    c.loop-step.invariant.whole) c.in_err-push_step.ensures.kept

pub loop-step-preserved : goal.loop-step-preserved
loop-step-preserved c =
    let now = string_bytes c.loop-step.out in
    let begun =
    next now _ c.args.location.now c.loop-step.step-index _ (omega arith)
    c.loop-step.invariant.whole in
    record {
      whole =
          ap (λ xs. xs ++ flat_map step_text (map step_of (drop (c.loop-step.step-index + 1)
          c.args.location.now))) c.in_ok-push_step.ensures.ok ∙ append_assoc now _ _ ∙ begun;
      kept =
          on _ _ now _ _ _ c.loop-step.invariant.kept begun
          (all-of _ _ _ c.in_ok-push_step.ensures.ok);
    }
