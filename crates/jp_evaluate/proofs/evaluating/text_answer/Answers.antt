use Rattle.std.proofs.Common.{ap, option_map, ◌∙◌}
use Rattle.jp_iregexp.specs.Tree.{tree}
use Rattle.jp_evaluate.proofs.Matching.{no_answer}
use Rattle.jp_evaluate.proofs.evaluating.text_answer.Goals as goal

pub returns-in_default-clause-gives : goal.returns-in_default-clause-gives
returns-in_default-clause-gives g c =
    no_answer c.args.extent c.args.text.now c.args.pattern.now
    (c.in_ok-pattern.ensures ∙ ap (option_map (λ p. tree p.now.pattern)) c.in_default.is)
