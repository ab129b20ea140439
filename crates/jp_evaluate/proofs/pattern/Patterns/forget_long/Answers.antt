use Rattle.std.proofs.Common.{rules}
use Rattle.std.proofs.lemmas.Fn.{filter_same}
use Rattle.jp_evaluate.specs.Patterns.{is_short}
use Rattle.jp_evaluate.proofs.pattern.Patterns.forget_long.Goals as goal

pub returns : goal.returns
returns c = filter_same _ is_short _ (λ x b f' t. search rules) _ _ c.retain.ensures.filtered
