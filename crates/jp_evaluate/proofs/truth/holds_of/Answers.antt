use Rattle.jp_evaluate.specs.Patterns.{is_short, texts_in}
use Rattle.jp_evaluate.proofs.Handed.{filter-twice}
use Rattle.jp_evaluate.proofs.truth.holds_of.Goals as goal

pub returns-clause-kept : goal.returns-clause-kept
returns-clause-kept g c = rw c.forget_long.ensures (filter-twice is_short (texts_in c.holds-answer.new.work.patterns))
