use Rattle.jp_c.specs.Misread.{document}
use Rattle.jp_c.proofs.misread.told_misreading.Goals as goal

pub returns-in-Ok-clause-told : goal.returns-in-Ok-clause-told
returns-in-Ok-clause-told c = document _ c.in-Ok.ensures.ok c.new.ensures.bytes c.nowhere.ensures
