use Rattle.jp_document.proofs.Readings.Whole.{numbers-whole}
use Rattle.jp_document.proofs.laws.numbers_are_whole.Goals as goal

pub returns : goal.returns
returns c = numbers-whole
