use Rattle.std.proofs.Common.{◌≡◌, drop}
use Rattle.jp_reading.specs.Texts.{is_among}
use Rattle.jp_explain.proofs.marks.is_among.Given as goal

abbrev pub invariant-loop-sign : goal.invariant-loop-sign
invariant-loop-sign l = is_among (drop l.sign-index l.signs) l.c ≡ is_among l.signs l.c
