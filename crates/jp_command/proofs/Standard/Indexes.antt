-- Section 2.3.3.3: indexes.
use Rattle.std.proofs.Common.{codes, refl, List, ℕ}
use Rattle.jp_command.proofs.Standard.Computed.{Selects, answer, row}

abbrev two : List ℕ
two = codes "[\"a\",\"b\"]"

second : Selects two (codes "$[1]") (codes "$[1]\t\"b\"\n")
unfolding answer
second = row refl

second_from_the_end : Selects two (codes "$[-2]") (codes "$[0]\t\"a\"\n")
unfolding answer
second_from_the_end = row refl
