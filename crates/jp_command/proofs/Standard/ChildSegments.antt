-- Section 2.5.1.3: child segments.
use Rattle.std.proofs.Common.{codes, refl, List, ℕ}
use Rattle.jp_command.proofs.Standard.Computed.{Selects, answer, row}

abbrev seven : List ℕ
seven = codes "[\"a\",\"b\",\"c\",\"d\",\"e\",\"f\",\"g\"]"

two_indexes : Selects seven (codes "$[0, 3]") (codes "$[0]\t\"a\"\n$[3]\t\"d\"\n")
unfolding answer
two_indexes = row refl

slice_and_index : Selects seven (codes "$[0:2, 5]") (codes "$[0]\t\"a\"\n$[1]\t\"b\"\n$[5]\t\"f\"\n")
unfolding answer
slice_and_index = row refl

repeated : Selects seven (codes "$[0, 0]") (codes "$[0]\t\"a\"\n$[0]\t\"a\"\n")
unfolding answer
repeated = row refl
