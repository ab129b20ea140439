-- Section 2.3.4.3: slices.
use Rattle.std.proofs.Common.{codes, refl, List, ℕ, ◌++◌}
use Rattle.jp_command.proofs.Standard.Computed.{Selects, answer, row}

abbrev seven : List ℕ
seven = codes "[\"a\",\"b\",\"c\",\"d\",\"e\",\"f\",\"g\"]"

default_step : Selects seven (codes "$[1:3]") (codes "$[1]\t\"b\"\n$[2]\t\"c\"\n")
unfolding answer
default_step = row refl

no_end : Selects seven (codes "$[5:]") (codes "$[5]\t\"f\"\n$[6]\t\"g\"\n")
unfolding answer
no_end = row refl

step_2 : Selects seven (codes "$[1:5:2]") (codes "$[1]\t\"b\"\n$[3]\t\"d\"\n")
unfolding answer
step_2 = row refl

negative_step : Selects seven (codes "$[5:1:-2]") (codes "$[5]\t\"f\"\n$[3]\t\"d\"\n")
unfolding answer
negative_step = row refl

in_reverse : Selects seven (codes "$[::-1]")
    (codes "$[6]\t\"g\"\n$[5]\t\"f\"\n$[4]\t\"e\"\n$[3]\t\"d\"\n$[2]\t\"c\"\n$[1]\t\"b\"\n"
    ++ codes "$[0]\t\"a\"\n")
unfolding answer
in_reverse = row refl
