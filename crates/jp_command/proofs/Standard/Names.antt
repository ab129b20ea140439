-- Section 2.3.1.3: names.
use Rattle.std.proofs.Common.{codes, refl, List, ℕ}
use Rattle.jp_command.proofs.Standard.Computed.{Selects, answer, row}

abbrev named : List ℕ
named = codes "{\"o\":{\"j j\":{\"k.k\":3}},\"'\":{\"@\":2}}"

with_a_blank : Selects named (codes "$.o['j j']") (codes "$['o']['j j']\t{\"k.k\":3}\n")
unfolding answer
with_a_blank = row refl

with_a_dot : Selects named (codes "$.o['j j']['k.k']") (codes "$['o']['j j']['k.k']\t3\n")
unfolding answer
with_a_dot = row refl

double_quoted : Selects named (codes "$.o[\"j j\"][\"k.k\"]") (codes "$['o']['j j']['k.k']\t3\n")
unfolding answer
double_quoted = row refl

unusual_names : Selects named (codes "$[\"'\"][\"@\"]") (codes "$['\\'']['@']\t2\n")
unfolding answer
unusual_names = row refl
