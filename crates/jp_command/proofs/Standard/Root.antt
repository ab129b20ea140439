-- Section 2.2.3: the root.
use Rattle.std.proofs.Common.{codes, refl, List, ℕ}
use Rattle.jp_command.proofs.Standard.Computed.{Selects, answer, row}

abbrev object : List ℕ
object = codes "{\"k\":\"v\"}"

root : Selects object (codes "$") (codes "$\t{\"k\":\"v\"}\n")
unfolding answer
root = row refl
