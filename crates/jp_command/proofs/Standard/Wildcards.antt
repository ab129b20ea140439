-- Section 2.3.2.3: wildcards.
use Rattle.std.proofs.Common.{codes, refl, List, ℕ}
use Rattle.jp_command.proofs.Standard.Computed.{Selects, answer, row}

abbrev both_kinds : List ℕ
both_kinds = codes "{\"o\":{\"j\":1,\"k\":2},\"a\":[5,3]}"

of_the_root : Selects both_kinds (codes "$[*]") (codes "$['a']\t[5,3]\n$['o']\t{\"j\":1,\"k\":2}\n")
unfolding answer
of_the_root = row refl

of_an_object : Selects both_kinds (codes "$.o[*]") (codes "$['o']['j']\t1\n$['o']['k']\t2\n")
unfolding answer
of_an_object = row refl

twice : Selects both_kinds (codes "$.o[*, *]")
    (codes "$['o']['j']\t1\n$['o']['k']\t2\n$['o']['j']\t1\n$['o']['k']\t2\n")
unfolding answer
twice = row refl

of_a_list : Selects both_kinds (codes "$.a[*]") (codes "$['a'][0]\t5\n$['a'][1]\t3\n")
unfolding answer
of_a_list = row refl
