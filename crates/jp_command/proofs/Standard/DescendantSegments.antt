-- Section 2.5.2.3: descendant segments.
use Rattle.std.proofs.Common.{codes, refl, List, ℕ, ◌++◌}
use Rattle.jp_command.proofs.Standard.Computed.{Selects, answer, row}

abbrev nested : List ℕ
nested = codes "{\"o\":{\"j\":1,\"k\":2},\"a\":[5,3,[{\"j\":4},{\"k\":6}]]}"

members : Selects nested (codes "$..j") (codes "$['a'][2][0]['j']\t4\n$['o']['j']\t1\n")
unfolding answer
members = row refl

items : Selects nested (codes "$..[0]") (codes "$['a'][0]\t5\n$['a'][2][0]\t{\"j\":4}\n")
unfolding answer
items = row refl

all_in_brackets : Selects nested (codes "$..[*]")
    (codes "$['a']\t[5,3,[{\"j\":4},{\"k\":6}]]\n$['o']\t{\"j\":1,\"k\":2}\n$['a'][0]\t5\n"
    ++ codes "$['a'][1]\t3\n$['a'][2]\t[{\"j\":4},{\"k\":6}]\n$['a'][2][0]\t{\"j\":4}\n"
    ++ codes "$['a'][2][1]\t{\"k\":6}\n$['a'][2][0]['j']\t4\n$['a'][2][1]['k']\t6\n"
    ++ codes "$['o']['j']\t1\n$['o']['k']\t2\n")
unfolding answer
all_in_brackets = row refl

all : Selects nested (codes "$..*")
    (codes "$['a']\t[5,3,[{\"j\":4},{\"k\":6}]]\n$['o']\t{\"j\":1,\"k\":2}\n$['a'][0]\t5\n"
    ++ codes "$['a'][1]\t3\n$['a'][2]\t[{\"j\":4},{\"k\":6}]\n$['a'][2][0]\t{\"j\":4}\n"
    ++ codes "$['a'][2][1]\t{\"k\":6}\n$['a'][2][0]['j']\t4\n$['a'][2][1]['k']\t6\n"
    ++ codes "$['o']['j']\t1\n$['o']['k']\t2\n")
unfolding answer
all = row refl

of_the_root : Selects nested (codes "$..o") (codes "$['o']\t{\"j\":1,\"k\":2}\n")
unfolding answer
of_the_root = row refl

two_wildcards : Selects nested (codes "$.o..[*, *]")
    (codes "$['o']['j']\t1\n$['o']['k']\t2\n$['o']['j']\t1\n$['o']['k']\t2\n")
unfolding answer
two_wildcards = row refl

two_indexes : Selects nested (codes "$.a..[0, 1]")
    (codes "$['a'][0]\t5\n$['a'][1]\t3\n$['a'][2][0]\t{\"j\":4}\n$['a'][2][1]\t{\"k\":6}\n")
unfolding answer
two_indexes = row refl
