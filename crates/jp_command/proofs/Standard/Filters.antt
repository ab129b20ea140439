-- Section 2.3.5.3: filters. Of the standard's table one row is refused here: it compares with 3.5.
use Rattle.std.proofs.Common.{codes, refl, List, ℕ, ◌++◌}
use Rattle.jp_query.specs.declared.refusal.RefusalKind.TheVariants.{NotWhole}
use Rattle.jp_command.proofs.Standard.Computed.{Selects, IsRefused, answer, fault, refused, row}

abbrev filtered : List ℕ
filtered =
    codes "{\"a\":[3,5,1,2,4,6,{\"b\":\"j\"},{\"b\":\"k\"},{\"b\":{}},"
    ++ codes "{\"b\":\"kilo\"}],\"o\":{\"p\":1,\"q\":2,\"r\":3,\"s\":5,\"t\":{\"u\":6}},"
    ++ codes "\"e\":\"f\"}"

value_comparison : Selects filtered (codes "$.a[?@.b == 'kilo']")
    (codes "$['a'][9]\t{\"b\":\"kilo\"}\n")
unfolding answer
value_comparison = row refl

in_parentheses : Selects filtered (codes "$.a[?(@.b == 'kilo')]")
    (codes "$['a'][9]\t{\"b\":\"kilo\"}\n")
unfolding answer
in_parentheses = row refl

with_a_fraction : IsRefused (codes "$.a[?@>3.5]") (record { kind = NotWhole; place = 7 })
unfolding fault
with_a_fraction = refused refl

existence : Selects filtered (codes "$.a[?@.b]")
    (codes "$['a'][6]\t{\"b\":\"j\"}\n$['a'][7]\t{\"b\":\"k\"}\n$['a'][8]\t{\"b\":{}}\n"
    ++ codes "$['a'][9]\t{\"b\":\"kilo\"}\n")
unfolding answer
existence = row refl

of_any_child : Selects filtered (codes "$[?@.*]")
    (codes "$['a']\t[3,5,1,2,4,6,{\"b\":\"j\"},{\"b\":\"k\"},{\"b\":{}},{\"b\":\"kilo\"}]\n"
    ++ codes "$['o']\t{\"p\":1,\"q\":2,\"r\":3,\"s\":5,\"t\":{\"u\":6}}\n")
unfolding answer
of_any_child = row refl

nested : Selects filtered (codes "$[?@[?@.b]]")
    (codes "$['a']\t[3,5,1,2,4,6,{\"b\":\"j\"},{\"b\":\"k\"},{\"b\":{}},{\"b\":\"kilo\"}]\n")
unfolding answer
nested = row refl

two_filters : Selects filtered (codes "$.o[?@<3, ?@<3]")
    (codes "$['o']['p']\t1\n$['o']['q']\t2\n$['o']['p']\t1\n$['o']['q']\t2\n")
unfolding answer
two_filters = row refl

disjunction : Selects filtered (codes "$.a[?@<2 || @.b == \"k\"]")
    (codes "$['a'][2]\t1\n$['a'][7]\t{\"b\":\"k\"}\n")
unfolding answer
disjunction = row refl

matched : Selects filtered (codes "$.a[?match(@.b, \"[jk]\")]")
    (codes "$['a'][6]\t{\"b\":\"j\"}\n$['a'][7]\t{\"b\":\"k\"}\n")
unfolding answer
matched = row refl

searched : Selects filtered (codes "$.a[?search(@.b, \"[jk]\")]")
    (codes "$['a'][6]\t{\"b\":\"j\"}\n$['a'][7]\t{\"b\":\"k\"}\n$['a'][9]\t{\"b\":\"kilo\"}\n")
unfolding answer
searched = row refl

conjunction : Selects filtered (codes "$.o[?@>1 && @<4]") (codes "$['o']['q']\t2\n$['o']['r']\t3\n")
unfolding answer
conjunction = row refl

either_exists : Selects filtered (codes "$.o[?@.u || @.x]") (codes "$['o']['t']\t{\"u\":6}\n")
unfolding answer
either_exists = row refl

both_missing : Selects filtered (codes "$.a[?@.b == $.x]")
    (codes "$['a'][0]\t3\n$['a'][1]\t5\n$['a'][2]\t1\n$['a'][3]\t2\n$['a'][4]\t4\n$['a'][5]\t6\n")
unfolding answer
both_missing = row refl

itself : Selects filtered (codes "$.a[?@ == @]")
    (codes "$['a'][0]\t3\n$['a'][1]\t5\n$['a'][2]\t1\n$['a'][3]\t2\n$['a'][4]\t4\n$['a'][5]\t6\n"
    ++ codes "$['a'][6]\t{\"b\":\"j\"}\n$['a'][7]\t{\"b\":\"k\"}\n$['a'][8]\t{\"b\":{}}\n"
    ++ codes "$['a'][9]\t{\"b\":\"kilo\"}\n")
unfolding answer
itself = row refl
