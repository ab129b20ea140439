-- Section 2.4.9: calls that are well-typed, and calls that are not. The functions
-- `foo`, `bar`, `bnl`, `blt` and `bal` are the standard's own examples, and unknown here.
use Rattle.std.proofs.Common.{codes, refl}
use Rattle.jp_query.specs.declared.refusal.RefusalKind.TheVariants.{NotSingular, IllTyped}
use Rattle.jp_query.specs.declared.refusal.RefusalKind.TheVariants.{UnknownFunction}
use Rattle.jp_command.proofs.Standard.Computed.{Accepts, IsRefused, accepted, fault, refused, tree}

length_of_a_value : Accepts (codes "$[?length(@) < 3]")
unfolding tree
length_of_a_value = accepted refl

count_of_nodes : Accepts (codes "$[?count(@.*) == 1]")
unfolding tree
count_of_nodes = accepted refl

match_as_a_test : Accepts (codes "$[?match(@.timezone, 'Europe/.*')]")
unfolding tree
match_as_a_test = accepted refl

value_of_nodes : Accepts (codes "$[?value(@..color) == \"red\"]")
unfolding tree
value_of_nodes = accepted refl

length_of_nodes : IsRefused (codes "$[?length(@.*) < 3]") (record { kind = NotSingular; place = 10 })
unfolding fault
length_of_nodes = refused refl

count_of_a_number : IsRefused (codes "$[?count(1) == 1]") (record { kind = IllTyped; place = 9 })
unfolding fault
count_of_a_number = refused refl

match_compared : IsRefused (codes "$[?match(@.timezone, 'Europe/.*') == true]")
    (record { kind = IllTyped; place = 3 })
unfolding fault
match_compared = refused refl

value_as_a_test : IsRefused (codes "$[?value(@..color)]") (record { kind = IllTyped; place = 3 })
unfolding fault
value_as_a_test = refused refl

foo : IsRefused (codes "$[?count(foo(@.*)) == 1]") (record { kind = UnknownFunction; place = 9 })
unfolding fault
foo = refused refl

bar_as_a_test : IsRefused (codes "$[?bar(@.a)]") (record { kind = UnknownFunction; place = 3 })
unfolding fault
bar_as_a_test = refused refl

bnl : IsRefused (codes "$[?bnl(@.*)]") (record { kind = UnknownFunction; place = 3 })
unfolding fault
bnl = refused refl

blt : IsRefused (codes "$[?blt(1==1)]") (record { kind = UnknownFunction; place = 3 })
unfolding fault
blt = refused refl

blt_of_a_number : IsRefused (codes "$[?blt(1)]") (record { kind = UnknownFunction; place = 3 })
unfolding fault
blt_of_a_number = refused refl

bal : IsRefused (codes "$[?bal(1)]") (record { kind = UnknownFunction; place = 3 })
unfolding fault
bal = refused refl
