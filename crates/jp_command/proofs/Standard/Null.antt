-- Section 2.6.1: null.
use Rattle.std.proofs.Common.{codes, refl, [], List, ℕ}
use Rattle.jp_command.proofs.Standard.Computed.{Selects, answer, row}

abbrev with_null : List ℕ
with_null = codes "{\"a\":null,\"b\":[null],\"c\":[{}],\"null\":1}"

value : Selects with_null (codes "$.a") (codes "$['a']\tnull\n")
unfolding answer
value = row refl

no_list : Selects with_null (codes "$.a[0]") []
unfolding answer
no_list = row refl

no_object : Selects with_null (codes "$.a.d") []
unfolding answer
no_object = row refl

item : Selects with_null (codes "$.b[0]") (codes "$['b'][0]\tnull\n")
unfolding answer
item = row refl

all_items : Selects with_null (codes "$.b[*]") (codes "$['b'][0]\tnull\n")
unfolding answer
all_items = row refl

exists : Selects with_null (codes "$.b[?@]") (codes "$['b'][0]\tnull\n")
unfolding answer
exists = row refl

equals_null : Selects with_null (codes "$.b[?@==null]") (codes "$['b'][0]\tnull\n")
unfolding answer
equals_null = row refl

nothing_is_not_null : Selects with_null (codes "$.c[?@.d==null]") []
unfolding answer
nothing_is_not_null = row refl

name : Selects with_null (codes "$.null") (codes "$['null']\t1\n")
unfolding answer
name = row refl
