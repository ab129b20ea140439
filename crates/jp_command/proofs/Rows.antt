-- What some command lines ask for, and what a run writes.
use Rattle.std.proofs.Common.{◌≡◌, [], ◌∷◌, ◌++◌, true, false, negsuc, Some, None, codes, refl}
use Rattle.clap.proofs.OnLiterals.{clap_on_literals}
use Rattle.jp_check.specs.declared.profile.Profile.TheVariants.{Standard, Extended, Decimal}
use Rattle.jp_check.specs.declared.profile.Profile.TheVariants.{ExtendedDecimal}
use Rattle.jp_command.specs.NodeTask.{all_nodes, output_asked, status_done}
use Rattle.jp_command.specs.CommandLine.{asked, query_app, jp}
use Rattle.jp_command.specs.Lines.{output_of}
use Rattle.jp_command.specs.Lines as form
use Rattle.jp_document.specs.Path.{index_text}
use Rattle.jp_evaluate.specs.Nodelist.{nodelist}
use Rattle.jp_document.specs.Value.{Value, boolean, item, list, no_items, null}
use Rattle.jp_tree.specs.Tree.{QueryTree, index, query, segment, segments, selectors, wildcard}
use Rattle.jp_tree.specs.declared.tree.Numeral.TheVariants.{Whole}
use Rattle.jp_command.specs.declared.words.Task.TheVariants.{Check, Canon, Eval}

both : asked (codes "jp" ∷ codes "both" ∷ codes "$" ∷ [])
    ≡ Some (Eval (all_nodes form.both), codes "$", Standard, false)
unfolding clap_on_literals jp query_app
both = refl

values : asked (codes "jp" ∷ codes "eval" ∷ codes "$" ∷ [])
    ≡ Some (Eval (all_nodes form.values), codes "$", Standard, false)
unfolding clap_on_literals jp query_app
values = refl

canonical : asked (codes "jp" ∷ codes "canon" ∷ codes "$" ∷ []) ≡ Some (Canon, codes "$", Standard, false)
unfolding clap_on_literals jp query_app
canonical = refl

checked : asked (codes "jp" ∷ codes "check" ∷ codes "$" ∷ []) ≡ Some (Check, codes "$", Standard, false)
unfolding clap_on_literals jp query_app
checked = refl

flag_first : asked (codes "jp" ∷ codes "paths" ∷ codes "--extended" ∷ codes "$" ∷ [])
    ≡ Some (Eval (all_nodes form.paths), codes "$", Extended, false)
unfolding clap_on_literals jp query_app
flag_first = refl

flag_last : asked (codes "jp" ∷ codes "check" ∷ codes "$" ∷ codes "--extended" ∷ [])
    ≡ Some (Check, codes "$", Extended, false)
unfolding clap_on_literals jp query_app
flag_last = refl

flag_as_query : asked (codes "jp" ∷ codes "canon" ∷ codes "--" ∷ codes "--extended" ∷ [])
    ≡ Some (Canon, codes "--extended", Standard, false)
unfolding clap_on_literals jp query_app
flag_as_query = refl

flag_before_dashes :
    asked (codes "jp" ∷ codes "eval" ∷ codes "--extended" ∷ codes "--" ∷ codes "-" ∷ [])
    ≡ Some (Eval (all_nodes form.values), codes "-", Extended, false)
unfolding clap_on_literals jp query_app
flag_before_dashes = refl

explained : asked (codes "jp" ∷ codes "check" ∷ codes "--explain" ∷ codes "$" ∷ [])
    ≡ Some (Check, codes "$", Standard, true)
unfolding clap_on_literals jp query_app
explained = refl

decimals : asked (codes "jp" ∷ codes "eval" ∷ codes "--decimals" ∷ codes "$" ∷ [])
    ≡ Some (Eval (all_nodes form.values), codes "$", Decimal, false)
unfolding clap_on_literals jp query_app
decimals = refl

extended-decimals :
    asked (codes "jp" ∷ codes "canon" ∷ codes "$" ∷ codes "--extended" ∷ codes "--decimals" ∷ [])
    ≡ Some (Canon, codes "$", ExtendedDecimal, false)
unfolding clap_on_literals jp query_app
extended-decimals = refl

both_flags :
    asked (codes "jp" ∷ codes "eval" ∷ codes "--extended" ∷ codes "$" ∷ codes "--explain" ∷ [])
    ≡ Some (Eval (all_nodes form.values), codes "$", Extended, true)
unfolding clap_on_literals jp query_app
both_flags = refl

raw : asked (codes "jp" ∷ codes "eval" ∷ codes "--raw" ∷ codes "$" ∷ [])
    ≡ Some (Eval (all_nodes form.raw_values), codes "$", Standard, false)
unfolding clap_on_literals jp query_app
raw = refl

raw-behind : asked (codes "jp" ∷ codes "both" ∷ codes "$" ∷ codes "--raw" ∷ [])
    ≡ Some (Eval (all_nodes form.raw_both), codes "$", Standard, false)
unfolding clap_on_literals jp query_app
raw-behind = refl

raw-paths : asked (codes "jp" ∷ codes "paths" ∷ codes "--raw" ∷ codes "$" ∷ []) ≡ None
unfolding clap_on_literals jp query_app
raw-paths = refl

first : asked (codes "jp" ∷ codes "paths" ∷ codes "--first" ∷ codes "$" ∷ [])
    ≡ Some (Eval (record { form = form.paths; is_first = true; tells_none = false }), codes "$", Standard, false)
unfolding clap_on_literals jp query_app
first = refl

raw-first : asked (codes "jp" ∷ codes "both" ∷ codes "$" ∷ codes "--first" ∷ codes "--raw" ∷ [])
    ≡ Some (Eval (record { form = form.raw_both; is_first = true; tells_none = false }), codes "$", Standard, false)
unfolding clap_on_literals jp query_app
raw-first = refl

exit-status : asked (codes "jp" ∷ codes "eval" ∷ codes "$" ∷ codes "--exit-status" ∷ [])
    ≡ Some (
      Eval (record { form = form.values; is_first = false; tells_none = true }),
      codes "$",
      Standard,
      false,
    )
unfolding clap_on_literals jp query_app
exit-status = refl

status-check : asked (codes "jp" ∷ codes "check" ∷ codes "--exit-status" ∷ codes "$" ∷ []) ≡ None
unfolding clap_on_literals jp query_app
status-check = refl

first-canon : asked (codes "jp" ∷ codes "canon" ∷ codes "--first" ∷ codes "$" ∷ []) ≡ None
unfolding clap_on_literals jp query_app
first-canon = refl

flag_twice :
    asked (codes "jp" ∷ codes "both" ∷ codes "--extended" ∷ codes "$" ∷ codes "--extended" ∷ [])
    ≡ None
unfolding clap_on_literals jp query_app
flag_twice = refl

flag_before_the_subcommand :
    asked (codes "jp" ∷ codes "--extended" ∷ codes "both" ∷ codes "$" ∷ []) ≡ None
unfolding clap_on_literals jp query_app
flag_before_the_subcommand = refl

no_query : asked (codes "jp" ∷ codes "both" ∷ []) ≡ None
unfolding clap_on_literals jp query_app
no_query = refl

two_queries : asked (codes "jp" ∷ codes "both" ∷ codes "$" ∷ codes "$" ∷ []) ≡ None
unfolding clap_on_literals jp query_app
two_queries = refl

no_subcommand : asked (codes "jp" ∷ []) ≡ None
unfolding clap_on_literals jp query_app
no_subcommand = refl

unknown_subcommand : asked (codes "jp" ∷ codes "value" ∷ codes "$" ∷ []) ≡ None
unfolding clap_on_literals jp query_app
unknown_subcommand = refl

help : asked (codes "jp" ∷ codes "help" ∷ []) ≡ None
unfolding clap_on_literals jp query_app
help = refl

-- `$[-2]` on `[null,true]`, in each form
abbrev two : Value
two = list (item null (item (boolean true) no_items))

abbrev last_but_one : QueryTree
last_but_one = query true
    (segments (segment false (selectors (index (Whole (negsuc 1)) ∷ [])) ∷ []))

values_of : output_of form.values last_but_one two ≡ codes "null\n"
values_of = refl

paths_of : output_of form.paths last_but_one two ≡ codes "$[0]\n"
unfolding index_text
paths_of = refl

both_of : output_of form.both last_but_one two ≡ codes "$[0]" ++ 9 ∷ codes "null\n"
unfolding index_text
both_of = refl

-- `$[*]` on it, of all nodes, and of the first
abbrev each : QueryTree
each = query true (segments (segment false (selectors (wildcard ∷ [])) ∷ []))

all-of : output_asked (all_nodes form.values) each two ≡ codes "null\n" ++ codes "true\n"
all-of = refl

first-of : output_asked (record { form = form.values; is_first = true; tells_none = false }) each two ≡ codes "null\n"
first-of = refl

-- the status of the two, where it is asked for and where not
some-status : status_done true (nodelist each two) ≡ 0
some-status = refl

none-status : status_done true (nodelist each null) ≡ 6
none-status = refl

other-status : status_done false (nodelist each null) ≡ 0
other-status = refl
