-- The trees of the program's values, one layer at a time.
use Rattle.std.proofs.Common.{◌≡◌, map, rules}
use Rattle.std.specs.Str.{chars}
use Rattle.std.specs.String.{string_bytes}
use Rattle.jp_tree.specs.declared.tree.Call.{Call, out-Call}
use Rattle.jp_tree.specs.declared.tree.Expr.{the_lemmas}
use Rattle.jp_tree.specs.declared.tree.Expr.TheVariants.{Compare}
use Rattle.jp_tree.specs.declared.tree.Op.{Op}
use Rattle.jp_tree.specs.declared.tree.Operand.{Operand}
use Rattle.jp_tree.specs.declared.tree.Query.{Query, out-Query}
use Rattle.jp_tree.specs.declared.tree.Segment.{Segment, out-Segment}
use Rattle.jp_tree.specs.Tree.{arguments, call, comparison, query, segment, segments, selectors}
use Rattle.jp_tree.specs.Views.{argument_of, call_of, expr_of, operand_of, query_of, segment_of}
use Rattle.jp_tree.specs.Views.{selector_of}

pub expr_of-Compare : (left right : Operand) (op : Op)
    → expr_of (Compare left op right) ≡ comparison (operand_of left) op (operand_of right)
expr_of-Compare left right op = search (rules, the_lemmas)

pub query_of-is : (q : Query)
    → query_of q ≡ query (out-Query q).absolute (segments (map segment_of (out-Query q).segments.items))
query_of-is q = search (rules, the_lemmas)

pub segment_of-is : (s : Segment)
    → segment_of s ≡ segment (out-Segment s).descendant
    (selectors (map selector_of (out-Segment s).selectors.items))
segment_of-is s = search (rules, the_lemmas)

pub call_of-is : (c : Call)
    → call_of c ≡ call (chars (string_bytes (out-Call c).name))
    (arguments (map argument_of (out-Call c).arguments.items))
call_of-is c = search (rules, the_lemmas)
