use Rattle.std.proofs.Common.{false, ap, sym, ◌∙◌, arith}
use Rattle.std.proofs.lemmas.List.{get_or_default}
use Rattle.jp_iregexp.specs.Tree.{tree}
use Rattle.jp_iregexp.proofs.Trees.{tree_class}
use Rattle.jp_match.proofs.Bools.{is_false}
use Rattle.jp_match.proofs.Steps.Idle.{class_within, idle_of_class}
use Rattle.jp_match.proofs.idle.is_idle_class.Goals as goal

pub index-requires : goal.index-requires
index-requires c =
    let within = class_within (tree c.args.part.now) _ _ c.args.sweep.now (ap tree c.in-Class.is ∙
    tree_class c.in-Class.field-0) c.requires in
    omega (arith, within)

pub returns-in-Class : goal.returns-in-Class
returns-in-Class c =
    let is = ap tree c.in-Class.is ∙ tree_class c.in-Class.field-0 in
    let within = class_within (tree c.args.part.now) _ _ c.args.sweep.now is c.requires in
    λ no_mark. idle_of_class (tree c.args.part.now) _ _ c.args.sweep.now is (sym (c.index.ensures ∙
    get_or_default _ _ _ false within) ∙ is_false _ no_mark)
