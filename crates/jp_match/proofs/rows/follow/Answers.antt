use Rattle.std.proofs.Common.{◌<◌, ◌≤◌, false, length, sym, ap, ◌∙◌, arith, add-one}
use Rattle.std.proofs.lemmas.List.{get_or_default}
use Rattle.jp_match.proofs.Bools.{not_false}
use Rattle.jp_match.proofs.Sets.Rowwise.{mark_at, unites_more, unites_same, unites_all}
use Rattle.jp_match.proofs.rows.follow.Goals as goal
use Rattle.jp_match.proofs.rows.follow.Goals.{then-index, else-index}

pub unite-requires : goal.unite-requires
unite-requires c =
    let below : c.loop-start.start < length c.args.rows.now = omega arith in
    let at = mark_at c.args.rows.now c.loop-start.start c.index-rows-start.result below
    c.index-rows-start.is in
    c.loop-start.invariant.unites.same_length ∙ sym (c.requires.long c.loop-start.start below) ∙
    ap length at ∙ ap length (sym c.deref-then-index.ensures.value)

pub loop-start-preserved : goal.loop-start-preserved
loop-start-preserved c =
    let start = c.loop-start.start in
    let below : start < length c.args.rows.now = omega arith in
    let inside : start < length c.args.offsets.now.items = omega (arith, c.requires.count) in
    let read = (rw c.loop-start.invariant.from at c.index.ensures) ∙ get_or_default
    c.args.offsets.now.items start c.index.result.now false inside in
    record {
      from = c.loop-start.invariant.from;
      unites = rw add-one (elim c.if-index.branch [
        | then-index w ↦
            let at = mark_at c.args.rows.now start c.index-rows-start.result below
            c.index-rows-start.is in
            let both = rw (w.deref-then-index.ensures.value, sym at) at w.unite.ensures in
            rw w.offsets-is (unites_more (sym read ∙ w.if-index.true) both
            c.loop-start.invariant.unites)
        | else-index w ↦
            rw w.offsets-is (unites_same (not_false _ (sym read ∙ w.if-index.false))
            c.loop-start.invariant.unites)
      ]);
    }

pub returns-clause-union : goal.returns-clause-union
returns-clause-union c =
    let all : length c.args.offsets.now.items ≤ c.loop-start.start = omega (arith, c.requires.count)
    in
    unites_all all c.loop-start.invariant.unites
