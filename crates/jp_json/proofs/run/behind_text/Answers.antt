use Rattle.std.proofs.Common.{arith}
use Rattle.jp_json.specs.declared.state.Role.TheVariants.{Plain}
use Rattle.jp_json.proofs.Staying.{text-then}
use Rattle.jp_json.proofs.run.behind_text.Goals as goal

pub escapes-smaller : goal.escapes-smaller
escapes-smaller c =
    omega (arith, c.in-Some.ensures.shorter, (c.behind_plain-rest-in-Some.ensures.run Plain).size)

pub escapes-preserved : goal.escapes-preserved
escapes-preserved c = record {
  run = text-then _ _ _ (text-then _ _ _ c.escapes.invariant.run c.in-Some.ensures.run)
      c.behind_plain-rest-in-Some.ensures.run;
  utf8 = c.behind_plain-rest-in-Some.ensures.utf8;
}
