use Rattle.std.proofs.Common.{◌≡◌, ◌≤◌}
use Rattle.jp_iregexp.specs.Tree.{tree}
use Rattle.jp_match.proofs.Sets.Spans.{Carries, Passes}
use Rattle.jp_match.proofs.passing.pass.Given as goal

abbrev pub invariant-loop-i : goal.invariant-loop-i
invariant-loop-i l = record {
  same : l.marking.pattern.now ≡ l.pattern;
  carries : Carries (tree l.pattern) l.text l.fn.search.offsets.items l.i
      l.marking.sweep.marks.items;
  passes : Passes (tree l.pattern) l.text l.fn.search.offsets.items l.search.offsets.items
      l.i;
  text : l.search.ground.text.now ≡ l.text;
  kept : l.fn.search.tests ≤ l.search.tests;
}
