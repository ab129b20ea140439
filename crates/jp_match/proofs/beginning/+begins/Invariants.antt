use Rattle.std.proofs.Common.{◌+◌, ◌≤◌, map, drop}
use Rattle.jp_iregexp.specs.Tree.{tree, branches}
use Rattle.jp_iregexp.specs.Language.{Language}
use Rattle.jp_iregexp.specs.Positions.{positions_of}
use Rattle.jp_match.specs.Private.Beginning.{NeverBegins}
use Rattle.jp_match.proofs.beginning.+begins.Given as goal

abbrev pub invariant-any_may_begin-loop-branch : goal.invariant-any_may_begin-loop-branch
invariant-any_may_begin-loop-branch l = record {
  completes : NeverBegins (Language (branches (map tree (drop l.branch-index l.parts)))) l.c
      → NeverBegins (Language (branches (map tree l.parts))) l.c;
  counted : l.tests + positions_of (branches (map tree (drop l.branch-index l.parts)))
      ≤ l.fn.tests + positions_of (branches (map tree l.parts));
  kept : l.fn.tests ≤ l.tests;
}
