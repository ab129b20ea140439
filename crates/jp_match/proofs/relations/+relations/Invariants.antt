use Rattle.std.proofs.Common.{◌≤◌}
use Rattle.jp_iregexp.specs.Tree.{tree}
use Rattle.jp_iregexp.specs.Language.{Language}
use Rattle.jp_match.specs.Private.Rows.{marks_of, rows_of}
use Rattle.jp_match.proofs.Sets.Rowwise.{KnownTo, RowsTo}
use Rattle.jp_match.proofs.relations.+relations.Given as goal

abbrev pub invariant-each_known-loop-part : goal.invariant-each_known-loop-part
invariant-each_known-loop-part l = record {
  known : KnownTo l.parts l.ground.text.now (rows_of l.known.items) l.part-index;
  kept : l.fn.tests ≤ l.tests;
}

abbrev pub invariant-rows-loop-start : goal.invariant-rows-loop-start
invariant-rows-loop-start l = record {
  rows : RowsTo (Language (tree l.pattern)) l.ground.text.now (marks_of l.rows.items) l.start;
  kept : l.fn.tests ≤ l.tests;
}
