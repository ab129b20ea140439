use Rattle.std.proofs.Common.{ℕ, ◌+◌, ◌-◌, ◌*◌, ◌≤◌, List, Option, map, drop}
use Rattle.std.specs.Str.{chars}
use denote.Shadow.{shadow}
use denote.Text.{Utf8}
use Rattle.jp_iregexp.specs.Tree.{tree, branches, pieces}
use Rattle.jp_iregexp.specs.Language.{Language, Power}
use Rattle.jp_iregexp.specs.Positions.{positions_of}
use Rattle.jp_match.specs.Private.OneWidth.{HasOneWidth, Leaves}
use Rattle.jp_match.proofs.word.+taking.Given as goal

abbrev pub invariant-after_branch-loop-branch : goal.invariant-after_branch-loop-branch
invariant-after_branch-loop-branch l = record {
  wide : HasOneWidth (branches (map tree (drop l.branch-index l.parts)));
  completes : (left : Option (List ℕ))
      → Leaves (Language (branches (map tree (drop l.branch-index l.parts)))) (chars l.text) left
      → Leaves (Language (branches (map tree l.parts))) (chars l.text) left;
  counted : l.tests + positions_of (branches (map tree (drop l.branch-index l.parts)))
      ≤ l.fn.tests + positions_of (branches (map tree l.parts));
  kept : l.fn.tests ≤ l.tests;
}

abbrev pub invariant-after_pieces-loop-piece : goal.invariant-after_pieces-loop-piece
invariant-after_pieces-loop-piece l = record {
  text : shadow (Utf8 l.rest);
  wide : HasOneWidth (pieces (map tree (drop l.piece-index l.parts)));
  completes : (left : Option (List ℕ))
      → Leaves (Language (pieces (map tree (drop l.piece-index l.parts)))) (chars l.rest) left
      → Leaves (Language (pieces (map tree l.parts))) (chars l.fn.text) left;
  counted : l.tests + positions_of (pieces (map tree (drop l.piece-index l.parts)))
      ≤ l.fn.tests + positions_of (pieces (map tree l.parts));
  kept : l.fn.tests ≤ l.tests;
}

abbrev pub invariant-after_repeat-loop : goal.invariant-after_repeat-loop
invariant-after_repeat-loop l = record {
  text : shadow (Utf8 l.rest);
  completes : (left : Option (List ℕ))
      → Leaves (Power (Language (tree l.inner)) (l.count - l.counter)) (chars l.rest) left
      → Leaves (Power (Language (tree l.inner)) l.count) (chars l.fn.text) left;
  counted : l.tests ≤ l.fn.tests + l.counter * positions_of (tree l.inner);
  kept : l.fn.tests ≤ l.tests;
}
