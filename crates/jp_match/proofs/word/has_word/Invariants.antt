use Rattle.std.proofs.Common.{◌↔◌, ◌+◌, ◌*◌, ◌≤◌, length}
use Rattle.std.specs.Str.{chars}
use denote.Shadow.{shadow}
use denote.Text.{Utf8}
use Rattle.jp_iregexp.specs.Tree.{tree}
use Rattle.jp_iregexp.specs.Language.{Language}
use Rattle.jp_iregexp.specs.Positions.{positions_of}
use Rattle.jp_match.specs.Part.{HasPart}
use Rattle.jp_match.proofs.word.has_word.Given as goal

abbrev pub invariant-loop-c : goal.invariant-loop-c
invariant-loop-c l = record {
  text : shadow (Utf8 l.left);
  same : HasPart (Language (tree l.pattern)) (chars l.left)
      ↔ HasPart (Language (tree l.pattern)) (chars l.text);
  counted : l.tests + positions_of (tree l.pattern) * length (chars l.left)
      ≤ l.fn.tests + positions_of (tree l.pattern) * length (chars l.text);
  kept : l.fn.tests ≤ l.tests;
}

abbrev pub decreases-loop-c : goal.decreases-loop-c
decreases-loop-c l = length (chars l.left)
