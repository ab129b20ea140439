use Rattle.std.proofs.Common.{ℕ, false, get_or, map, drop}
use Rattle.std.specs.Bool.{IsTrue}
use Rattle.jp_iregexp.specs.Tree.{tree, branches}
use Rattle.jp_iregexp.specs.Language.{Language}
use Rattle.jp_match.specs.Private.Beginning.{NeverBegins, IsWithin}
use Rattle.jp_match.proofs.first_chars.+admits.Given as goal

abbrev pub invariant-admit_each-loop-branch : goal.invariant-admit_each-loop-branch
invariant-admit_each-loop-branch l = record {
  fewer : IsWithin l.ruled_out l.fn.ruled_out;
  completes : (c : ℕ) → IsTrue (get_or l.ruled_out c false)
      → NeverBegins (Language (branches (map tree (drop l.branch-index l.parts)))) c
      → NeverBegins (Language (branches (map tree l.parts))) c;
}
