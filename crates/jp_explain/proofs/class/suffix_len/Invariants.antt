use Rattle.std.proofs.Common.{◌≡◌, ◌+◌, ◌≤◌, length}
use Rattle.std.specs.List.{suffix_len}
use Rattle.jp_explain.specs.Private.Classes.{holds}
use Rattle.jp_explain.proofs.class.suffix_len.Given as goal

abbrev pub invariant-back : goal.invariant-back
invariant-back l = record {
  within : length l.before ≤ length l.text;
  whole : length l.text + suffix_len (holds l.class) l.before
      ≡ length l.before + suffix_len (holds l.class) l.text;
}

abbrev pub decreases-back : goal.decreases-back
decreases-back l = length l.before
