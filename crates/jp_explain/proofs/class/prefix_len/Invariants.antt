use Rattle.std.proofs.Common.{◌≡◌, ◌+◌, drop}
use Rattle.std.specs.List.{prefix_len}
use Rattle.jp_explain.specs.Private.Classes.{holds}
use Rattle.jp_explain.proofs.class.prefix_len.Given as goal

abbrev pub invariant-loop-c : goal.invariant-loop-c
invariant-loop-c l = record {
  index : l.count ≡ l.c-index;
  whole : l.count + prefix_len (holds l.class) (drop l.c-index l.text)
      ≡ prefix_len (holds l.class) l.text;
}
