use Rattle.std.proofs.Common.{◌≡◌, ◌+◌, drop}
use Rattle.jp_explain.specs.Place.{characters_before}
use Rattle.jp_explain.proofs.place.characters_before.Given as goal

abbrev pub invariant-loop-c : goal.invariant-loop-c
invariant-loop-c l = record {
  index : l.count ≡ l.c-index;
  whole : l.count + characters_before l.left (drop l.c-index l.text)
      ≡ characters_before l.place l.text;
}
