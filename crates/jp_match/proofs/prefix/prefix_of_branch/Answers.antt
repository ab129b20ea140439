use Rattle.std.proofs.Common.{◌≡◌, ◌++◌, sym, string_bytes, true}
use Rattle.std.specs.Char.{encode_utf8}
use Rattle.std.specs.Result.{is_ok}
use Rattle.std.proofs.lemmas.Str.{IsUtf8-string_bytes, chars-nil}
use Rattle.jp_iregexp.proofs.Trees.{tree_sequence}
use Rattle.jp_match.proofs.Texts.OnlyWords.{begin-pieces, only_more, alone_push}
use Rattle.jp_match.proofs.prefix.prefix_of_branch.Goals as goal

pub loop-piece-init : goal.loop-piece-init
loop-piece-init c = rw (c.new-prefix.ensures.bytes, chars-nil) tt

pub loop-piece-preserved : goal.loop-piece-preserved
loop-piece-preserved c =
    let pushed : is_ok c.push.result ≡ true = sym c.in_ok-ok.ensures.variant in
    let more : string_bytes c.push.new.self ≡ string_bytes c.loop-piece.prefix ++ encode_utf8
    c.in-Some.c = rw pushed at c.push.ensures.bytes in
    rw (alone_push (string_bytes c.loop-piece.prefix) (string_bytes c.push.new.self) c.in-Some.c
    (IsUtf8-string_bytes c.loop-piece.prefix) (IsUtf8-string_bytes c.push.new.self) more) (only_more
    _ _ _ _ _ c.loop-piece-test.true c.piece-item.is c.loop-piece.invariant c.in-Some.ensures)

pub returns : goal.returns
returns c = rw (c.in-Sequence.is, tree_sequence, ← c.deref-piece-items.ensures.value) (begin-pieces _ _
    _ c.loop-piece.invariant)

pub returns-in_default-only_char : goal.returns-in_default-only_char
returns-in_default-only_char c = rw (
  c.in-Sequence.is,
  tree_sequence,
  ← c.deref-piece-items.ensures.value,
) (begin-pieces _ _ _ c.loop-piece.invariant)
