use Rattle.std.proofs.Common.{◌≡◌, ◌+◌, ◌<◌, ◌++◌, get_or, length, string_bytes, sym, subst}
use Rattle.std.proofs.Common.{arith, rules}
use Rattle.std.proofs.lemmas.List.{append-nil}
use Rattle.std.proofs.lemmas.Str.{IsCharBoundary-start}
use Rattle.std.specs.Char.{encode_utf8}
use Rattle.json.specs.Text.{plain}
use Rattle.jp_flat.specs.Private.Escapes.{GoesOn, IsEscape}
use Rattle.jp_flat.proofs.Undone.{empty-piece, escape-boundary, escape-goes-on, goes-nowhere, goes-on}
use Rattle.jp_flat.proofs.Undone.{goes-to-quote, itself-boundary, itself-goes-on}
use Rattle.jp_flat.proofs.escapes.push_content.Goals as goal

pub pieces-init : goal.pieces-init
pieces-init c = record {
  goes = rw append-nil (goes-nowhere c.args.text.now (string_bytes c.args.out.now));
  boundary = IsCharBoundary-start c.args.text.now c.utf8.text;
  order = omega arith;
}

pub returns-then-bytes-end-eq34 : goal.returns-then-bytes-end-eq34
returns-then-bytes-end-eq34 c =
    let d = c.args.text.now in
    let end = c.in_ok-end.end in
    let same = c.as_bytes-bytes.ensures.value in
    let within : end < length d = grind (arith, same) in
    let quote : get_or d end 0 ≡ 34 = grind (arith, same) in
    goes-to-quote d _ _ end
    (goes-on d _ _ _ 0 c.pieces.at end c.pieces.invariant.goes c.in_ok-end.ensures.goes) within quote

pub pieces-preserved-then-is_escaped_itself : goal.pieces-preserved-then-is_escaped_itself
pieces-preserved-then-is_escaped_itself c =
    let d = c.args.text.now in
    let end = c.in_ok-end.end in
    let same = c.as_bytes-bytes.ensures.value in
    let is : IsEscape d plain end (get_or d (end + 1) 0) (end + 2) =
    rw same at c.if-is_escaped_itself.ensures in
    record {
      goes = goes-on d _ _ _ 0 end (end + 2)
          (goes-on d _ _ _ 0 c.pieces.at end c.pieces.invariant.goes c.in_ok-end.ensures.goes)
          (itself-goes-on d (string_bytes c.push_piece.new.out) end is);
      boundary = itself-boundary d end is;
      order = omega arith;
    }

pub pieces-preserved : goal.pieces-preserved
pieces-preserved c =
    let d = c.args.text.now in
    let end = c.in_ok-end.end in
    let next = c.in_ok-character.next in
    let same = c.as_bytes-bytes.ensures.value in
    let is : IsEscape d plain end c.in_ok-character.character next =
    rw same at c.in_ok-character.ensures in
    let wrote : string_bytes c.push.new.self ≡ string_bytes c.push_piece.new.out
    ++ encode_utf8 c.in_ok-character.character = search rules in
    record {
      goes = subst (λ s. GoesOn d (string_bytes c.args.out.now) 0 s next)
          (sym (empty-piece d (string_bytes c.push.new.self) next))
          (goes-on d _ _ _ 0 end next
          (goes-on d _ _ _ 0 c.pieces.at end c.pieces.invariant.goes c.in_ok-end.ensures.goes)
          (escape-goes-on d _ _ end c.in_ok-character.character next is wrote));
      boundary = escape-boundary d plain end c.in_ok-character.character next c.utf8.text is;
      order = omega arith;
    }
