use Rattle.std.proofs.Common.{◌≡◌, ◌-◌, ◌++◌, ◌∷◌, [], All, length, take, drop, subst, arith}
use Rattle.std.specs.Bool.{OnTrue}
use Rattle.std.proofs.lemmas.List.{length-append, length-drop, length-take-le}
use Rattle.std.proofs.lemmas.Simd.{pick_l_whole}
use Rattle.jp_document.specs.Spelling.{spelling}
use Rattle.jp_document.proofs.Spellings.Blocks.{ends-stand}
use Rattle.jp_document.proofs.spelling.is_plain_by_eights.Goals as goal

pub returns : goal.returns
returns c =
    let quote = c.args.quote in
    let text = c.args.text.now in
    let first = take 8 text in
    let last = take 8 (drop (length text - 8) text) in
    let whole : length (first ++ last) ≡ 16 =
    omega (
      arith,
      length-append first last,
      length-take-le 8 text (omega arith),
      length-take-le 8 (drop (length text - 8) text) (omega (arith, length-drop (length text - 8) text)),
    ) in
    ends-stand quote (length text - 8) 8 text _ (omega arith) (omega arith)
    (subst (λ xs. OnTrue c.is_plain_block.result (All (λ x. spelling quote x ≡ x ∷ []) xs))
    (pick_l_whole 0 (first ++ last) 16 whole) c.is_plain_block.ensures)
