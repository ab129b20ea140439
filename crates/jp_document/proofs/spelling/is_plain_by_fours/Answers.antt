use Rattle.std.proofs.Common.{◌≡◌, ◌-◌, ◌++◌, ◌∷◌, [], All, length, take, drop, subst, arith}
use Rattle.std.specs.Bool.{OnTrue}
use Rattle.std.proofs.lemmas.List.{length-append, length-drop, length-take-le}
use Rattle.std.proofs.lemmas.Simd.{pick_l_whole}
use Rattle.jp_document.specs.Spelling.{spelling}
use Rattle.jp_document.proofs.Spellings.Blocks.{ends-stand}
use Rattle.jp_document.proofs.spelling.is_plain_by_fours.Goals as goal

pub returns : goal.returns
returns c =
    let quote = c.args.quote in
    let text = c.args.text.now in
    let first = take 4 text in
    let last = take 4 (drop (length text - 4) text) in
    let whole : length (first ++ last) ≡ 8 =
    omega (
      arith,
      length-append first last,
      length-take-le 4 text (omega arith),
      length-take-le 4 (drop (length text - 4) text) (omega (arith, length-drop (length text - 4) text)),
    ) in
    ends-stand quote (length text - 4) 4 text _ (omega arith) (omega arith)
    (subst (λ xs. OnTrue c.is_plain_block.result (All (λ x. spelling quote x ≡ x ∷ []) xs))
    (pick_l_whole 0 (first ++ last) 8 whole) c.is_plain_block.ensures)
