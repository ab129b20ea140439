use Rattle.std.proofs.Common.{◌≡◌, ◌∷◌, [], All, arith, subst, sym}
use Rattle.std.proofs.lemmas.List.{take_all}
use Rattle.jp_document.specs.Spelling.{spelling}
use Rattle.jp_document.proofs.Spellings.Blocks.{all-stand, first-marked, first-marked-within}
use Rattle.jp_document.proofs.Spellings.Blocks.{front-stands}
use Rattle.jp_document.proofs.spelling.plain_lanes.Goals as goal

pub returns-then-marked-eq0-clause-plain : goal.returns-then-marked-eq0-clause-plain
returns-then-marked-eq0-clause-plain g c =
    let quote = c.args.quote in
    let block = c.args.block in
    let long = c.fits-block.0 in
    subst (All (λ x. spelling quote x ≡ x ∷ [])) (sym (take_all g.row.N block (omega arith)))
    (all-stand quote c.marks-marked.result block c.marks-marked.ensures c.if-marked-eq0.true)

pub returns-else-marked-eq0-clause-within : goal.returns-else-marked-eq0-clause-within
returns-else-marked-eq0-clause-within g c =
    let long = c.fits-block.0 in
    let within =
    first-marked-within c.args.quote c.marks-marked.result c.args.block (omega arith)
    c.marks-marked.ensures (omega arith) in
    omega arith

pub returns-else-marked-eq0-clause-plain : goal.returns-else-marked-eq0-clause-plain
returns-else-marked-eq0-clause-plain g c =
    let long = c.fits-block.0 in
    front-stands c.args.quote _ c.args.block
    (first-marked c.args.quote c.marks-marked.result c.args.block (omega arith)
    c.marks-marked.ensures (omega arith))
