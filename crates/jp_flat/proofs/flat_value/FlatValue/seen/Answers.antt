use Rattle.std.proofs.Common.{◌≡◌, true, sym, ap, subst, ◌∙◌, rules}
use mir.Val.{of_z, to_z}
use Rattle.std.specs.Int.{w128}
use Rattle.jp_document.specs.Value.{whole}
use Rattle.jp_lent.specs.Lending.{bare}
use Rattle.jp_flat.specs.Flat.{is_flat, meaning, shown}
use Rattle.jp_flat.proofs.Inside.{above-is, below-is, boolean-is, list-bare, null-is, object-bare}
use Rattle.jp_flat.proofs.Inside.{text-held, text-is}
use Rattle.jp_flat.proofs.flat_value.FlatValue.seen.Goals as goal

pub text_at-requires : goal.text_at-requires
text_at-requires c =
    let t = shown c.args.self.tables.now in
    text-held t c.in-Text.span (subst (λ i. is_flat t i ≡ true) c.in-Text.is c.args.self.sound)

pub returns-in-Null : goal.returns-in-Null
returns-in-Null c =
    let t = shown c.args.self.tables.now in
    sym (ap (λ i. bare (meaning t i)) c.in-Null.is ∙ ap bare (null-is t))

pub returns-in-Bool : goal.returns-in-Bool
returns-in-Bool c =
    let t = shown c.args.self.tables.now in
    sym (ap (λ i. bare (meaning t i)) c.in-Bool.is ∙ ap bare (boolean-is t c.in-Bool.truth))

pub returns-in-Above : goal.returns-in-Above
returns-in-Above c =
    let t = shown c.args.self.tables.now in
    let z = c.above.result in
    let same : to_z w128 (of_z w128 z) ≡ z = search rules in
    ap whole (same ∙ c.above.ensures)
    ∙ sym (ap (λ i. bare (meaning t i)) c.in-Above.is ∙ ap bare (above-is t c.in-Above.halves))

pub returns-in-Below : goal.returns-in-Below
returns-in-Below c =
    let t = shown c.args.self.tables.now in
    let z = c.below.result in
    let same : to_z w128 (of_z w128 z) ≡ z = search rules in
    ap whole (same ∙ c.below.ensures)
    ∙ sym (ap (λ i. bare (meaning t i)) c.in-Below.is ∙ ap bare (below-is t c.in-Below.halves))

pub seen_numeral-requires : goal.seen_numeral-requires
seen_numeral-requires c =
    subst (λ i. is_flat (shown c.args.self.tables.now) i ≡ true) c.in-Numeral.is c.args.self.sound

pub returns-in-Numeral : goal.returns-in-Numeral
returns-in-Numeral c =
    let t = shown c.args.self.tables.now in
    c.seen_numeral.ensures ∙ sym (ap (λ i. bare (meaning t i)) c.in-Numeral.is)

pub returns-in-Text : goal.returns-in-Text
returns-in-Text c =
    let t = shown c.args.self.tables.now in
    let sound = subst (λ i. is_flat t i ≡ true) c.in-Text.is c.args.self.sound in
    ap bare (text-is t c.in-Text.span c.text_at.result.now sound c.text_at.ensures)
    ∙ sym (ap (λ i. bare (meaning t i)) c.in-Text.is)

pub returns-in-List : goal.returns-in-List
returns-in-List c =
    let t = shown c.args.self.tables.now in
    list-bare t c.in-List.field-0 (subst (λ i. is_flat t i ≡ true) c.in-List.is c.args.self.sound)
    ∙ sym (ap (λ i. bare (meaning t i)) c.in-List.is)

pub returns-in-Members : goal.returns-in-Members
returns-in-Members c =
    let t = shown c.args.self.tables.now in
    object-bare t c.in-Members.field-0
    (subst (λ i. is_flat t i ≡ true) c.in-Members.is c.args.self.sound)
    ∙ sym (ap (λ i. bare (meaning t i)) c.in-Members.is)
