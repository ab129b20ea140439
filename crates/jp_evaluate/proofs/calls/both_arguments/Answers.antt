use Rattle.std.proofs.Common.{◌≡◌, ◌≢◌, ◌∙◌, Some, ap, length, sym, arith}
use Rattle.std.specs.List.{slice_get}
use Rattle.std.proofs.lemmas.Option.{slice_get-get_or}
use Rattle.jp_evaluate.proofs.Parts.Arguments.{not_two_arguments, two_arguments}
use Rattle.jp_evaluate.proofs.calls.both_arguments.Goals as goal

pub returns-then-len-ne2 : goal.returns-then-len-ne2
returns-then-len-ne2 c =
    let f = c.args.call.now in
    let many : length f.arguments.items ≢ 2 =
    let long = f.arguments.ok.0 in omega (arith, c.len.ensures) in
    not_two_arguments f many

pub returns : goal.returns
returns c =
    let f = c.args.call.now in
    let many : length f.arguments.items ≡ 2 =
    let long = f.arguments.ok.0 in omega (arith, c.len.ensures) in
    two_arguments f c.in_ok-first.field-0.now c.in_ok-get.field-0.now many
    (c.in_ok-first.ensures.value ∙ ap (λ xs. slice_get xs 0) c.deref.ensures.value)
    (let there = c.in_ok-get.ensures.lookup in
    ap Some (there.3.1 c.in_ok-get.field-0.now)
    ∙ sym (slice_get-get_or c.deref-2.result.now 1 c.in_ok-get.field-0.now there.3.0)
    ∙ ap (λ xs. slice_get xs 1) c.deref-2.ensures.value)
