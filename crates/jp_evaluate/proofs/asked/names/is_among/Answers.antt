use Rattle.std.proofs.Common.{ap, string_bytes, sym, ◌∙◌}
use Rattle.std.proofs.lemmas.Slice.Eq.{bytes_eq-Decides}
use Rattle.jp_evaluate.proofs.Kept.Told.{asked-one}
use Rattle.jp_evaluate.proofs.asked.names.is_among.Goals as goal

pub returns-then-eq : goal.returns-then-eq
returns-then-eq c = λ yes.
    let known = c.known-item.result in
    asked-one c.args.names.now c.loop-known.known-index known c.args.name.now c.loop-known-test.true
    (ap string_bytes (sym c.known-item.is) ∙ sym c.as_str.ensures.value
    ∙ (bytes_eq-Decides _ _).0 (sym c.eq.ensures ∙ c.if-eq.true))
