use Rattle.std.proofs.Common.{◌≡◌, IsUtf8, rules, subst, ap, ◌∙◌}
use Rattle.jp_flat.specs.Flat.{meaning, shown}
use Rattle.jp_flat.specs.Private.Reading.{ReadsFlatText}
use Rattle.jp_flat.specs.Private.Modes.{is_exact}
use Rattle.jp_flat.proofs.Documents.{flat-document, flat-sound, in-numbers}
use Rattle.jp_flat.proofs.flat.Room.read.Goals as goal

pub invariant_of-result : goal.invariant_of-result
invariant_of-result c =
    let t = shown c.root-read.new.tables in
    let i = c.in-Some.root in
    let both : (c.in-Ok.text.now ≡ c.args.bytes.now) × IsUtf8 c.args.bytes.now = search rules in
    let source : c.reserve.new.self.text.now ≡ c.args.bytes.now =
    c.reserve.ensures.text ∙ c.of-tables.ensures.source ∙ both.0 in
    let mode : t.exact ≡ is_exact c.args.numbers =
    c.in-Some.ensures.exact ∙ ap (λ s. s.exact) c.reserve.ensures.same ∙ c.of-tables.ensures.exact
    ∙ c.is_exact-exact.ensures in
    record {
      sound = flat-sound (is_exact c.args.numbers) c.args.bytes.now t i mode both.1
          (subst (λ s. ReadsFlatText s t i) source c.in-Some.ensures.reads);
    }

pub returns-in-Some : goal.returns-in-Some
returns-in-Some c =
    let t = shown c.root-read.new.tables in
    let i = c.in-Some.root in
    let both : (c.in-Ok.text.now ≡ c.args.bytes.now) × IsUtf8 c.args.bytes.now = search rules in
    let source : c.reserve.new.self.text.now ≡ c.args.bytes.now =
    c.reserve.ensures.text ∙ c.of-tables.ensures.source ∙ both.0 in
    let mode : t.exact ≡ is_exact c.args.numbers =
    c.in-Some.ensures.exact ∙ ap (λ s. s.exact) c.reserve.ensures.same ∙ c.of-tables.ensures.exact
    ∙ c.is_exact-exact.ensures in
    in-numbers c.args.numbers c.args.bytes.now (meaning t i)
    (flat-document (is_exact c.args.numbers) c.args.bytes.now t i mode both.1
    (subst (λ s. ReadsFlatText s t i) source c.in-Some.ensures.reads))
