use Rattle.std.proofs.Common.{◌≡◌, ◌∙◌, ap, IsUtf8, refl, rules, subst}
use Rattle.jp_flat.specs.Flat.{shown}
use Rattle.jp_flat.specs.Private.Kept.{KeepsFlatText}
use Rattle.jp_flat.specs.Private.Modes.{is_exact}
use Rattle.jp_flat.proofs.KeptDocuments.{kept-document, kept-sound}
use Rattle.jp_flat.proofs.flat.Room.read_asked.Goals as goal

pub invariant_of-result : goal.invariant_of-result
invariant_of-result c =
    let asked = c.args.asked.now in
    let t = shown c.kept_root-read.new.tables in
    let i = c.in-Some.root in
    let both : (c.in-Ok.text.now ≡ c.args.bytes.now) × IsUtf8 c.args.bytes.now = search rules in
    let source : c.reserve.new.self.text.now ≡ c.args.bytes.now =
    c.reserve.ensures.text ∙ c.of-tables.ensures.source ∙ both.0 in
    let mode : t.exact ≡ is_exact c.args.numbers =
    c.in-Some.ensures.exact ∙ ap (λ s. s.exact) c.reserve.ensures.same ∙ c.of-tables.ensures.exact
    ∙ c.is_exact-exact.ensures in
    record {
      sound = kept-sound asked (is_exact c.args.numbers) c.args.bytes.now t i mode both.1
          (subst (λ s. KeepsFlatText asked s t i) source c.in-Some.ensures.keeps);
    }

pub returns-in-Some : goal.returns-in-Some
returns-in-Some c =
    let asked = c.args.asked.now in
    let t = shown c.kept_root-read.new.tables in
    let i = c.in-Some.root in
    let both : (c.in-Ok.text.now ≡ c.args.bytes.now) × IsUtf8 c.args.bytes.now = search rules in
    let source : c.reserve.new.self.text.now ≡ c.args.bytes.now =
    c.reserve.ensures.text ∙ c.of-tables.ensures.source ∙ both.0 in
    let mode : t.exact ≡ is_exact c.args.numbers =
    c.in-Some.ensures.exact ∙ ap (λ s. s.exact) c.reserve.ensures.same ∙ c.of-tables.ensures.exact
    ∙ c.is_exact-exact.ensures in
    kept-document asked c.args.numbers c.args.bytes.now _ t mode both.1 refl
    (subst (λ s. KeepsFlatText asked s t i) source c.in-Some.ensures.keeps)
