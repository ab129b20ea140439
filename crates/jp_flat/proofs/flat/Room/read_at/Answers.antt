use Rattle.std.proofs.Common.{◌≡◌, ◌∙◌, IsUtf8, map, refl, rules, subst}
use Rattle.jp_document.specs.Location.{owned_step}
use Rattle.jp_flat.specs.Flat.{shown}
use Rattle.jp_flat.specs.Private.Found.{FindsInText}
use Rattle.jp_flat.specs.Private.Modes.{is_exact}
use Rattle.jp_flat.proofs.Documents.{found-sound, none-found, value-found}
use Rattle.jp_flat.proofs.flat.Room.read_at.Goals as goal

pub invariant_of-result : goal.invariant_of-result
invariant_of-result c =
    let bytes = c.args.bytes.now in
    let t = shown c.value_in.new.tables in
    let l = map owned_step c.args.location.now in
    let both : (c.in-Ok.text.now ≡ bytes) × IsUtf8 bytes = search rules in
    let mode : t.exact ≡ is_exact c.args.numbers =
    c.in-Some.ensures.exact ∙ c.of-tables.ensures.exact ∙ c.is_exact-exact.ensures in
    record {
      sound = found-sound c.args.numbers bytes t l mode both.1 c.in-Some-found.root
          (subst (FindsInText bytes t l) c.in-Some-found.is
          (subst (λ s. FindsInText s t l c.in-Some.found) (c.of-tables.ensures.source ∙ both.0)
          c.in-Some.ensures.finds));
    }

pub returns-in-Some-found : goal.returns-in-Some-found
returns-in-Some-found c =
    let bytes = c.args.bytes.now in
    let t = shown c.value_in.new.tables in
    let l = map owned_step c.args.location.now in
    let both : (c.in-Ok.text.now ≡ bytes) × IsUtf8 bytes = search rules in
    let mode : t.exact ≡ is_exact c.args.numbers =
    c.in-Some.ensures.exact ∙ c.of-tables.ensures.exact ∙ c.is_exact-exact.ensures in
    value-found c.args.numbers bytes t l mode both.1 _
    (subst (FindsInText bytes t l) c.in-Some-found.is
    (subst (λ s. FindsInText s t l c.in-Some.found) (c.of-tables.ensures.source ∙ both.0)
    c.in-Some.ensures.finds))
    refl

pub returns-in-None : goal.returns-in-None
returns-in-None c =
    let bytes = c.args.bytes.now in
    let t = shown c.value_in.new.tables in
    let l = map owned_step c.args.location.now in
    let both : (c.in-Ok.text.now ≡ bytes) × IsUtf8 bytes = search rules in
    let mode : t.exact ≡ is_exact c.args.numbers =
    c.in-Some.ensures.exact ∙ c.of-tables.ensures.exact ∙ c.is_exact-exact.ensures in
    none-found c.args.numbers bytes t l mode both.1
    (subst (FindsInText bytes t l) c.in-None.is
    (subst (λ s. FindsInText s t l c.in-Some.found) (c.of-tables.ensures.source ∙ both.0)
    c.in-Some.ensures.finds))
