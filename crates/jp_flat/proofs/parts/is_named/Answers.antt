use Rattle.std.proofs.Common.{◌≡◌, ◌≢◌, ◌<◌, ℕ, Bool, true, false, List, [], Option, Some, None}
use Rattle.std.proofs.Common.{length, unwrap_or, refl, sym, ap, ◌∙◌, arith}
use Rattle.std.specs.Str.{bytes_eq}
use Rattle.std.proofs.lemmas.Map.Text.{is_eq-slice_cmp}
use Rattle.jp_flat.specs.Flat.{Shown, shown, text_at}
use Rattle.jp_flat.specs.Private.Parts.{is_named, name_in}
use Rattle.jp_flat.specs.declared.item.Named.{Named}
use Rattle.jp_flat.proofs.FoundInside.{is_same}
use Rattle.jp_flat.proofs.Inside.{piece-length}
use Rattle.jp_flat.proofs.Owned.{in_both}
use Rattle.jp_flat.proofs.parts.is_named.Goals as goal

-- a name is as long as its span, or there is none
name-length : (t : Shown) (m : Named) (name : List ℕ) → name ≡ name_in t m → 0 < length name
    → length name ≡ m.name.count
name-length t m name is some = go (text_at t m.name) refl
  where
    go : (o : Option (List ℕ)) → text_at t m.name ≡ o → length name ≡ m.name.count
    go None gone = absurd (omega (arith, ap length is, ap (λ p. length (unwrap_or p [])) gone))
    go (Some x) there =
        ap length is ∙ ap (λ p. length (unwrap_or p [])) there
        ∙ piece-length _ x m.name.first m.name.count (in_both t m.name x there)

apart-by-length : (t : Shown) (name : List ℕ) (m : Named) → m.name.count ≢ length name → 0 < length name
    → is_named t name m ≡ false
apart-by-length t name m apart some = go (is_named t name m) refl
  where
    go : (b : Bool) → is_named t name m ≡ b → is_named t name m ≡ false
    go false is = is
    go true is = absurd (apart (sym (name-length t m name (is_same name (name_in t m) is) some)))

pub returns-then-not-is_empty : goal.returns-then-not-is_empty
returns-then-not-is_empty c =
    let some : 0 < length c.args.name.now =
    grind (arith, c.is_empty.ensures, c.if-not-is_empty.true) in
    sym
    (apart-by-length (shown c.args.tables.now) c.args.name.now c.args.member.now c.if-count-name.true some)

pub returns : goal.returns
returns c =
    let name = c.args.name.now in
    let other = name_in (shown c.args.tables.now) c.args.member.now in
    c.eq.ensures ∙ ap (λ text. bytes_eq text c.name_at.result.now) c.as_bytes.ensures.value
    ∙ ap (bytes_eq name) c.name_at.ensures ∙ sym (is_eq-slice_cmp name other)
