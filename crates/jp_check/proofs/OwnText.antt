-- A fault is at the text of its component.
use Rattle.std.proofs.Common.{◌≡◌, ◌⊎◌, inl, inr, List, [], ◌∷◌, Some, ap, subst, arith}
use Rattle.std.specs.List.{Contains, zip}
use Rattle.std.proofs.lemmas.List.Elements.{Contains-append_left, Contains-append_right}
use Rattle.std.proofs.lemmas.List.Elements.{Contains-append_cases, Contains-push}
use Rattle.std.proofs.lemmas.List.Elements.{Contains-push_cases}
use Rattle.jp_reading.specs.Texts.{Text, Spans}
use Rattle.jp_reading.specs.declared.span.Span.{Span}
use Rattle.jp_query.specs.Components.{QueryComponent, components_of}
use Rattle.jp_query.specs.ComponentSpans.{IsSpanOf, IsPlaceOf, EachSpanned}
use Rattle.jp_query.specs.Laws.{SpansOfComponents}
use Rattle.jp_query.specs.Levels.{level_limit}
use Rattle.jp_check.specs.declared.profile.Profile.{Profile}
use Rattle.jp_check.specs.Laws.{FaultAtItsComponent}

-- a pair is the first one, or one of the others
pair-cases : {A B : Type 0} (a x : A) (b y : B) (rest : List (A × B))
    → Contains ((a, b) ∷ rest) (x, y) → ((a ≡ x) × (b ≡ y)) ⊎ Contains rest (x, y)
pair-cases a x b y rest h =
    elim (Contains-append_cases ((a, b) ∷ []) rest (x, y) h) as
    (λ _. ((a ≡ x) × (b ≡ y)) ⊎ Contains rest (x, y)) [
      | inl first ↦
          elim (Contains-push_cases [] (a, b) (x, y) first) as
          (λ _. ((a ≡ x) × (b ≡ y)) ⊎ Contains rest (x, y)) [
            | inl none ↦ absurd (omega (arith, none.1))
            | inr e ↦ inl (ap (λ p. p.0) e, ap (λ p. p.1) e)
          ]
      | inr later ↦ inr later
    ]

-- a component that has a span is one of the components, and has its text there
spanned-component : (text : Text) (components : List QueryComponent) (spans : Spans) (component : QueryComponent)
    (span : Span) → EachSpanned text components spans
    → Contains (zip components spans) (component, Some span) → Contains components component × IsSpanOf text component span
spanned-component text [] spans component span each h = absurd (omega (arith, h.1))
spanned-component text (x ∷ xs) [] component span each h = absurd each
spanned-component text (x ∷ xs) (place ∷ spans) component span each h =
    elim (pair-cases x component place (Some span) (zip xs spans) h) as
    (λ _. Contains (x ∷ xs) component × IsSpanOf text component span) [
      | inl same ↦
          let is : IsPlaceOf text x (Some span) = subst (IsPlaceOf text x) same.1 each.0 in
          let first = Contains-append_left (x ∷ []) xs x (Contains-push [] x) in
          (subst (Contains (x ∷ xs)) same.0 first, subst (λ y. IsSpanOf text y span) same.0 is)
      | inr later ↦
          let there = spanned-component text xs spans component span each.1 later in
          (Contains-append_right (x ∷ []) xs component there.0, there.1)
    ]

pub fault-at_its_component : (profile : Profile) → SpansOfComponents → FaultAtItsComponent profile
fault-at_its_component profile law text fault faulty =
    let is = faulty.first.is in
    let spans = law level_limit faulty.tree faulty.spans text faulty.spelled in
    let own =
    spanned-component text (components_of faulty.tree) faulty.spans is.component is.span spans.each is.among in
    record {
      component = is.component;
      span = is.span;
      among = own.0;
      kind = is.kind;
      own = own.1;
      place = is.place;
    }
