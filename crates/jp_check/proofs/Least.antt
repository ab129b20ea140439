-- The first fault that the inspection finds is the first of all.
use Rattle.std.proofs.Common.{◌≡◌, pos, ◌⊎◌, inl, inr, Bool, true, false, cond, List, [], ◌∷◌}
use Rattle.std.proofs.Common.{Option, Some, None, MatchOption, length, refl, sym, ap, subst, arith}
use Rattle.std.specs.List.{All, Contains, zip}
use Rattle.std.proofs.lemmas.List.Elements.{All-cons, All-nil, Contains-append_left}
use Rattle.std.proofs.lemmas.List.Elements.{Contains-append_right, Contains-append_cases}
use Rattle.std.proofs.lemmas.List.Elements.{Contains-push, Contains-push_cases}
use Rattle.jp_reading.specs.Texts.{Text, Spans}
use Rattle.jp_reading.specs.declared.span.Span.{Span}
use Rattle.jp_query.specs.declared.refusal.Refusal.{Refusal}
use Rattle.jp_query.specs.declared.refusal.RefusalKind.{RefusalKind}
use Rattle.jp_tree.specs.declared.tree.Numeral.TheVariants.{Whole}
use Rattle.jp_query.specs.Components.{QueryComponent, as_step, int}
use Rattle.jp_query.specs.ComponentSpans.{EachSpanned}
use Rattle.jp_check.specs.declared.profile.Profile.{Profile}
use Rattle.jp_check.specs.Faults.{HasFault}
use Rattle.jp_check.specs.First.{IsComponentFault, IsNoLater, IsFirstFault}
use Rattle.jp_check.specs.Private.Inspection.{fault_of, first_past, is_before, earlier, past_components}
use Rattle.std.proofs.lemmas.Bool.Decides.{nat_tests}
use Rattle.jp_check.proofs.OwnFault.{IsOwn, int-fault, own-fault}

-- ---- the order of faults

no_later-trans : (r f g : Refusal) → IsNoLater r f → IsNoLater f g → IsNoLater r g
no_later-trans r f g (inl a) (inl b) = inl (omega arith)
no_later-trans r f g (inl a) (inr b) = inl (omega arith)
no_later-trans r f g (inr a) (inl b) = inl (omega arith)
no_later-trans r f g (inr a) (inr b) = inr (omega arith, omega arith)

before-no_later : (r f : Refusal) → is_before r f ≡ true → IsNoLater r f
before-no_later r f h = grind (arith, nat_tests)

not_before-no_later : (r f : Refusal) → is_before r f ≡ false → IsNoLater f r
not_before-no_later r f h = grind (arith, nat_tests)

-- ---- the least of some faults

-- none is such a fault, or this is the first such fault
abbrev pub IsLeast : (Refusal → Type 0) → Option Refusal → Type 0
IsLeast P None = (f : Refusal) → P f → ⊥
IsLeast P (Some r) = P r × ((f : Refusal) → P f → IsNoLater r f)

-- the same faults have the same first one
least-same : (P Q : Refusal → Type 0) (o : Option Refusal) → ((f : Refusal) → P f → Q f)
    → ((f : Refusal) → Q f → P f) → IsLeast P o → IsLeast Q o
least-same P Q None there back h = λ f q. h f (back f q)
least-same P Q (Some r) there back h = (there r h.0, λ f q. h.1 f (back f q))

-- one more fault
least-earlier : (P Q : Refusal → Type 0) (o : Option Refusal) (r : Refusal) → IsLeast P o
    → IsLeast Q (Some r)
    → IsLeast (λ f. P f ⊎ Q f) (earlier o r)
least-earlier P Q None r h g =
    (inr g.0, λ f e. elim e as (λ _. IsNoLater r f) [ inl p ↦ absurd (h f p) | inr q ↦ g.1 f q ])
least-earlier P Q (Some first) r h g = chosen (is_before r first) refl
  where
    chosen : (b : Bool) → is_before r first ≡ b
        → IsLeast (λ f. P f ⊎ Q f) (cond b (Some r) (Some first))
    chosen true e = (
      inr g.0,
      λ f one. elim one as
          (λ _. IsNoLater r f) [
            | inl p ↦ no_later-trans r first f (before-no_later r first e)
                (h.1 f p)
            | inr q ↦ g.1 f q
          ],
    )
    chosen false e = (
      inl h.0,
      λ f one. elim one as
          (λ _. IsNoLater first f) [
            | inl p ↦ h.1 f p
            | inr q ↦ no_later-trans first r f
                (not_before-no_later r first e) (g.1 f q)
          ],
    )

-- no more faults
least-alone : (P Q : Refusal → Type 0) (o : Option Refusal) → ((f : Refusal) → Q f → ⊥)
    → IsLeast P o → IsLeast (λ f. P f ⊎ Q f) o
least-alone P Q o none =
    least-same P (λ f. P f ⊎ Q f) o (λ f p. inl p)
    (λ f one. elim one as (λ _. P f) [ inl p ↦ p | inr q ↦ absurd (none f q) ])

-- ---- the faults of components with their spans

-- one component with its span
abbrev pub OfComponent : Profile → QueryComponent → Option Span → Refusal → Type 0
OfComponent profile x span = IsComponentFault profile (x ∷ []) (span ∷ [])

-- a fault of one component is its own
pub of-component : (profile : Profile) (x : QueryComponent) (span : Option Span) (f : Refusal)
    (h : OfComponent profile x span f)
    → (x ≡ h.component) × (span ≡ Some h.span)
of-component profile x span f h =
    elim (Contains-push_cases [] (x, span) (h.component, Some h.span) h.among) as
    (λ _. (x ≡ h.component) × (span ≡ Some h.span))
    [ inl a ↦ absurd (omega (arith, a.1)) | inr e ↦ (ap (λ p. p.0) e, ap (λ p. p.1) e) ]

-- of the first component or of the others
pub of-cons : (profile : Profile) (x : QueryComponent) (xs : List QueryComponent) (span : Option Span)
    (spans : Spans)
    (f : Refusal)
    → IsComponentFault profile (x ∷ xs) (span ∷ spans) f
    → OfComponent profile x span f ⊎ IsComponentFault profile xs spans f
of-cons profile x xs span spans f h =
    elim (Contains-append_cases ((x, span) ∷ []) (zip xs spans) (h.component, Some h.span) h.among) as
    (λ _. OfComponent profile x span f ⊎ IsComponentFault profile xs spans f) [
      | inl a ↦ inl
          (record { component = h.component; span = h.span; among = a; kind = h.kind; place = h.place })
      | inr a ↦ inr
          (record { component = h.component; span = h.span; among = a; kind = h.kind; place = h.place })
    ]

-- and of more components, with what comes among them
of-more : (profile : Profile) (components others : List QueryComponent) (spans more : Spans) (f : Refusal)
    → ((e : QueryComponent × Option Span) → Contains (zip components spans) e → Contains (zip others more) e)
    → IsComponentFault profile components spans f → IsComponentFault profile others more f
of-more profile components others spans more f among h = record {
  component = h.component;
  span = h.span;
  among = among (h.component, Some h.span) h.among;
  kind = h.kind;
  place = h.place;
}

of-head : (profile : Profile) (x : QueryComponent) (xs : List QueryComponent) (span : Option Span)
    (spans : Spans) (f : Refusal)
    → OfComponent profile x span f → IsComponentFault profile (x ∷ xs) (span ∷ spans) f
of-head profile x xs span spans f =
    of-more profile (x ∷ []) (x ∷ xs) (span ∷ []) (span ∷ spans) f
    (Contains-append_left ((x, span) ∷ []) (zip xs spans))

of-tail : (profile : Profile) (x : QueryComponent) (xs : List QueryComponent) (span : Option Span)
    (spans : Spans) (f : Refusal)
    → IsComponentFault profile xs spans f → IsComponentFault profile (x ∷ xs) (span ∷ spans) f
of-tail profile x xs span spans f =
    of-more profile xs (x ∷ xs) spans (span ∷ spans) f
    (Contains-append_right ((x, span) ∷ []) (zip xs spans))

-- without components or without spans there is none
pub of-none : (profile : Profile) (components : List QueryComponent) (spans : Spans) (f : Refusal)
    → zip components spans ≡ []
    → IsComponentFault profile components spans f → ⊥
of-none profile components spans f e h = absurd (omega (arith, ap length e, h.among.1))

-- ---- the inspection

-- past one component
past-least : (profile : Profile) (P : Refusal → Type 0) (x : QueryComponent) (o : Option RefusalKind)
    (span : Option Span)
    (rest : Spans) (first : Option Refusal)
    → IsOwn profile x o → IsLeast P first
    → IsLeast (λ f. P f ⊎ OfComponent profile x span f) (first_past o (span ∷ rest) first)
past-least profile P x None span rest first own h =
    least-alone P (OfComponent profile x span) first
    (λ f q. own f.kind (rw (of-component profile x span f q).0 q.kind)) h
past-least profile P x (Some kind) None rest first own h =
    least-alone P (OfComponent profile x None) first
    (λ f q. let e = of-component profile x None f q in cc (e.1)) h
past-least profile P x (Some kind) (Some span) rest first own h =
    least-earlier P (OfComponent profile x (Some span)) first
    (record { kind = kind; place = span.start }) h (
      record {
        component = x;
        span = span;
        among = Contains-push []
            (x, Some span);
        kind = own.0;
        place = refl;
      },
      λ f q.
          let its = of-component profile x (Some span) f q in
          let same : span ≡ q.span = cc (its.1) in
          inr (rw same (sym q.place), own.1 f.kind (rw its.0 q.kind)),
    )

-- the faults so far, of one component and of the others are those so far and of the components
least-cons : (profile : Profile) (P : Refusal → Type 0) (x : QueryComponent) (xs : List QueryComponent)
    (span : Option Span)
    (spans : Spans) (o : Option Refusal)
    → IsLeast (λ f. (P f ⊎ OfComponent profile x span f) ⊎ IsComponentFault profile xs spans f) o
    → IsLeast (λ f. P f ⊎ IsComponentFault profile (x ∷ xs) (span ∷ spans) f) o
least-cons profile P x xs span spans o =
    least-same (λ f. (P f ⊎ OfComponent profile x span f) ⊎ IsComponentFault profile xs spans f)
    (λ f. P f ⊎ IsComponentFault profile (x ∷ xs) (span ∷ spans) f) o there back
  where
    there : (f : Refusal) → (P f ⊎ OfComponent profile x span f) ⊎ IsComponentFault profile xs spans f
        → P f ⊎ IsComponentFault profile (x ∷ xs) (span ∷ spans) f
    there f (inl (inl p)) = inl p
    there f (inl (inr q)) = inr (of-head profile x xs span spans f q)
    there f (inr q) = inr (of-tail profile x xs span spans f q)

    back : (f : Refusal) → P f ⊎ IsComponentFault profile (x ∷ xs) (span ∷ spans) f
        → (P f ⊎ OfComponent profile x span f) ⊎ IsComponentFault profile xs spans f
    back f (inl p) = inl (inl p)
    back f (inr q) =
        elim (of-cons profile x xs span spans f q) as
        (λ _. (P f ⊎ OfComponent profile x span f) ⊎ IsComponentFault profile xs spans f) [
          | inl a ↦ inl
              (inr a)
          | inr a ↦ inr a
        ]

-- where spans are missing, the components have no faults
least-unspanned : (profile : Profile) (P : Refusal → Type 0) (x : QueryComponent) (xs : List QueryComponent)
    (o : Option Refusal)
    → IsLeast (λ f. P f ⊎ IsComponentFault profile xs [] f) o
    → IsLeast (λ f. P f ⊎ IsComponentFault profile (x ∷ xs) [] f) o
least-unspanned profile P x xs o =
    least-same (λ f. P f ⊎ IsComponentFault profile xs [] f)
    (λ f. P f ⊎ IsComponentFault profile (x ∷ xs) [] f) o there back
  where
    unspanned : Spans
    unspanned = []

    zip-none : (ys : List QueryComponent) → zip ys (unspanned) ≡ []
    zip-none [] = refl
    zip-none (y ∷ ys) = refl

    there : (f : Refusal) → P f ⊎ IsComponentFault profile xs [] f
        → P f ⊎ IsComponentFault profile (x ∷ xs) [] f
    there f (inl p) = inl p
    there f (inr q) = absurd (of-none profile xs [] f (zip-none xs) q)

    back : (f : Refusal) → P f ⊎ IsComponentFault profile (x ∷ xs) [] f
        → P f ⊎ IsComponentFault profile xs [] f
    back f (inl p) = inl p
    back f (inr q) = absurd (of-none profile (x ∷ xs) [] f refl q)

past_components-least : (profile : Profile) (P : Refusal → Type 0) (components : List QueryComponent) (spans : Spans)
    (first : Option Refusal)
    → IsLeast P first
    → IsLeast (λ f. P f ⊎ IsComponentFault profile components spans f)
    (past_components components (record { profile = profile; spans = spans; first = first })).first
past_components-least profile P [] spans first h =
    least-alone P (IsComponentFault profile [] spans) first (λ f. of-none profile [] spans f refl) h
past_components-least profile P (x ∷ xs) [] first h =
    least-unspanned profile P x xs _ (past_components-least profile P xs [] first h)
past_components-least profile P (x ∷ xs) (span ∷ spans) first h =
    least-cons profile P x xs span spans _
    (past_components-least profile (λ f. P f ⊎ OfComponent profile x span f) xs spans
    (first_past (fault_of profile x) (span ∷ spans) first)
    (past-least profile P x (fault_of profile x) span spans first (own-fault profile x) h))

-- ---- from the start

-- a component without faults
abbrev pub NoFault : Profile → QueryComponent → Type 0
NoFault profile component = (kind : RefusalKind) → HasFault profile component kind → ⊥

-- an omitted step, which is 1, has none
omitted_faultless : (profile : Profile) (x : QueryComponent) → x ≡ int (Whole (pos 1)) as_step
    → NoFault profile x
omitted_faultless profile x e kind h =
    let is = int-fault profile (Whole (pos 1)) as_step kind
    (subst (λ y. HasFault profile y kind) e h) in
    cc (is.1)

-- no component of a query has a fault where none of those with a span has
faultless : (profile : Profile) (text : Text) (components : List QueryComponent) (spans : Spans)
    → EachSpanned text components spans
    → ((f : Refusal) → IsComponentFault profile components spans f → ⊥)
    → All (NoFault profile) components
faultless profile text [] spans each none = All-nil _
faultless profile text (x ∷ xs) [] each none = absurd each
faultless profile text (x ∷ xs) (None ∷ spans) each none =
    All-cons (NoFault profile) x xs (omitted_faultless profile x each.0)
    (faultless profile text xs spans each.1 (λ f h. none f (of-tail profile x xs None spans f h)))
faultless profile text (x ∷ xs) (Some span ∷ spans) each none =
    All-cons (NoFault profile) x xs
    (λ kind h. none (record { kind = kind; place = span.start })
    (record {
      component = x;
      span = span;
      among = Contains-append_left ((x, Some span) ∷ [])
          (zip xs spans) (x, Some span) (Contains-push [] (x, Some span));
      kind =
          h;
      place = refl;
    }))
    (faultless profile text xs spans each.1
    (λ f h. none f (of-tail profile x xs (Some span) spans f h)))

-- what the inspection finds from the start
least-found : (profile : Profile) (components : List QueryComponent) (spans : Spans) (o : Option Refusal)
    → o ≡ (past_components components (record { profile = profile; spans = spans; first = None })).first
    → IsLeast (λ f. ⊥ ⊎ IsComponentFault profile components spans f) o
least-found profile components spans o e =
    rw e (past_components-least profile (λ f. ⊥) components spans None (λ f h. h))

pub found-fault : (profile : Profile) (components : List QueryComponent) (spans : Spans) (r : Refusal)
    → Some r ≡ (past_components components (record { profile = profile; spans = spans; first = None })).first
    → IsFirstFault profile components spans r
found-fault profile components spans r e =
    let h = least-found profile components spans (Some r) e in
    record {
      is = elim h.0 as
          (λ _. IsComponentFault profile components spans r) [ inl p ↦ absurd p | inr q ↦ q ];
      first =
          λ f q. h.1 f (inr q);
    }

pub found : (profile : Profile) (text : Text) (components : List QueryComponent) (spans : Spans)
    (o : Option Refusal)
    → EachSpanned text components spans
    → o ≡ (past_components components (record { profile = profile; spans = spans; first = None })).first
    → MatchOption o (All (NoFault profile) components) (IsFirstFault profile components spans)
found profile text components spans None each e =
    let h = least-found profile components spans None e in
    faultless profile text components spans each (λ f q. h f (inr q))
found profile text components spans (Some r) each e = found-fault profile components spans r e
