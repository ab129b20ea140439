-- No text is accepted and refused, and no text is refused in two ways.
use Rattle.std.proofs.Common.{◌≡◌, ◌⊎◌, inl, inr, ℕ, ◌==◌, if◌then◌else◌, List}
use Rattle.std.proofs.Common.{[], ◌∷◌, Result, Ok, Err, IfErr, refl, sym, ap}
use Rattle.std.proofs.Common.{◌∙◌, subst, arith, Option, Some, None, MatchOption}
use Rattle.std.specs.List.{All}
use Rattle.std.proofs.lemmas.List.Elements.{All-head, All-tail}
use Rattle.jp_reading.specs.Texts.{Text, Spans}
use Rattle.jp_query.specs.declared.refusal.Refusal.{Refusal}
use Rattle.jp_query.specs.declared.refusal.RefusalKind.{RefusalKind}
use Rattle.jp_query.specs.declared.refusal.RefusalKind.TheVariants.{Syntax, TooDeep, NotWhole}
use Rattle.jp_query.specs.declared.refusal.RefusalKind.TheVariants.{NumberRange, IndexRange}
use Rattle.jp_query.specs.declared.refusal.RefusalKind.TheVariants.{UnknownFunction, ArgumentCount}
use Rattle.jp_query.specs.declared.refusal.RefusalKind.TheVariants.{NotSingular, IllTyped}
use Rattle.jp_query.specs.declared.refusal.RefusalKind.TheVariants.{NoMemory, TextTooLong}
use Rattle.jp_query.specs.Components.{QueryComponent, int, constant, inner, called, logical, count}
use Rattle.jp_query.specs.Components.{components_of}
use Rattle.jp_query.specs.Grammar.{Spells}
use Rattle.jp_query.specs.Levels.{level_limit}
use Rattle.jp_query.specs.Laws.{OneReading, IsParseRefusal, OneRefusal}
use Rattle.jp_query.specs.Spelled.{Spelling, SpellsNothing}
use Rattle.jp_query.specs.Refusal.{number_of}
use Rattle.jp_tree.specs.Tree.{QueryTree, call}
use Rattle.jp_check.specs.Accepted.{IsAcceptedAs, IsNotAccepted}
use Rattle.jp_check.specs.declared.functions.DataType.{DataType}
use Rattle.jp_check.specs.declared.profile.Profile.{Profile}
use Rattle.jp_check.specs.Faults.{AreFaultless, HasCallFault, HasFault}
use Rattle.jp_check.specs.First.{IsComponentFault, IsNoLater, IsFirstFault}
use Rattle.jp_check.specs.Functions.{Signature, signature_named}
use Rattle.jp_check.specs.Types.{wanted}
use Rattle.jp_check.specs.Laws.{OneAnswer}
use Rattle.jp_check.specs.Refused.{Faulty, Says, IsFaulty, RefusalSays, IsRefused}
use Rattle.jp_check.specs.Refused.{IsRefusedForItself}
use Rattle.jp_check.proofs.Least.{NoFault, of-cons, of-component, of-none, found}
use Rattle.jp_check.specs.Private.Inspection.{Progress, past_components}
use Rattle.jp_query.proofs.ComponentSpans.{spans-of_components}

-- ---- kinds have numbers of their own

kind_of : ℕ → RefusalKind
kind_of n =
    if n == 1 then Syntax
    else if n == 2 then TooDeep
    else if n == 3 then NotWhole
    else if n == 4 then NumberRange
    else if n == 5 then IndexRange
    else if n == 6 then UnknownFunction
    else if n == 7 then ArgumentCount
    else if n == 8 then NotSingular
    else if n == 9 then IllTyped
    else if n == 10 then NoMemory
    else TextTooLong

kind_of-number : (k : RefusalKind) → kind_of (number_of k) ≡ k
unfolding kind_of
kind_of-number Syntax = refl
kind_of-number TooDeep = refl
kind_of-number NotWhole = refl
kind_of-number NumberRange = refl
kind_of-number IndexRange = refl
kind_of-number UnknownFunction = refl
kind_of-number ArgumentCount = refl
kind_of-number NotSingular = refl
kind_of-number IllTyped = refl
kind_of-number NoMemory = refl
kind_of-number TextTooLong = refl

number_of-injective : (k j : RefusalKind) → number_of k ≡ number_of j → k ≡ j
number_of-injective k j e = sym (kind_of-number k) ∙ ap kind_of e ∙ kind_of-number j

-- ---- one first fault

same-refusal : (r f : Refusal) → r.kind ≡ f.kind → r.place ≡ f.place → r ≡ f
same-refusal r f k p =
    ap (λ kind. record r { kind = kind }) k ∙ ap (λ place. record f { place = place }) p

no_later-both : (r f : Refusal) → IsNoLater r f → IsNoLater f r → r ≡ f
no_later-both r f (inl a) (inl b) = absurd (omega arith)
no_later-both r f (inl a) (inr b) = absurd (omega arith)
no_later-both r f (inr a) (inl b) = absurd (omega arith)
no_later-both r f (inr a) (inr b) =
    same-refusal r f (number_of-injective r.kind f.kind (omega arith)) a.0

first-alone : (profile : Profile) (components : List QueryComponent) (spans : Spans) (r f : Refusal)
    → IsFirstFault profile components spans r
    → IsFirstFault profile components spans f → r ≡ f
first-alone profile components spans r f h g = no_later-both r f (h.first f g.is) (g.first r h.is)

-- ---- no fault without faults

no_fault : (profile : Profile) (components : List QueryComponent) (spans : Spans) (f : Refusal)
    → All (NoFault profile) components
    → IsComponentFault profile components spans f → ⊥
no_fault profile [] spans f all h = of-none profile [] spans f refl h
no_fault profile (x ∷ xs) [] f all h = of-none profile (x ∷ xs) [] f refl h
no_fault profile (x ∷ xs) (span ∷ spans) f all h =
    elim (of-cons profile x xs span spans f h) as (λ _. ⊥) [
      | inl q ↦ All-head (NoFault profile) x xs all f.kind
          (rw (of-component profile x span f q).0 q.kind)
      | inr q ↦ no_fault profile xs spans f (All-tail (NoFault profile) x xs all) q
    ]

-- ---- a first fault refuses the text

-- none of the kinds that are no faults of components
abbrev HasNone : (RefusalKind → Type 0) → Type 0
HasNone Has = (Has Syntax → ⊥) × (Has TooDeep → ⊥) × (Has NoMemory → ⊥) × (Has TextTooLong → ⊥)

call-none : (function : Option Signature) (given : ℕ) (want : Option DataType)
    → HasNone (HasCallFault function given want)
call-none None given want = (λ h. h, λ h. h, λ h. h, λ h. h)
call-none (Some function) given want = (λ h. h, λ h. h, λ h. h, λ h. h)

component-none : (profile : Profile) (x : QueryComponent) → HasNone (HasFault profile x)
component-none profile (int n role) = (λ h. h, λ h. h, λ h. h, λ h. h)
component-none profile (constant l role) = (λ h. h, λ h. h, λ h. h, λ h. h)
component-none profile (inner q role) = (λ h. h, λ h. h, λ h. h, λ h. h)
component-none profile (called (call name all) role) =
    call-none (signature_named profile name) (count all) (wanted profile role)
component-none profile (logical e role) = (λ h. h, λ h. h, λ h. h, λ h. h)

module _ {A : Type 0} (Spelt : Spelling A) (limit : ℕ) (components : A → List QueryComponent) where
  pub faulty-refused : (profile : Profile) (text : Text) (kind : RefusalKind) (place : ℕ)
      → Faulty Spelt limit components profile text (record { kind = kind; place = place })
      → Says Spelt limit components profile text kind place
  faulty-refused profile text Syntax place h =
      absurd ((component-none profile h.first.is.component).0 h.first.is.kind)
  faulty-refused profile text TooDeep place h =
      absurd ((component-none profile h.first.is.component).1 h.first.is.kind)
  faulty-refused profile text NoMemory place h =
      absurd ((component-none profile h.first.is.component).2 h.first.is.kind)
  faulty-refused profile text TextTooLong place h =
      absurd ((component-none profile h.first.is.component).3 h.first.is.kind)
  faulty-refused profile text kind place h = h

  pub first-refused : {T : Type 0} (profile : Profile) (text : Text) (x : A) (spans : Spans)
      (result : Result T Refusal) → Spelt limit x spans text
      → IfErr result (IsFirstFault profile (components x) spans)
      → IfErr result (λ r. Says Spelt limit components profile text r.kind r.place)
  first-refused profile text x spans (Ok y) h e = tt
  first-refused profile text x spans (Err r) h e =
      faulty-refused profile text r.kind r.place
      (record { tree = x; spans = spans; spelled = h; first = e })

  -- where a text spells one tree, one without faults has no first one
  pub faultless-faulty : ((x y : A) (s t : Spans) (text : Text) → Spelt limit x s text
      → Spelt limit y t text → (x ≡ y) × (s ≡ t)) → (profile : Profile) (text : Text) (x : A)
      (spans : Spans) (r : Refusal) → Spelt limit x spans text
      → AreFaultless profile (components x)
      → Faulty Spelt limit components profile text r → ⊥
  faultless-faulty one profile text x spans r spelled faultless b =
      let same = one x b.tree spans b.spans text spelled b.spelled in
      no_fault profile (components x) spans r faultless (rw (same.0, same.1) b.first.is)

-- ---- refusals exclude each other

faults-same : (profile : Profile) → OneReading → (text : Text) (r f : Refusal)
    → IsFaulty profile text r → IsFaulty profile text f → r ≡ f
faults-same profile one text r f a b =
    let same = one level_limit level_limit a.tree b.tree a.spans b.spans text a.spelled b.spelled in
    first-alone profile (components_of a.tree) a.spans r f a.first (rw (same.0, same.1) b.first)

not-faulty : (profile : Profile) → OneReading → (text : Text) (q : QueryTree) (r : Refusal)
    → IsAcceptedAs profile text q
    → IsFaulty profile text r → ⊥
not-faulty profile one text q r a b =
    faultless-faulty Spells level_limit components_of (one level_limit level_limit) profile text q
    a.spans r a.spelled a.faultless b

-- why a text is refused: out of memory, that it is no query, or a fault
data Why (profile : Profile) (text : Text) (r : Refusal) : Type 0 where
  memory : r.kind ≡ NoMemory → Why profile text r
  no_query : IsParseRefusal level_limit text r.kind r.place → Why profile text r
  faulty : IsFaulty profile text r → Why profile text r

why : (profile : Profile) (text : Text) (kind : RefusalKind) (place : ℕ)
    → RefusalSays profile text kind place
    → Why profile text (record { kind = kind; place = place })
why profile text NoMemory place h = memory refl
why profile text Syntax place h = no_query (inl (refl, h))
why profile text TooDeep place h = no_query (inr (refl, h))
why profile text TextTooLong place h = absurd h
why profile text kind place h = faulty h

-- a text that the parser refuses spells nothing
unspelled : OneRefusal → (text : Text) (r : Refusal)
    → IsParseRefusal level_limit text r.kind r.place → SpellsNothing level_limit text
unspelled once text r at = (once level_limit text).only r.kind r.place at

not-refused : (profile : Profile) → OneReading → OneRefusal
    → (text : Text) (q : QueryTree) (r : Refusal)
    → IsAcceptedAs profile text q → Why profile text r → ¬ (r.kind ≡ NoMemory) → ⊥
not-refused profile one once text q r a (memory e) told = told e
not-refused profile one once text q r a (no_query at) told =
    unspelled once text r at q a.spans a.spelled
not-refused profile one once text q r a (faulty h) told = not-faulty profile one text q r a h

refusals-same : (profile : Profile) → OneReading → OneRefusal → (text : Text) (r f : Refusal)
    → Why profile text r → Why profile text f
    → ¬ (r.kind ≡ NoMemory) → ¬ (f.kind ≡ NoMemory) → r ≡ f
refusals-same profile one once text r f (memory e) h told too = absurd (told e)
refusals-same profile one once text r f (no_query at) (memory e) told too = absurd (too e)
refusals-same profile one once text r f (faulty g) (memory e) told too = absurd (too e)
refusals-same profile one once text r f (no_query at) (no_query elsewhere) told too =
    let same =
    (once level_limit text).once r.kind f.kind r.place f.place at elsewhere in same-refusal r f
    same.0 same.1
refusals-same profile one once text r f (no_query at) (faulty h) told too =
    absurd (unspelled once text r at h.tree h.spans h.spelled)
refusals-same profile one once text r f (faulty h) (no_query at) told too =
    absurd (unspelled once text f at h.tree h.spans h.spelled)
refusals-same profile one once text r f (faulty h) (faulty g) told too =
    faults-same profile one text r f h g

-- what is refused is not accepted
refused-only : (profile : Profile) → OneReading → OneRefusal → (text : Text) (r : Refusal)
    → Why profile text r
    → (r.kind ≡ NoMemory) ⊎ IsNotAccepted profile text
refused-only profile one once text r (memory e) = inl e
refused-only profile one once text r (no_query at) =
    inr (λ q a. unspelled once text r at q a.spans a.spelled)
refused-only profile one once text r (faulty h) = inr (λ q a. not-faulty profile one text q r a h)

pub refused-result : {T : Type 0} (profile : Profile) → OneReading → OneRefusal
    → (text : Text) (result : Result T Refusal) → IfErr result (IsRefused profile text)
    → IfErr result (λ r. (r.kind ≡ NoMemory) ⊎ IsNotAccepted profile text)
refused-result profile one once text (Ok x) h = tt
refused-result profile one once text (Err r) h =
    refused-only profile one once text r (why profile text r.kind r.place h)

refused-for_itself : (profile : Profile) (text : Text) (kind : RefusalKind) (place : ℕ)
    → IsFaulty profile text (record { kind = kind; place = place })
    → IsRefusedForItself profile text (record { kind = kind; place = place })
refused-for_itself profile text kind place h = (
  faulty-refused Spells level_limit components_of profile text kind place h,
  λ e. (component-none profile h.first.is.component).2
      (subst (HasFault profile h.first.is.component) e h.first.is.kind),
)

-- ---- each text has one answer

-- what spells a tree is accepted as it, or has a first fault
spelled-answered : (profile : Profile) (text : Text) (q : QueryTree) (spans : Spans)
    → Spells level_limit q spans text
    → ((u : QueryTree) × IsAcceptedAs profile text u) ⊎
    ((r : Refusal) × IsRefusedForItself profile text r)
spelled-answered profile text q spans h =
    let start : Progress = record { profile = profile; spans = spans; first = None } in
    let first = (past_components (components_of q) start).first in
    told first
    (found profile text (components_of q) spans first
    (spans-of_components level_limit q spans text h).each refl)
  where
    told : (o : Option Refusal)
        → MatchOption o (All (NoFault profile) (components_of q))
        (IsFirstFault profile (components_of q) spans)
        → ((u : QueryTree) × IsAcceptedAs profile text u) ⊎
        ((r : Refusal) × IsRefusedForItself profile text r)
    told None all = inl (q, record { spans = spans; spelled = h; faultless = all })
    told (Some r) e =
        inr (
          r,
          refused-for_itself profile text r.kind r.place
              (record { tree = q; spans = spans; spelled = h; first = e }),
        )

-- what spells none is refused as the parser refuses it
unspelled-refused : (profile : Profile) (text : Text) (kind : RefusalKind) (place : ℕ)
    → IsParseRefusal level_limit text kind place
    → IsRefusedForItself profile text (record { kind = kind; place = place })
unspelled-refused profile text kind place (inl (e, at)) = rw e (at, λ memory. cc)
unspelled-refused profile text kind place (inr (e, at)) = rw e (at, λ memory. cc)

accepted-or_refused : (profile : Profile) → OneRefusal → (text : Text)
    → ((q : QueryTree) × IsAcceptedAs profile text q) ⊎
    ((r : Refusal) × IsRefusedForItself profile text r)
accepted-or_refused profile once text = told ((once level_limit text).answered)
  where
    told : ((q : QueryTree) × (s : Spans) × Spells level_limit q s text) ⊎
        ((kind : RefusalKind) × (place : ℕ) × IsParseRefusal level_limit text kind place)
        → ((q : QueryTree) × IsAcceptedAs profile text q) ⊎
        ((r : Refusal) × IsRefusedForItself profile text r)
    told (inl (q, s, h)) = spelled-answered profile text q s h
    told (inr (kind, place, at)) =
        inr (record { kind = kind; place = place }, unspelled-refused profile text kind place at)

pub one-answer : (profile : Profile) → OneReading → OneRefusal → (text : Text)
    → OneAnswer profile text
one-answer profile one once text = record {
  answered = accepted-or_refused profile once text;
  one_tree =
      λ q u a b. (one level_limit level_limit q u a.spans b.spans text a.spelled b.spelled).0;
  one_fault = faults-same profile one text;
  one_refusal =
      λ r f a b. refusals-same profile one once text r f (why profile text r.kind r.place a.0)
      (why profile text f.kind f.place b.0) a.1 b.1;
  not_faulty = not-faulty profile one text;
  not_both = λ q r a b. not-refused profile one once text q r a
      (why profile text r.kind r.place b.0) b.1;
}
