-- Laws of acceptance.
use Rattle.std.specs.Prelude.{◌≡◌, ◌⊎◌}
use Rattle.std.specs.List.{Contains}
use Rattle.jp_reading.specs.Texts.{Text}
use Rattle.jp_reading.specs.declared.span.Span.{Span}
use Rattle.jp_query.specs.declared.refusal.Refusal.{Refusal}
use Rattle.jp_query.specs.Components.{QueryComponent, components_of}
use Rattle.jp_query.specs.ComponentSpans.{IsSpanOf}
use Rattle.jp_tree.specs.Tree.{QueryTree}
use Rattle.jp_check.specs.declared.profile.Profile.{Profile}
use Rattle.jp_check.specs.declared.profile.Profile.TheVariants.{Standard, Extended, Decimal}
use Rattle.jp_check.specs.declared.profile.Profile.TheVariants.{ExtendedDecimal}
use Rattle.jp_check.specs.Accepted.{IsAcceptedAs}
use Rattle.jp_check.specs.Faults.{HasFault}
use Rattle.jp_check.specs.Refused.{IsFaulty, IsRefusedForItself}

-- in that profile a text is accepted as one tree, or is refused for what it is in one way, with its
-- first fault or as no query; and not both
pub record OneAnswer (profile : Profile) (text : Text) : Type 0 where
  pub answered : ((q : QueryTree) × IsAcceptedAs profile text q)
      ⊎ ((r : Refusal) × IsRefusedForItself profile text r)
  pub one_tree : (q u : QueryTree) → IsAcceptedAs profile text q → IsAcceptedAs profile text u
      → q ≡ u
  pub one_fault : (r f : Refusal) → IsFaulty profile text r → IsFaulty profile text f → r ≡ f
  pub one_refusal : (r f : Refusal) → IsRefusedForItself profile text r
      → IsRefusedForItself profile text f → r ≡ f
  pub not_faulty : (q : QueryTree) (r : Refusal) → IsAcceptedAs profile text q
      → IsFaulty profile text r → ⊥
  pub not_both : (q : QueryTree) (r : Refusal) → IsAcceptedAs profile text q
      → IsRefusedForItself profile text r → ⊥

-- in that profile one of the query's components has the fault, and the fault's place is where the text
-- of that component starts
pub record IsFaultInText (profile : Profile) (text : Text) (q : QueryTree) (fault : Refusal)
    : Type 0 where
  pub component : QueryComponent
  pub span : Span
  pub among : Contains (components_of q) component
  pub kind : HasFault profile component fault.kind
  pub own : IsSpanOf text component span
  pub place : fault.place ≡ span.start

-- whatever the text, and its fault
abbrev pub FaultAtItsComponent : Profile → Type 0
FaultAtItsComponent profile =
    (text : Text) (fault : Refusal) (h : IsFaulty profile text fault)
    → IsFaultInText profile text h.tree fault

-- what is accepted in the one profile is accepted in the other as the same tree
abbrev pub AcceptsMore : Profile → Profile → Type 0
AcceptsMore profile other =
    (text : Text) (q : QueryTree) → IsAcceptedAs profile text q → IsAcceptedAs other text q

-- what is accepted in `Standard` is accepted in `Extended`
abbrev pub StandardIsExtended : Type 0
StandardIsExtended = AcceptsMore Standard Extended

-- the same over decimals
abbrev pub DecimalIsExtended : Type 0
DecimalIsExtended = AcceptsMore Decimal ExtendedDecimal

-- what is accepted over whole numbers is accepted over decimals, with the same functions
pub record WholeIsDecimal : Type 0 where
  pub standard : AcceptsMore Standard Decimal
  pub extended : AcceptsMore Extended ExtendedDecimal
