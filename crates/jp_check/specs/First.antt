-- The first fault of a query: the one with the least place, and of several there the one with the
-- least number.
use Rattle.std.specs.Prelude.{◌≡◌, ◌⊎◌, ◌<◌, ◌≤◌, List, Some}
use Rattle.std.specs.List.{Contains, zip}
use Rattle.jp_reading.specs.Texts.{Spans}
use Rattle.jp_reading.specs.declared.span.Span.{Span}
use Rattle.jp_query.specs.declared.refusal.Refusal.{Refusal}
use Rattle.jp_query.specs.Components.{QueryComponent}
use Rattle.jp_query.specs.Refusal.{number_of}
use Rattle.jp_check.specs.declared.profile.Profile.{Profile}
use Rattle.jp_check.specs.Faults.{HasFault}

-- in that profile one of the components has a fault of that kind, and its span starts at that place
pub record IsComponentFault (profile : Profile) (components : List QueryComponent) (spans : Spans)
    (fault : Refusal) : Type 0 where
  pub component : QueryComponent
  pub span : Span
  pub among : Contains (zip components spans) (component, Some span)
  pub kind : HasFault profile component fault.kind
  pub place : fault.place ≡ span.start

-- the one stands at a smaller place, or at the same place with a number that is no greater
abbrev pub IsNoLater : Refusal → Refusal → Type 0
IsNoLater one other =
    (one.place < other.place)
    ⊎ ((one.place ≡ other.place) × (number_of one.kind ≤ number_of other.kind))

-- the fault of one of the components, and none is before it
pub record IsFirstFault (profile : Profile) (components : List QueryComponent) (spans : Spans)
    (fault : Refusal) : Type 0 where
  pub is : IsComponentFault profile components spans fault
  pub first : (other : Refusal) → IsComponentFault profile components spans other → IsNoLater fault other
