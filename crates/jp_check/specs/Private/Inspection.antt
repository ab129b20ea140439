-- How the components of a query are gone through: in their order, one span a component.
use Rattle.std.specs.Prelude.{◌==◌, ◌&&◌, ◌||◌, nat_lt, ℕ, Bool, List, []}
use Rattle.std.specs.Prelude.{◌∷◌, Option, Some, None, length, if◌then◌else◌}
use Rattle.jp_decimal.specs.declared.numbers.Numbers.{Numbers}
use Rattle.jp_decimal.specs.declared.numbers.Numbers.TheVariants.{Decimal as DecimalNumbers}
use Rattle.jp_decimal.specs.declared.numbers.Numbers.TheVariants.{Whole as WholeNumbers}
use Rattle.jp_reading.specs.Texts.{Spans}
use Rattle.jp_query.specs.declared.refusal.Refusal.{Refusal}
use Rattle.jp_query.specs.declared.refusal.RefusalKind.{RefusalKind}
use Rattle.jp_query.specs.declared.refusal.RefusalKind.TheVariants.{NotWhole, NumberRange}
use Rattle.jp_query.specs.declared.refusal.RefusalKind.TheVariants.{IndexRange, UnknownFunction}
use Rattle.jp_query.specs.declared.refusal.RefusalKind.TheVariants.{ArgumentCount, NotSingular}
use Rattle.jp_query.specs.declared.refusal.RefusalKind.TheVariants.{IllTyped}
use Rattle.jp_query.specs.Components.{QueryComponent, int, constant, inner, called, logical}
use Rattle.jp_query.specs.Components.{count, components_of, expr_components, call_components}
use Rattle.jp_query.specs.Refusal.{number_of}
use Rattle.jp_tree.specs.Singular.{is_singular}
use Rattle.jp_tree.specs.Tree.{LiteralTree, number, QueryTree, CallTree, call, ArgumentTree}
use Rattle.jp_tree.specs.Tree.{literal_argument, query_argument, call_argument, logical_argument}
use Rattle.jp_tree.specs.declared.tree.Numeral.{Numeral}
use Rattle.jp_tree.specs.declared.tree.Numeral.TheVariants.{Beyond, Fraction}
use Rattle.jp_check.specs.declared.functions.DataType.{DataType}
use Rattle.jp_check.specs.declared.functions.DataType.TheVariants.{Value, Logical}
use Rattle.jp_check.specs.declared.profile.Profile.{Profile}
use Rattle.jp_check.specs.Functions.{Signature, signature_named}
use Rattle.jp_check.specs.Numbers.{numbers}
use Rattle.jp_check.specs.Types.{fits, wanted}
use Rattle.jp_check.specs.Ranges.{is_in_index_range}

-- how far the inspection is: its profile, the spans of the components that are still to come, and the first
-- fault of those that were
pub record Progress : Type 0 where
  pub profile : Profile
  pub spans : Spans
  pub first : Option Refusal

-- the fault of an int, if it has one
abbrev pub fault_of_int : Numeral → Option RefusalKind
fault_of_int n = if is_in_index_range n then None else Some IndexRange

-- the fault of what has the first type where the second is wanted, if it has one
abbrev pub ill_typed : DataType → Option DataType → Option RefusalKind
ill_typed own None = None
ill_typed own (Some other) = if fits own other then None else Some IllTyped

-- the fault of a number where there are those, if it has one
abbrev pub fault_of_number : Numbers → Numeral → Option RefusalKind
fault_of_number WholeNumbers (Fraction n) = Some NotWhole
fault_of_number WholeNumbers (Beyond d) = Some NumberRange
fault_of_number DecimalNumbers (Fraction None) = Some NumberRange
fault_of_number DecimalNumbers (Beyond None) = Some NumberRange
fault_of_number numbers n = None

-- the one fault, or else the other
abbrev pub or_fault : Option RefusalKind → Option RefusalKind → Option RefusalKind
or_fault (Some kind) other = Some kind
or_fault None other = other

-- the fault of a literal where that type is wanted, if it has one
abbrev pub fault_of_literal : Numbers → LiteralTree → Option DataType → Option RefusalKind
fault_of_literal numbers (number n) want = or_fault (fault_of_number numbers n) (ill_typed Value want)
fault_of_literal numbers _ want = ill_typed Value want

-- the fault of a query where that type is wanted, if it has one
abbrev pub fault_of_query : QueryTree → Option DataType → Option RefusalKind
fault_of_query q (Some Value) = if is_singular q then None else Some NotSingular
fault_of_query q _ = None

-- the fault of a call of that function with so many arguments, if it has one
abbrev pub fault_of_called : Option Signature → ℕ → Option DataType → Option RefusalKind
fault_of_called None given want = Some UnknownFunction
fault_of_called (Some function) given want =
    if length function.parameters == given then ill_typed function.result want
    else Some ArgumentCount

-- the fault of a call where that type is wanted, if it has one
abbrev pub fault_of_call : Profile → CallTree → Option DataType → Option RefusalKind
fault_of_call profile (call name all) want =
    fault_of_called (signature_named profile name) (count all) want

-- the fault of a logical expression where that type is wanted, if it has one
abbrev pub fault_of_logical : Option DataType → Option RefusalKind
fault_of_logical want = ill_typed Logical want

-- the fault of a component, if it has one; of several the one with the least number
abbrev pub fault_of : Profile → QueryComponent → Option RefusalKind
fault_of profile (int n _) = fault_of_int n
fault_of profile (constant l role) = fault_of_literal (numbers profile) l (wanted profile role)
fault_of profile (inner q role) = fault_of_query q (wanted profile role)
fault_of profile (called c role) = fault_of_call profile c (wanted profile role)
fault_of profile (logical e role) = fault_of_logical (wanted profile role)

-- whether the one fault stands before the other
abbrev pub is_before : Refusal → Refusal → Bool
is_before one other =
    nat_lt one.place other.place
    || (one.place == other.place && nat_lt (number_of one.kind) (number_of other.kind))

-- the first of the faults that there are
abbrev pub earlier : Option Refusal → Refusal → Option Refusal
earlier None fault = Some fault
earlier (Some first) fault = if is_before fault first then Some fault else Some first

-- the spans past the next component
abbrev pub spans_past : Spans → Spans
spans_past [] = []
spans_past (_ ∷ rest) = rest

-- the first fault past a component with that fault or none, whose span comes next
abbrev pub first_past : Option RefusalKind → Spans → Option Refusal → Option Refusal
first_past fault [] first = first
first_past (Some kind) (Some span ∷ rest) first =
    earlier first (record { kind = kind; place = span.start })
first_past _ (_ ∷ rest) first = first

-- past a component with that fault or none
abbrev pub past_component : Option RefusalKind → Progress → Progress
past_component fault p = record {
  profile = p.profile;
  spans = spans_past p.spans;
  first = first_past fault p.spans p.first;
}

-- past these components
abbrev pub past_components : List QueryComponent → Progress → Progress
past_components [] p = p
past_components (x ∷ xs) p = past_components xs (past_component (fault_of p.profile x) p)

-- past an argument of which that type is wanted, and past the components in it
abbrev pub past_argument : Option DataType → ArgumentTree → Progress → Progress
past_argument want (literal_argument l) p =
    past_component (fault_of_literal (numbers p.profile) l want) p
past_argument want (query_argument q) p = past_components (components_of q) (past_component (fault_of_query q want) p)
past_argument want (call_argument c) p =
    past_components (call_components c) (past_component (fault_of_call p.profile c want) p)
past_argument want (logical_argument e) p =
    past_components (expr_components e) (past_component (fault_of_logical want) p)
