-- The fault of a component is the one with the least number that it has.
use Rattle.std.proofs.Common.{◌≡◌, ◌==◌, ◌≤◌, ℕ, Bool, true, false, cond}
use Rattle.std.proofs.Common.{Option, Some, None, length, refl, arith, inl, inr}
use Rattle.jp_decimal.specs.declared.numbers.Numbers.{Numbers}
use Rattle.jp_decimal.specs.declared.numbers.Numbers.TheVariants.{Decimal as DecimalNumbers}
use Rattle.jp_decimal.specs.declared.numbers.Numbers.TheVariants.{Whole as WholeNumbers}
use Rattle.jp_query.specs.declared.refusal.RefusalKind.{RefusalKind}
use Rattle.jp_query.specs.declared.refusal.RefusalKind.TheVariants.{NotWhole, NumberRange}
use Rattle.jp_query.specs.declared.refusal.RefusalKind.TheVariants.{IndexRange, UnknownFunction}
use Rattle.jp_query.specs.declared.refusal.RefusalKind.TheVariants.{ArgumentCount, NotSingular}
use Rattle.jp_query.specs.declared.refusal.RefusalKind.TheVariants.{IllTyped}
use Rattle.jp_tree.specs.declared.tree.Numeral.{Numeral}
use Rattle.jp_tree.specs.declared.tree.Numeral.TheVariants.{Whole, Beyond, Fraction}
use Rattle.jp_query.specs.Components.{QueryComponent, Use, int, constant, inner, called, logical}
use Rattle.jp_query.specs.Components.{count}
use Rattle.jp_query.specs.Refusal.{number_of}
use Rattle.jp_tree.specs.Singular.{is_singular}
use Rattle.jp_tree.specs.Tree.{QueryTree, ExprTree, LiteralTree, number, text}
use Rattle.jp_tree.specs.Tree.{true_literal, false_literal, null_literal, call}
use Rattle.jp_check.specs.declared.functions.DataType.{DataType}
use Rattle.jp_check.specs.declared.functions.DataType.TheVariants.{Value, Logical, Nodes}
use Rattle.jp_check.specs.declared.profile.Profile.{Profile}
use Rattle.jp_check.specs.Faults.{HasCallFault, HasFault, HasNumberFault}
use Rattle.jp_check.specs.Functions.{Signature, signature_named}
use Rattle.jp_check.specs.Numbers.{numbers}
use Rattle.jp_check.specs.Ranges.{is_in_index_range}
use Rattle.jp_check.specs.Types.{IsMisfit, fits, wanted}
use Rattle.jp_check.specs.Private.Inspection.{fault_of, fault_of_called, fault_of_literal}
use Rattle.jp_check.specs.Private.Inspection.{fault_of_number, fault_of_query, ill_typed, or_fault}

-- there is no such kind, or this one and none with a smaller number
abbrev pub IsLeastKind : (RefusalKind → Type 0) → Option RefusalKind → Type 0
IsLeastKind P None = (kind : RefusalKind) → P kind → ⊥
IsLeastKind P (Some kind) =
    P kind × ((other : RefusalKind) → P other → number_of kind ≤ number_of other)

-- of the kinds of the component's faults
abbrev pub IsOwn : Profile → QueryComponent → Option RefusalKind → Type 0
IsOwn profile x = IsLeastKind (HasFault profile x)

-- an int has no fault but its range
pub int-fault : (profile : Profile) (n : Numeral) (role : Use) (kind : RefusalKind)
    → HasFault profile (int n role) kind
    → (kind ≡ IndexRange) × (is_in_index_range n ≡ false)
int-fault profile n role IndexRange h = (refl, h)
int-fault profile n role _ h = absurd h

own-int : (profile : Profile) (n : Numeral) (role : Use) (b : Bool) → is_in_index_range n ≡ b
    → IsOwn profile (int n role) (cond b None (Some IndexRange))
own-int profile n role true e = λ kind h. let is = int-fault profile n role kind h in cc (is.1)
own-int profile n role false e =
    (e, λ other h. rw (int-fault profile n role other h).0 (omega arith))

-- what has no fault but that it doesn't fit
own-type : (P : RefusalKind → Type 0) (own : DataType) (want : Option DataType)
    → ((kind : RefusalKind) → P kind → (kind ≡ IllTyped) × IsMisfit own want)
    → (IsMisfit own want → P IllTyped)
    → IsLeastKind P (ill_typed own want)
own-type P own None only is = λ kind h. (only kind h).1
own-type P own (Some other) only is = decided (fits own other) refl
  where
    decided : (b : Bool) → fits own other ≡ b → IsLeastKind P (cond b None (Some IllTyped))
    decided true e = λ kind h. let misfit = only kind h in cc (misfit.1)
    decided false e = (is e, λ kind h. rw (only kind h).0 (omega arith))

-- a literal without a fault of numbers has none but that
literal-fault : (profile : Profile) (l : LiteralTree) (role : Use)
    → (HasNumberFault (numbers profile) l NotWhole → ⊥)
    → (HasNumberFault (numbers profile) l NumberRange → ⊥)
    → (kind : RefusalKind) → HasFault profile (constant l role) kind
    → (kind ≡ IllTyped) × IsMisfit Value (wanted profile role)
literal-fault profile l role whole within NotWhole h = absurd (whole h)
literal-fault profile l role whole within NumberRange h = absurd (within h)
literal-fault profile l role whole within IllTyped h = (refl, h)
literal-fault profile l role whole within _ h = absurd h

plain-literal : (profile : Profile) (l : LiteralTree) (role : Use)
    → (HasNumberFault (numbers profile) l NotWhole → ⊥)
    → (HasNumberFault (numbers profile) l NumberRange → ⊥)
    → IsOwn profile (constant l role) (ill_typed Value (wanted profile role))
plain-literal profile l role whole within =
    own-type (HasFault profile (constant l role)) Value (wanted profile role)
    (literal-fault profile l role whole within)
    (λ misfit. misfit)

-- a number that is one of those has no such fault
no-number-fault : (k : Numbers) (n : Numeral) → fault_of_number k n ≡ None → (kind : RefusalKind)
    → HasNumberFault k (number n) kind → ⊥
no-number-fault WholeNumbers (Fraction m) e kind h = absurd (cc)
no-number-fault WholeNumbers (Beyond d) e kind h = absurd (cc)
no-number-fault WholeNumbers (Whole z) e NotWhole h = absurd (cc (h.1))
no-number-fault WholeNumbers (Whole z) e NumberRange h = absurd (cc (h.1))
no-number-fault WholeNumbers (Whole z) e _ h = absurd h
no-number-fault DecimalNumbers (Fraction None) e kind h = absurd (cc)
no-number-fault DecimalNumbers (Beyond None) e kind h = absurd (cc)
no-number-fault DecimalNumbers (Fraction (Some m)) e NumberRange (inl h) = absurd (cc)
no-number-fault DecimalNumbers (Fraction (Some m)) e NumberRange (inr h) = absurd (cc)
no-number-fault DecimalNumbers (Beyond (Some d)) e NumberRange (inl h) = absurd (cc)
no-number-fault DecimalNumbers (Beyond (Some d)) e NumberRange (inr h) = absurd (cc)
no-number-fault DecimalNumbers (Whole z) e NumberRange (inl h) = absurd (cc)
no-number-fault DecimalNumbers (Whole z) e NumberRange (inr h) = absurd (cc)
no-number-fault DecimalNumbers (Fraction (Some m)) e _ h = absurd h
no-number-fault DecimalNumbers (Beyond (Some d)) e _ h = absurd h
no-number-fault DecimalNumbers (Whole z) e _ h = absurd h

-- a literal that is no number has none
abbrev IsNoNumber : LiteralTree → Type 0
IsNoNumber l = (n : Numeral) → l ≡ number n → ⊥

no-number : (k : Numbers) (l : LiteralTree) → IsNoNumber l → (kind : RefusalKind)
    → HasNumberFault k l kind → ⊥
no-number WholeNumbers l none NotWhole h = none (Fraction h.0) h.1
no-number WholeNumbers l none NumberRange h = none (Beyond h.0) h.1
no-number WholeNumbers l none _ h = absurd h
no-number DecimalNumbers l none NumberRange (inl h) = none (Fraction None) h
no-number DecimalNumbers l none NumberRange (inr h) = none (Beyond None) h
no-number DecimalNumbers l none _ h = absurd h

-- the least fault of a number is its own
number-least : (k : Numbers) (n : Numeral) (kind : RefusalKind) → fault_of_number k n ≡ Some kind
    → HasNumberFault k (number n) kind × (number_of NotWhole ≤ number_of kind)
    × (number_of kind ≤ number_of NumberRange)
    × (HasNumberFault k (number n) NotWhole → kind ≡ NotWhole)
number-least WholeNumbers (Fraction m) kind e =
    let is : kind ≡ NotWhole = cc in
    rw is ((m, refl), omega arith, omega arith, λ h. refl)
number-least WholeNumbers (Beyond d) kind e =
    let is : kind ≡ NumberRange = cc in
    rw is ((d, refl), omega arith, omega arith, λ h. absurd (cc (h.1)))
number-least WholeNumbers (Whole z) kind e = absurd (cc)
number-least DecimalNumbers (Fraction None) kind e =
    let is : kind ≡ NumberRange = cc in rw is (inl refl, omega arith, omega arith, λ h. absurd h)
number-least DecimalNumbers (Beyond None) kind e =
    let is : kind ≡ NumberRange = cc in rw is (inr refl, omega arith, omega arith, λ h. absurd h)
number-least DecimalNumbers (Fraction (Some m)) kind e = absurd (cc)
number-least DecimalNumbers (Beyond (Some d)) kind e = absurd (cc)
number-least DecimalNumbers (Whole z) kind e = absurd (cc)

own-number : (profile : Profile) (n : Numeral) (role : Use) (o : Option RefusalKind)
    → fault_of_number (numbers profile) n ≡ o
    → IsOwn profile (constant (number n) role) (or_fault o (ill_typed Value (wanted profile role)))
own-number profile n role None e =
    plain-literal profile (number n) role (no-number-fault (numbers profile) n e NotWhole)
    (no-number-fault (numbers profile) n e NumberRange)
own-number profile n role (Some kind) e = (has kind own, least)
  where
    own : HasNumberFault (numbers profile) (number n) kind × (number_of NotWhole ≤ number_of kind)
        × (number_of kind ≤ number_of NumberRange)
        × (HasNumberFault (numbers profile) (number n) NotWhole → kind ≡ NotWhole)
    own = number-least (numbers profile) n kind e

    has : (other : RefusalKind) → HasNumberFault (numbers profile) (number n) other
        × (number_of NotWhole ≤ number_of other) × (number_of other ≤ number_of NumberRange)
        × (HasNumberFault (numbers profile) (number n) NotWhole → other ≡ NotWhole)
        → HasFault profile (constant (number n) role) other
    has NotWhole h = h.0
    has NumberRange h = h.0
    has _ h = absurd (omega (arith, h.1, h.2))

    least : (other : RefusalKind) → HasFault profile (constant (number n) role) other
        → number_of kind ≤ number_of other
    least NotWhole h = rw (own.3 h) (omega arith)
    least NumberRange h = own.2
    least IllTyped h = omega (arith, own.2)
    least _ h = absurd h

no-literal : (profile : Profile) (l : LiteralTree) (role : Use) → IsNoNumber l
    → IsOwn profile (constant l role) (ill_typed Value (wanted profile role))
no-literal profile l role none =
    plain-literal profile l role (no-number (numbers profile) l none NotWhole)
    (no-number (numbers profile) l none NumberRange)

own-literal : (profile : Profile) (l : LiteralTree) (role : Use)
    → IsOwn profile (constant l role)
    (fault_of_literal (numbers profile) l (wanted profile role))
own-literal profile (number n) role =
    own-number profile n role (fault_of_number (numbers profile) n) refl
own-literal profile (text cs) role = no-literal profile (text cs) role (λ n e. cc)
own-literal profile true_literal role = no-literal profile true_literal role (λ n e. cc)
own-literal profile false_literal role = no-literal profile false_literal role (λ n e. cc)
own-literal profile null_literal role = no-literal profile null_literal role (λ n e. cc)

-- a query has none but that it is not singular where a value is wanted
query-fault : (profile : Profile) (q : QueryTree) (role : Use) (kind : RefusalKind)
    → HasFault profile (inner q role) kind
    → (kind ≡ NotSingular) × (wanted profile role ≡ Some Value) × (is_singular q ≡ false)
query-fault profile q role NotSingular h = (refl, h.0, h.1)
query-fault profile q role _ h = absurd h

own-query : (profile : Profile) (q : QueryTree) (role : Use) (want : Option DataType)
    → wanted profile role ≡ want
    → IsOwn profile (inner q role) (fault_of_query q want)
own-query profile q role None e = λ kind h. let is = query-fault profile q role kind h in cc (is.1)
own-query profile q role (Some Logical) e =
    λ kind h. let is = query-fault profile q role kind h in cc (is.1)
own-query profile q role (Some Nodes) e =
    λ kind h. let is = query-fault profile q role kind h in cc (is.1)
own-query profile q role (Some Value) e = decided (is_singular q) refl
  where
    decided : (b : Bool) → is_singular q ≡ b
        → IsOwn profile (inner q role) (cond b None (Some NotSingular))
    decided true single = λ kind h. let is = query-fault profile q role kind h in cc (is.2)
    decided false several =
        ((e, several), λ other h. rw (query-fault profile q role other h).0 (omega arith))

-- the faults of a call
own-call : (function : Option Signature) (given : ℕ) (want : Option DataType)
    → IsLeastKind (HasCallFault function given want) (fault_of_called function given want)
own-call None given want = (tt, least-kind)
  where
    least-kind : (other : RefusalKind) → HasCallFault None given want other
        → number_of UnknownFunction ≤ number_of other
    least-kind UnknownFunction h = omega arith
    least-kind _ h = absurd h
own-call (Some function) given want = decided (length function.parameters == given) refl
  where
    decided : (b : Bool) → (length function.parameters == given) ≡ b
        → IsLeastKind (HasCallFault (Some function) given want)
        (cond b (ill_typed function.result want) (Some ArgumentCount))
    decided true e =
        own-type (HasCallFault (Some function) given want) function.result want only
        (λ misfit. misfit)
      where
        only : (kind : RefusalKind) → HasCallFault (Some function) given want kind
            → (kind ≡ IllTyped) × IsMisfit function.result want
        only ArgumentCount h = absurd (cc (h))
        only IllTyped h = (refl, h)
        only _ h = absurd h
    decided false e = (e, least-kind)
      where
        least-kind : (other : RefusalKind) → HasCallFault (Some function) given want other
            → number_of ArgumentCount ≤ number_of other
        least-kind ArgumentCount h = omega arith
        least-kind IllTyped h = omega arith
        least-kind _ h = absurd h

-- a logical expression has none but that it doesn't fit
logical-fault : (profile : Profile) (e : ExprTree) (role : Use) (kind : RefusalKind)
    → HasFault profile (logical e role) kind
    → (kind ≡ IllTyped) × IsMisfit Logical (wanted profile role)
logical-fault profile e role IllTyped h = (refl, h)
logical-fault profile e role _ h = absurd h

-- the fault of a component is its own
pub own-fault : (profile : Profile) (x : QueryComponent) → IsOwn profile x (fault_of profile x)
own-fault profile (int n role) = own-int profile n role (is_in_index_range n) refl
own-fault profile (constant l role) = own-literal profile l role
own-fault profile (inner q role) = own-query profile q role (wanted profile role) refl
own-fault profile (called (call name all) role) =
    own-call (signature_named profile name) (count all) (wanted profile role)
own-fault profile (logical e role) =
    own-type (HasFault profile (logical e role)) Logical (wanted profile role)
    (logical-fault profile e role)
    (λ misfit. misfit)
