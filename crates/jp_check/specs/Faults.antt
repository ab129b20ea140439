-- The faults of a query's components (RFC 9535 sections 2.1, 2.3.5.1 and 2.4.3).
use Rattle.std.specs.Prelude.{◌≡◌, ◌⊎◌, ◌==◌, ℕ, false, List, Option, Some, None, length}
use Rattle.std.specs.List.{All}
use Rattle.jp_decimal.specs.declared.number.Decimal.{Decimal}
use Rattle.jp_decimal.specs.declared.number.Number.{Number as HeldNumber}
use Rattle.jp_decimal.specs.declared.numbers.Numbers.{Numbers}
use Rattle.jp_decimal.specs.declared.numbers.Numbers.TheVariants.{Decimal as DecimalNumbers}
use Rattle.jp_decimal.specs.declared.numbers.Numbers.TheVariants.{Whole as WholeNumbers}
use Rattle.jp_query.specs.declared.refusal.RefusalKind.{RefusalKind}
use Rattle.jp_query.specs.declared.refusal.RefusalKind.TheVariants.{NotWhole, NumberRange}
use Rattle.jp_query.specs.declared.refusal.RefusalKind.TheVariants.{IndexRange, UnknownFunction}
use Rattle.jp_query.specs.declared.refusal.RefusalKind.TheVariants.{ArgumentCount, NotSingular}
use Rattle.jp_query.specs.declared.refusal.RefusalKind.TheVariants.{IllTyped}
use Rattle.jp_tree.specs.declared.tree.Numeral.TheVariants.{Beyond, Fraction}
use Rattle.jp_query.specs.Components.{QueryComponent, int, constant, inner, called, logical, count}
use Rattle.jp_query.specs.Components.{components_of, expr_components}
use Rattle.jp_tree.specs.Singular.{is_singular}
use Rattle.jp_tree.specs.Tree.{ExprTree, LiteralTree, QueryTree, number, call}
use Rattle.jp_check.specs.declared.functions.DataType.{DataType}
use Rattle.jp_check.specs.declared.functions.DataType.TheVariants.{Value, Logical}
use Rattle.jp_check.specs.declared.profile.Profile.{Profile}
use Rattle.jp_check.specs.Functions.{Signature, signature_named}
use Rattle.jp_check.specs.Numbers.{numbers}
use Rattle.jp_check.specs.Ranges.{is_in_index_range}
use Rattle.jp_check.specs.Types.{IsMisfit, wanted}

-- a call with so many arguments, where that type is wanted, has a fault of that kind: there is no
-- such function, it has not so many parameters, or its result doesn't fit (section 2.4.3)
abbrev pub HasCallFault : Option Signature → ℕ → Option DataType → RefusalKind → Type 0
HasCallFault None given want UnknownFunction = Unit {0}
HasCallFault (Some function) given want ArgumentCount =
    (length function.parameters == given) ≡ false
HasCallFault (Some function) given want IllTyped = IsMisfit function.result want
HasCallFault _ _ _ _ = ⊥

-- where there are those numbers, the literal has a fault of that kind: of whole numbers, that it is one
-- with a fraction or an exponent, or a whole one outside -(2^63) to (2^64)-1; of decimals, that it is one
-- that can't be held
abbrev pub HasNumberFault : Numbers → LiteralTree → RefusalKind → Type 0
HasNumberFault WholeNumbers l NotWhole = (n : Option HeldNumber) × (l ≡ number (Fraction n))
HasNumberFault WholeNumbers l NumberRange = (d : Option Decimal) × (l ≡ number (Beyond d))
HasNumberFault DecimalNumbers l NumberRange =
    (l ≡ number (Fraction None)) ⊎ (l ≡ number (Beyond None))
HasNumberFault _ l _ = ⊥

-- in that profile the component has a fault of that kind: a literal is none of its numbers; an index
-- or a part of a slice is out of range (section 2.1); a query that is not singular is where a value is
-- wanted (section 2.3.5.1); a literal or a logical expression doesn't fit what is wanted (section
-- 2.4.3); or it is a fault of a call
abbrev pub HasFault : Profile → QueryComponent → RefusalKind → Type 0
HasFault profile (constant l _) NotWhole = HasNumberFault (numbers profile) l NotWhole
HasFault profile (constant l _) NumberRange = HasNumberFault (numbers profile) l NumberRange
HasFault profile (constant _ role) IllTyped = IsMisfit Value (wanted profile role)
HasFault profile (int n _) IndexRange = is_in_index_range n ≡ false
HasFault profile (inner q role) NotSingular =
    (wanted profile role ≡ Some Value) × (is_singular q ≡ false)
HasFault profile (called (call name all) role) kind =
    HasCallFault (signature_named profile name) (count all) (wanted profile role) kind
HasFault profile (logical _ role) IllTyped = IsMisfit Logical (wanted profile role)
HasFault profile _ _ = ⊥

-- none of the components has a fault
abbrev pub AreFaultless : Profile → List QueryComponent → Type 0
AreFaultless profile components =
    All (λ component. (kind : RefusalKind) → ¬ HasFault profile component kind) components

-- no component of the query has a fault
abbrev pub IsFaultless : Profile → QueryTree → Type 0
IsFaultless profile q = AreFaultless profile (components_of q)

-- no component of the expression of a filter has a fault
abbrev pub IsFaultlessFilter : Profile → ExprTree → Type 0
IsFaultlessFilter profile e = AreFaultless profile (expr_components e)
