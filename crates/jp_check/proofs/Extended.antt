-- What is accepted in a profile is accepted in one with more functions or more numbers.
use Rattle.std.proofs.Common.{◌≡◌, ◌⊎◌, inl, inr, ℕ, zero, suc, Bool, true, false, cond}
use Rattle.std.proofs.Common.{List, [], ◌∷◌, ◌++◌, Option, Some, None, option_map}
use Rattle.std.proofs.Common.{refl, sym, ap, subst, ◌∙◌}
use Rattle.std.specs.List.{All, slice_get}
use Rattle.std.specs.Map.{lookup}
use Rattle.std.specs.Str.{bytes_eq}
use Rattle.std.proofs.lemmas.List.Elements.{All-append, All-cons, All-head, All-nil, All-tail}
use Rattle.jp_decimal.specs.declared.numbers.Numbers.{Numbers}
use Rattle.jp_decimal.specs.declared.numbers.Numbers.TheVariants.{Decimal as DecimalNumbers}
use Rattle.jp_decimal.specs.declared.numbers.Numbers.TheVariants.{Whole as WholeNumbers}
use Rattle.jp_query.specs.declared.refusal.RefusalKind.{RefusalKind}
use Rattle.jp_query.specs.declared.refusal.RefusalKind.TheVariants.{NotWhole, NumberRange}
use Rattle.jp_query.specs.declared.refusal.RefusalKind.TheVariants.{IndexRange, UnknownFunction}
use Rattle.jp_query.specs.declared.refusal.RefusalKind.TheVariants.{NotSingular, IllTyped}
use Rattle.jp_query.specs.Components.{QueryComponent, Use, int, constant, inner, called, logical}
use Rattle.jp_query.specs.Components.{as_index, as_bound, as_step, as_side, as_test, as_argument}
use Rattle.jp_query.specs.Components.{argument_components, arguments_components, bound_components}
use Rattle.jp_query.specs.Components.{call_components, count}
use Rattle.jp_query.specs.Components.{expr_components, exprs_components, components_of}
use Rattle.jp_query.specs.Components.{operand_components, segment_components}
use Rattle.jp_query.specs.Components.{segments_components, selector_components}
use Rattle.jp_query.specs.Components.{selectors_components}
use Rattle.jp_tree.specs.declared.tree.Numeral.{Numeral}
use Rattle.jp_tree.specs.Functions.{added_functions, standard_functions}
use Rattle.jp_tree.specs.Tree.{ArgumentTree, ArgumentTrees, CallTree, ExprTree, ExprTrees}
use Rattle.jp_tree.specs.Tree.{LiteralTree, OperandTree, QueryTree, SegmentTree, SegmentTrees}
use Rattle.jp_tree.specs.Tree.{SelectorTree, SelectorTrees, all_of, any_of, argument_then, call}
use Rattle.jp_tree.specs.Tree.{call_argument, call_test, call_value, comparison, exists, expr_then}
use Rattle.jp_tree.specs.Tree.{filter, index, literal, literal_argument, logical_argument, name}
use Rattle.jp_tree.specs.Tree.{negation, no_arguments, no_exprs, no_segments, no_selectors}
use Rattle.jp_tree.specs.Tree.{node_value, query, query_argument, segment, segment_then}
use Rattle.jp_tree.specs.Tree.{selector_then, slice, wildcard}
use Rattle.jp_check.specs.declared.functions.DataType.TheVariants.{Value, Logical}
use Rattle.jp_check.specs.declared.profile.Profile.{Profile}
use Rattle.jp_check.specs.declared.profile.Profile.TheVariants.{Standard, Extended, Decimal}
use Rattle.jp_check.specs.declared.profile.Profile.TheVariants.{ExtendedDecimal}
use Rattle.jp_check.specs.Faults.{HasCallFault, HasNumberFault, IsFaultless}
use Rattle.jp_check.specs.Functions.{function_named, signature, signature_named}
use Rattle.jp_check.specs.Laws.{AcceptsMore, DecimalIsExtended, StandardIsExtended, WholeIsDecimal}
use Rattle.jp_check.specs.Numbers.{numbers}
use Rattle.jp_check.specs.Types.{IsMisfit, wanted, wanted_of_arguments}
use Rattle.jp_check.proofs.Least.{NoFault}

-- ---- functions

-- what is found is found among more as well
lookup-more : {K X : Type 0} (is : K → Bool) (es more : List (K × X))
    → (lookup is es ≡ None) ⊎ (lookup is es ≡ lookup is (es ++ more))
lookup-more is [] more = inl refl
lookup-more is (e ∷ es) more = decided (is e.0) (lookup-more is es more)
  where
    decided : (b : Bool) → (lookup is es ≡ None) ⊎ (lookup is es ≡ lookup is (es ++ more))
        → (cond b (Some e.1) (lookup is es) ≡ None)
        ⊎ (cond b (Some e.1) (lookup is es) ≡ cond b (Some e.1) (lookup is (es ++ more)))
    decided true h = inr refl
    decided false h = h

-- a function of the standard has its name in `Extended` as well
pub named-extended : (cs : List ℕ)
    → (function_named Standard cs ≡ None)
    ⊎ (function_named Standard cs ≡ function_named Extended cs)
named-extended cs = lookup-more (bytes_eq cs) standard_functions added_functions

-- no component of a query has a fault in the other profile where none has one in the first
abbrev IsFaultlessMore : Profile → Profile → Type 0
IsFaultlessMore P Q = (q : QueryTree) → IsFaultless P q → IsFaultless Q q

-- from the profile P to the profile Q, which has P's functions, and in which a literal has no fault of
-- numbers where it has none in P
module _ (P Q : Profile)
    (known : (cs : List ℕ) → (function_named P cs ≡ None) ⊎ (function_named P cs ≡ function_named Q cs))
    (numbered : (l : LiteralTree) → (HasNumberFault (numbers P) l NotWhole → ⊥)
    → (HasNumberFault (numbers P) l NumberRange → ⊥) → (kind : RefusalKind)
    → HasNumberFault (numbers Q) l kind → ⊥) where
  -- the name has the same types in both profiles
  abbrev SameTypes : List ℕ → Type 0
  SameTypes cs = signature_named P cs ≡ signature_named Q cs

  -- the same type is wanted in both profiles
  abbrev SameWanted : Use → Type 0
  SameWanted role = wanted P role ≡ wanted Q role

  -- ---- components

  -- the call has a function where the component has no fault
  known-types : (cs : List ℕ) (all : ArgumentTrees) (role : Use)
      → NoFault P (called (call cs all) role) → SameTypes cs
  known-types cs all role none =
      elim (known cs) as (λ _. SameTypes cs) [
        | inl unknown ↦
            let untyped : signature_named P cs ≡ None = ap (option_map signature) unknown in
            absurd (none UnknownFunction
            (subst (λ s. HasCallFault s (count all) (wanted P role) UnknownFunction)
            (sym untyped) tt))
        | inr same ↦ ap (option_map signature) same
      ]

  int-stays : (n : Numeral) (role : Use) → NoFault P (int n role)
      → NoFault Q (int n role)
  int-stays n role none IndexRange h = none IndexRange h
  int-stays n role none _ h = absurd h

  constant-stays : (l : LiteralTree) (role : Use) → SameWanted role
      → NoFault P (constant l role) → NoFault Q (constant l role)
  constant-stays l role same none NotWhole h =
      numbered l (none NotWhole) (none NumberRange) NotWhole h
  constant-stays l role same none NumberRange h =
      numbered l (none NotWhole) (none NumberRange) NumberRange h
  constant-stays l role same none IllTyped h =
      none IllTyped (subst (IsMisfit Value) (sym same) h)
  constant-stays l role same none _ h = absurd h

  inner-stays : (q : QueryTree) (role : Use) → SameWanted role
      → NoFault P (inner q role) → NoFault Q (inner q role)
  inner-stays q role same none NotSingular h = none NotSingular (same ∙ h.0, h.1)
  inner-stays q role same none _ h = absurd h

  called-stays : (cs : List ℕ) (all : ArgumentTrees) (role : Use) → SameTypes cs
      → SameWanted role
      → NoFault P (called (call cs all) role) → NoFault Q (called (call cs all) role)
  called-stays cs all role types same none kind h =
      none kind
      (subst (λ s. HasCallFault s (count all) (wanted P role) kind) (sym types)
      (subst (λ w. HasCallFault (signature_named Q cs) (count all) w kind) (sym same) h))

  logical-stays : (e : ExprTree) (role : Use) → SameWanted role
      → NoFault P (logical e role) → NoFault Q (logical e role)
  logical-stays e role same none IllTyped h =
      none IllTyped (subst (IsMisfit Logical) (sym same) h)
  logical-stays e role same none _ h = absurd h

  -- ---- components one after another

  -- where none of these has a fault in the one, none has one in the other
  abbrev StaysFaultless : List QueryComponent → Type 0
  StaysFaultless xs = All (NoFault P) xs → All (NoFault Q) xs

  stays-nil : StaysFaultless []
  stays-nil none = All-nil (NoFault Q)

  stays-cons : (x : QueryComponent) (xs : List QueryComponent)
      → (NoFault P x → NoFault Q x) → StaysFaultless xs → StaysFaultless (x ∷ xs)
  stays-cons x xs one rest none =
      All-cons (NoFault Q) x xs (one (All-head (NoFault P) x xs none))
      (rest (All-tail (NoFault P) x xs none))

  stays-append : (xs ys : List QueryComponent) → StaysFaultless xs → StaysFaultless ys
      → StaysFaultless (xs ++ ys)
  stays-append xs ys first rest none =
      All-append (NoFault Q) xs ys (first (fronts xs none)) (rest (backs xs none))
    where
      fronts : (zs : List QueryComponent) → All (NoFault P) (zs ++ ys)
          → All (NoFault P) zs
      fronts [] all = All-nil (NoFault P)
      fronts (z ∷ zs) all =
          All-cons (NoFault P) z zs (All-head (NoFault P) z (zs ++ ys) all)
          (fronts zs (All-tail (NoFault P) z (zs ++ ys) all))

      backs : (zs : List QueryComponent) → All (NoFault P) (zs ++ ys)
          → All (NoFault P) ys
      backs [] all = all
      backs (z ∷ zs) all = backs zs (All-tail (NoFault P) z (zs ++ ys) all)

  stays-int : (n : Numeral) (role : Use) → StaysFaultless (int n role ∷ [])
  stays-int n role = stays-cons (int n role) [] (int-stays n role) stays-nil

  stays-bound : (bound : Option Numeral) → StaysFaultless (bound_components bound)
  stays-bound None = stays-nil
  stays-bound (Some n) = stays-int n as_bound

  -- ---- trees

  mutual
    stays-query : (q : QueryTree) → StaysFaultless (components_of q)
    stays-query (query absolute all) = stays-segments all

    stays-segments : (all : SegmentTrees) → StaysFaultless (segments_components all)
    stays-segments no_segments = stays-nil
    stays-segments (segment_then x rest) =
        stays-append (segment_components x) (segments_components rest) (stays-segment x) (stays-segments rest)

    stays-segment : (x : SegmentTree) → StaysFaultless (segment_components x)
    stays-segment (segment descendant all) = stays-selectors all

    stays-selectors : (all : SelectorTrees) → StaysFaultless (selectors_components all)
    stays-selectors no_selectors = stays-nil
    stays-selectors (selector_then x rest) =
        stays-append (selector_components x) (selectors_components rest) (stays-selector x)
        (stays-selectors rest)

    stays-selector : (x : SelectorTree) → StaysFaultless (selector_components x)
    stays-selector (name cs) = stays-nil
    stays-selector wildcard = stays-nil
    stays-selector (index n) = stays-int n as_index
    stays-selector (slice parts) =
        stays-append (bound_components parts.start ++ bound_components parts.end) (int parts.step as_step ∷ [])
        (stays-append (bound_components parts.start) (bound_components parts.end) (stays-bound parts.start)
        (stays-bound parts.end))
        (stays-int parts.step as_step)
    stays-selector (filter e) = stays-expr e

    stays-expr : (e : ExprTree) → StaysFaultless (expr_components e)
    stays-expr (any_of es) = stays-exprs es
    stays-expr (all_of es) = stays-exprs es
    stays-expr (negation e) = stays-expr e
    stays-expr (comparison left op right) =
        stays-append (operand_components left) (operand_components right) (stays-operand left)
        (stays-operand right)
    stays-expr (exists q) =
        stays-cons (inner q as_test) (components_of q) (inner-stays q as_test refl) (stays-query q)
    stays-expr (call_test c) = stays-call c as_test refl

    stays-exprs : (es : ExprTrees) → StaysFaultless (exprs_components es)
    stays-exprs no_exprs = stays-nil
    stays-exprs (expr_then e rest) =
        stays-append (expr_components e) (exprs_components rest) (stays-expr e) (stays-exprs rest)

    stays-operand : (x : OperandTree) → StaysFaultless (operand_components x)
    stays-operand (literal l) =
        stays-cons (constant l as_side) [] (constant-stays l as_side refl) stays-nil
    stays-operand (node_value q) =
        stays-cons (inner q as_side) (components_of q) (inner-stays q as_side refl) (stays-query q)
    stays-operand (call_value c) = stays-call c as_side refl

    stays-call : (c : CallTree) (role : Use) → SameWanted role
        → StaysFaultless (called c role ∷ call_components c)
    stays-call (call cs all) role same none =
        let own = All-head (NoFault P) (called (call cs all) role)
        (call_components (call cs all)) none in
        let types = known-types cs all role own in
        stays-cons (called (call cs all) role) (call_components (call cs all))
        (called-stays cs all role types same) (stays-arguments cs types zero (count all) all) none

    stays-arguments : (cs : List ℕ) → SameTypes cs → (before in_all : ℕ) (all : ArgumentTrees)
        → StaysFaultless (arguments_components cs before in_all all)
    stays-arguments cs types before in_all no_arguments = stays-nil
    stays-arguments cs types before in_all (argument_then x rest) =
        stays-append (argument_components (as_argument cs before in_all) x)
        (arguments_components cs (suc before) in_all rest)
        (stays-argument (as_argument cs before in_all)
        (ap (λ s. slice_get (wanted_of_arguments s in_all) before) types) x)
        (stays-arguments cs types (suc before) in_all rest)

    stays-argument : (role : Use) → SameWanted role → (x : ArgumentTree)
        → StaysFaultless (argument_components role x)
    stays-argument role same (literal_argument l) =
        stays-cons (constant l role) [] (constant-stays l role same) stays-nil
    stays-argument role same (query_argument q) =
        stays-cons (inner q role) (components_of q) (inner-stays q role same) (stays-query q)
    stays-argument role same (call_argument c) = stays-call c role same
    stays-argument role same (logical_argument e) =
        stays-cons (logical e role) (expr_components e) (logical-stays e role same) (stays-expr e)

-- ---- from one profile to another

-- the numbers of whole profiles are numbers of the decimal ones
numbers-stay : (k : Numbers) (l : LiteralTree) → (HasNumberFault k l NotWhole → ⊥)
    → (HasNumberFault k l NumberRange → ⊥) → (kind : RefusalKind) → HasNumberFault k l kind → ⊥
numbers-stay WholeNumbers l whole within NotWhole h = whole h
numbers-stay WholeNumbers l whole within NumberRange h = within h
numbers-stay WholeNumbers l whole within _ h = absurd h
numbers-stay DecimalNumbers l whole within NumberRange h = within h
numbers-stay DecimalNumbers l whole within _ h = absurd h

numbers-more : (l : LiteralTree) → (HasNumberFault WholeNumbers l NotWhole → ⊥)
    → (HasNumberFault WholeNumbers l NumberRange → ⊥) → (kind : RefusalKind)
    → HasNumberFault DecimalNumbers l kind
    → ⊥
numbers-more l whole within NumberRange (inl h) = whole (None, h)
numbers-more l whole within NumberRange (inr h) = within (None, h)
numbers-more l whole within _ h = absurd h

accepted-more : (P Q : Profile) → (IsFaultlessMore P Q) → AcceptsMore P Q
accepted-more P Q stays text q h = record {
  spans = h.spans;
  spelled = h.spelled;
  faultless = stays q h.faultless;
}

pub standard-is_extended : StandardIsExtended
standard-is_extended =
    accepted-more Standard Extended
    (stays-query Standard Extended named-extended (numbers-stay WholeNumbers))

pub decimal-is_extended : DecimalIsExtended
decimal-is_extended =
    accepted-more Decimal ExtendedDecimal
    (stays-query Decimal ExtendedDecimal named-extended (numbers-stay DecimalNumbers))

pub whole-is_decimal : WholeIsDecimal
whole-is_decimal = record {
  standard = accepted-more Standard Decimal
      (stays-query Standard Decimal (λ cs. inr refl) numbers-more);
  extended = accepted-more Extended ExtendedDecimal
      (stays-query Extended ExtendedDecimal (λ cs. inr refl) numbers-more);
}
