-- The definitions at work.
use Rattle.std.proofs.Common.{◌≡◌, inl, inr, true, false, ℕ, pos, negsuc}
use Rattle.std.proofs.Common.{List, [], ◌∷◌, Some, None, codes, refl, arith}
use Rattle.jp_query.specs.Components.{int, constant, inner, called, logical, as_index}
use Rattle.jp_query.specs.Components.{as_side, as_test, as_argument, components_of}
use Rattle.jp_query.specs.declared.refusal.RefusalKind.TheVariants.{NotWhole, NumberRange}
use Rattle.jp_query.specs.declared.refusal.RefusalKind.TheVariants.{IndexRange, UnknownFunction}
use Rattle.jp_query.specs.declared.refusal.RefusalKind.TheVariants.{ArgumentCount, NotSingular}
use Rattle.jp_query.specs.declared.refusal.RefusalKind.TheVariants.{IllTyped}
use Rattle.jp_decimal.specs.declared.number.Decimal.{Decimal as HeldDecimal}
use Rattle.jp_decimal.specs.declared.number.Number.TheVariants.{Decimal as AsDecimal}
use Rattle.jp_tree.specs.declared.tree.Numeral.{Numeral}
use Rattle.jp_tree.specs.declared.tree.Numeral.TheVariants.{Whole, Beyond, Fraction}
use Rattle.jp_tree.specs.declared.tree.Op.TheVariants.{Equal}
use Rattle.jp_tree.specs.Tree.{SelectorTree, name, wildcard, index, filter, segment, QueryTree}
use Rattle.jp_tree.specs.Tree.{query, ExprTree, all_of, comparison, literal, node_value, number}
use Rattle.jp_tree.specs.Tree.{text, CallTree, call, call_test, call_value, ArgumentTree}
use Rattle.jp_tree.specs.Tree.{literal_argument, query_argument, call_argument, arguments}
use Rattle.jp_tree.specs.Tree.{selectors, segments, exprs}
use Rattle.jp_check.specs.declared.functions.DataType.TheVariants.{Nodes, Value}
use Rattle.jp_check.specs.declared.profile.Profile.TheVariants.{Standard, Extended, Decimal}
use Rattle.jp_check.specs.declared.profile.Profile.TheVariants.{ExtendedDecimal}
use Rattle.jp_check.specs.Faults.{HasFault}
use Rattle.jp_check.specs.First.{IsComponentFault, IsNoLater, IsFirstFault}
use Rattle.jp_check.specs.Functions.{signature_named}
use Rattle.jp_check.specs.Ranges.{is_in_index_range}
use Rattle.jp_check.proofs.Least.{found-fault}

-- ---- the range of indexes

row-greatest : is_in_index_range (Whole (pos 9007199254740991)) ≡ true
row-greatest = refl

row-above : is_in_index_range (Whole (pos 9007199254740992)) ≡ false
row-above = refl

-- -9007199254740991
row-least : is_in_index_range (Whole (negsuc 9007199254740990)) ≡ true
row-least = refl

-- -9007199254740992
row-below : is_in_index_range (Whole (negsuc 9007199254740991)) ≡ false
row-below = refl

row-beyond : HasFault Standard (int (Beyond None) as_index) IndexRange
row-beyond = refl

row-zero : HasFault Standard (int (Whole (pos 0)) as_index) IndexRange → ⊥
row-zero h = cc

-- ---- the order of faults: by place, then by number

row-place : IsNoLater (record { kind = IndexRange; place = 2 })
    (record { kind = NotWhole; place = 3 })
row-place = inl (omega arith)

row-number : IsNoLater (record { kind = NotWhole; place = 3 })
    (record { kind = IndexRange; place = 3 })
row-number = inr (refl, omega arith)

row-later : IsNoLater (record { kind = NotWhole; place = 3 })
    (record { kind = IndexRange; place = 2 }) → ⊥
row-later (inl h) = absurd (omega arith)
row-later (inr h) = absurd (omega (arith, h.0))

-- ---- `$[0][9007199254740992]`: its one fault stands at 5

row-fault : IsComponentFault Standard
    (int (Whole (pos 0)) as_index ∷ int (Whole (pos 9007199254740992)) as_index ∷ [])
    (Some (record { start = 2; end = 3 }) ∷ Some (record { start = 5; end = 21 }) ∷ [])
    (record { kind = IndexRange; place = 5 })
row-fault = record {
  component = int (Whole (pos 9007199254740992)) as_index;
  span = record { start = 5; end = 21 };
  among = (1, omega arith, refl);
  kind = refl;
  place = refl;
}

-- ---- literals

-- 0.1, and 18446744073709551616
abbrev a_tenth : HeldDecimal
a_tenth = record { coefficient = pos 1; exponent = negsuc 0 }

abbrev tenth : Numeral
tenth = Fraction (Some (AsDecimal a_tenth))

abbrev next_whole : HeldDecimal
next_whole = record { coefficient = pos 18446744073709551616; exponent = pos 0 }

abbrev beyond : Numeral
beyond = Beyond (Some next_whole)

row-fraction : HasFault Standard (constant (number tenth) as_side) NotWhole
row-fraction = (Some (AsDecimal a_tenth), refl)

row-fraction-alone : HasFault Standard (constant (number tenth) as_side) NumberRange → ⊥
row-fraction-alone h = cc (h.1)

row-beyond-literal : HasFault Standard (constant (number beyond) as_side) NumberRange
row-beyond-literal = (Some next_whole, refl)

-- where numbers are decimals, both may be literals, and what can't be held may not
row-decimal-fraction : HasFault Decimal (constant (number tenth) as_side) NotWhole → ⊥
row-decimal-fraction h = h

row-decimal-held : HasFault Decimal (constant (number tenth) as_side) NumberRange → ⊥
row-decimal-held (inl h) = cc
row-decimal-held (inr h) = cc

row-decimal-beyond : HasFault Decimal (constant (number beyond) as_side) NumberRange → ⊥
row-decimal-beyond (inl h) = cc
row-decimal-beyond (inr h) = cc

row-decimal-digits : HasFault Decimal (constant (number (Beyond None)) as_side) NumberRange
row-decimal-digits = inr refl

row-decimal-exponent : HasFault Decimal (constant (number (Fraction None)) as_side) NumberRange
row-decimal-exponent = inl refl

-- 18446744073709551615 may be a literal, and is no index
row-greatest-literal : HasFault Standard
    (constant (number (Whole (pos 18446744073709551615))) as_side) NumberRange → ⊥
row-greatest-literal h = cc

row-greatest-index : HasFault Standard (int (Whole (pos 18446744073709551615)) as_index) IndexRange
row-greatest-index = refl

-- ---- queries inside others

-- `@` and one segment of these selectors
at_current : List SelectorTree → QueryTree
at_current xs = query false (segments (segment false (selectors xs) ∷ []))

-- `@`
row-current : HasFault Standard (inner (query false (segments [])) as_side) NotSingular → ⊥
row-current h = cc (h.1)

-- `@.a`
row-single : HasFault Standard (inner (at_current (name (codes "a") ∷ [])) as_side) NotSingular → ⊥
unfolding at_current
row-single h = cc (h.1)

-- `@.*`
row-wildcard : HasFault Standard (inner (at_current (wildcard ∷ [])) as_side) NotSingular
unfolding at_current
row-wildcard = (refl, refl)

-- `@.*` as a test
row-test : HasFault Standard (inner (at_current (wildcard ∷ [])) as_test) NotSingular → ⊥
row-test h = cc (h.0)

-- `@[0,1]`
row-several : HasFault Standard
    (inner (at_current (index (Whole (pos 0)) ∷ index (Whole (pos 1)) ∷ [])) as_side) NotSingular
unfolding at_current
row-several = (refl, refl)

-- `@..a`
row-descendant : HasFault Standard
    (inner (query false
    (segments (segment true (selectors (name (codes "a") ∷ [])) ∷ []))) as_side) NotSingular
row-descendant = (refl, refl)

-- ---- functions

row-length : signature_named Standard (codes "length")
    ≡ Some (record { parameters = Value ∷ []; result = Value })
row-length = refl

row-unknown : signature_named Standard (codes "foo") ≡ None
row-unknown = refl

-- `length(@.*)`
row-value-several : HasFault Standard
    (inner (at_current (wildcard ∷ [])) (as_argument (codes "length") 0 1)) NotSingular
unfolding at_current
row-value-several = (refl, refl)

-- `count(@.*)`
row-nodes-several : HasFault Standard
    (inner (at_current (wildcard ∷ [])) (as_argument (codes "count") 0 1)) NotSingular → ⊥
row-nodes-several h = cc (h.0)

-- `count(1)`
row-literal-nodes : HasFault Standard
    (constant (number (Whole (pos 1))) (as_argument (codes "count") 0 1)) IllTyped
row-literal-nodes = refl

-- `length(@.a==1)`
row-logical-value : HasFault Standard
    (logical
    (comparison (node_value (at_current (name (codes "a") ∷ []))) Equal
    (literal (number (Whole (pos 1))))) (as_argument (codes "length") 0 1))
    IllTyped
row-logical-value = refl

-- a call of that function with those arguments
calling : List ℕ → List ArgumentTree → CallTree
calling function xs = call function (arguments xs)

-- `value(@..color)` as a test, and as a side
row-value-tested : HasFault Standard
    (called (calling (codes "value") (query_argument (at_current []) ∷ [])) as_test) IllTyped
unfolding calling
row-value-tested = refl

row-value-compared : HasFault Standard
    (called (calling (codes "value") (query_argument (at_current []) ∷ [])) as_side) IllTyped → ⊥
unfolding calling
row-value-compared h = cc h

-- `match('a','b')` as a side
row-match-compared : HasFault Standard
    (called
    (calling (codes "match")
    (literal_argument (text (codes "a")) ∷ literal_argument (text (codes "b")) ∷ [])) as_side)
    IllTyped
unfolding calling
row-match-compared = refl

-- `length()`
row-without : HasFault Standard (called (calling (codes "length") []) as_test) ArgumentCount
unfolding calling
row-without = refl

-- an argument too many, which is held against no parameter
row-beyond-last : HasFault Standard
    (constant (number (Whole (pos 1))) (as_argument (codes "count") 1 2)) IllTyped → ⊥
row-beyond-last h = h

-- ---- first faults of filters

-- `$[?` the expression `]`
filter_query : ExprTree → QueryTree
filter_query e = query true (segments (segment false (selectors (filter e ∷ [])) ∷ []))

-- `$[?@.*==1.0]`: of two faults the query's stands first, at 3
row-query-first : IsFirstFault Standard
    (components_of
    (filter_query
    (comparison (node_value (at_current (wildcard ∷ []))) Equal
    (literal (number tenth)))))
    (Some (record { start = 3; end = 6 }) ∷ Some (record { start = 8; end = 11 }) ∷ [])
    (record { kind = NotSingular; place = 3 })
unfolding at_current filter_query
row-query-first = found-fault Standard _ _ (record { kind = NotSingular; place = 3 }) refl

-- `$[?@.a==1.0&&@.*==2]`: of two faults the literal's stands first, at 8
row-literal-first : IsFirstFault Standard
    (components_of (filter_query (all_of (exprs (
    comparison (node_value (at_current (name (codes "a") ∷ []))) Equal (literal (number tenth))
    ∷ comparison (node_value (at_current (wildcard ∷ []))) Equal (literal (number (Whole (pos 2))))
    ∷ [])))))
    (Some (record { start = 3; end = 6 }) ∷ Some (record { start = 8; end = 11 }) ∷ Some
    (record { start = 13; end = 16 }) ∷ Some (record { start = 18; end = 19 }) ∷ [])
    (record { kind = NotWhole; place = 8 })
unfolding at_current filter_query
row-literal-first = found-fault Standard _ _ (record { kind = NotWhole; place = 8 }) refl

-- `$[?foo(1.5)]`: of two faults the call's stands first, at 3
row-call-first : IsFirstFault Standard
    (components_of
    (filter_query (call_test (calling (codes "foo") (literal_argument (number tenth) ∷ [])))))
    (Some (record { start = 3; end = 11 }) ∷ Some (record { start = 7; end = 10 }) ∷ [])
    (record { kind = UnknownFunction; place = 3 })
unfolding calling filter_query
row-call-first = found-fault Standard _ _ (record { kind = UnknownFunction; place = 3 }) refl

-- ---- `distinct`

row-distinct : signature_named Extended (codes "distinct")
    ≡ Some (record { parameters = Nodes ∷ []; result = Nodes })
row-distinct = refl

row-distinct-decimal : signature_named ExtendedDecimal (codes "distinct")
    ≡ signature_named Extended (codes "distinct")
row-distinct-decimal = refl

row-distinct-standard : signature_named Standard (codes "distinct") ≡ None
row-distinct-standard = refl

row-length-extended : signature_named Extended (codes "length")
    ≡ signature_named Standard (codes "length")
row-length-extended = refl

-- a call of `distinct` with these arguments
distinct_of : List ArgumentTree → CallTree
distinct_of xs = call (codes "distinct") (arguments xs)

-- `distinct(@)` as a test, as a side, and as the argument of `count`, of `length` and of `match`
row-distinct-tested : HasFault Extended
    (called (distinct_of (query_argument (at_current []) ∷ [])) as_test) IllTyped → ⊥
unfolding distinct_of
row-distinct-tested h = cc h

row-distinct-compared : HasFault Extended
    (called (distinct_of (query_argument (at_current []) ∷ [])) as_side) IllTyped
unfolding distinct_of
row-distinct-compared = refl

row-distinct-counted : HasFault Extended
    (called (distinct_of (query_argument (at_current []) ∷ []))
    (as_argument (codes "count") 0 1)) IllTyped → ⊥
unfolding distinct_of
row-distinct-counted h = cc h

row-distinct-measured : HasFault Extended
    (called (distinct_of (query_argument (at_current []) ∷ []))
    (as_argument (codes "length") 0 1)) IllTyped
unfolding distinct_of
row-distinct-measured = refl

row-distinct-matched : HasFault Extended
    (called (distinct_of (query_argument (at_current []) ∷ []))
    (as_argument (codes "match") 0 2)) IllTyped
unfolding distinct_of
row-distinct-matched = refl

-- `distinct(@)` in `Standard`
row-distinct-unknown : HasFault Standard
    (called (distinct_of (query_argument (at_current []) ∷ [])) as_test) UnknownFunction
unfolding distinct_of
row-distinct-unknown = tt

-- `distinct()`
row-distinct-without : HasFault Extended (called (distinct_of []) as_test) ArgumentCount
unfolding distinct_of
row-distinct-without = refl

-- `1`, `value(@)` and `distinct(@)` as the argument of `distinct`
row-literal-distinct : HasFault Extended
    (constant (number (Whole (pos 1))) (as_argument (codes "distinct") 0 1)) IllTyped
row-literal-distinct = refl

row-value-distinct : HasFault Extended
    (called (calling (codes "value") (query_argument (at_current []) ∷ []))
    (as_argument (codes "distinct") 0 1)) IllTyped
unfolding calling
row-value-distinct = refl

row-distinct-twice : HasFault Extended
    (called (distinct_of (query_argument (at_current []) ∷ []))
    (as_argument (codes "distinct") 0 1)) IllTyped → ⊥
unfolding distinct_of
row-distinct-twice h = cc h

-- `$[?count(distinct(foo(1)))==1]`: its one fault in `Extended` stands at 18, the first in
-- `Standard` at 9
nested_unknown : QueryTree
nested_unknown =
    filter_query
    (comparison (call_value (calling (codes "count") (call_argument
    (distinct_of (call_argument (calling (codes "foo") (literal_argument (number (Whole (pos 1)))
    ∷ [])) ∷ [])) ∷ []))) Equal (literal (number (Whole (pos 1)))))

row-unknown-extended : IsFirstFault Extended (components_of nested_unknown)
    (Some (record { start = 3; end = 26 }) ∷ Some (record { start = 9; end = 25 })
    ∷ Some (record { start = 18; end = 24 }) ∷ Some (record { start = 22; end = 23 })
    ∷ Some (record { start = 28; end = 29 }) ∷ [])
    (record { kind = UnknownFunction; place = 18 })
unfolding calling distinct_of filter_query nested_unknown
row-unknown-extended =
    found-fault Extended _ _ (record { kind = UnknownFunction; place = 18 }) refl

row-unknown-standard : IsFirstFault Standard (components_of nested_unknown)
    (Some (record { start = 3; end = 26 }) ∷ Some (record { start = 9; end = 25 })
    ∷ Some (record { start = 18; end = 24 }) ∷ Some (record { start = 22; end = 23 })
    ∷ Some (record { start = 28; end = 29 }) ∷ [])
    (record { kind = UnknownFunction; place = 9 })
unfolding calling distinct_of filter_query nested_unknown
row-unknown-standard =
    found-fault Standard _ _ (record { kind = UnknownFunction; place = 9 }) refl
