-- Each component of a query has its own text at its span.
use Rattle.std.proofs.Common.{◌≡◌, ℕ, ◌+◌, zero, suc, pos, List, [], ◌∷◌, Option, refl, sym, ap}
use Rattle.std.proofs.Common.{◌∙◌, subst, arith, append-nil, append_assoc}
use Rattle.std.specs.Prelude.{codes}
use Rattle.jp_tree.specs.declared.tree.Numeral.{Numeral}
use Rattle.jp_tree.specs.declared.tree.Numeral.TheVariants.{Whole}
use Rattle.jp_tree.specs.declared.tree.Slice.{Slice}
use Rattle.jp_tree.specs.declared.tree.Op.{Op}
use Rattle.jp_tree.specs.declared.tree.Op.TheVariants.{Equal, Unequal, Less, LessEqual, Greater}
use Rattle.jp_tree.specs.declared.tree.Op.TheVariants.{GreaterEqual}
use Rattle.jp_query.specs.Names.{is_function_first, is_function_char, FunctionName, function_name}
use Rattle.jp_reading.specs.Texts.{Text, Spans, bytes}
use Rattle.jp_reading.specs.Forms.{Form, ◌⌢◌, word, Each, Blank, Separated, Component, Omitted}
use Rattle.jp_reading.proofs.Forms.Bare.{Bare, bare-word}
use Rattle.jp_reading.proofs.States.Between.{bytes-append}
use Rattle.jp_tree.specs.Tree.{SelectorTree, SegmentTree, QueryTree, ExprTree, ExprTrees}
use Rattle.jp_tree.specs.Tree.{OperandTree, CallTree, ArgumentTree, LiteralTree, segments}
use Rattle.jp_tree.specs.Tree.{selectors, exprs, arguments, slice, any_of, all_of, comparison}
use Rattle.jp_query.specs.Ints.{Int}
use Rattle.jp_query.specs.Laws.{SpansOfComponents}
use Rattle.jp_query.specs.Literals.{Literal, spelling}
use Rattle.jp_query.specs.Slices.{Bound, no_bound, bound, SliceStep, no_step, empty_step}
use Rattle.jp_query.specs.Slices.{given_step}
use Rattle.jp_query.specs.Slices.{Sliced}
use Rattle.jp_query.specs.Grammar.{nested_expr, nested_arguments, FunctionCall, function_call}
use Rattle.jp_query.specs.Grammar.{call_side, Test, query_test, function_test, Composed, composed}
use Rattle.jp_query.specs.Grammar.{Logical, one_part, parts_all, parts_any, Argument, literal_alone}
use Rattle.jp_query.specs.Grammar.{query_alone, call_alone, logical_expr, Arguments, without}
use Rattle.jp_query.specs.Grammar.{with_some, joined, Member, star, member, Selector, named, any}
use Rattle.jp_query.specs.Grammar.{indexed, sliced, filtered, Bracket, Segment, bracketed, dotted}
use Rattle.jp_query.specs.Grammar.{deep_bracketed, deep_dotted, Segments, InnerQuery, from_root}
use Rattle.jp_query.specs.Grammar.{from_current, Side, literal_side, query_side, Parenthesis}
use Rattle.jp_query.specs.Grammar.{Comparison, Basic, grouped, not_grouped, compared, tested}
use Rattle.jp_query.specs.Grammar.{not_tested, Conjunction, conjunction, Expression, disjunction}
use Rattle.jp_query.specs.Grammar.{Inside, SpellsFilter}
use Rattle.jp_query.specs.ComponentSpans.{AreSpansOf}
use Rattle.jp_query.specs.Components.{Use, as_index, as_bound, as_step, as_side, as_test}
use Rattle.jp_query.specs.Components.{as_argument}
use Rattle.jp_query.specs.Components.{QueryComponent, int, constant, inner, called, logical, count}
use Rattle.jp_query.specs.Components.{call_components, arguments_components, argument_components}
use Rattle.jp_query.specs.Components.{bound_components}
use Rattle.jp_query.specs.Components.{selector_components, selectors_components, segment_components}
use Rattle.jp_query.specs.Components.{segments_components}
use Rattle.jp_query.specs.Components.{components_of, expr_components, exprs_components}
use Rattle.jp_query.specs.Components.{operand_components}
use Rattle.jp_query.proofs.Spans.NoComponents.{then-bare, run-bare, quoted-bare, shorthand-bare}
use Rattle.jp_query.proofs.Spans.NoComponents.{int-bare, literal-bare}
use Rattle.jp_query.proofs.Spans.HasComponents.{Part, Placed, HasComponents, component-over}
use Rattle.jp_query.proofs.Spans.HasComponents.{component-after, Later}
use Rattle.jp_query.proofs.Spans.HasComponents.{later-word, later-blank, later-with, Sooner}
use Rattle.jp_query.proofs.Spans.HasComponents.{sooner-later, sooner-first, bare-has_components}
use Rattle.jp_query.proofs.Spans.HasComponents.{joined-has_components, after-bare, before-bare}
use Rattle.jp_query.proofs.Spans.HasComponents.{blank-bare}
use Rattle.jp_query.proofs.Spans.HasComponents.{each-has_components, separated-has_components}
use Rattle.jp_query.proofs.Spans.HasComponents.{leaf-has_components}
use Rattle.jp_query.proofs.Spans.Written.{Written, joined-written, one-written, word-written}
use Rattle.jp_query.proofs.Spans.Written.{int-written, literal-written}
use Rattle.jp_reading.specs.Characters.{ampersand, at_sign, bar, dollar, equals_sign}
use Rattle.jp_reading.specs.Characters.{exclamation_mark, greater_sign, less_sign}
use Rattle.jp_reading.specs.Characters.{opening_parenthesis}

-- ---- components

int-has_components : (n : Numeral) (use_of : Use) → HasComponents (Component (Int n)) (int n use_of ∷ [])
int-has_components n use_of = leaf-has_components (int n use_of) (int-bare n) (int-written n) (λ o t h. h)

literal-has_components : (l : LiteralTree) (use_of : Use)
    → HasComponents (Component (Literal l)) (constant l use_of ∷ [])
literal-has_components l use_of =
    leaf-has_components (constant l use_of) (literal-bare l) (literal-written l) (λ o t h. h)

-- ---- the rules that hold no expression

omitted-has_components : HasComponents Omitted (int (Whole (pos 1)) as_step ∷ [])
omitted-has_components text s o t h p = rw h.spans (record { each = (refl, tt); rise = tt; within = tt })

bound-has_components : (x : Option Numeral) → HasComponents (Bound x) (bound_components x)
bound-has_components x text s o t (no_bound e h) p = rw e (bare-has_components (bare-word []) text s o t h p)
bound-has_components x text s o t (bound i e h) p =
    rw e (before-bare (int-has_components i as_bound) blank-bare text s o t h p)

step-has_components : (x : Numeral) → HasComponents (SliceStep x) (int x as_step ∷ [])
step-has_components x text s o t (no_step e h) p = rw e (omitted-has_components text s o t h p)
step-has_components x text s o t (empty_step e h) p =
    rw e (after-bare (bare-word (codes ":")) omitted-has_components text s o t h p)
step-has_components x text s o t (given_step h) p =
    after-bare (bare-word (codes ":")) (after-bare blank-bare
    (int-has_components x as_step)) text s o t h p

slice-has_components : (y : Slice) → HasComponents (Sliced y) (selector_components (slice y))
slice-has_components y =
    let first = bound_components y.start in
    let second = bound_components y.end in
    let last = int y.step as_step ∷ [] in
    subst (HasComponents (Sliced y)) (sym (append_assoc first second last)) (joined-has_components
    (bound-has_components y.start) (after-bare (bare-word (codes ":")) (after-bare blank-bare
    (joined-has_components (bound-has_components y.end) (step-has_components y.step)))))

member-bare : (y : SelectorTree) → Bare (Member y)
member-bare y s o t (star e h) = h.none
member-bare y s o t (member cs e h) = shorthand-bare cs s o t h

member-has_components : (y : SelectorTree) → HasComponents (Member y) (selector_components y)
member-has_components y text s o t (star e h) p =
    rw e (bare-has_components (bare-word (codes "*")) text s o t h p)
member-has_components y text s o t (member cs e h) p =
    rw e (bare-has_components (member-bare y) text s o t (member cs e h) p)

-- ---- the rules over expressions n levels deep

entry_comma : Form
entry_comma = word (codes ",") ⌢ Blank

entry_comma-bare : Bare entry_comma
unfolding entry_comma
entry_comma-bare = then-bare (bare-word (codes ",")) blank-bare

-- what stands between two parts of an expression
doubled : ℕ → Form
doubled c = Blank ⌢ word (c ∷ c ∷ []) ⌢ Blank

doubled-bare : (c : ℕ) → Bare (doubled c)
unfolding doubled
doubled-bare c = then-bare blank-bare (then-bare (bare-word (c ∷ c ∷ [])) blank-bare)

-- the components of several parts are those of each in turn, of a single one its own
joined-components : (several : ExprTrees → ExprTree)
    → ((es : ExprTrees) → expr_components (several es) ≡ exprs_components es) → (es : List ExprTree)
    → expr_components (joined several es) ≡ exprs_components (exprs es)
joined-components several same [] = same (exprs [])
joined-components several same (e ∷ []) = sym (append-nil (expr_components e))
joined-components several same (e ∷ d ∷ es) = same (exprs (e ∷ d ∷ es))

-- several parts with a character twice between them
parts-have_components : (c : ℕ) (P : ExprTree → Form) → ((e : ExprTree) → HasComponents (P e) (expr_components e))
    → (es : List ExprTree) → HasComponents (Separated (doubled c) P es) (exprs_components (exprs es))
parts-have_components c P f =
    separated-has_components expr_components (λ ds. exprs_components (exprs ds)) refl (λ d ds. refl)
    (doubled-bare c) f

-- what stands between two arguments
argument_comma : Form
argument_comma = Blank ⌢ word (codes ",") ⌢ Blank

argument_comma-bare : Bare argument_comma
unfolding argument_comma
argument_comma-bare = then-bare blank-bare (then-bare (bare-word (codes ",")) blank-bare)

second-written : {P Q : Form} → Written Q → Written (P ⌢ Q)
second-written f s o t h =
    let size = ap bytes h.is ∙ bytes-append h.first h.second in
    let second = f h.second_spans (o + bytes h.first) h.second h.two in
    omega (arith, size, second)

doubled-written : (c : ℕ) → Written (doubled c)
unfolding doubled
doubled-written c = second-written (joined-written (word-written c (c ∷ [])))

operator-written : (op : Op) → Written (word (spelling op))
operator-written Equal = word-written equals_sign (codes "=")
operator-written Unequal = word-written exclamation_mark (codes "=")
operator-written Less = word-written less_sign []
operator-written LessEqual = word-written less_sign (codes "=")
operator-written Greater = word-written greater_sign []
operator-written GreaterEqual = word-written greater_sign (codes "=")

name-bare : (f : Text) → Bare (FunctionName f)
name-bare f s o t (function_name c more e h) =
    run-bare is_function_first is_function_char c more s o t h

name-written : (f : Text) → Written (FunctionName f)
name-written f s o t (function_name c more e h) =
    joined-written (one-written is_function_first c) s o t h

-- what is one level further in has the components of its tree
abbrev InnerExprs : ℕ → Type 0
InnerExprs n = (e : ExprTree) → HasComponents (Inside n (nested_expr e)) (expr_components e)

abbrev InnerArguments : ℕ → Type 0
InnerArguments n =
    (f : Text) (before in_all : ℕ) (xs : List ArgumentTree)
    → HasComponents (Inside n (nested_arguments xs)) (arguments_components f before in_all (arguments xs))

module _ (n : ℕ) (inside-has_components : InnerExprs n) (inside-has_arguments : InnerArguments n) where
  selector-has_components : (x : SelectorTree) → HasComponents (Selector (Inside n) x) (selector_components x)
  selector-has_components x text s o t (named cs e h) p =
      rw e (bare-has_components (quoted-bare cs) text s o t h p)
  selector-has_components x text s o t (any e h) p =
      rw e (bare-has_components (bare-word (codes "*")) text s o t h p)
  selector-has_components x text s o t (indexed i e h) p = rw e (int-has_components i as_index text s o t h p)
  selector-has_components x text s o t (sliced y e h) p = rw e (slice-has_components y text s o t h p)
  selector-has_components x text s o t (filtered e same h) p =
      rw same (after-bare (bare-word (codes "?"))
      (after-bare blank-bare (inside-has_components e)) text s o t h p)

  bracket-has_components : (xs : List SelectorTree)
      → HasComponents (Bracket (Inside n) xs) (selectors_components (selectors xs))
  unfolding entry_comma
  bracket-has_components xs =
      after-bare (bare-word (codes "[")) (after-bare blank-bare (before-bare
      (separated-has_components selector_components (λ ys. selectors_components (selectors ys)) refl
      (λ y ys. refl) entry_comma-bare (λ x. before-bare (selector-has_components x) blank-bare) xs)
      (bare-word (codes "]"))))

  member-segment : (y : SelectorTree) → HasComponents (Member y) (selectors_components (selectors (y ∷ [])))
  member-segment y =
      subst (HasComponents (Member y)) (sym (append-nil (selector_components y))) (member-has_components y)

  after-dot : (P : Form) (xs : List QueryComponent) → HasComponents P xs → HasComponents (word (codes ".") ⌢ P) xs
  after-dot P xs f = after-bare (bare-word (codes ".")) f

  segment-has_components : (x : SegmentTree) → HasComponents (Segment (Inside n) x) (segment_components x)
  segment-has_components x text s o t (bracketed ys e h) p = rw e (bracket-has_components ys text s o t h p)
  segment-has_components x text s o t (dotted y e h) p =
      rw e (after-dot (Member y) (selectors_components (selectors (y ∷ [])))
      (member-segment y) text s o t h p)
  segment-has_components x text s o t (deep_bracketed ys e h) p =
      let components = selectors_components (selectors ys) in
      rw e (after-dot (word (codes ".") ⌢ Bracket (Inside n) ys) components
      (after-dot (Bracket (Inside n) ys) components (bracket-has_components ys)) text s o t h p)
  segment-has_components x text s o t (deep_dotted y e h) p =
      let components = selectors_components (selectors (y ∷ [])) in
      rw e (after-dot (word (codes ".") ⌢ Member y) components
      (after-dot (Member y) components (member-segment y)) text s o t h p)

  segments-has_components : (xs : List SegmentTree)
      → HasComponents (Segments (Inside n) xs) (segments_components (segments xs))
  segments-has_components xs =
      each-has_components segment_components (λ ys. segments_components (segments ys)) refl (λ y ys. refl)
      (λ x. after-bare blank-bare (segment-has_components x)) xs

  query-has_components : (q : QueryTree) (use_of : Use)
      → HasComponents (InnerQuery (Inside n) q) (inner q use_of ∷ components_of q)
  query-has_components q use_of text s o t (from_root xs e h) p =
      subst (λ components. Placed text (inner q use_of ∷ components) s o t) (sym (ap components_of e))
      (component-after (inner q use_of)
      (bare-word (codes "$")) (word-written dollar []) (segments-has_components xs) text s o t
      (n, s, from_root xs e h) h p)
  query-has_components q use_of text s o t (from_current xs e h) p =
      subst (λ components. Placed text (inner q use_of ∷ components) s o t) (sym (ap components_of e))
      (component-after (inner q use_of)
      (bare-word (codes "@")) (word-written at_sign []) (segments-has_components xs) text s o t
      (n, s, from_current xs e h) h p)

  -- a function's name is before its arguments
  call-has_components : (c : CallTree) (use_of : Use)
      → HasComponents (FunctionCall (Inside n) c) (called c use_of ∷ call_components c)
  call-has_components c use_of text s o t (function_call f xs e h) p =
      subst (λ all. Placed text (called c use_of ∷ all) s o t) (sym (ap call_components e))
      (component-after (called c use_of) (name-bare f) (name-written f)
      (after-bare (bare-word (codes "(")) (after-bare blank-bare (before-bare
      (inside-has_arguments f zero (count (arguments xs)) xs)
      (then-bare blank-bare (bare-word (codes ")"))))))
      text s o t (n, s, function_call f xs e h) h p)

  side-has_components : (x : OperandTree) → HasComponents (Side (Inside n) x) (operand_components x)
  side-has_components x text s o t (literal_side l e h) p =
      rw e (literal-has_components l as_side text s o t h p)
  side-has_components x text s o t (query_side q e h) p = rw e (query-has_components q as_side text s o t h p)
  side-has_components x text s o t (call_side c e h) p = rw e (call-has_components c as_side text s o t h p)

  parenthesis-has_components : (e : ExprTree) → HasComponents (Parenthesis (Inside n) e) (expr_components e)
  parenthesis-has_components e =
      after-bare (bare-word (codes "(")) (after-bare blank-bare (before-bare (inside-has_components e)
      (then-bare blank-bare (bare-word (codes ")")))))

  comparison-has_components : (left right : OperandTree) (op : Op)
      → HasComponents (Comparison (Inside n) left op right) (expr_components (comparison left op right))
  comparison-has_components left right op =
      joined-has_components (side-has_components left) (after-bare blank-bare
      (after-bare (bare-word (spelling op)) (after-bare blank-bare (side-has_components right))))

  after-not : (P : Form) (xs : List QueryComponent) → HasComponents P xs
      → HasComponents (word (codes "!") ⌢ Blank ⌢ P) xs
  after-not P xs f = after-bare (bare-word (codes "!")) (after-bare blank-bare f)

  test-has_components : (e : ExprTree) → HasComponents (Test (Inside n) e) (expr_components e)
  test-has_components e text s o t (query_test q same h) p =
      rw same (query-has_components q as_test text s o t h p)
  test-has_components e text s o t (function_test c same h) p =
      rw same (call-has_components c as_test text s o t h p)

  composed-has_components : (e : ExprTree) → HasComponents (Composed (Inside n) e) (expr_components e)
  composed-has_components e text s o t (grouped h) p = parenthesis-has_components e text s o t h p
  composed-has_components e text s o t (not_grouped part same h) p =
      rw same (after-not (Parenthesis (Inside n) part) (expr_components part)
      (parenthesis-has_components part) text s o t h p)
  composed-has_components e text s o t (compared left right op same h) p =
      rw same (comparison-has_components left right op text s o t h p)
  composed-has_components e text s o t (not_tested part same h) p =
      rw same
      (after-not (Test (Inside n) part) (expr_components part) (test-has_components part) text s o t h p)

  basic-has_components : (e : ExprTree) → HasComponents (Basic (Inside n) e) (expr_components e)
  basic-has_components e text s o t (composed h) p = composed-has_components e text s o t h p
  basic-has_components e text s o t (tested h) p = test-has_components e text s o t h p

  conjunction-has_components : (e : ExprTree) → HasComponents (Conjunction (Inside n) e) (expr_components e)
  unfolding doubled
  conjunction-has_components e text s o t (conjunction es same h) p =
      rw (same, joined-components all_of (λ all. refl) es)
      (parts-have_components ampersand (Basic (Inside n)) basic-has_components es text s o t h p)

  expression-has_components : (e : ExprTree) → HasComponents (Expression (Inside n) e) (expr_components e)
  unfolding doubled
  expression-has_components e text s o t (disjunction es same h) p =
      rw (same, joined-components any_of (λ all. refl) es)
      (parts-have_components bar (Conjunction (Inside n)) conjunction-has_components es text s o t h p)

  -- ---- arguments

  -- what is in a logical expression comes after the expression itself
  parenthesis-later : (e : ExprTree) → Later (Parenthesis (Inside n) e)
  parenthesis-later e =
      later-word (bare-word (codes "(")) (word-written opening_parenthesis [])
      (after-bare blank-bare (before-bare (inside-has_components e)
      (then-bare blank-bare (bare-word (codes ")")))))

  not-later : (P : Form) (xs : List QueryComponent) → HasComponents P xs
      → Later (word (codes "!") ⌢ Blank ⌢ P)
  not-later P xs f =
      later-word (bare-word (codes "!")) (word-written exclamation_mark [])
      (after-bare blank-bare f)

  -- an operator, and the side after it
  compared-later : (op : Op) (right : OperandTree)
      → Later (Blank ⌢ word (spelling op) ⌢ Blank ⌢ Side (Inside n) right)
  compared-later op right =
      later-blank (later-word (bare-word (spelling op)) (operator-written op)
      (after-bare blank-bare (side-has_components right)))

  composed-sooner : (e : ExprTree) → Sooner (Composed (Inside n) e)
  composed-sooner e text s o t (grouped h) p = sooner-later (parenthesis-later e) text s o t h p
  composed-sooner e text s o t (not_grouped part same h) p =
      sooner-later
      (not-later (Parenthesis (Inside n) part) (expr_components part) (parenthesis-has_components part)) text
      s o t h p
  composed-sooner e text s o t (compared left right op same h) p =
      sooner-first (side-has_components left) (compared-later op right) text s o t h p
  composed-sooner e text s o t (not_tested part same h) p =
      sooner-later
      (not-later (Test (Inside n) part) (expr_components part) (test-has_components part)) text s o t h p

  -- several parts with a character twice between them come after the whole as well
  several-sooner : (c : ℕ) (P : ExprTree → Form) → ((e : ExprTree) → HasComponents (P e) (expr_components e))
      → (x y : ExprTree) (es : List ExprTree) → Sooner (Separated (doubled c) P (x ∷ y ∷ es))
  several-sooner c P f x y es =
      let others = λ (zs : List ExprTree). exprs_components (exprs zs) in
      sooner-first (f x) (later-with (later-word (doubled-bare c) (doubled-written c) (f y))
      (each-has_components expr_components others refl (λ d ds. refl)
      (λ z. after-bare (doubled-bare c) (f z)) es))

  logical-sooner : (e : ExprTree) → Sooner (Logical (Inside n) e)
  unfolding doubled
  logical-sooner e text s o t (one_part h) p = composed-sooner e text s o t h p
  logical-sooner e text s o t (parts_all x y es same h) p =
      several-sooner ampersand (Basic (Inside n)) basic-has_components x y es text s o t h p
  logical-sooner e text s o t (parts_any x y es same h) p =
      several-sooner bar (Conjunction (Inside n)) conjunction-has_components x y es text s o t h p

  logical-inside : (e : ExprTree) → HasComponents (Logical (Inside n) e) (expr_components e)
  unfolding doubled
  logical-inside e text s o t (one_part h) p = composed-has_components e text s o t h p
  logical-inside e text s o t (parts_all x y es same h) p =
      rw same (parts-have_components ampersand (Basic (Inside n)) basic-has_components
      (x ∷ y ∷ es) text s o t h p)
  logical-inside e text s o t (parts_any x y es same h) p =
      rw same (parts-have_components bar (Conjunction (Inside n)) conjunction-has_components
      (x ∷ y ∷ es) text s o t h p)

  logical-has_components : (e : ExprTree) (use_of : Use)
      → HasComponents (Component (Logical (Inside n) e)) (logical e use_of ∷ expr_components e)
  logical-has_components e use_of text s o t h p =
      let body = logical-inside e text h.inside o t h.is p in
      let own = logical-sooner e text h.inside o t h.is p in
      rw h.spans
      (component-over text (logical e use_of) (expr_components e) h.inside o t p (n, h.inside, h.is) own.0
      body.each body.rise own.1 body.within)

  argument-has_components : (use_of : Use) (x : ArgumentTree)
      → HasComponents (Argument (Inside n) x) (argument_components use_of x)
  argument-has_components use_of x text s o t (literal_alone l e h) p =
      rw e (literal-has_components l use_of text s o t h p)
  argument-has_components use_of x text s o t (query_alone q e h) p =
      rw e (query-has_components q use_of text s o t h p)
  argument-has_components use_of x text s o t (call_alone c e h) p =
      rw e (call-has_components c use_of text s o t h p)
  argument-has_components use_of x text s o t (logical_expr e same h) p =
      rw same (logical-has_components e use_of text s o t h p)

  -- the arguments after the first, each with how many come before it
  others-have_components : (f : Text) (before in_all : ℕ) (xs : List ArgumentTree)
      → HasComponents (Each (λ x. argument_comma ⌢ Argument (Inside n) x) xs)
      (arguments_components f before in_all (arguments xs))
  others-have_components f before in_all [] = bare-has_components (bare-word [])
  others-have_components f before in_all (x ∷ xs) =
      let use_of = as_argument f before in_all in
      joined-has_components (after-bare argument_comma-bare (argument-has_components use_of x))
      (others-have_components f (suc before) in_all xs)

  arguments-have_components : (f : Text) (before in_all : ℕ) (xs : List ArgumentTree)
      → HasComponents (Arguments (Inside n) xs) (arguments_components f before in_all (arguments xs))
  unfolding argument_comma
  arguments-have_components f before in_all xs text s o t (without e h) p =
      rw e (bare-has_components (bare-word []) text s o t h p)
  arguments-have_components f before in_all [] text s o t (with_some h) p = absurd h
  arguments-have_components f before in_all (x ∷ xs) text s o t (with_some h) p =
      let use_of = as_argument f before in_all in
      joined-has_components
      (argument-has_components use_of x) (others-have_components f (suc before) in_all xs) text s o t h p

mutual
  levels-have_components : (n : ℕ) → InnerExprs n
  levels-have_components zero e = λ text s o t h p. absurd h
  levels-have_components (suc n) e =
      expression-has_components n (levels-have_components n) (levels-have_arguments n) e

  levels-have_arguments : (n : ℕ) → InnerArguments n
  levels-have_arguments zero f before in_all xs = λ text s o t h p. absurd h
  levels-have_arguments (suc n) f before in_all xs =
      arguments-have_components n (levels-have_components n) (levels-have_arguments n) f before in_all xs

-- the whole of a text
whole-part : (text : Text) → Part text 0 text
whole-part text = record { before = []; after = []; is = sym (append-nil text); at = refl }

-- the spans of a text that spells a query are those of its components
pub spans-of_components : SpansOfComponents
spans-of_components n q s text h =
    let placed = after-bare (bare-word (codes "$"))
    (segments-has_components n (levels-have_components n) (levels-have_arguments n) h.parts)
    text s 0 text h.is (whole-part text) in
    rw h.tree (record { each = placed.each; rise = placed.rise })

-- and of one that spells a filter's expression, those of its components
pub filter-spans : (n : ℕ) (e : ExprTree) (s : Spans) (text : Text) → SpellsFilter n e s text
    → AreSpansOf text (expr_components e) s
filter-spans n e s text h =
    let placed = after-bare blank-bare (before-bare
    (expression-has_components n (levels-have_components n) (levels-have_arguments n) e) blank-bare)
    text s 0 text h (whole-part text) in
    record { each = placed.each; rise = placed.rise }
