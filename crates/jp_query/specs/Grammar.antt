-- Which text spells which tree of a query, and where its components stand in it (RFC 9535 appendix A).
-- A filter, a parenthesis and the arguments of a function are a level each; at most n levels stand
-- inside one another.
use Rattle.std.specs.Prelude.{◌≡◌, ℕ, zero, suc, true, false, List, [], ◌∷◌, codes}
use Rattle.jp_tree.specs.declared.tree.Numeral.{Numeral}
use Rattle.jp_tree.specs.declared.tree.Slice.{Slice}
use Rattle.jp_tree.specs.declared.tree.Op.{Op}
use Rattle.jp_reading.specs.Texts.{Text, Spans}
use Rattle.jp_reading.specs.Forms.{Form, word, ◌⌢◌, Blank, Each, Separated, Component, Never}
use Rattle.jp_tree.specs.Tree.{SelectorTree, name, wildcard, index, slice, filter, SegmentTree}
use Rattle.jp_tree.specs.Tree.{segment, QueryTree, query, ExprTree, ExprTrees, any_of, all_of}
use Rattle.jp_tree.specs.Tree.{negation, comparison, exists, call_test, OperandTree, literal}
use Rattle.jp_tree.specs.Tree.{node_value, call_value, CallTree, call, ArgumentTree}
use Rattle.jp_tree.specs.Tree.{literal_argument, query_argument, call_argument, logical_argument}
use Rattle.jp_tree.specs.Tree.{LiteralTree, selectors, segments, exprs, arguments}
use Rattle.jp_query.specs.Names.{Shorthand, FunctionName}
use Rattle.jp_query.specs.Strings.{Quoted}
use Rattle.jp_query.specs.Ints.{Int}
use Rattle.jp_query.specs.Slices.{Sliced}
use Rattle.jp_query.specs.Literals.{Literal, spelling}

-- wildcard-selector or member-name-shorthand (section 2.5.1.1), after a dot or two
pub data Member (y : SelectorTree) (s : Spans) (o : ℕ) (t : Text) : Type 0 where
  star : y ≡ wildcard → word (codes "*") s o t → Member y s o t
  member : (cs : Text) → y ≡ name cs → Shorthand cs s o t → Member y s o t

-- several parts are one expression; a single one is itself
abbrev pub joined : (ExprTrees → ExprTree) → List ExprTree → ExprTree
joined several (e ∷ []) = e
joined several es = several (exprs es)

-- what is one level further in: an expression, or the arguments of a function
pub data Nested : Type 0 where
  nested_expr : ExprTree → Nested
  nested_arguments : List ArgumentTree → Nested

-- the rules, where Inner is the form of what is one level further in
module _ (Inner : Nested → Form) where
  -- selector (section 2.3): a name between quotation marks, `*`, an index, which is a component, a
  -- slice, or `?` and an expression (section 2.3.5.1)
  pub data Selector (x : SelectorTree) (s : Spans) (o : ℕ) (t : Text) : Type 0 where
    named : (cs : Text) → x ≡ name cs → Quoted cs s o t → Selector x s o t
    any : x ≡ wildcard → word (codes "*") s o t → Selector x s o t
    indexed : (i : Numeral) → x ≡ index i → Component (Int i) s o t → Selector x s o t
    sliced : (y : Slice) → x ≡ slice y → Sliced y s o t → Selector x s o t
    filtered : (e : ExprTree) → x ≡ filter e
        → (word (codes "?") ⌢ Blank ⌢ Inner (nested_expr e)) s o t → Selector x s o t

  -- bracketed-selection (section 2.5.1.1): selectors between brackets, with commas between them;
  -- blank space may stand around each
  abbrev pub Bracket : List SelectorTree → Form
  Bracket ys =
      word (codes "[") ⌢ Blank ⌢ Separated (word (codes ",") ⌢ Blank) (λ y. Selector y ⌢ Blank) ys
      ⌢ word (codes "]")

  -- child-segment (section 2.5.1.1), and descendant-segment (section 2.5.2.1) with its two dots
  pub data Segment (x : SegmentTree) (s : Spans) (o : ℕ) (t : Text) : Type 0 where
    bracketed : (ys : List SelectorTree) → x ≡ segment false (selectors ys) → Bracket ys s o t
        → Segment x s o t
    dotted : (y : SelectorTree) → x ≡ segment false (selectors (y ∷ []))
        → (word (codes ".") ⌢ Member y) s o t → Segment x s o t
    deep_bracketed : (ys : List SelectorTree) → x ≡ segment true (selectors ys)
        → (word (codes ".") ⌢ word (codes ".") ⌢ Bracket ys) s o t → Segment x s o t
    deep_dotted : (y : SelectorTree) → x ≡ segment true (selectors (y ∷ []))
        → (word (codes ".") ⌢ word (codes ".") ⌢ Member y) s o t → Segment x s o t

  -- segments (section 2.1.1): blank space may stand before each
  abbrev pub Segments : List SegmentTree → Form
  Segments = Each (λ x. Blank ⌢ Segment x)

  -- filter-query (section 2.3.5.1), a component: from the root, or from the current node
  pub data InnerQuery (q : QueryTree) (s : Spans) (o : ℕ) (t : Text) : Type 0 where
    from_root : (xs : List SegmentTree) → q ≡ query true (segments xs)
        → Component (word (codes "$") ⌢ Segments xs) s o t → InnerQuery q s o t
    from_current : (xs : List SegmentTree) → q ≡ query false (segments xs)
        → Component (word (codes "@") ⌢ Segments xs) s o t → InnerQuery q s o t

  -- function-expr (section 2.4), a component: a name and, after it, arguments in parentheses
  pub data FunctionCall (x : CallTree) (s : Spans) (o : ℕ) (t : Text) : Type 0 where
    function_call : (name : Text) (xs : List ArgumentTree) → x ≡ call name (arguments xs)
        → Component (FunctionName name ⌢ word (codes "(") ⌢ Blank ⌢ Inner (nested_arguments xs)
        ⌢ Blank ⌢ word (codes ")")) s o t
        → FunctionCall x s o t

  -- comparable (section 2.3.5.1): a literal, which is a component, a query, or a function. That a query
  -- is singular, and that a function answers a value, is no rule of spelling here.
  pub data Side (x : OperandTree) (s : Spans) (o : ℕ) (t : Text) : Type 0 where
    literal_side : (l : LiteralTree) → x ≡ literal l → Component (Literal l) s o t → Side x s o t
    query_side : (q : QueryTree) → x ≡ node_value q → InnerQuery q s o t → Side x s o t
    call_side : (c : CallTree) → x ≡ call_value c → FunctionCall c s o t → Side x s o t

  -- paren-expr (section 2.3.5.1), without its `!`
  abbrev pub Parenthesis : ExprTree → Form
  Parenthesis e = word (codes "(") ⌢ Blank ⌢ Inner (nested_expr e) ⌢ Blank ⌢ word (codes ")")

  -- comparison-expr (section 2.3.5.1): two sides and an operator between them
  abbrev pub Comparison : OperandTree → Op → OperandTree → Form
  Comparison left op right = Side left ⌢ Blank ⌢ word (spelling op) ⌢ Blank ⌢ Side right

  -- test-expr (section 2.3.5.1), without its `!`: a query, or a function
  pub data Test (e : ExprTree) (s : Spans) (o : ℕ) (t : Text) : Type 0 where
    query_test : (q : QueryTree) → e ≡ exists q → InnerQuery q s o t → Test e s o t
    function_test : (c : CallTree) → e ≡ call_test c → FunctionCall c s o t → Test e s o t

  -- basic-expr (section 2.3.5.1) that is no test without a `!`: an expression in parentheses, which
  -- may have a `!`, a comparison, or a test with a `!`
  pub data Composed (e : ExprTree) (s : Spans) (o : ℕ) (t : Text) : Type 0 where
    grouped : Parenthesis e s o t → Composed e s o t
    not_grouped : (inner : ExprTree) → e ≡ negation inner
        → (word (codes "!") ⌢ Blank ⌢ Parenthesis inner) s o t → Composed e s o t
    compared : (left right : OperandTree) (op : Op) → e ≡ comparison left op right
        → Comparison left op right s o t → Composed e s o t
    not_tested : (inner : ExprTree) → e ≡ negation inner
        → (word (codes "!") ⌢ Blank ⌢ Test inner) s o t → Composed e s o t

  -- basic-expr (section 2.3.5.1)
  pub data Basic (e : ExprTree) (s : Spans) (o : ℕ) (t : Text) : Type 0 where
    composed : Composed e s o t → Basic e s o t
    tested : Test e s o t → Basic e s o t

  -- several basic expressions with `&&` between them
  abbrev pub Conjoined : List ExprTree → Form
  Conjoined = Separated (Blank ⌢ word (codes "&&") ⌢ Blank) Basic

  -- logical-and-expr (section 2.3.5.1): basic expressions with `&&` between them
  pub data Conjunction (e : ExprTree) (s : Spans) (o : ℕ) (t : Text) : Type 0 where
    conjunction : (es : List ExprTree) → e ≡ joined all_of es → Conjoined es s o t
        → Conjunction e s o t

  -- conjunctions with `||` between them
  abbrev pub Disjoined : List ExprTree → Form
  Disjoined = Separated (Blank ⌢ word (codes "||") ⌢ Blank) Conjunction

  -- logical-or-expr (section 2.3.5.1): conjunctions with `||` between them
  pub data Expression (e : ExprTree) (s : Spans) (o : ℕ) (t : Text) : Type 0 where
    disjunction : (es : List ExprTree) → e ≡ joined any_of es → Disjoined es s o t
        → Expression e s o t

  -- logical-expr as an argument (section 2.4): more than a test without a `!`
  pub data Logical (e : ExprTree) (s : Spans) (o : ℕ) (t : Text) : Type 0 where
    one_part : Composed e s o t → Logical e s o t
    parts_all : (x y : ExprTree) (es : List ExprTree) → e ≡ all_of (exprs (x ∷ y ∷ es))
        → Conjoined (x ∷ y ∷ es) s o t → Logical e s o t
    parts_any : (x y : ExprTree) (es : List ExprTree) → e ≡ any_of (exprs (x ∷ y ∷ es))
        → Disjoined (x ∷ y ∷ es) s o t → Logical e s o t

  -- function-argument (section 2.4): a literal, a query or a function that is all of it, or else a
  -- logical expression, which is a component
  pub data Argument (x : ArgumentTree) (s : Spans) (o : ℕ) (t : Text) : Type 0 where
    literal_alone : (l : LiteralTree) → x ≡ literal_argument l → Component (Literal l) s o t
        → Argument x s o t
    query_alone : (q : QueryTree) → x ≡ query_argument q → InnerQuery q s o t → Argument x s o t
    call_alone : (c : CallTree) → x ≡ call_argument c → FunctionCall c s o t → Argument x s o t
    logical_expr : (e : ExprTree) → x ≡ logical_argument e → Component (Logical e) s o t
        → Argument x s o t

  -- the arguments of a function (section 2.4), if it has any, with commas between them
  pub data Arguments (xs : List ArgumentTree) (s : Spans) (o : ℕ) (t : Text) : Type 0 where
    without : xs ≡ [] → word [] s o t → Arguments xs s o t
    with_some : Separated (Blank ⌢ word (codes ",") ⌢ Blank) Argument xs s o t → Arguments xs s o t

  -- what is at this level
  abbrev pub Level : Nested → Form
  Level (nested_expr e) = Expression e
  Level (nested_arguments xs) = Arguments xs

-- what is a level further in, where at most n - 1 levels stand inside one another; with n zero
-- there is nothing
abbrev pub Inside : ℕ → Nested → Form
Inside zero x = Never
Inside (suc n) x = Level (Inside n) x

-- the expression of a filter alone (section 2.3.5.1): the text spells the expression e, with spans s
-- for its components; blank space may stand around it, as in a query
abbrev pub SpellsFilter : ℕ → ExprTree → Spans → Text → Type 0
SpellsFilter n e s text = (Blank ⌢ Expression (Inside n) e ⌢ Blank) s 0 text

-- jsonpath-query (section 2.1.1): the text spells the tree q, with spans s for its components
pub record Spells (n : ℕ) (q : QueryTree) (s : Spans) (text : Text) : Type 0 where
  pub parts : List SegmentTree
  pub tree : q ≡ query true (segments parts)
  pub is : (word (codes "$") ⌢ Segments (Inside n) parts) s 0 text
