-- The rules of the grammar over canonical texts: what some text spells, its canonical text spells.
use Rattle.std.proofs.Common.{◌≡◌, ℕ, ◌+◌, Bool, true, false, List, []}
use Rattle.std.proofs.Common.{◌∷◌, ◌++◌, map, refl, sym, ap, subst, codes}
use Rattle.jp_reading.specs.Forms.{Blank, Form, Separated, word, ◌⌢◌}
use Rattle.jp_reading.specs.Texts.{Spans, Text, bytes}
use Rattle.jp_tree.specs.declared.tree.Op.{Op}
use Rattle.jp_query.specs.Grammar.{Argument, Arguments, Basic, Bracket, Comparison, Composed}
use Rattle.jp_query.specs.Grammar.{Conjunction, Expression, FunctionCall, InnerQuery, Level}
use Rattle.jp_query.specs.Grammar.{Logical, Nested, Segment, Segments, Selector, Side, Test}
use Rattle.jp_query.specs.Grammar.{any, bracketed, call_alone, call_side, compared, composed}
use Rattle.jp_query.specs.Grammar.{conjunction, deep_bracketed, deep_dotted, disjunction}
use Rattle.jp_query.specs.Grammar.{dotted, filtered, from_current, from_root, function_call}
use Rattle.jp_query.specs.Grammar.{function_test, grouped as in_parentheses, indexed, joined}
use Rattle.jp_query.specs.Grammar.{literal_alone, literal_side, logical_expr, named}
use Rattle.jp_query.specs.Grammar.{nested_arguments, nested_expr, not_grouped, not_tested}
use Rattle.jp_query.specs.Grammar.{one_part, parts_all, parts_any, query_alone, query_side}
use Rattle.jp_query.specs.Grammar.{query_test, sliced, tested, with_some, without}
use Rattle.jp_query.specs.Literals.{spelling}
use Rattle.jp_tree.specs.Tree.{ArgumentTree, CallTree, ExprTree, OperandTree, QueryTree}
use Rattle.jp_tree.specs.Tree.{SegmentTree, SelectorTree, all_of, any_of, arguments}
use Rattle.jp_tree.specs.Tree.{call_test, comparison, exists, exprs, negation, segments}
use Rattle.jp_canon.specs.Canon.{argument_text, argument_texts, call_text}
use Rattle.jp_canon.specs.Canon.{canon_of, expr_text, operand_text, segment_text}
use Rattle.jp_canon.specs.Canon.{segments_text, selector_text, separated}
use Rattle.jp_canon.specs.Precedence.{and_precedence, is_grouped, is_test, or_precedence}
use Rattle.jp_canon.proofs.Forms.{Has, after-blank, before-blank, both, has-as, has-equal_tree}
use Rattle.jp_canon.proofs.Forms.{has-component}
use Rattle.jp_canon.proofs.Forms.{has-same, has-separated, has-word, separated-gives}
use Rattle.jp_canon.proofs.Bracketed.{Comma, HasSelector, bracket-of}
use Rattle.jp_canon.proofs.Bracketed.{bracket_text, dotted-bracket, two-dots}
use Rattle.jp_canon.proofs.Spells.FunctionNames.{has-function_name}
use Rattle.jp_canon.proofs.Spells.Grouping.{And, Known, Or, Own, OwnLevel, Ready, and-part}
use Rattle.jp_canon.proofs.Spells.Grouping.{logical-part, negated-call, negated-query, nested_text}
use Rattle.jp_canon.proofs.Spells.Grouping.{not-part, or-part, part_text, part_texts-map, several}
use Rattle.jp_canon.proofs.Spells.Literals.{literal-text, sliced-text}
use Rattle.jp_canon.proofs.Names.{has-quoted}
use Rattle.jp_canon.proofs.Numbers.{int}

argument_texts-map : (xs : List ArgumentTree)
    → argument_texts (arguments xs) ≡ map argument_text xs
argument_texts-map [] = refl
argument_texts-map (x ∷ xs) = ap (λ ts. argument_text x ∷ ts) (argument_texts-map xs)

-- whether an expression is a composed one only with parentheses around it: all but a comparison and
-- a `!` are
abbrev is_enclosed : ExprTree → Bool
is_enclosed (any_of es) = true
is_enclosed (all_of es) = true
is_enclosed (negation e) = false
is_enclosed (comparison left op right) = false
is_enclosed (exists q) = true
is_enclosed (call_test c) = true

grouped-enclosed : (e : ExprTree) → is_grouped and_precedence e ≡ true → is_enclosed e ≡ true
grouped-enclosed (any_of es) is = refl
grouped-enclosed (all_of es) is = refl
grouped-enclosed (negation e) is = absurd (cc)
grouped-enclosed (comparison left op right) is = absurd (cc)
grouped-enclosed (exists q) is = refl
grouped-enclosed (call_test c) is = refl

test-enclosed : (e : ExprTree) → is_test e ≡ true → is_enclosed e ≡ true
test-enclosed (any_of es) is = refl
test-enclosed (all_of es) is = refl
test-enclosed (negation e) is = absurd (cc)
test-enclosed (comparison left op right) is = absurd (cc)
test-enclosed (exists q) is = refl
test-enclosed (call_test c) is = refl

-- ---- each rule, where what stands one level further in is known

module _ (I K : Nested → Form)
    (known : (x : Nested) (s : Spans) (o : ℕ) (t : Text) → I x s o t → Known K x) where
  selector : (x : SelectorTree) (s : Spans) (o : ℕ) (t : Text) → Selector I x s o t
      → Has (Selector K x) (selector_text x)
  selector x s o t (named cs is h) = has-equal_tree (Selector K) selector_text is
      (has-as (λ r p. named cs refl) (has-quoted cs))
  selector x s o t (any is h) = has-equal_tree (Selector K) selector_text is
      (has-as (λ r p. any refl) (has-word _))
  selector x s o t (indexed i is h) =
      has-equal_tree (Selector K) selector_text is
      (has-as (λ r p. indexed i refl) (has-component (int i h.inside o t h.is)))
  selector x s o t (sliced y is h) =
      has-equal_tree (Selector K) selector_text is
      (has-as (λ r p. sliced y refl) (sliced-text y s o t h))
  selector x s o t (filtered e is h) =
      has-equal_tree (Selector K) selector_text is
      (has-as (λ r p. filtered e refl)
      (both (has-word (codes "?")) (after-blank (known (nested_expr e) _ _ _ h.two.two).inside)))

  -- ---- segments

  bracket : (ys : List SelectorTree) (s : Spans) (o : ℕ) (t : Text) → Bracket I ys s o t
      → Has (Bracket K ys) (codes "[" ++ bracket_text ys)
  bracket [] s o t h = elim h.two.two.one [ ]
  bracket (y ∷ ys) s o t h =
      bracket-of K y ys
      (separated-gives Comma (λ z. Selector I z ⌢ Blank) (HasSelector K)
      (λ z r p u k. before-blank (selector z _ _ _ k.one)) (y ∷ ys) _ _ _ h.two.two.one)

  segment-text : (x : SegmentTree) (s : Spans) (o : ℕ) (t : Text) → Segment I x s o t
      → Has (Segment K x) (segment_text x)
  segment-text x s o t (bracketed ys is h) =
      has-equal_tree (Segment K) segment_text is
      (has-as (λ r p. bracketed ys refl) (bracket ys s o t h))
  segment-text x s o t (dotted y is h) =
      has-equal_tree (Segment K) segment_text is
      (has-as (λ r p. bracketed (y ∷ []) refl) (dotted-bracket K y _ _ _ h.two))
  segment-text x s o t (deep_bracketed ys is h) =
      has-equal_tree (Segment K) segment_text is
      (has-as (λ r p. deep_bracketed ys refl) (two-dots (bracket ys _ _ _ h.two.two)))
  segment-text x s o t (deep_dotted y is h) =
      has-equal_tree (Segment K) segment_text is
      (has-as (λ r p. deep_bracketed (y ∷ []) refl) (two-dots (dotted-bracket K y _ _ _ h.two.two)))

  pub segments-text : (xs : List SegmentTree) (s : Spans) (o : ℕ) (t : Text) → Segments I xs s o t
      → Has (Segments K xs) (segments_text (segments xs))
  segments-text [] s o t h = has-word []
  segments-text (x ∷ xs) s o t h =
      both (after-blank (segment-text x _ _ _ h.one.two))
      (segments-text xs h.second_spans (o + bytes h.first) h.second h.two)

  -- ---- queries and function expressions

  inner : (q : QueryTree) (s : Spans) (o : ℕ) (t : Text) → InnerQuery I q s o t
      → Has (InnerQuery K q) (canon_of q)
  inner q s o t (from_root xs is h) =
      has-equal_tree (InnerQuery K) canon_of is
      (has-as (λ r p. from_root xs refl)
      (has-component (both (has-word (codes "$")) (segments-text xs _ _ _ h.is.two))))
  inner q s o t (from_current xs is h) =
      has-equal_tree (InnerQuery K) canon_of is
      (has-as (λ r p. from_current xs refl)
      (has-component (both (has-word (codes "@")) (segments-text xs _ _ _ h.is.two))))

  call-text : (c : CallTree) (s : Spans) (o : ℕ) (t : Text) → FunctionCall I c s o t
      → Has (FunctionCall K c) (call_text c)
  call-text c s o t (function_call name xs is h) =
      has-equal_tree (FunctionCall K) call_text is
      (has-as (λ r p. function_call name xs refl)
      (has-component
      (both (has-function_name name _ _ _ h.is.one)
      (both (has-word (codes "("))
      (after-blank
      (both (known (nested_arguments xs) _ _ _ h.is.two.two.two.one).inside
      (after-blank (has-word (codes ")")))))))))

  -- ---- expressions

  side : (x : OperandTree) (s : Spans) (o : ℕ) (t : Text) → Side I x s o t
      → Has (Side K x) (operand_text x)
  side x s o t (literal_side l is h) =
      has-equal_tree (Side K) operand_text is
      (has-as (λ r p. literal_side l refl) (has-component (literal-text l h.inside o t h.is)))
  side x s o t (query_side q is h) =
      has-equal_tree (Side K) operand_text is
      (has-as (λ r p. query_side q refl) (inner q s o t h))
  side x s o t (call_side c is h) =
      has-equal_tree (Side K) operand_text is
      (has-as (λ r p. call_side c refl) (call-text c s o t h))

  comparison-text : (left right : OperandTree) (op : Op) (s : Spans) (o : ℕ) (t : Text)
      → Comparison I left op right s o t
      → Has (Composed K (comparison left op right)) (expr_text (comparison left op right))
  comparison-text left right op s o t h =
      has-as (λ r p. compared left right op refl)
      (both (side left _ _ _ h.one)
      (after-blank
      (both (has-word (spelling op)) (after-blank (side right _ _ _ h.two.two.two.two)))))

  not-test : (e : ExprTree) (s : Spans) (o : ℕ) (t : Text) → Test I e s o t
      → Has (Composed K (negation e)) (expr_text (negation e))
  not-test e s o t (query_test q is h) =
      subst (λ x. Has (Composed K (negation x)) (expr_text (negation x))) (sym is)
      (negated-query K q (inner q s o t h))
  not-test e s o t (function_test c is h) =
      subst (λ x. Has (Composed K (negation x)) (expr_text (negation x))) (sym is)
      (negated-call K c (call-text c s o t h))

  composed-text : (e : ExprTree) (s : Spans) (o : ℕ) (t : Text) → Composed I e s o t
      → Ready K is_enclosed e
  composed-text e s o t (in_parentheses h) =
      let k = known (nested_expr e) _ _ _ h.two.two.one in
      record { own = k.own; inside = λ is. k.inside }
  composed-text e s o t (not_grouped part is h) =
      subst (Ready K is_enclosed) (sym is)
      (record {
        own = not-part K part (known (nested_expr part) _ _ _ h.two.two.two.two.one);
        inside = λ no. absurd (cc);
      })
  composed-text e s o t (compared left right op is h) =
      subst (Ready K is_enclosed) (sym is)
      (record { own = comparison-text left right op s o t h; inside = λ no. absurd (cc) })
  composed-text e s o t (not_tested part is h) =
      subst (Ready K is_enclosed) (sym is)
      (record { own = not-test part _ _ _ h.two.two; inside = λ no. absurd (cc) })

  test-text : (e : ExprTree) (s : Spans) (o : ℕ) (t : Text) → Test I e s o t
      → Ready K (is_grouped and_precedence) e
  test-text e s o t (query_test q is h) =
      subst (Ready K (is_grouped and_precedence)) (sym is)
      (record { own = inner q s o t h; inside = λ no. absurd (cc) })
  test-text e s o t (function_test c is h) =
      subst (Ready K (is_grouped and_precedence)) (sym is)
      (record { own = call-text c s o t h; inside = λ no. absurd (cc) })

  basic : (e : ExprTree) (s : Spans) (o : ℕ) (t : Text) → Basic I e s o t
      → Ready K (is_grouped and_precedence) e
  basic e s o t (composed h) =
      let ready = composed-text e s o t h in
      record { own = ready.own; inside = λ is. ready.inside (grouped-enclosed e is) }
  basic e s o t (tested h) = test-text e s o t h

  -- in `||` no other parts stand in parentheses than in `&&`
  looser : (e : ExprTree) → is_grouped or_precedence e ≡ true → is_grouped and_precedence e ≡ true
  looser (any_of es) is = refl
  looser (all_of es) is = refl
  looser (negation e) is = is
  looser (comparison left op right) is = is
  looser (exists q) is = is
  looser (call_test c) is = is

  several-and : (e f : ExprTree) (es : List ExprTree) (s : Spans) (o : ℕ) (t : Text)
      → Separated And (Basic I) (e ∷ f ∷ es) s o t
      → Has (Own K (all_of (exprs (e ∷ f ∷ es)))) (expr_text (all_of (exprs (e ∷ f ∷ es))))
  several-and e f es s o t h =
      has-as (λ r p. several e f es refl)
      (has-same (ap (separated (codes "&&")) (sym (part_texts-map and_precedence (e ∷ f ∷ es))))
      (has-separated And (codes "&&") (Basic K) (part_text and_precedence)
      (after-blank (before-blank (has-word (codes "&&")))) e (f ∷ es)
      (separated-gives And (Basic I) (λ x. Has (Basic K x) (part_text and_precedence x))
      (λ x r p u k. and-part K x (basic x r p u k)) (e ∷ f ∷ es) s o t h)))

  and-parts : (es : List ExprTree) (s : Spans) (o : ℕ) (t : Text)
      → Separated And (Basic I) es s o t → Ready K (is_grouped or_precedence) (joined all_of es)
  and-parts [] s o t h = elim h [ ]
  and-parts (e ∷ []) s o t h =
      let ready = basic e _ _ _ h.one in
      record { own = ready.own; inside = λ is. ready.inside (looser e is) }
  and-parts (e ∷ f ∷ es) s o t h =
      record { own = several-and e f es s o t h; inside = λ no. absurd (cc) }

  conjunction-text : (e : ExprTree) (s : Spans) (o : ℕ) (t : Text) → Conjunction I e s o t
      → Ready K (is_grouped or_precedence) e
  conjunction-text e s o t (conjunction es is h) =
      subst (Ready K (is_grouped or_precedence)) (sym is) (and-parts es s o t h)

  several-or : (e f : ExprTree) (es : List ExprTree) (s : Spans) (o : ℕ) (t : Text)
      → Separated Or (Conjunction I) (e ∷ f ∷ es) s o t
      → Has (Own K (any_of (exprs (e ∷ f ∷ es)))) (expr_text (any_of (exprs (e ∷ f ∷ es))))
  several-or e f es s o t h =
      has-as (λ r p. several e f es refl)
      (has-same (ap (separated (codes "||")) (sym (part_texts-map or_precedence (e ∷ f ∷ es))))
      (has-separated Or (codes "||") (Conjunction K) (part_text or_precedence)
      (after-blank (before-blank (has-word (codes "||")))) e (f ∷ es)
      (separated-gives Or (Conjunction I)
      (λ x. Has (Conjunction K x) (part_text or_precedence x))
      (λ x r p u k. or-part K x (conjunction-text x r p u k)) (e ∷ f ∷ es) s o t h)))

  or-parts : (es : List ExprTree) (s : Spans) (o : ℕ) (t : Text)
      → Separated Or (Conjunction I) es s o t
      → Has (Own K (joined any_of es)) (expr_text (joined any_of es))
  or-parts [] s o t h = elim h [ ]
  or-parts (e ∷ []) s o t h = (conjunction-text e _ _ _ h.one).own
  or-parts (e ∷ f ∷ es) s o t h = several-or e f es s o t h

  -- the canonical text of what some text spells as an expression, as it stands without parentheses
  -- around it
  expression-text : (e : ExprTree) (s : Spans) (o : ℕ) (t : Text) → Expression I e s o t
      → Has (Own K e) (expr_text e)
  expression-text e s o t (disjunction es is h) = has-equal_tree (Own K) expr_text is
      (or-parts es s o t h)

  -- ---- arguments

  logical-text : (e : ExprTree) (s : Spans) (o : ℕ) (t : Text) → Logical I e s o t
      → Ready K is_test e
  logical-text e s o t (one_part h) =
      let ready = composed-text e s o t h in
      record { own = ready.own; inside = λ is. ready.inside (test-enclosed e is) }
  logical-text e s o t (parts_all x y es is h) =
      subst (Ready K is_test) (sym is)
      (record { own = several-and x y es s o t h; inside = λ no. absurd (cc) })
  logical-text e s o t (parts_any x y es is h) =
      subst (Ready K is_test) (sym is)
      (record { own = several-or x y es s o t h; inside = λ no. absurd (cc) })

  argument : (x : ArgumentTree) (s : Spans) (o : ℕ) (t : Text) → Argument I x s o t
      → Has (Argument K x) (argument_text x)
  argument x s o t (literal_alone l is h) =
      has-equal_tree (Argument K) argument_text is
      (has-as (λ r p. literal_alone l refl) (has-component (literal-text l h.inside o t h.is)))
  argument x s o t (query_alone q is h) =
      has-equal_tree (Argument K) argument_text is
      (has-as (λ r p. query_alone q refl) (inner q s o t h))
  argument x s o t (call_alone c is h) =
      has-equal_tree (Argument K) argument_text is
      (has-as (λ r p. call_alone c refl) (call-text c s o t h))
  argument x s o t (logical_expr e is h) =
      has-equal_tree (Argument K) argument_text is
      (has-as (λ r p. logical_expr e refl)
      (has-component (logical-part K e (logical-text e h.inside o t h.is))))

  several-arguments : (xs : List ArgumentTree) (s : Spans) (o : ℕ) (t : Text)
      → Separated (Blank ⌢ word (codes ",") ⌢ Blank) (Argument I) xs s o t
      → Has (Arguments K xs) (nested_text (nested_arguments xs))
  several-arguments [] s o t h = elim h [ ]
  several-arguments (x ∷ xs) s o t h =
      let between = Blank ⌢ word (codes ",") ⌢ Blank in
      has-as (λ r p. with_some)
      (has-same (ap (separated (codes ",")) (sym (argument_texts-map (x ∷ xs))))
      (has-separated between (codes ",") (Argument K) argument_text
      (after-blank (before-blank (has-word (codes ",")))) x xs
      (separated-gives between (Argument I) (λ y. Has (Argument K y) (argument_text y)) argument
      (x ∷ xs) s o t h)))

  arguments-text : (xs : List ArgumentTree) (s : Spans) (o : ℕ) (t : Text) → Arguments I xs s o t
      → Has (Arguments K xs) (nested_text (nested_arguments xs))
  arguments-text xs s o t (without is h) =
      subst (λ ys. Has (Arguments K ys) (nested_text (nested_arguments ys))) (sym is)
      (has-as (λ r p. without refl) (has-word []))
  arguments-text xs s o t (with_some h) = several-arguments xs s o t h

  -- ---- what is at a level

  pub level-text : (x : Nested) (s : Spans) (o : ℕ) (t : Text) → Level I x s o t
      → Has (OwnLevel K x) (nested_text x)
  level-text (nested_expr e) s o t h = expression-text e s o t h
  level-text (nested_arguments xs) s o t h = arguments-text xs s o t h
