-- Expressions with parentheses around them and without.
use Rattle.std.proofs.Common.{◌≡◌, ℕ, Bool, true, List, [], ◌∷◌, ◌++◌, map, refl, ap, codes}
use Rattle.jp_reading.specs.Forms.{Blank, Form, Separated, word, ◌⌢◌}
use Rattle.jp_reading.specs.Texts.{Spans, Text}
use Rattle.jp_query.specs.Grammar.{Arguments, Basic, Composed, Conjunction, Expression}
use Rattle.jp_query.specs.Grammar.{FunctionCall, InnerQuery, Level, Logical, Nested}
use Rattle.jp_query.specs.Grammar.{Parenthesis, Test, composed, conjunction, disjunction}
use Rattle.jp_query.specs.Grammar.{function_test, grouped as in_parentheses}
use Rattle.jp_query.specs.Grammar.{nested_arguments, nested_expr, not_grouped, not_tested}
use Rattle.jp_query.specs.Grammar.{one_part, parts_all, parts_any, query_test, tested}
use Rattle.jp_tree.specs.Tree.{CallTree, ExprTree, ExprTrees, QueryTree, all_of, any_of}
use Rattle.jp_tree.specs.Tree.{arguments, call_test, comparison, exists, exprs, negation}
use Rattle.jp_canon.specs.Canon.{argument_texts, call_text, canon_of}
use Rattle.jp_canon.specs.Canon.{expr_text, part_texts, separated}
use Rattle.jp_canon.specs.Precedence.{and_precedence, grouped, is_grouped, is_test, or_precedence}
use Rattle.jp_canon.proofs.Forms.{Has, after-blank, both, has-alone, has-as, has-word}

-- the text of a part of an expression of this precedence
abbrev pub part_text : ℕ → ExprTree → Text
part_text outer e = grouped (is_grouped outer e) (expr_text e)

pub part_texts-map : (outer : ℕ) (es : List ExprTree) → part_texts outer (exprs es) ≡ map
    (part_text outer) es
part_texts-map outer [] = refl
part_texts-map outer (e ∷ es) = ap (λ ts. part_text outer e ∷ ts) (part_texts-map outer es)

-- the separators between parts
abbrev pub And : Form
And = Blank ⌢ word (codes "&&") ⌢ Blank

abbrev pub Or : Form
Or = Blank ⌢ word (codes "||") ⌢ Blank

-- two parts or more with a separator between them
pub data Several (separator : Form) (Part : ExprTree → Form) (es : ExprTrees) (s : Spans) (o : ℕ)
    (t : Text) : Type 0 where
  several : (x y : ExprTree) (rest : List ExprTree) → es ≡ exprs (x ∷ y ∷ rest)
      → Separated separator Part (x ∷ y ∷ rest) s o t → Several separator Part es s o t

-- the form of an expression without parentheses around it
abbrev pub Own : (Nested → Form) → ExprTree → Form
Own K (any_of es) = Several Or (Conjunction K) es
Own K (all_of es) = Several And (Basic K) es
Own K (negation e) = Composed K (negation e)
Own K (comparison left op right) = Composed K (comparison left op right)
Own K (exists q) = InnerQuery K q
Own K (call_test c) = FunctionCall K c

-- an expression whose canonical text stands as it is, and one level further in where it has to
-- stand in parentheses
pub record Ready (K : Nested → Form) (in_need : ExprTree → Bool) (e : ExprTree) : Type 0 where
  pub own : Has (Own K e) (expr_text e)
  pub inside : in_need e ≡ true → Has (K (nested_expr e)) (expr_text e)

-- what is one level further in, as it stands at its own level
abbrev pub OwnLevel : (Nested → Form) → Nested → Form
OwnLevel K (nested_expr e) = Own K e
OwnLevel K (nested_arguments xs) = Arguments K xs

abbrev pub nested_text : Nested → Text
nested_text (nested_expr e) = expr_text e
nested_text (nested_arguments xs) = separated (codes ",") (argument_texts (arguments xs))

-- what has a canonical text that stands in both ways
pub record Known (K : Nested → Form) (x : Nested) : Type 0 where
  pub own : Has (OwnLevel K x) (nested_text x)
  pub inside : Has (K x) (nested_text x)

module _ (K : Nested → Form) where
  any-whole : (es : ExprTrees) (s : Spans) (o : ℕ) (t : Text) → Own K (any_of es) s o t
      → Expression K (any_of es) s o t
  any-whole es s o t (several x y rest is h) = disjunction (x ∷ y ∷ rest) (ap any_of is) h

  all-conjoined : (es : ExprTrees) (s : Spans) (o : ℕ) (t : Text) → Own K (all_of es) s o t
      → Conjunction K (all_of es) s o t
  all-conjoined es s o t (several x y rest is h) = conjunction (x ∷ y ∷ rest) (ap all_of is) h

  any-logical : (es : ExprTrees) (s : Spans) (o : ℕ) (t : Text) → Own K (any_of es) s o t
      → Logical K (any_of es) s o t
  any-logical es s o t (several x y rest is h) = parts_any x y rest (ap any_of is) h

  all-logical : (es : ExprTrees) (s : Spans) (o : ℕ) (t : Text) → Own K (all_of es) s o t
      → Logical K (all_of es) s o t
  all-logical es s o t (several x y rest is h) = parts_all x y rest (ap all_of is) h

  single : (e : ExprTree) (t : Text) → Has (Basic K e) t → Has (Conjunction K e) t
  single e t h = has-as (λ s o. conjunction (e ∷ []) refl) (has-alone And (Basic K) e t h)

  alone : (e : ExprTree) (t : Text) → Has (Conjunction K e) t → Has (Expression K e) t
  alone e t h = has-as (λ s o. disjunction (e ∷ []) refl) (has-alone Or (Conjunction K) e t h)

  conjoined : (es : ExprTrees) (t : Text) → Has (Own K (all_of es)) t
      → Has (Conjunction K (all_of es)) t
  conjoined es t h = has-as (λ s o. all-conjoined es s o t) h

  as-part : (e : ExprTree) (t : Text) → Has (Composed K e) t → Has (Basic K e) t
  as-part e t h = has-as (λ s o. composed) h

  -- tests
  query-tested : (q : QueryTree) (t : Text) → Has (InnerQuery K q) t → Has (Test K (exists q)) t
  query-tested q t h = has-as (λ s o. query_test q refl) h

  call-tested : (c : CallTree) (t : Text) → Has (FunctionCall K c) t → Has (Test K (call_test c)) t
  call-tested c t h = has-as (λ s o. function_test c refl) h

  as-test : (e : ExprTree) (t : Text) → Has (Test K e) t → Has (Basic K e) t
  as-test e t h = has-as (λ s o. tested) h

  -- an expression that stands as it is is an expression
  expression : (e : ExprTree) (t : Text) → Has (Own K e) t → Has (Expression K e) t
  expression (any_of es) t h = has-as (λ s o. any-whole es s o t) h
  expression (all_of es) t h = alone (all_of es) t (conjoined es t h)
  expression (negation e) t h = alone (negation e) t
      (single (negation e) t (as-part (negation e) t h))
  expression (comparison left op right) t h =
      alone (comparison left op right) t
      (single (comparison left op right) t (as-part (comparison left op right) t h))
  expression (exists q) t h = alone (exists q) t
      (single (exists q) t (as-test (exists q) t (query-tested q t h)))
  expression (call_test c) t h = alone (call_test c) t
      (single (call_test c) t (as-test (call_test c) t (call-tested c t h)))

  parenthesis : (e : ExprTree) (t : Text) → Has (K (nested_expr e)) t
      → Has (Parenthesis K e) (codes "(" ++ (t ++ codes ")"))
  parenthesis e t h = both (has-word (codes "("))
      (after-blank (both h (after-blank (has-word (codes ")")))))

  grouped-part : (e : ExprTree) → Has (K (nested_expr e)) (expr_text e)
      → Has (Composed K e) (codes "(" ++ (expr_text e ++ codes ")"))
  grouped-part e h = has-as (λ s o. in_parentheses) (parenthesis e (expr_text e) h)

  -- a part of an expression with `&&`, with `||`, or after `!`
  pub and-part : (e : ExprTree) → Ready K (is_grouped and_precedence) e
      → Has (Basic K e) (part_text and_precedence e)
  and-part (any_of es) h = as-part (any_of es) _ (grouped-part (any_of es) (h.inside refl))
  and-part (all_of es) h = as-part (all_of es) _ (grouped-part (all_of es) (h.inside refl))
  and-part (negation e) h = as-part (negation e) _ h.own
  and-part (comparison left op right) h = as-part (comparison left op right) _ h.own
  and-part (exists q) h = as-test (exists q) _ (query-tested q _ h.own)
  and-part (call_test c) h = as-test (call_test c) _ (call-tested c _ h.own)

  pub or-part : (e : ExprTree) → Ready K (is_grouped or_precedence) e
      → Has (Conjunction K e) (part_text or_precedence e)
  or-part (any_of es) h = single (any_of es) _
      (as-part (any_of es) _ (grouped-part (any_of es) (h.inside refl)))
  or-part (all_of es) h = conjoined es _ h.own
  or-part (negation e) h = single (negation e) _ (as-part (negation e) _ h.own)
  or-part (comparison left op right) h =
      single (comparison left op right) _ (as-part (comparison left op right) _ h.own)
  or-part (exists q) h = single (exists q) _ (as-test (exists q) _ (query-tested q _ h.own))
  or-part (call_test c) h = single (call_test c) _
      (as-test (call_test c) _ (call-tested c _ h.own))

  negated : (e : ExprTree) → Has (K (nested_expr e)) (expr_text e)
      → Has (Composed K (negation e)) (codes "!" ++ (codes "(" ++ (expr_text e ++ codes ")")))
  negated e h = has-as (λ s o. not_grouped e refl)
      (both (has-word (codes "!")) (after-blank (parenthesis e (expr_text e) h)))

  negated-test : (e : ExprTree) (t : Text) → Has (Test K e) t
      → Has (Composed K (negation e)) (codes "!" ++ t)
  negated-test e t h = has-as (λ s o. not_tested e refl)
      (both (has-word (codes "!")) (after-blank h))

  pub negated-query : (q : QueryTree) → Has (InnerQuery K q) (canon_of q)
      → Has (Composed K (negation (exists q))) (codes "!" ++ canon_of q)
  negated-query q h = negated-test (exists q) (canon_of q) (query-tested q (canon_of q) h)

  pub negated-call : (c : CallTree) → Has (FunctionCall K c) (call_text c)
      → Has (Composed K (negation (call_test c))) (codes "!" ++ call_text c)
  negated-call c h = negated-test (call_test c) (call_text c) (call-tested c (call_text c) h)

  pub not-part : (e : ExprTree) → Known K (nested_expr e)
      → Has (Composed K (negation e)) (expr_text (negation e))
  not-part (any_of es) h = negated (any_of es) h.inside
  not-part (all_of es) h = negated (all_of es) h.inside
  not-part (negation e) h = negated (negation e) h.inside
  not-part (comparison left op right) h = negated (comparison left op right) h.inside
  not-part (exists q) h = negated-query q h.own
  not-part (call_test c) h = negated-call c h.own

  -- a logical expression as an argument
  pub logical-part : (e : ExprTree) → Ready K is_test e
      → Has (Logical K e) (grouped (is_test e) (expr_text e))
  logical-part (any_of es) h = has-as (λ s o. any-logical es s o (expr_text (any_of es))) h.own
  logical-part (all_of es) h = has-as (λ s o. all-logical es s o (expr_text (all_of es))) h.own
  logical-part (negation e) h = has-as (λ s o. one_part) h.own
  logical-part (comparison left op right) h = has-as (λ s o. one_part) h.own
  logical-part (exists q) h = has-as (λ s o. one_part)
      (grouped-part (exists q) (h.inside refl))
  logical-part (call_test c) h = has-as (λ s o. one_part)
      (grouped-part (call_test c) (h.inside refl))

-- ---- at a level

-- what stands at its own level has the form of that level
pub whole : (K : Nested → Form) (x : Nested) → Has (OwnLevel K x) (nested_text x)
    → Has (Level K x) (nested_text x)
whole K (nested_expr e) h = expression K e (expr_text e) h
whole K (nested_arguments xs) h = h
