-- The rules of logical expressions take exactly the texts that the grammar says.
use Rattle.std.proofs.Common.{◌≡◌, ℕ, [], ◌∷◌, refl}
use Rattle.std.specs.Prelude.{codes}
use Rattle.jp_reading.specs.Texts.{Text, Spans}
use Rattle.jp_reading.specs.Forms.{Form, ◌⌢◌, word, Blank, Component, Never}
use Rattle.jp_reading.proofs.States.Between.{Within}
use Rattle.jp_reading.proofs.Forms.Levels.{Only, Then, Made}
use Rattle.jp_reading.proofs.Forms.Same.{Same, same, back, ways, ◌⨾◌, after, joined, either, made}
use Rattle.jp_reading.proofs.Forms.Same.{then}
use Rattle.jp_reading.proofs.Forms.Same.{component, words, assoc, after-either, either-assoc}
use Rattle.jp_reading.proofs.Forms.Same.{either-flip}
use Rattle.jp_reading.proofs.Forms.Same.{either-swap, or-never, after-made, after-only, after-value}
use Rattle.jp_reading.proofs.Forms.Same.{made-either, made-made, made-same, then-only, then-value}
use Rattle.jp_reading.proofs.Forms.Same.{then-made, then-either, component-either, component-made}
use Rattle.jp_reading.proofs.Forms.Same.{separated}
use Rattle.jp_reading.proofs.Rules.Form.{Either, left, right, form}
use Rattle.jp_tree.specs.declared.tree.Op.{Op}
use Rattle.jp_reading.specs.Characters.{ampersand, bar, opening_parenthesis}
use Rattle.jp_tree.specs.Tree.{QueryTree, ExprTree, negation, comparison, exists, call_test}
use Rattle.jp_tree.specs.Tree.{OperandTree, literal, node_value, call_value, CallTree, LiteralTree}
use Rattle.jp_tree.specs.Tree.{text, number as number_literal}
use Rattle.jp_query.specs.Strings.{Quoted}
use Rattle.jp_query.specs.Literals.{Literal, of_number, of_text, of_true, of_false, of_null, Number}
use Rattle.jp_query.specs.Grammar.{Nested, InnerQuery, FunctionCall, function_call, Side}
use Rattle.jp_query.specs.Grammar.{literal_side, query_side, call_side, Parenthesis, Comparison}
use Rattle.jp_query.specs.Grammar.{Test, query_test, function_test, Composed, grouped, not_grouped}
use Rattle.jp_query.specs.Grammar.{compared, not_tested, Basic, composed, tested, Conjunction}
use Rattle.jp_query.specs.Grammar.{conjunction, Expression, disjunction}
use Rattle.jp_query.specs.Private.Rules as rule
use Rattle.jp_query.proofs.Forms.Numbers.{plain_literal-same, operator-same}
use Rattle.jp_query.proofs.Forms.FunctionNames.{Word, Whole, whole-same, word-same}
use Rattle.jp_query.proofs.Forms.Selectors.{opening_form, none, inner_query-same}

module _ (I : Nested → Form) where
  -- ---- sides

  literal-ways : (l : LiteralTree)
      → Same (Either (Word I l) (Either (Made text Quoted l) (Made number_literal Number l)))
      (Literal l)
  literal-ways l = record {
    to = ways (ways (λ s o t h. of_true h.same h.is)
        (ways (λ s o t h. of_false h.same h.is) (λ s o t h. of_null h.same h.is)))
        (ways (λ s o t h. of_text h.part h.same h.is) (λ s o t h. of_number h.part h.same h.is));
    from = λ s o t h. elim h [
      | of_true e g ↦ left (left (record { same = e; is = g }))
      | of_false e g ↦ left (right (left (record { same = e; is = g })))
      | of_null e g ↦ left (right (right (record { same = e; is = g })))
      | of_text cs e g ↦ right (left (record { part = cs; same = e; is = g }))
      | of_number n e g ↦ right (right (record { part = n; same = e; is = g }))
    ];
  }

  pub side-ways : (x : OperandTree) → Same (Either (Made literal (λ l. Component (Literal l)) x)
      (Either (Made node_value (InnerQuery I) x) (Made call_value (FunctionCall I) x))) (Side I x)
  side-ways x = record {
    to = ways (λ s o t h. literal_side h.part h.same h.is)
        (ways (λ s o t h. query_side h.part h.same h.is) (λ s o t h. call_side h.part h.same h.is));
    from = λ s o t h. elim h [
      | literal_side l e g ↦ left (record { part = l; same = e; is = g })
      | query_side q e g ↦ right (left (record { part = q; same = e; is = g }))
      | call_side c e g ↦ right (right (record { part = c; same = e; is = g }))
    ];
  }

  call-ways : (c : CallTree)
      → Same (Made (rule.call_with []) (λ r. Component (Whole I r)) c) (FunctionCall I c)
  call-ways c = record {
    to = λ s o t h. function_call h.part.rest h.part.arguments h.same h.is;
    from = λ s o t h. elim h [
      | function_call name xs e g ↦ record { part = rule.call_rest name xs; same = e; is = g }
    ];
  }

  pub side-same : (x : OperandTree) → Same (form (opening_form I) rule.side x) (Side I x)
  unfolding rule.side rule.side_within
  side-same x =
      component (either same (either (word-same I x) (made (plain_literal-same none))
      ⨾ either-assoc
      ⨾ either-swap
      ⨾ either same (back made-either ⨾ made literal-ways)
      ⨾ either-flip)
      ⨾ either-swap)
      ⨾ component-either
      ⨾ either component-made (component-either
      ⨾ either (component-made ⨾ made (inner_query-same I))
      (component-made ⨾ back made-made ⨾ made call-ways))
      ⨾ side-ways x

  -- a side of that kind
  pub query_of_side : (q : QueryTree) → Same (Side I (node_value q)) (InnerQuery I q)
  query_of_side q = record { to = to; from = λ s o t. query_side q refl }
    where
      to : Within (Side I (node_value q)) (InnerQuery I q)
      to s o t (query_side p e h) = let same : p ≡ q = cc in rw (← same) h
      to s o t (literal_side l e h) = absurd cc
      to s o t (call_side c e h) = absurd cc

  pub call_of_side : (c : CallTree) → Same (Side I (call_value c)) (FunctionCall I c)
  call_of_side c = record { to = to; from = λ s o t. call_side c refl }
    where
      to : Within (Side I (call_value c)) (FunctionCall I c)
      to s o t (call_side d e h) = let same : d ≡ c = cc in rw (← same) h
      to s o t (literal_side l e h) = absurd cc
      to s o t (query_side q e h) = absurd cc

  -- ---- comparisons and tests

  -- a first side, an operator and a second one
  abbrev pub Compared : ExprTree → Form
  Compared = Then (λ x. Side I x) (λ x e. Blank ⌢ form (opening_form I) (rule.comparison_with x) e)

  compared-same : (e : ExprTree) → Same (Compared e)
      (Made (λ (p : OperandTree × (Op × OperandTree)). comparison p.0 p.1.0 p.1.1)
      (λ p. Comparison I p.0 p.1.0 p.1.1) e)
  unfolding rule.comparison_with
  compared-same e =
      then (λ x z. after
      (after (then (λ op w. joined (operator-same none op) (after (made side-same) ⨾ after-made))
      ⨾ then-made)
      ⨾ after-made))
      ⨾ then-made

  pub test-ways : (e : ExprTree)
      → Same (Either (Made exists (InnerQuery I) e) (Made call_test (FunctionCall I) e)) (Test I e)
  test-ways e = record {
    to = ways (λ s o t h. query_test h.part h.same h.is)
        (λ s o t h. function_test h.part h.same h.is);
    from = λ s o t h. elim h [
      | query_test q f g ↦ left (record { part = q; same = f; is = g })
      | function_test c f g ↦ right (record { part = c; same = f; is = g })
    ];
  }

  -- a side that is a test, alone
  abbrev TestAlone : OperandTree → ExprTree → Form
  TestAlone (literal l) e = Never
  TestAlone (node_value q) e = Only (exists q) (word []) e
  TestAlone (call_value c) e = Only (call_test c) (word []) e

  test-alone : (e : ExprTree) → Same (Then (λ x. Side I x) TestAlone e) (Test I e)
  test-alone e = record {
    to = λ s o t h. to s o t h.part h.is;
    from = λ s o t h. elim h [
      | query_test q f g ↦ record {
        part = node_value q;
        is = after-value.from s o t (record { same = f; is = (query_of_side q).from s o t g });
      }
      | function_test c f g ↦ record {
        part = call_value c;
        is = after-value.from s o t (record { same = f; is = (call_of_side c).from s o t g });
      }
    ];
  }
    where
      to : (s : Spans) (o : ℕ) (t : Text) (x : OperandTree) → (Side I x ⌢ TestAlone x e) s o t
          → Test I e s o t
      to s o t (literal l) h = absurd h.two
      to s o t (node_value q) h =
          let g = after-value.to s o t h in query_test q g.same ((query_of_side q).to s o t g.is)
      to s o t (call_value c) h =
          let g = after-value.to s o t h in function_test c g.same ((call_of_side c).to s o t g.is)

  -- what goes on from a first side
  on-side : (x : OperandTree) (e : ExprTree) → Same (form (opening_form I) (rule.compared_or_test x) e)
      (Either (Blank ⌢ form (opening_form I) (rule.comparison_with x) e) (TestAlone x e))
  on-side (literal l) e = or-never
  on-side (node_value q) e = same
  on-side (call_value c) e = same

  first-same : (e : ExprTree) → Same
      (Then (λ x. form (opening_form I) rule.side x) (λ x y. form (opening_form I) (rule.compared_or_test x) y)
      e) (Either (Compared e) (Test I e))
  first-same e =
      then (λ x z. joined (side-same x) (on-side x z)) ⨾ then-either ⨾ either same (test-alone e)

  -- ---- parentheses and negations

  abbrev pub Grouped : ExprTree → Form
  Grouped = Then (λ x. opening_form I (rule.expression_after opening_parenthesis) x)
      (λ x. form (opening_form I) (rule.closed x))

  parenthesis-same : (e : ExprTree) → Same (Grouped e) (Parenthesis I e)
  unfolding rule.closed
  parenthesis-same e =
      then (λ x z. after (after after-value ⨾ after-only)) ⨾ then-only ⨾ made-same ⨾ assoc
      ⨾ after assoc

  -- a test, which is a component
  test-same : (e : ExprTree) → Same (form (opening_form I) rule.test_expr e) (Test I e)
  unfolding rule.test_expr rule.subject
  test-same e =
      component-either
      ⨾ either (component (then-value ⨾ made (whole-same I)) ⨾ component-made ⨾ back made-made
      ⨾ made call-ways) (component-made ⨾ made (inner_query-same I))
      ⨾ either-flip
      ⨾ test-ways e

  -- ---- basic expressions

  abbrev pub Negated : ExprTree → Form
  Negated e = word (codes "!") ⌢ form (opening_form I) rule.negation_on e

  negation-same : (e : ExprTree) → Same (Negated e)
      (Either (Made negation (λ x. word (codes "!") ⌢ Blank ⌢ Parenthesis I x) e)
      (Made negation (λ x. word (codes "!") ⌢ Blank ⌢ Test I x) e))
  unfolding rule.negation_on rule.negated
  negation-same e =
      after (after (made (λ x. either (parenthesis-same x) (test-same x))) ⨾ after-made)
      ⨾ after-made
      ⨾ made (λ x. after after-either ⨾ after-either)
      ⨾ made-either

  pub composed-same : (e : ExprTree)
      → Same (Either (Negated e) (Either (Grouped e) (Compared e))) (Composed I e)
  composed-same e =
      either (negation-same e) (either (parenthesis-same e) (compared-same e))
      ⨾ record {
        to = ways (ways (λ s o t h. not_grouped h.part h.same h.is)
            (λ s o t h. not_tested h.part h.same h.is)) (ways (λ s o t. grouped)
            (λ s o t h. compared h.part.0 h.part.1.1 h.part.1.0 h.same h.is));
        from = λ s o t h. elim h [
          | not_grouped x f g ↦ left (left (record { part = x; same = f; is = g }))
          | not_tested x f g ↦ left (right (record { part = x; same = f; is = g }))
          | grouped g ↦ right (left g)
          | compared first second op f g ↦ right (right (record {
            part = (first, (op, second));
            same = f;
            is = g;
          }))
        ];
      }

  pub basic-ways : (e : ExprTree) → Same (Either (Composed I e) (Test I e)) (Basic I e)
  basic-ways e = record {
    to = ways (λ s o t. composed) (λ s o t. tested);
    from = λ s o t h. elim h [ composed g ↦ left g | tested g ↦ right g ];
  }

  pub basic-same : (e : ExprTree) → Same (form (opening_form I) rule.basic e) (Basic I e)
  unfolding rule.basic
  basic-same e =
      either same (either same (first-same e) ⨾ back either-assoc)
      ⨾ back either-assoc
      ⨾ either (composed-same e) same
      ⨾ basic-ways e

  -- ---- parts with a character twice between them

  -- the character twice, and blanks around it
  abbrev pub twice : ℕ → Form
  twice c = Blank ⌢ word (c ∷ c ∷ []) ⌢ Blank

  pub twice-same : {P Q : Form} (c : ℕ) → Same P Q
      → Same (Blank ⌢ word (c ∷ []) ⌢ word (c ∷ []) ⌢ Blank ⌢ P) (twice c ⌢ Q)
  twice-same c f =
      after (back assoc ⨾ joined (words (c ∷ []) (c ∷ [])) (after f) ⨾ back assoc) ⨾ back assoc

  pub conjunction-same : (e : ExprTree)
      → Same (form (opening_form I) rule.conjunction e) (Conjunction I e)
  unfolding rule.conjunction
  conjunction-same e =
      made (separated basic-same (λ x. twice-same ampersand (basic-same x)))
      ⨾ record {
        to = λ s o t h. conjunction h.part h.same h.is;
        from = λ s o t h. elim h [ conjunction es f g ↦ record { part = es; same = f; is = g } ];
      }

  pub expression-same : (e : ExprTree) → Same (form (opening_form I) rule.expression e) (Expression I e)
  unfolding rule.expression
  expression-same e =
      made (separated conjunction-same (λ x. twice-same bar (conjunction-same x)))
      ⨾ record {
        to = λ s o t h. disjunction h.part h.same h.is;
        from = λ s o t h. elim h [ disjunction es f g ↦ record { part = es; same = f; is = g } ];
      }

  pub filter-same : (e : ExprTree)
      → Same (form (opening_form I) rule.filter_text e) (Blank ⌢ Expression I e ⌢ Blank)
  unfolding rule.filter_text
  filter-same e =
      after (then (λ x z. joined (expression-same x) after-value) ⨾ then-only ⨾ made-same)
