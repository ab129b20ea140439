-- The rules of functions' arguments, and of what opens a level, take exactly the texts that the
-- grammar says.
use Rattle.std.proofs.Common.{◌≡◌, ℕ, Bool, true, false, ◌&&◌, ◌||◌, not, arith, List, [], ◌∷◌}
use Rattle.std.proofs.Common.{◌++◌, Option, refl, ap, ◌∙◌, sym, subst}
use Rattle.std.specs.Prelude.{codes}
use Rattle.std.proofs.lemmas.Bool.Decides.{nat_tests}
use Rattle.jp_reading.specs.Texts.{Text, Spans, is_blank}
use Rattle.jp_reading.specs.Forms.{Form, ◌⌢◌, word, Blank, Each, AllPassing, Separated, Component}
use Rattle.jp_reading.specs.Outcome.{is, passes}
use Rattle.jp_reading.specs.Texts.{first_of}
use Rattle.jp_reading.specs.Numbers.{is_digit}
use Rattle.jp_reading.proofs.Rules.Ranges.{or-right}
use Rattle.jp_reading.proofs.Conjunctions.{and-left}
use Rattle.jp_reading.proofs.States.Between.{Within, joined-both}
use Rattle.jp_reading.proofs.Forms.Joining.{before-within}
use Rattle.jp_reading.proofs.Forms.Levels.{Only, Then, Made}
use Rattle.jp_reading.proofs.Forms.Same.{Same, same, back, ways, ◌⨾◌, after, before, joined, either}
use Rattle.jp_reading.proofs.Forms.Same.{only}
use Rattle.jp_reading.proofs.Forms.Same.{made, then, each, component_if, assoc, nothing-before}
use Rattle.jp_reading.proofs.Forms.Same.{nothing-after}
use Rattle.jp_reading.proofs.Forms.Same.{after-either, either-before, either-assoc, either-cross}
use Rattle.jp_reading.proofs.Forms.Same.{after-only, only-before, after-made, after-value}
use Rattle.jp_reading.proofs.Forms.Same.{made-before}
use Rattle.jp_reading.proofs.Forms.Same.{made-made, made-either, either-then, then-only, then-value}
use Rattle.jp_reading.proofs.Forms.Same.{then-made, then-made_out, then-of_made, then-either}
use Rattle.jp_reading.proofs.Forms.Same.{Some_of}
use Rattle.jp_reading.proofs.Forms.Same.{some, some-either, some-only, some-made, then-some, Given}
use Rattle.jp_reading.proofs.Forms.Same.{word-on, passing-word}
use Rattle.jp_reading.proofs.Rules.Form.{Either, left, right, ComponentIf, form}
use Rattle.jp_tree.specs.Tree.{ExprTree, any_of, all_of, exists, call_test, exprs, ArgumentTree}
use Rattle.jp_tree.specs.Tree.{literal_argument, query_argument, call_argument, logical_argument}
use Rattle.jp_reading.specs.Characters.{ampersand, bar, opening_parenthesis}
use Rattle.jp_query.specs.Literals.{Literal}
use Rattle.jp_query.specs.Names.{is_function_char}
use Rattle.jp_query.specs.Grammar.{joined as joined_parts, Nested, InnerQuery, FunctionCall}
use Rattle.jp_query.specs.Grammar.{Composed, Basic, Conjunction, conjunction, Logical, one_part}
use Rattle.jp_query.specs.Grammar.{parts_all, parts_any, Argument, literal_alone, query_alone}
use Rattle.jp_query.specs.Grammar.{call_alone, logical_expr, Arguments, without, with_some, Level}
use Rattle.jp_query.specs.Private.Rules.{opens, CallRest, part, argument_of_parts}
use Rattle.jp_query.specs.Private.Rules.{only_this}
use Rattle.jp_reading.specs.Texts.{is_among}
use Rattle.jp_query.specs.Private.Rules as rule
use Rattle.jp_query.proofs.Forms.Slices.{all-append, blank-before}
use Rattle.jp_query.proofs.Forms.Selectors.{opening_form, CallFrom, Parentheses}
use Rattle.jp_query.proofs.Forms.FunctionNames.{from-letter}
use Rattle.jp_query.proofs.Forms.Expressions.{side-ways, side-same, composed-same, test-ways}
use Rattle.jp_query.proofs.Forms.Expressions.{basic-ways, basic-same, twice, twice-same}
use Rattle.jp_query.proofs.Forms.Expressions.{conjunction-same, expression-same}

module _ (I : Nested → Form) where
  -- ---- the first part of an argument

  start-same : (x : ArgumentTree) → Same (form (opening_form I) rule.argument_start x)
      (Either (Made logical_argument (Composed I) x)
      (Either (Made literal_argument (λ l. Component (Literal l)) x)
      (Either (Made query_argument (InnerQuery I) x) (Made call_argument (FunctionCall I) x))))
  unfolding rule.argument_start
  start-same x =
      either after-made (either then-made_out (then (λ a z. before (side-same I a))
      ⨾ then-either
      ⨾ either (then (λ a z. after after-made) ⨾ then-made_out) (then-value
      ⨾ made (λ a. back (side-ways I a))
      ⨾ made-either
      ⨾ either made-made (made-either ⨾ either made-made made-made)))
      ⨾ back either-assoc)
      ⨾ back either-assoc
      ⨾ either (either same (back made-either) ⨾ back made-either ⨾ made (composed-same I)) same

  -- ---- further parts

  abbrev Ands : List ExprTree → Form
  Ands = Each (λ e. twice I ampersand ⌢ Basic I e)

  abbrev Ors : List ExprTree → Form
  Ors = Each (λ e. twice I bar ⌢ Conjunction I e)

  -- an expression of several parts, of which the first is e with texts of the form P
  abbrev Several : Form → ExprTree → ExprTree → Form
  Several P e z =
      Either (Made (λ (p : ExprTree × List ExprTree). all_of (exprs (e ∷ p.0 ∷ p.1)))
      (λ p. P ⌢ Ands (p.0 ∷ p.1)) z) (Made (λ (p : List ExprTree × (ExprTree × List ExprTree)).
      any_of (exprs (joined_parts all_of (e ∷ p.0) ∷ p.1.0 ∷ p.1.1)))
      (λ p. (P ⌢ Ands p.0) ⌢ Ors (p.1.0 ∷ p.1.1)) z)

  several : {P Q : Form} {e z : ExprTree} → Same P Q → Same (Several P e z) (Several Q e z)
  several f = either (made (λ p. before f)) (made (λ p. before (before f)))

  several-either : {P Q : Form} {e z : ExprTree}
      → Same (Several (Either P Q) e z) (Either (Several P e z) (Several Q e z))
  several-either =
      either (made (λ p. either-before) ⨾ made-either)
      (made (λ p. before either-before ⨾ either-before) ⨾ made-either)
      ⨾ either-cross

  several-made : {A : Type 0} {f : A → ExprTree} {F : A → Form} {z : ExprTree}
      → Same (Some_of (λ e. Several (Made f F e) e z)) (Some_of (λ a. Several (F a) (f a) z))
  several-made {f} {F} {z} = record {
    to = λ s o t h. elim h.is [
      | left g ↦ (let w = made-before.to s o t g.is in record {
        part = w.part;
        is = left (record {
          part = g.part;
          same = g.same ∙ ap (λ e. all_of (exprs (e ∷ g.part.0 ∷ g.part.1))) w.same;
          is = w.is;
        });
      })
      | right g ↦ (let w = (before made-before ⨾ made-before).to s o t g.is in record {
        part = w.part;
        is = right (record {
          part = g.part;
          same = g.same ∙ ap
              (λ e. any_of (exprs (joined_parts all_of (e ∷ g.part.0) ∷ g.part.1.0 ∷ g.part.1.1)))
              w.same;
          is = w.is;
        });
      })
    ];
    from = λ s o t h. record {
      part = f h.part;
      is = elim h.is [
        | left g ↦ left (record {
          part = g.part;
          same = g.same;
          is = made-before.from s o t (record { part = h.part; same = refl; is = g.is });
        })
        | right g ↦ right (record {
          part = g.part;
          same = g.same;
          is = (before made-before ⨾ made-before).from s o t
              (record { part = h.part; same = refl; is = g.is });
        })
      ];
    };
  }

  -- a part alone, or with others after it
  alone-or-several : (x : ArgumentTree) (e : ExprTree) (P : Form) (y : ArgumentTree)
      → Same (Made (λ (p : List ExprTree × List ExprTree). argument_of_parts x e p.0 p.1)
      (λ p. P ⌢ Ands p.0 ⌢ Ors p.1) y) (Either (Only x P y) (Made logical_argument (Several P e) y))
  alone-or-several x e P y = record {
    to = λ s o t h. to h.part.0 h.part.1 s o t h.same h.is;
    from = ways (λ s o t h. record {
      part = ([], []);
      same = h.same;
      is = (after nothing-after ⨾ nothing-after).from s o t h.is;
    }) (λ s o t h. rw h.same (elim h.is [
      | left g ↦ record {
        part = (g.part.0 ∷ g.part.1, []);
        same = ap logical_argument g.same;
        is = (after nothing-after).from s o t g.is;
      }
      | right g ↦ record {
        part = (g.part.0, g.part.1.0 ∷ g.part.1.1);
        same = ap logical_argument g.same ∙ any-parts g.part.0 g.part.1.0 g.part.1.1;
        is = assoc.to s o t g.is;
      }
    ]));
  }
    where
      any-parts : (es : List ExprTree) (f : ExprTree) (fs : List ExprTree)
          → logical_argument (any_of (exprs (joined_parts all_of (e ∷ es) ∷ f ∷ fs)))
          ≡ argument_of_parts x e es (f ∷ fs)
      any-parts [] f fs = refl
      any-parts (g ∷ es) f fs = refl

      to : (es fs : List ExprTree) (s : Spans) (o : ℕ) (t : Text) → y ≡ argument_of_parts x e es fs
          → (P ⌢ Ands es ⌢ Ors fs) s o t
          → Either (Only x P y) (Made logical_argument (Several P e) y) s o t
      to [] [] s o t same h =
          left (record { same = same; is = (after nothing-after ⨾ nothing-after).to s o t h })
      to (f ∷ es) [] s o t same h = right (record {
        part = all_of (exprs (e ∷ f ∷ es));
        same = same;
        is = left (record { part = (f, es); same = refl; is = (after nothing-after).to s o t h });
      })
      to es (g ∷ fs) s o t same h = right (record {
        part = any_of (exprs (joined_parts all_of (e ∷ es) ∷ g ∷ fs));
        same = same ∙ sym (any-parts es g fs);
        is = right (record { part = (es, (g, fs)); same = refl; is = assoc.from s o t h });
      })

  -- first parts of a kind, and what goes on from them
  kind-same : {A : Type 0} (F : A → Form) (x : A → ArgumentTree) (e : A → ExprTree)
      (y : ArgumentTree)
      → Same (Then F (λ a z. form (opening_form I) (rule.other_argument_parts (x a) (e a)) z) y)
      (Either (Made x F y) (Made logical_argument (λ z. Some_of (λ a. Several (F a) (e a) z)) y))
  kind-same F x e y =
      then-some (λ a. after
      (then (λ es z. joined (each (λ f. twice-same I ampersand (basic-same I f)) es)
      (made (each (λ f. twice-same I bar (conjunction-same I f)))))
      ⨾ then-made)
      ⨾ after-made
      ⨾ alone-or-several (x a) (e a) (F a) y)
      ⨾ some-either
      ⨾ either some-only some-made

  -- a logical expression by what its first part is
  logical-ways : (z : ExprTree)
      → Same (Either (Composed I z) (Some_of (λ e. Several (Basic I e) e z))) (Logical I z)
  logical-ways z = record {
    to = ways (λ s o t. one_part) (λ s o t h. elim h.is [
      | left g ↦ parts_all h.part g.part.0 g.part.1 g.same g.is
      | right g ↦ parts_any (joined_parts all_of (h.part ∷ g.part.0)) g.part.1.0 g.part.1.1 g.same
          (before-within _ (Conjunction I _) _ (λ v i u. conjunction (h.part ∷ g.part.0) refl) s o t
          g.is)
    ]);
    from = λ s o t h. elim h [
      | one_part g ↦ left g
      | parts_all x y es same g ↦ right (record {
        part = x;
        is = left (record { part = (y, es); same = same; is = g });
      })
      | parts_any x y es same g ↦ right (any_parts s o t x y es same g g.one)
    ];
  }
    where
      any_parts : (s : Spans) (o : ℕ) (t : Text) (x y : ExprTree) (es : List ExprTree)
          → z ≡ any_of (exprs (x ∷ y ∷ es)) → (g : (Conjunction I x ⌢ Ors (y ∷ es)) s o t)
          → Conjunction I x g.first_spans o g.first → Some_of (λ e. Several (Basic I e) e z) s o t
      any_parts s o t x y es same g (conjunction [] e k) = absurd k
      any_parts s o t x y es same g (conjunction (f ∷ fs) e k) = record {
        part = f;
        is = right (record {
          part = (fs, (y, es));
          same = rw (← e) same;
          is = joined-both _ (Basic I f ⌢ Ands fs) _ _ s o t g k g.two;
        });
      }

  logical-same : (z : ExprTree) → Same (Logical I z) (Either (Composed I z)
      (Either (Some_of (λ e. Several (Composed I e) e z))
      (Either (Some_of (λ q. Several (InnerQuery I q) (exists q) z))
      (Some_of (λ c. Several (FunctionCall I c) (call_test c) z)))))
  logical-same z =
      back (logical-ways z)
      ⨾ either same (some (λ e. several (back (basic-ways I e) ⨾ either same (back (test-ways I e)))
      ⨾ several-either
      ⨾ either same several-either)
      ⨾ some-either
      ⨾ either same (some-either ⨾ either several-made several-made))

  -- ---- an argument

  -- an argument without the span of its own
  abbrev Unspanned : ArgumentTree → Form
  Unspanned y =
      Either (Made literal_argument (λ l. Component (Literal l)) y)
      (Either (Made query_argument (InnerQuery I) y)
      (Either (Made call_argument (FunctionCall I) y) (Made logical_argument (Logical I) y)))

  unspanned-same : (y : ArgumentTree) → Same (Then (λ x. form (opening_form I) rule.argument_start x)
      (λ x z. form (opening_form I) (rule.argument_on x) z) y) (Unspanned y)
  unspanned-same y =
      then (λ x z. before (start-same x))
      ⨾ either-then
      ⨾ either (then-of_made ⨾ kind-same (Composed I) logical_argument (λ e. e) y) (either-then
      ⨾ either (then-of_made ⨾ then-value) (either-then
      ⨾ either (then-of_made ⨾ kind-same (InnerQuery I) query_argument exists y)
      (then-of_made ⨾ kind-same (FunctionCall I) call_argument call_test y)))
      ⨾ record {
        to = ways (ways (λ s o t h. right (right (right (left h))))
            (λ s o t h. right (right (right (right (left h)))))) (ways (λ s o t. left) (ways
            (ways (λ s o t h. right (left h))
            (λ s o t h. right (right (right (right (right (left h)))))))
            (ways (λ s o t h. right (right (left h)))
            (λ s o t h. right (right (right (right (right (right h)))))))));
        from = ways (λ s o t h. right (left h)) (ways (λ s o t h. right (right (left (left h))))
            (ways (λ s o t h. right (right (right (left h)))) (ways (λ s o t h. left (left h))
            (ways (λ s o t h. left (right h)) (ways (λ s o t h. right (right (left (right h))))
            (λ s o t h. right (right (right (right h)))))))));
      }
      ⨾ either same (either same (either same
      (either same (either same (back made-either) ⨾ back made-either)
      ⨾ back made-either
      ⨾ made (λ z. back (logical-same z)))))

  argument-same : (y : ArgumentTree) → Same (form (opening_form I) rule.argument y) (Argument I y)
  unfolding rule.argument
  argument-same y = component_if (rule.is_logical y) (unspanned-same y) ⨾ spanned y
    where
      plain : (z : ArgumentTree) → rule.is_logical z ≡ false → Same (Unspanned z) (Argument I z)
      plain z e = record {
        to = ways (λ s o t h. literal_alone h.part h.same h.is)
            (ways (λ s o t h. query_alone h.part h.same h.is)
            (ways (λ s o t h. call_alone h.part h.same h.is) (λ s o t h. (let no : true ≡ false =
            ap rule.is_logical (sym h.same) ∙ e in absurd cc))));
        from = λ s o t h. elim h [
          | literal_alone l f g ↦ left (record { part = l; same = f; is = g })
          | query_alone q f g ↦ right (left (record { part = q; same = f; is = g }))
          | call_alone c f g ↦ right (right (left (record { part = c; same = f; is = g })))
          | logical_expr f same g ↦
              (let no : true ≡ false = ap rule.is_logical (sym same) ∙ e in absurd cc)
        ];
      }

      spanned : (z : ArgumentTree) → Same (ComponentIf (rule.is_logical z) (Unspanned z)) (Argument I z)
      spanned (literal_argument l) = plain (literal_argument l) refl
      spanned (query_argument q) = plain (query_argument q) refl
      spanned (call_argument c) = plain (call_argument c) refl
      spanned (logical_argument e) = record { to = λ s o t h. to s o t h h.is; from = from }
        where
          to : (s : Spans) (o : ℕ) (t : Text) (h : Component (Unspanned (logical_argument e)) s o t)
              → Unspanned (logical_argument e) h.inside o t → Argument I (logical_argument e) s o t
          to s o t h (left g) = let no = g.same in absurd cc
          to s o t h (right (left g)) = let no = g.same in absurd cc
          to s o t h (right (right (left g))) = let no = g.same in absurd cc
          to s o t h (right (right (right g))) =
              logical_expr g.part g.same (record { inside = h.inside; spans = h.spans; is = g.is })

          from : Within (Argument I (logical_argument e)) (Component (Unspanned (logical_argument e)))
          from s o t (literal_alone l f g) = absurd cc
          from s o t (query_alone q f g) = absurd cc
          from s o t (call_alone c f g) = absurd cc
          from s o t (logical_expr f same g) = record {
            inside = g.inside;
            spans = g.spans;
            is = right (right (right (record { part = f; same = same; is = g.is })));
          }

  -- ---- arguments

  abbrev CommaAmidBlanks : Form
  CommaAmidBlanks = Blank ⌢ word (codes ",") ⌢ Blank

  abbrev End : Form
  End = Blank ⌢ word (codes ")")

  next-same : (x : ArgumentTree) → Same (form (opening_form I) rule.next_argument x)
      (CommaAmidBlanks ⌢ Argument I x)
  unfolding rule.next_argument
  next-same x = after (after (after (argument-same x)) ⨾ back assoc) ⨾ back assoc

  some-same : (xs : List ArgumentTree)
      → Same (form (opening_form I) rule.some_arguments xs) (Separated CommaAmidBlanks (Argument I) xs ⌢ End)
  unfolding rule.some_arguments
  some-same xs =
      then (λ x z. joined (argument-same x)
      (then (λ ys w. joined (each next-same ys) (after after-value ⨾ after-only)) ⨾ then-only))
      ⨾ then-made
      ⨾ made (λ p. back assoc)
      ⨾ record { to = λ s o t h. rw h.same h.is; from = from xs }
    where
      from : (ys : List ArgumentTree) → Within (Separated CommaAmidBlanks (Argument I) ys ⌢ End)
          (Made (λ (p : ArgumentTree × List ArgumentTree). p.0 ∷ p.1)
          (λ p. (Argument I p.0 ⌢ Each (λ z. CommaAmidBlanks ⌢ Argument I z) p.1) ⌢ End) ys)
      from [] s o t h = absurd h.one
      from (y ∷ ys) s o t h = record { part = (y, ys); same = refl; is = h }

  -- two runs of blanks are one
  blanks-join : Same (Blank ⌢ Blank) Blank
  blanks-join = record {
    to = λ s o t h. record {
      none = h.spans ∙ rw (h.one.none, h.two.none) refl;
      blank = rw h.is (all-append is_blank h.first h.second h.one.blank h.two.blank);
    };
    from = blank-before Blank;
  }

  arguments-ways : (xs : List ArgumentTree)
      → Same (Either (Only [] (word []) xs) (Separated CommaAmidBlanks (Argument I) xs)) (Arguments I xs)
  arguments-ways xs = record {
    to = ways (λ s o t h. without h.same h.is) (λ s o t. with_some);
    from = λ s o t h. elim h [
      | without e g ↦ left (record { same = e; is = g })
      | with_some g ↦ right g
    ];
  }

  pub arguments-same : (xs : List ArgumentTree)
      → Same (form (opening_form I) rule.after_parenthesis xs) (Blank ⌢ Arguments I xs ⌢ End)
  unfolding rule.after_parenthesis
  arguments-same xs =
      after (either after-value (some-same xs))
      ⨾ after-either
      ⨾ either (after-only
      ⨾ only (before (back blanks-join) ⨾ assoc)
      ⨾ back (after (only-before ⨾ only nothing-before) ⨾ after-only)) same
      ⨾ back after-either
      ⨾ after (back either-before ⨾ before (arguments-ways xs))

  -- ---- what opens a level

  -- the rest of a function expression from a letter of its name on
  named-ways : (pass : ℕ → Bool) (r : CallRest) → Same (form (opening_form I) (rule.named_call pass) r)
      (Made (λ (p : ℕ × (Text × List ArgumentTree)). rule.call_rest (p.0 ∷ p.1.0) p.1.1)
      (λ p. Given ((pass p.0 ≡ true) × AllPassing is_function_char p.1.0)
      (word (p.0 ∷ p.1.0) ⌢ Parentheses (Level I) p.1.1)) r)
  unfolding rule.named_call
  named-ways pass r =
      then
      (λ c z. after (then (λ w v. after (after (made arguments-same) ⨾ after-made)) ⨾ then-made))
      ⨾ then-made
      ⨾ made (λ p. word-on (passing-word is_function_char p.1.0 (Parentheses (Level I) p.1.1)))

  -- the same from the parenthesis on
  ended-ways : (r : CallRest) → Same
      (word (codes "(") ⌢ Made (rule.call_rest []) (λ xs. form (opening_form I) rule.after_parenthesis xs)
      r) (Made (rule.call_rest []) (λ xs. Parentheses (Level I) xs) r)
  ended-ways r = after (made arguments-same) ⨾ after-made

  named-within : (ok pass : ℕ → Bool) → ((c : ℕ) → pass c ≡ true → is_function_char c ≡ true)
      → ((c : ℕ) → pass c ≡ true → ok c ≡ true)
      → (r : CallRest) → Within (form (opening_form I) (rule.named_call pass) r) (CallFrom ok (Level I) r)
  named-within ok pass letter passed r s o t h =
      let g = (named-ways pass r).to s o t h in
      let holds = g.is.holds in
      rw g.same (record {
        letters = (letter g.part.0 holds.0, holds.1);
        first = passed g.part.0 holds.0;
        is = g.is.is;
      })

  named-spelt : (pass : ℕ → Bool) (r : CallRest) (c : ℕ) (w : Text) → r.rest ≡ c ∷ w → pass c ≡ true
      → AllPassing is_function_char w → Within (word r.rest ⌢ Parentheses (Level I) r.arguments)
      (form (opening_form I) (rule.named_call pass) r)
  named-spelt pass r c w e passes all s o t h = (named-ways pass r).from s o t (record {
    part = (c, (w, r.arguments));
    same = ap (λ (v : Text). record { rest = v; arguments = r.arguments }) e;
    is = record { holds = (passes, all); is = rw e at h };
  })

  on-letter : (other : Option ℕ) (c : ℕ)
      → (is_function_char c && not (is_among (only_this other) c)) ≡ true
      → is_function_char c ≡ true
  on-letter other c h = and-left (is_function_char c) _ h

  on-opens : (other : Option ℕ) (c : ℕ)
      → (is_function_char c && not (is_among (only_this other) c)) ≡ true
      → opens (rule.name_on other) c ≡ true
  on-opens other c h = or-right (is opening_parenthesis c) _ h

  opens-on : (other : Option ℕ) (c : ℕ) → is_function_char c ≡ true
      → opens (rule.name_on other) c ≡ true
      → (is_function_char c && not (is_among (only_this other) c)) ≡ true
  unfolding is_digit
  opens-on other c letter h =
      either (is opening_parenthesis c) _ (let no : is opening_parenthesis c ≡ false =
      grind (arith, nat_tests) in no) h
    where
      either : (d b : Bool) → d ≡ false → (d || b) ≡ true → b ≡ true
      either true b e h = absurd cc
      either false b e h = h

  -- what opens a level, one level further out
  pub opened-same : (o : rule.QueryOpening) (x : rule.Opened o)
      → Same (form (opening_form I) (rule.opened o) x) (opening_form (Level I) o x)
  unfolding rule.inside_expression
  opened-same (rule.expression_after m) e = after (after (expression-same I e))
  opened-same (rule.name_from others) r = record {
    to = named-within (opens (rule.name_from others)) (opens (rule.name_from others))
        (from-letter others) (λ c g. g) r;
    from = λ s o t h. from s o t h r.rest refl;
  }
    where
      from : (s : Spans) (o : ℕ) (t : Text)
          → CallFrom (opens (rule.name_from others)) (Level I) r s o t
          → (w : Text) → r.rest ≡ w → form (opening_form I) (rule.opened (rule.name_from others)) r s o t
      from s o t h [] e = let no : passes (opens (rule.name_from others))
          (first_of (codes "(")) ≡ true = subst
          (λ (v : Text). passes (opens (rule.name_from others)) (first_of (v ++ codes "(")) ≡ true)
          e h.first in absurd cc
      from s o t h (c ∷ w) e =
          let first : opens (rule.name_from others) c ≡ true = rw e at h.first in
          let letters : AllPassing is_function_char (c ∷ w) = rw e at h.letters in
          named-spelt (opens (rule.name_from others)) r c w e first letters.1 s o t h.is
  opened-same (rule.name_on other) r = record {
    to = ways (λ s o t h. (let g = (ended-ways r).to s o t h in
        rw g.same (record { letters = tt; first = refl; is = nothing-before.from s o t g.is })))
        (named-within (opens (rule.name_on other))
        (λ c. is_function_char c && not (is_among (only_this other) c))
        (on-letter other) (on-opens other) r);
    from = λ s o t h. from s o t h r.rest refl;
  }
    where
      from : (s : Spans) (o : ℕ) (t : Text)
          → CallFrom (opens (rule.name_on other)) (Level I) r s o t
          → (w : Text) → r.rest ≡ w → form (opening_form I) (rule.opened (rule.name_on other)) r s o t
      from s o t h [] e = left ((ended-ways r).from s o t (record {
        part = r.arguments;
        same = ap (λ (v : Text). record { rest = v; arguments = r.arguments }) e;
        is = nothing-before.to s o t (rw e at h.is);
      }))
      from s o t h (c ∷ w) e =
          let first : opens (rule.name_on other) c ≡ true = rw e at h.first in
          let letters : AllPassing is_function_char (c ∷ w) = rw e at h.letters in
          right (named-spelt (λ d. is_function_char d && not (is_among (only_this other) d)) r c w e
          (opens-on other c letters.0 first) letters.1 s o t h.is)
