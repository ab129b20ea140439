-- The rules of selectors, segments and queries take exactly the texts that the grammar says.
use Rattle.std.proofs.Common.{◌≡◌, ℕ, Bool, true, false, List, [], ◌∷◌, ◌++◌, Some, None, refl, ap}
use Rattle.std.proofs.Common.{◌∙◌}
use Rattle.std.specs.Prelude.{codes}
use Rattle.jp_reading.specs.Texts.{Text, Spans}
use Rattle.jp_reading.specs.Forms.{Form, ◌⌢◌, word, AllPassing, Blank, Separated, Component}
use Rattle.jp_reading.specs.Outcome.{passes}
use Rattle.jp_reading.specs.Texts.{first_of}
use Rattle.jp_reading.proofs.Forms.Levels.{Only, Then, Made}
use Rattle.jp_reading.proofs.Forms.Same.{Same, same, back, ways, ◌⨾◌, after, before, joined, either}
use Rattle.jp_reading.proofs.Forms.Same.{only}
use Rattle.jp_reading.proofs.Forms.Same.{made, then, each, component, assoc, nothing-before}
use Rattle.jp_reading.proofs.Forms.Same.{after-either}
use Rattle.jp_reading.proofs.Forms.Same.{either-before, either-assoc, either-flip, either-swap}
use Rattle.jp_reading.proofs.Forms.Same.{in-first}
use Rattle.jp_reading.proofs.Forms.Same.{in-second, after-only, only-before, after-made}
use Rattle.jp_reading.proofs.Forms.Same.{after-value}
use Rattle.jp_reading.proofs.Forms.Same.{made-before, made-same, made-either, then-only, then-value}
use Rattle.jp_reading.proofs.Forms.Same.{then-made, then-either, then-before, separated}
use Rattle.jp_reading.proofs.Rules.Form.{Either, left, right, Inside, none_inside, form}
use Rattle.jp_tree.specs.declared.tree.Slice.{Slice}
use Rattle.jp_tree.specs.Tree.{SelectorTree, slice, SegmentTree, segment, QueryTree, query}
use Rattle.jp_tree.specs.Tree.{ArgumentTree, selectors, segments}
use Rattle.jp_reading.specs.Characters.{double_quote, single_quote}
use Rattle.jp_query.specs.Ints.{Int}
use Rattle.jp_query.specs.Names.{is_function_char}
use Rattle.jp_query.specs.Strings.{in_double, in_single}
use Rattle.jp_query.specs.Slices.{Sliced}
use Rattle.jp_query.specs.Grammar.{Nested, nested_expr, nested_arguments, Member, star, member}
use Rattle.jp_query.specs.Grammar.{Selector, named, any, indexed, sliced, filtered, Bracket}
use Rattle.jp_query.specs.Grammar.{Segment, bracketed, dotted, deep_bracketed, deep_dotted}
use Rattle.jp_query.specs.Grammar.{Segments, InnerQuery, from_root, from_current}
use Rattle.jp_query.specs.Private.Rules.{nesting, opens, CallRest, segment_of_one}
use Rattle.jp_query.specs.Private.Rules as rule
use Rattle.jp_query.proofs.Forms.Strings.{shorthand-same, quoted-same}
use Rattle.jp_query.proofs.Forms.Slices.{int_component-same, bound-ways, FromColon, slice-same}

-- the arguments of a function in parentheses, where I is the form of what is one level further in
abbrev pub Parentheses : (Nested → Form) → List ArgumentTree → Form
Parentheses I xs = word (codes "(") ⌢ Blank ⌢ I (nested_arguments xs) ⌢ Blank ⌢ word (codes ")")

-- a function expression from somewhere within its name on, where the next character passes
pub record CallFrom (ok : ℕ → Bool) (I : Nested → Form) (r : CallRest) (s : Spans) (o : ℕ)
    (t : Text) : Type 0 where
  pub letters : AllPassing is_function_char r.rest
  pub first : passes ok (first_of (r.rest ++ codes "(")) ≡ true
  pub is : (word r.rest ⌢ Parentheses I r.arguments) s o t

-- what an opening opens
abbrev pub opening_form : (Nested → Form) → Inside nesting
opening_form I (rule.expression_after m) e = word (m ∷ []) ⌢ Blank ⌢ I (nested_expr e)
opening_form I (rule.name_from others) r = CallFrom (opens (rule.name_from others)) I r
opening_form I (rule.name_on other) r = CallFrom (opens (rule.name_on other)) I r

-- where nothing is nested
abbrev pub none : Inside nesting
none = none_inside nesting

module _ (I : Nested → Form) where
  -- ---- slices

  -- a slice without its start, and one from the blanks after its start on
  abbrev Unstarted : SelectorTree → Form
  Unstarted = Made slice (λ y. form none (rule.slice_from None) y)

  abbrev Started : SelectorTree → Form
  Started =
      Then (λ i. Component (Int i))
      (λ i x. Blank ⌢ Made slice (λ y. form none (rule.slice_from (Some i)) y) x)

  sliced-parts : (y : Slice) → Same (Sliced y ⌢ Blank) (Either (Only None (FromColon y) y.start)
      (Made Some (λ i. Component (Int i) ⌢ Blank ⌢ FromColon y) y.start))
  sliced-parts y =
      assoc
      ⨾ joined (back (bound-ways y.start)) (assoc ⨾ after (assoc ⨾ after assoc))
      ⨾ either-before
      ⨾ either (made-before ⨾ made (λ i. assoc)) (only-before ⨾ only nothing-before)
      ⨾ either-flip

  slices-same : (x : SelectorTree)
      → Same (Either (Unstarted x) (Started x) ⌢ Blank) (Made slice Sliced x ⌢ Blank)
  slices-same x =
      either-before
      ⨾ either (made-before ⨾ made (slice-same none None)) (then-before
      ⨾ then (λ i z. after
      (assoc ⨾ after (made-before ⨾ made (slice-same none (Some i))) ⨾ after-made
      ⨾ made (λ y. after-only)))
      ⨾ then-made
      ⨾ record {
        to = λ s o t h. (let g = after-only.to s o t h.is in record {
          part = h.part.1;
          same = h.same;
          is = record { part = h.part.0; same = g.same; is = g.is };
        });
        from = λ s o t h. record {
          part = (h.is.part, h.part);
          same = h.same;
          is = after-only.from s o t (record { same = h.is.same; is = h.is.is });
        };
      })
      ⨾ back (made-before ⨾ made sliced-parts ⨾ made-either)

  -- ---- selectors

  selector-same : (x : SelectorTree) → Same (form (opening_form I) rule.selector x ⌢ Blank)
      (Selector I x ⌢ Blank)
  unfolding rule.selector rule.number_selector
  selector-same x =
      before (either (made (quoted-same none double_quote))
      (either (made (quoted-same none single_quote)) (either after-value (either same
      (either then-value (then (λ i z. before (int_component-same none i)) ⨾ then-either
      ⨾ either same then-value)
      ⨾ either-swap)
      ⨾ back either-assoc))))
      ⨾ in-second (in-second (in-second (in-first (slices-same x))))
      ⨾ before (record {
        to = ways (λ s o t h. named h.part h.same (in_double h.is))
            (ways (λ s o t h. named h.part h.same (in_single h.is))
            (ways (λ s o t h. any h.same h.is) (ways (λ s o t h. sliced h.part h.same h.is)
            (ways (λ s o t h. filtered h.part h.same h.is)
            (λ s o t h. indexed h.part h.same h.is)))));
        from = λ s o t h. elim h [
          | named cs e g ↦ elim g [
            | in_double k ↦ left (record { part = cs; same = e; is = k })
            | in_single k ↦ right (left (record { part = cs; same = e; is = k }))
          ]
          | any e g ↦ right (right (left (record { same = e; is = g })))
          | sliced y e g ↦ right (right (right (left (record { part = y; same = e; is = g }))))
          | filtered e same g ↦ right (right (right (right (left (record {
            part = e;
            same = same;
            is = g;
          })))))
          | indexed i e g ↦
              right (right (right (right (right (record { part = i; same = e; is = g })))))
        ];
      })

  -- ---- selectors in brackets

  abbrev Comma : Form
  Comma = word (codes ",") ⌢ Blank

  abbrev Entry : SelectorTree → Form
  Entry x = Selector I x ⌢ Blank

  entry-same : (x : SelectorTree) → Same (form (opening_form I) rule.entry x) (Entry x)
  unfolding rule.entry
  entry-same x = then (λ y z. after after-value) ⨾ then-only ⨾ made-same ⨾ selector-same x

  entries-same : (xs : List SelectorTree)
      → Same (form (opening_form I) rule.entries xs) (Separated Comma Entry xs)
  unfolding rule.entries
  entries-same = separated entry-same (λ x. after (after (entry-same x)) ⨾ back assoc)

  -- the segment of the selectors in brackets
  abbrev of_all : Bool → List SelectorTree → SegmentTree
  of_all d xs = segment d (selectors xs)

  bracket-same : (d : Bool) (x : SegmentTree)
      → Same (form (opening_form I) (rule.bracket d) x) (Made (of_all d) (Bracket I) x)
  unfolding rule.bracket
  bracket-same d x =
      after (after (then (λ xs z. joined (entries-same xs) after-value) ⨾ then-only) ⨾ after-made)
      ⨾ after-made

  -- ---- segments

  member-same : (d : Bool) (x : SegmentTree)
      → Same (form none (rule.member d) x) (Made (segment_of_one d) Member x)
  unfolding rule.member
  member-same d x = made (λ y. either after-value (made (shorthand-same none)) ⨾ record {
    to = ways (λ s o t h. star h.same h.is) (λ s o t h. member h.part h.same h.is);
    from = λ s o t h. elim h [
      | star e g ↦ left (record { same = e; is = g })
      | member cs e g ↦ right (record { part = cs; same = e; is = g })
    ];
  })

  -- what may stand after a dot
  dotted-ways : {x : SegmentTree} {P Q : Form} {f : List SelectorTree → SegmentTree}
      {g : SelectorTree → SegmentTree} {F : List SelectorTree → Form} {G : SelectorTree → Form}
      → Same P (Made f F x) → Same Q (Made g G x) → Same (word (codes ".") ⌢ Either P Q)
      (Either (Made f (λ y. word (codes ".") ⌢ F y) x) (Made g (λ y. word (codes ".") ⌢ G y) x))
  dotted-ways p q = after-either ⨾ either (after p ⨾ after-made) (after q ⨾ after-made)

  pub segment-same : (x : SegmentTree) → Same (form (opening_form I) rule.segment x) (Segment I x)
  unfolding rule.segment rule.selection
  segment-same x =
      either (bracket-same false x) (after-either
      ⨾ either
      (after (dotted-ways (bracket-same true x) (member-same true x)) ⨾ dotted-ways same same)
      (after (member-same false x) ⨾ after-made))
      ⨾ record {
        to = ways (λ s o t h. bracketed h.part h.same h.is) (ways
            (ways (λ s o t h. deep_bracketed h.part h.same h.is)
            (λ s o t h. deep_dotted h.part h.same h.is)) (λ s o t h. dotted h.part h.same h.is));
        from = λ s o t h. elim h [
          | bracketed ys e g ↦ left (record { part = ys; same = e; is = g })
          | deep_bracketed ys e g ↦ right (left (left (record { part = ys; same = e; is = g })))
          | deep_dotted y e g ↦ right (left (right (record { part = y; same = e; is = g })))
          | dotted y e g ↦ right (right (record { part = y; same = e; is = g }))
        ];
      }

  pub segments-same : (xs : List SegmentTree)
      → Same (form (opening_form I) rule.segments xs) (Segments I xs)
  unfolding rule.segments
  segments-same = each (λ x. after (segment-same x))

  -- ---- queries inside others

  pub inner_query-same : (q : QueryTree) → Same (Component (form (opening_form I) rule.query_within q))
      (InnerQuery I q)
  unfolding rule.query_within rule.identifier
  inner_query-same q =
      component (then (λ absolute z. joined (either after-value after-value) (made segments-same))
      ⨾ then-made
      ⨾ made (λ p. either-before ⨾ either only-before only-before))
      ⨾ record {
        to = λ s o t h. elim h.is.is [
          | left g ↦
              from_root h.is.part.1 (h.is.same ∙ ap (λ b. query b (segments h.is.part.1)) g.same)
              (record { inside = h.inside; spans = h.spans; is = g.is })
          | right g ↦ from_current h.is.part.1
              (h.is.same ∙ ap (λ b. query b (segments h.is.part.1)) g.same)
              (record { inside = h.inside; spans = h.spans; is = g.is })
        ];
        from = λ s o t h. elim h [
          | from_root xs e g ↦ record {
            inside = g.inside;
            spans = g.spans;
            is = record {
              part = (true, xs);
              same = e;
              is = left (record { same = refl; is = g.is });
            };
          }
          | from_current xs e g ↦ record {
            inside = g.inside;
            spans = g.spans;
            is = record {
              part = (false, xs);
              same = e;
              is = right (record { same = refl; is = g.is });
            };
          }
        ];
      }

  -- a whole query, by its segments
  pub query-same : (q : QueryTree) → Same (form (opening_form I) rule.query q)
      (word (codes "$") ⌢ Made (λ xs. query true (segments xs)) (Segments I) q)
  unfolding rule.query
  query-same q = after (made segments-same)
