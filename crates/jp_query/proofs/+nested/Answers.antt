use Rattle.std.proofs.Common.{◌≡◌, ℕ, ◌+◌, ◌<◌, ◌≤◌, ◌++◌, ◌∷◌, [], true, false, true≢false}
use Rattle.std.proofs.Common.{length, get_or, drop, map, rules, refl, sym, ap, subst, ◌∙◌, arith}
use Rattle.std.specs.Str.{chars}
use Rattle.std.specs.String.{string_bytes}
use Rattle.std.proofs.lemmas.Str.{chars-nil}
use Rattle.std.proofs.lemmas.List.{length-map, length-append, drop_more, drop_all}
use Rattle.jp_reading.specs.Texts.{Text}
use Rattle.jp_reading.specs.Outcome.{State, Outcome, took, ◌>>=◌, skip, expect, passes, is}
use Rattle.jp_reading.specs.Outcome.{after_blank, component_since}
use Rattle.jp_reading.specs.Views.{Fails, Gives, outcome_map}
use Rattle.jp_reading.specs.Rule.{here, beyond, blanks, relaxed, ◌>>◌}
use Rattle.jp_reading.specs.RuleReading.{spanned_if}
use Rattle.jp_reading.proofs.States.Folds.{fails-then}
use Rattle.jp_reading.proofs.Rules.Rounds as loops
use Rattle.jp_tree.specs.declared.tree.Subject.{the_lemmas}
use Rattle.jp_tree.specs.Tree.{SegmentTree}
use Rattle.jp_tree.specs.Views.{argument_of, expr_of}
use Rattle.jp_tree.specs.Views.{literal_of, selector_of, segment_of}
use Rattle.jp_tree.specs.Tree.{ArgumentTree, OperandTree, true_literal, false_literal}
use Rattle.jp_tree.specs.Tree.{null_literal, logical_argument}
use Rattle.jp_tree.specs.Tree.{any_of, all_of, call_test, literal as literal_operand}
use Rattle.jp_reading.specs.Characters.{ampersand, bar, comma}
use Rattle.jp_reading.specs.Characters.{closing_parenthesis, letter_t, letter_f, letter_n}
use Rattle.jp_query.specs.Grammar.{joined}
use Rattle.jp_query.specs.Private.Rules.{QueryRule, bracket, in_brackets, entries, segment}
use Rattle.jp_query.specs.Private.Rules.{segments, begins_segment, entry, basic}
use Rattle.jp_query.specs.Private.Rules.{conjunction, other_parts, call_with}
use Rattle.jp_query.specs.Private.Rules.{argument, argument_start, argument_on}
use Rattle.jp_query.specs.Private.Rules.{next_argument, some_arguments, is_logical, query_within}
use Rattle.jp_query.specs.Private.Rules.{inside_expression, side, word_from, word_of}
use Rattle.jp_query.specs.Private.Parts.{boxed_argument, boxed_expr, boxed_operand, boxed_selector}
use Rattle.jp_query.specs.Private.Parts.{first_argument, uncompared_of}
use Rattle.jp_query.specs.Private.Parts.{next_entry, character_of, part_of, several}
use Rattle.jp_query.specs.Private.Reading.{inside, call_inside, read_inside}
use Rattle.jp_query.proofs.Levels.{inside-progress, inside-entered}
use Rattle.jp_tree.proofs.Trees.{tree_subject_call}
use Rattle.jp_query.proofs.Readers.Exits.{err_is}
use Rattle.jp_query.proofs.Readers.ArgumentParts as parts
use Rattle.jp_query.proofs.Readers.Openings as openings
use Rattle.jp_query.proofs.Readers.Rounds as rounds
use Rattle.jp_query.proofs.+nested.Goals as goal

-- ---- segments

abbrev next_segment : QueryRule true beyond beyond SegmentTree
next_segment = blanks {m = beyond} >> relaxed segment

pub segments::segments-returns-in_err-next : goal.segments::segments-returns-in_err-next
unfolding segments
segments::segments-returns-in_err-next t c =
    let failed : Fails c.in_err-next.field-0.0
    (read_inside c.args.levels segment (skip c.segments.reader)) =
    rw c.skip.ensures at c.in_err-next.ensures in
    rw (err_is c.from_residual.result c.from_residual.ensures.1, ← c.segments.invariant)
    (loops.some_fail (inside c.args.levels)
    (inside-progress c.args.levels) beyond begins_segment next_segment c.segments.reader
    (map segment_of c.segments.segments.items) c.in_err-next.field-0.0
    (sym c.is_before_segment.ensures ∙ c.segments-test.true) failed)

pub segments::segments-segments-smaller : goal.segments::segments-segments-smaller
segments::segments-segments-smaller t c =
    loops.some-smaller (inside c.args.levels)
    (inside-progress c.args.levels) beyond begins_segment next_segment c.segments.reader
    c.segment.new.reader _
    (ap (read_inside c.args.levels segment) (sym c.skip.ensures) ∙ c.in_ok-next.ensures)

pub segments::segments-segments-preserved : goal.segments::segments-segments-preserved
unfolding segments
segments::segments-segments-preserved t c =
    rw (rounds.map-pushed segment_of c.segments.segments.items c.in_ok-next.next
    c.in_ok-append.ensures) (sym (loops.some_on (inside c.args.levels)
    (inside-progress c.args.levels) beyond begins_segment next_segment c.segments.reader
    c.segment.new.reader (map segment_of c.segments.segments.items) (segment_of c.in_ok-next.next)
    (sym c.is_before_segment.ensures ∙ c.segments-test.true)
    (ap (read_inside c.args.levels segment) (sym c.skip.ensures) ∙ c.in_ok-next.ensures))
    ∙ c.segments.invariant)

pub segments::segments-returns : goal.segments::segments-returns
unfolding segments
segments::segments-returns t c =
    sym c.segments.invariant ∙ loops.some_end (inside c.args.levels)
    (inside-progress c.args.levels) beyond begins_segment next_segment c.segments.reader
    (map segment_of c.segments.segments.items)
    (sym c.is_before_segment.ensures ∙ c.segments-test.false)

-- ---- selectors in brackets

pub selectors::entries-entries-init : goal.selectors::entries-entries-init
unfolding entries
selectors::entries-entries-init t c =
    rw (
      rounds.map-first selector_of c.in_ok-append_boxed.ensures c.new-selectors.ensures.items,
      c.in_ok-first.ensures,
    ) refl

pub selectors::entries-returns-in_err-next : goal.selectors::entries-returns-in_err-next
selectors::entries-returns-in_err-next t c =
    rw (
      err_is c.from_residual-in_err-next.result c.from_residual-in_err-next.ensures.1,
      ← c.entries.invariant,
    )
    (loops.some_fail (inside c.args.levels) (inside-progress c.args.levels) here (is comma)
    next_entry c.entries.reader (map selector_of c.entries.selectors.items)
    c.in_err-next.field-0.0 (sym c.is_at.ensures ∙ c.entries-test.true) c.in_err-next.ensures)

pub selectors::entries-entries-smaller : goal.selectors::entries-entries-smaller
selectors::entries-entries-smaller t c =
    loops.some-smaller (inside c.args.levels) (inside-progress c.args.levels) here (is comma)
    next_entry c.entries.reader c.next_entry.new.reader _ c.in_ok-next.ensures

pub selectors::entries-entries-preserved : goal.selectors::entries-entries-preserved
selectors::entries-entries-preserved t c =
    rw (rounds.map-pushed selector_of c.entries.selectors.items c.in_ok-next.next.value
    c.in_ok-append_boxed-2.ensures)
    (sym (loops.some_on (inside c.args.levels) (inside-progress c.args.levels) here (is comma)
    next_entry c.entries.reader c.next_entry.new.reader (map selector_of c.entries.selectors.items)
    (boxed_selector c.in_ok-next.next) (sym c.is_at.ensures ∙ c.entries-test.true)
    c.in_ok-next.ensures) ∙ c.entries.invariant)

pub selectors::entries-returns : goal.selectors::entries-returns
selectors::entries-returns t c =
    sym c.entries.invariant
    ∙ loops.some_end (inside c.args.levels) (inside-progress c.args.levels) here
    (is comma) next_entry c.entries.reader
    (map selector_of c.entries.selectors.items) (sym c.is_at.ensures ∙ c.entries-test.false)

pub selectors::next_entry-returns : goal.selectors::next_entry-returns
unfolding entry
selectors::next_entry-returns t c =
    rw (c.in_ok-expect.ensures.taken, ← c.skip.ensures) c.entry.ensures

-- ---- parts of expressions

pub expressions::joined_from-returns-then-not-is_before_joint :
    goal.expressions::joined_from-returns-then-not-is_before_joint
expressions::joined_from-returns-then-not-is_before_joint t c =
    ap (outcome_map (λ es. joined (several c.args.connective) (boxed_expr c.args.first ∷ es)))
    (rounds.parts-none (inside c.args.levels) (character_of c.args.connective)
    (part_of c.args.connective) c.args.reader.now
    (sym c.is_before_joint.ensures ∙ c.if-not-is_before_joint.true))

pub expressions::joined_from-parts-init : goal.expressions::joined_from-parts-init
expressions::joined_from-parts-init t c =
    let components : c.append_boxed.new.list.items ≡ c.args.first.value ∷ [] =
    c.in_ok-append_boxed.ensures ∙ ap (λ xs. xs ++ c.args.first.value ∷ []) c.new-parts.ensures.items in
    let on : passes (is (character_of c.args.connective)) (after_blank c.args.reader.now) ≡ true =
    sym c.is_before_joint.ensures ∙ c.if-not-is_before_joint.false in
    record {
      total = rw (ap (map expr_of) components) refl;
      some = rw components (omega arith);
      several = λ off. absurd (true≢false (sym on ∙ off));
    }

pub expressions::joined_from-returns-in_err-joint :
    goal.expressions::joined_from-returns-in_err-joint
expressions::joined_from-returns-in_err-joint t c =
    let e = c.in_err-joint.field-0.0 in
    rw (err_is c.from_residual-in_err-joint.result c.from_residual-in_err-joint.ensures.1)
    (rounds.parts-fail c.args.levels c.args.connective (boxed_expr c.args.first) c.args.reader.now
    e (map expr_of c.parts.parts.items) c.parts.reader c.parts.invariant.total
    (sym c.is_before_joint-in-parts.ensures ∙ c.parts-test.true)
    (rounds.joint-fails (inside c.args.levels) (character_of c.args.connective)
    (part_of c.args.connective) c.parts.reader e
    c.in_err-joint.ensures))

pub expressions::joined_from-returns-in_err-next :
    goal.expressions::joined_from-returns-in_err-next
expressions::joined_from-returns-in_err-next t c =
    let e = c.in_err-next.field-0.0 in
    rw (err_is c.from_residual-in_err-next.result c.from_residual-in_err-next.ensures.1)
    (rounds.parts-fail c.args.levels c.args.connective (boxed_expr c.args.first) c.args.reader.now
    e (map expr_of c.parts.parts.items) c.parts.reader c.parts.invariant.total
    (sym c.is_before_joint-in-parts.ensures ∙ c.parts-test.true)
    (rounds.part-fails (inside c.args.levels) (character_of c.args.connective)
    (part_of c.args.connective) c.parts.reader c.joint.new.reader
    (character_of c.args.connective) e c.in_ok-joint.ensures c.in_err-next.ensures))

pub expressions::joined_from-parts-smaller : goal.expressions::joined_from-parts-smaller
expressions::joined_from-parts-smaller t c =
    rounds.parts-smaller c.args.levels c.args.connective (boxed_expr c.args.first) c.args.reader.now
    c.parts.reader c.joint.new.reader c.part.new.reader (boxed_expr c.in_ok-next.next)
    c.in_ok-joint.ensures c.in_ok-next.ensures

pub expressions::joined_from-parts-preserved :
    goal.expressions::joined_from-parts-preserved
expressions::joined_from-parts-preserved t c =
    let some = c.parts.invariant.some in
    let two : 2 ≤ length c.append_boxed-in-parts.new.list.items = rw c.in_ok-append_boxed-2.ensures
    (omega (arith, length-append c.parts.parts.items (c.in_ok-next.next.value ∷ []))) in
    record {
      total = rw (rounds.map-pushed expr_of c.parts.parts.items c.in_ok-next.next.value
          c.in_ok-append_boxed-2.ensures)
          (rounds.parts-on c.args.levels c.args.connective (boxed_expr c.args.first) c.args.reader.now
          (map expr_of c.parts.parts.items) c.parts.reader c.joint.new.reader c.part.new.reader
          (boxed_expr c.in_ok-next.next) c.parts.invariant.total
          (sym c.is_before_joint-in-parts.ensures ∙ c.parts-test.true)
          c.in_ok-joint.ensures c.in_ok-next.ensures);
      some = omega arith;
      several = λ off. two;
    }

pub expressions::joined_from-returns : goal.expressions::joined_from-returns
expressions::joined_from-returns t c =
    let off : passes (is (character_of c.args.connective)) (after_blank c.parts.reader) ≡ false =
    sym c.is_before_joint-in-parts.ensures ∙ c.parts-test.false in
    let two = c.parts.invariant.several off in
    rounds.parts-end c.args.levels c.args.connective (boxed_expr c.args.first) c.args.reader.now
    (map expr_of c.parts.parts.items) c.parts.reader c.parts.invariant.total off (rw length-map two)
    ∙ ap (λ e. took e c.parts.reader) (sym c.in_ok-joined.ensures)

-- ---- levels and brackets

pub expressions::inside-returns-then-levels-eq0 : goal.expressions::inside-returns-then-levels-eq0
unfolding inside_expression
expressions::inside-returns-then-levels-eq0 t c = search rules

pub expressions::inside-returns : goal.expressions::inside-returns
expressions::inside-returns t c =
    let entered = inside-entered c.args.levels c.args.opening c.args.reader.now c.expect.new.self
    (λ none. (let some = c.if-levels-eq0.false in omega arith)) c.in_ok-expect.ensures.taken in
    rw (entered, ← c.skip.ensures) c.expression.ensures

pub segments::bracketed-returns : goal.segments::bracketed-returns
unfolding bracket
segments::bracketed-returns t c =
    rw c.in_ok-expect.ensures.taken (subst (λ (q : State). Gives segment_of c.in_brackets.result
    c.in_brackets.new.reader (read_inside c.args.levels (in_brackets c.args.descendant) q))
    c.skip.ensures c.in_brackets.ensures)

-- ---- function expressions

pub calls::call_from-returns : goal.calls::call_from-returns
calls::call_from-returns t c =
    rw (openings.call-entered c.args.levels (chars (string_bytes c.args.name)) c.args.reader.now
    (λ none. (let some = c.if-levels-eq0.false in omega arith))) c.rest_of_call.ensures

pub calls::call-returns : goal.calls::call-returns
calls::call-returns t c =
    rw (ap chars c.new-name.ensures.bytes ∙ chars-nil) at c.call_from.ensures

-- ---- arguments

pub calls::some_arguments-returns-in_err-first : goal.calls::some_arguments-returns-in_err-first
unfolding some_arguments
calls::some_arguments-returns-in_err-first t c =
    rw (err_is c.from_residual.result c.from_residual.ensures.1)
    (fails-then c.in_err-first.field-0.0 (read_inside c.args.levels argument c.args.reader.now) _
    c.in_err-first.ensures)

pub calls::some_arguments-returns-in_err-next : goal.calls::some_arguments-returns-in_err-next
calls::some_arguments-returns-in_err-next t c =
    let e = c.in_err-next.field-0.0 in
    let failed : Fails e (read_inside c.args.levels rounds.listed c.args.reader.now) =
    rw (← c.arguments.invariant)
    (loops.some_fail (inside c.args.levels) (inside-progress c.args.levels) beyond
    (is comma) next_argument c.arguments.reader (map argument_of c.arguments.arguments.items) e
    (sym c.is_before.ensures ∙ c.arguments-test.true) c.in_err-next.ensures) in
    rw (
      err_is c.from_residual-in_err-next.result c.from_residual-in_err-next.ensures.1,
      parts.arguments-closed (inside c.args.levels) c.args.reader.now,
    )
    (fails-then e (read_inside c.args.levels rounds.listed c.args.reader.now) _ failed)

pub calls::some_arguments-arguments-smaller : goal.calls::some_arguments-arguments-smaller
calls::some_arguments-arguments-smaller t c =
    loops.some-smaller (inside c.args.levels) (inside-progress c.args.levels) beyond
    (is comma) next_argument c.arguments.reader c.next_argument.new.reader _ c.in_ok-next.ensures

pub calls::some_arguments-arguments-preserved : goal.calls::some_arguments-arguments-preserved
calls::some_arguments-arguments-preserved t c =
    rw (rounds.map-pushed argument_of c.arguments.arguments.items c.in_ok-next.next.value
    c.in_ok-append_boxed-2.ensures)
    (sym (loops.some_on (inside c.args.levels) (inside-progress c.args.levels) beyond
    (is comma) next_argument c.arguments.reader
    c.next_argument.new.reader (map argument_of c.arguments.arguments.items)
    (boxed_argument c.in_ok-next.next)
    (sym c.is_before.ensures ∙ c.arguments-test.true) c.in_ok-next.ensures) ∙ c.arguments.invariant)

pub calls::some_arguments-returns-in_err-expect : goal.calls::some_arguments-returns-in_err-expect
calls::some_arguments-returns-in_err-expect t c =
    let e = c.in_err-expect.field-0.0 in
    let listed : read_inside c.args.levels rounds.listed c.args.reader.now ≡ took
    (map argument_of c.arguments.arguments.items) c.arguments.reader = sym c.arguments.invariant
    ∙ loops.some_end (inside c.args.levels) (inside-progress c.args.levels) beyond
    (is comma) next_argument c.arguments.reader (map argument_of c.arguments.arguments.items)
    (sym c.is_before.ensures ∙ c.arguments-test.false) in
    let failed : Fails e (expect closing_parenthesis (skip c.arguments.reader)) =
    rw c.skip.ensures at c.in_err-expect.ensures.taken in
    rw (
      err_is c.from_residual-in_err-expect.result c.from_residual-in_err-expect.ensures.1,
      parts.arguments-closed (inside c.args.levels) c.args.reader.now,
      listed,
    )
    (fails-then e (expect closing_parenthesis (skip c.arguments.reader)) _ failed)

pub calls::some_arguments-returns : goal.calls::some_arguments-returns
calls::some_arguments-returns t c =
    let listed : read_inside c.args.levels rounds.listed c.args.reader.now ≡ took
    (map argument_of c.arguments.arguments.items) c.arguments.reader = sym c.arguments.invariant
    ∙ loops.some_end (inside c.args.levels) (inside-progress c.args.levels) beyond
    (is comma) next_argument c.arguments.reader (map argument_of c.arguments.arguments.items)
    (sym c.is_before.ensures ∙ c.arguments-test.false) in
    let closed : expect closing_parenthesis (skip c.arguments.reader) ≡ took closing_parenthesis
    c.expect.new.self = rw c.skip.ensures at c.in_ok-expect.ensures.taken in
    rw (parts.arguments-closed (inside c.args.levels) c.args.reader.now, listed, closed) refl

pub calls::next_argument-returns : goal.calls::next_argument-returns
unfolding next_argument argument
calls::next_argument-returns t c =
    let taken : expect comma (skip c.args.reader.now) ≡ took comma c.expect.new.self =
    rw c.skip.ensures at c.in_ok-expect.ensures.taken in
    rw (taken, ← c.skip-2.ensures) c.argument.ensures

pub calls::argument-returns-in_err-first : goal.calls::argument-returns-in_err-first
unfolding argument
calls::argument-returns-in_err-first t c =
    let e = c.in_err-first.field-0.0 in
    let o = read_inside c.args.levels argument_start c.args.reader.now in
    rw (err_is c.from_residual.result c.from_residual.ensures.1) (fails-then e (o
    >>= λ x q. read_inside c.args.levels (argument_on x) q) _
    (fails-then e o (λ x q. read_inside c.args.levels (argument_on x) q) c.in_err-first.ensures))

pub calls::argument-returns-in_err-argument : goal.calls::argument-returns-in_err-argument
unfolding argument
calls::argument-returns-in_err-argument t c =
    rw (
      err_is c.from_residual-in_err-argument.result c.from_residual-in_err-argument.ensures.1,
      c.in_ok-first.ensures,
    ) (fails-then c.in_err-argument.field-0.0
    (read_inside c.args.levels (argument_on (first_argument c.in_ok-first.first))
    c.argument_start.new.reader) _ c.in_err-argument.ensures)

pub calls::argument-returns-then-not-is_logical : goal.calls::argument-returns-then-not-is_logical
calls::argument-returns-then-not-is_logical t c =
    let x = boxed_argument c.in_ok-argument.argument in
    let off : is_logical x ≡ false = ap (λ a. is_logical (argument_of a)) (sym c.deref.ensures)
    ∙ sym c.is_logical.ensures ∙ c.if-not-is_logical.true in
    parts.argument-took (inside c.args.levels) c.args.reader.now c.argument_start.new.reader
    c.argument_from.new.reader
    (first_argument c.in_ok-first.first) x c.in_ok-first.ensures c.in_ok-argument.ensures
    ∙ ap (λ b. took x (spanned_if b c.args.reader.now c.argument_from.new.reader)) off

pub calls::argument-returns : goal.calls::argument-returns
calls::argument-returns t c =
    let x = boxed_argument c.in_ok-argument.argument in
    let on : is_logical x ≡ true = ap (λ a. is_logical (argument_of a)) (sym c.deref.ensures)
    ∙ sym c.is_logical.ensures ∙ c.if-not-is_logical.false in
    let added : c.add_component.new.self ≡ component_since c.args.reader.now.at
    (length c.args.reader.now.found) c.argument_from.new.reader =
    rw (c.place-start.ensures, c.components-before.ensures) at c.in_ok-add_component.ensures.added in
    parts.argument-took (inside c.args.levels) c.args.reader.now c.argument_start.new.reader
    c.argument_from.new.reader
    (first_argument c.in_ok-first.first) x c.in_ok-first.ensures c.in_ok-argument.ensures
    ∙ ap (λ b. took x (spanned_if b c.args.reader.now c.argument_from.new.reader)) on
    ∙ ap (took x) (sym added)

pub calls::argument_from-returns-then-not-is_before_part :
    goal.calls::argument_from-returns-then-not-is_before_part
calls::argument_from-returns-then-not-is_before_part t c =
    parts.argument-alone (inside c.args.levels) (inside-progress c.args.levels)
    (first_argument c.args.first) c.args.reader.now
    (sym c.is_before_part.ensures ∙ c.if-not-is_before_part.true)
    ∙ ap (λ x. took x c.args.reader.now) (sym c.in_ok-alone.ensures)

pub calls::argument_from-returns-in-Test : goal.calls::argument_from-returns-in-Test
calls::argument_from-returns-in-Test t c =
    let e = boxed_expr c.in-Test.test in
    subst (λ (o : Outcome ArgumentTree). Gives boxed_argument c.logical.result c.logical.new.reader o)
    (sym (ap (λ y. read_inside c.args.levels (argument_on y) c.args.reader.now)
    (ap first_argument c.in-Side.is)
    ∙ parts.argument-of-test (inside c.args.levels) (inside-progress c.args.levels)
    (boxed_operand c.in-Side.side) e c.args.reader.now
    (sym (ap uncompared_of c.in-Test.is) ∙ c.in_ok-literal-in-Side.ensures)
    (sym c.is_before_part.ensures ∙ c.if-not-is_before_part.false))) c.logical.ensures

pub calls::argument_from-returns-in-Logical : goal.calls::argument_from-returns-in-Logical
calls::argument_from-returns-in-Logical t c =
    let x = c.in-Logical.expr in
    subst (λ (o : Outcome ArgumentTree). Gives boxed_argument c.logical-in-Logical.result
    c.logical-in-Logical.new.reader o) (sym
    (ap (λ y. read_inside c.args.levels (argument_on y) c.args.reader.now)
    (ap first_argument c.in-Logical.is)
    ∙ parts.parts-logical (inside c.args.levels) (inside-progress c.args.levels)
    (logical_argument (boxed_expr x)) (boxed_expr x) c.args.reader.now
    (sym c.is_before_part.ensures ∙ c.if-not-is_before_part.false))) c.logical-in-Logical.ensures

pub calls::logical-returns-in_err-conjunction : goal.calls::logical-returns-in_err-conjunction
calls::logical-returns-in_err-conjunction t c =
    rw (err_is c.from_residual.result c.from_residual.ensures.1)
    (fails-then c.in_err-conjunction.field-0.0
    (outcome_map (λ es. joined all_of (boxed_expr c.args.first ∷ es))
    (read_inside c.args.levels (other_parts ampersand basic) c.args.reader.now)) _
    c.in_err-conjunction.ensures)

pub calls::logical-returns-in_err-expression :
    goal.calls::logical-returns-in_err-expression
calls::logical-returns-in_err-expression t c =
    rw (
      err_is c.from_residual-in_err-expression.result c.from_residual-in_err-expression.ensures.1,
      c.in_ok-conjunction.ensures,
    ) (fails-then c.in_err-expression.field-0.0
    (outcome_map (λ es. joined any_of (boxed_expr c.in_ok-conjunction.conjunction ∷ es))
    (read_inside c.args.levels (other_parts bar conjunction) c.joined_from.new.reader))
    (λ e q. took (logical_argument e) q) c.in_err-expression.ensures)

pub calls::logical-returns : goal.calls::logical-returns
calls::logical-returns t c =
    rw (c.in_ok-conjunction.ensures, c.in_ok-expression.ensures)
    (ap (λ x. took x c.joined_from-2.new.reader) (sym c.in_ok-alone.ensures))

-- ---- tests and sides

pub expressions::subject-returns-in_err-call : goal.expressions::subject-returns-in_err-call
expressions::subject-returns-in_err-call t c =
    rw (
      err_is c.from_residual.result c.from_residual.ensures.1,
      openings.subject-called c.args.levels c.args.reader.now
          (sym c.is_at_function.ensures ∙ c.if-is_at_function.true),
    ) (fails-then c.in_err-call.field-0.0
    (outcome_map (call_with []) (call_inside c.args.levels c.args.reader.now)) _ c.in_err-call.ensures)

pub expressions::subject-returns-then-is_at_function :
    goal.expressions::subject-returns-then-is_at_function
expressions::subject-returns-then-is_at_function t c =
    openings.subject-called c.args.levels c.args.reader.now
    (sym c.is_at_function.ensures ∙ c.if-is_at_function.true)
    ∙ ap (outcome_map call_test) c.in_ok-call.ensures
    ∙ ap (λ x. took x c.call.new.reader) (sym (tree_subject_call c.in_ok-call.field-0))

pub expressions::subject-returns-in_err-query_within :
    goal.expressions::subject-returns-in_err-query_within
expressions::subject-returns-in_err-query_within t c =
    rw (
      err_is c.from_residual-in_err-query_within.result
          c.from_residual-in_err-query_within.ensures.1,
      openings.subject-query c.args.levels c.args.reader.now
          (sym c.is_at_function.ensures ∙ c.if-is_at_function.false),
    ) (fails-then c.in_err-query_within.field-0.0
    (read_inside c.args.levels query_within c.args.reader.now) _ c.in_err-query_within.ensures)

pub expressions::subject-returns : goal.expressions::subject-returns
expressions::subject-returns t c =
    rw (
      openings.subject-query c.args.levels c.args.reader.now
          (sym c.is_at_function.ensures ∙ c.if-is_at_function.false),
      c.in_ok-query_within.ensures,
    ) (search (rules, the_lemmas))

pub expressions::compared_or_test-returns-then-is_before_operator :
    goal.expressions::compared_or_test-returns-then-is_before_operator
expressions::compared_or_test-returns-then-is_before_operator t c =
    rw (
      parts.compared-on (inside c.args.levels) (boxed_operand c.args.first) c.args.reader.now
          (sym c.is_before_operator.ensures ∙ c.if-is_before_operator.true),
      ← c.skip.ensures,
    ) c.comparison.ensures

pub sides::side-returns : goal.sides::side-returns
unfolding side
sides::side-returns t c = search rules

pub sides::word-returns-then-is_at : goal.sides::word-returns-then-is_at
sides::word-returns-then-is_at t c =
    rw (openings.word-t c.args.levels c.args.reader.now (sym c.is_at.ensures ∙ c.if-is_at.true))
    (subst (λ (more : Text). Gives boxed_operand c.word_or_call.result c.word_or_call.new.reader
    (read_inside c.args.levels (word_of true_literal letter_t more) c.args.reader.now))
    c.as_slice.ensures
    c.word_or_call.ensures)

pub sides::word-returns-then-is_at-2 : goal.sides::word-returns-then-is_at-2
sides::word-returns-then-is_at-2 t c =
    rw (openings.word-f c.args.levels c.args.reader.now (sym c.is_at-2.ensures ∙ c.if-is_at-2.true))
    (subst (λ (more : Text). Gives boxed_operand c.word_or_call-then-is_at-2.result
    c.word_or_call-then-is_at-2.new.reader
    (read_inside c.args.levels (word_of false_literal letter_f more) c.args.reader.now))
    c.as_slice-then-is_at-2.ensures
    c.word_or_call-then-is_at-2.ensures)

pub sides::word-returns-then-is_at-3 : goal.sides::word-returns-then-is_at-3
sides::word-returns-then-is_at-3 t c =
    rw (openings.word-n c.args.levels c.args.reader.now (sym c.is_at-3.ensures ∙ c.if-is_at-3.true))
    (subst (λ (more : Text). Gives boxed_operand c.word_or_call-then-is_at-3.result
    c.word_or_call-then-is_at-3.new.reader
    (read_inside c.args.levels (word_of null_literal letter_n more) c.args.reader.now))
    c.as_slice-then-is_at-3.ensures
    c.word_or_call-then-is_at-3.ensures)

pub sides::word-returns-then-not-is_at_function : goal.sides::word-returns-then-not-is_at_function
sides::word-returns-then-not-is_at_function t c =
    rw (openings.word-none c.args.levels c.args.reader.now
    (sym c.is_at_function.ensures ∙ c.if-not-is_at_function.true)
    (sym c.is_at.ensures ∙ c.if-is_at.false) (sym c.is_at-2.ensures ∙ c.if-is_at-2.false)
    (sym c.is_at-3.ensures ∙ c.if-is_at-3.false)) c.place.ensures

pub sides::word-returns : goal.sides::word-returns
sides::word-returns t c =
    rw (openings.word-other c.args.levels c.args.reader.now
    (sym c.is_at_function.ensures ∙ c.if-not-is_at_function.false)
    (sym c.is_at.ensures ∙ c.if-is_at.false) (sym c.is_at-2.ensures ∙ c.if-is_at-2.false)
    (sym c.is_at-3.ensures ∙ c.if-is_at-3.false))
    (rw (ap chars c.new-name.ensures.bytes ∙ chars-nil) at c.called.ensures)

pub sides::word_or_call-letters-init : goal.sides::word_or_call-letters-init
sides::word_or_call-letters-init t c =
    let l = literal_of c.args.literal in
    let first = c.args.first in
    let pushed : chars (string_bytes c.append_char.new.text) ≡ first ∷ [] =
    c.in_ok-append_char.ensures
    ∙ ap (λ w. w ++ first ∷ []) (ap chars c.new-name.ensures.bytes ∙ chars-nil) in
    record {
      total = rw pushed (sym (ap (λ (o : Outcome ℕ). o >>= λ d q. read_inside c.args.levels
          (word_from l (first ∷ []) c.args.others.now) q) c.in_ok-expect.ensures.taken));
      same = refl;
    }

-- the letters that are left, from the next on
letters-left : (letters : Text) (i x : ℕ) → i < length letters → x ≡ get_or letters i x
    → drop i letters ≡ x ∷ drop (i + 1) letters
letters-left letters i x within is =
    drop_more letters i x within ∙ ap (λ y. y ∷ drop (i + 1) letters) (sym is)

pub sides::word_or_call-returns-then-is_before_name :
    goal.sides::word_or_call-returns-then-is_before_name
sides::word_or_call-returns-then-is_before_name t c =
    let l = literal_of c.args.literal in
    let w = chars (string_bytes c.letters.name) in
    let i = c.letters.letter-index in
    let next = letters-left c.args.others.now i c.letter-item.result
    (let more = c.letters-test.true in omega arith) c.letter-item.is in
    subst (λ (o : Outcome OperandTree). Gives boxed_operand c.called.result c.called.new.reader o)
    (sym (sym c.letters.invariant.total
    ∙ ap (λ ys. read_inside c.args.levels (word_from l w ys) c.letters.reader) next
    ∙ openings.word-called c.args.levels l w (c.letter-item.result ∷ drop (i + 1) c.args.others.now)
    c.letters.reader (sym c.is_before_name.ensures ∙ c.if-is_before_name.true))) c.called.ensures

pub sides::word_or_call-returns-in_err-expect-2 : goal.sides::word_or_call-returns-in_err-expect-2
sides::word_or_call-returns-in_err-expect-2 t c =
    let l = literal_of c.args.literal in
    let w = chars (string_bytes c.letters.name) in
    let i = c.letters.letter-index in
    let next = letters-left c.args.others.now i c.letter-item.result
    (let more = c.letters-test.true in omega arith) c.letter-item.is in
    let step : read_inside c.args.levels (word_of l c.args.first c.args.others.now)
    c.args.reader.now ≡ read_inside c.args.levels
    (word_from l w (c.letter-item.result ∷ drop (i + 1) c.args.others.now)) c.letters.reader =
    sym c.letters.invariant.total
    ∙ ap (λ ys. read_inside c.args.levels (word_from l w ys) c.letters.reader) next in
    rw (err_is c.from_residual-in_err-expect-2.result c.from_residual-in_err-expect-2.ensures.1)
    (subst (λ (o : Outcome OperandTree). Fails c.in_err-expect-2.field-0.0 o) (sym step)
    (openings.word-fails c.args.levels l w c.letter-item.result (drop (i + 1) c.args.others.now)
    c.letters.reader c.in_err-expect-2.field-0.0
    (sym c.is_before_name.ensures ∙ c.if-is_before_name.false) c.in_err-expect-2.ensures.taken))

pub sides::word_or_call-letters-preserved : goal.sides::word_or_call-letters-preserved
sides::word_or_call-letters-preserved t c =
    let l = literal_of c.args.literal in
    let w = chars (string_bytes c.letters.name) in
    let i = c.letters.letter-index in
    let x = c.letter-item.result in
    let next = letters-left c.args.others.now i x (let more = c.letters-test.true in omega arith)
    c.letter-item.is in
    record {
      total = rw c.in_ok-append_char-2.ensures (sym
          (openings.word-goes_on c.args.levels l w x (drop (i + 1) c.args.others.now)
          c.letters.reader c.expect-in-letters.new.self
          (sym c.is_before_name.ensures ∙ c.if-is_before_name.false) c.in_ok-expect-2.ensures.taken)
          ∙ ap (λ ys. read_inside c.args.levels (word_from l w ys) c.letters.reader)
          (sym next) ∙ c.letters.invariant.total);
      same = c.letters.invariant.same;
    }

pub sides::word_or_call-returns-then-is_before_name-2 :
    goal.sides::word_or_call-returns-then-is_before_name-2
sides::word_or_call-returns-then-is_before_name-2 t c =
    let l = literal_of c.args.literal in
    let w = chars (string_bytes c.letters.name) in
    let last = drop_all c.letters.letter-index c.args.others.now
    (let end = c.letters-test.false in omega arith) in
    subst (λ (o : Outcome OperandTree). Gives boxed_operand c.called-then-is_before_name-2.result
    c.called-then-is_before_name-2.new.reader o) (sym (sym c.letters.invariant.total
    ∙ ap (λ ys. read_inside c.args.levels (word_from l w ys) c.letters.reader) last
    ∙ openings.word-called c.args.levels l w [] c.letters.reader
    (sym c.is_before_name-2.ensures ∙ c.if-is_before_name-2.true)))
    c.called-then-is_before_name-2.ensures

pub sides::word_or_call-returns : goal.sides::word_or_call-returns
sides::word_or_call-returns t c =
    let l = literal_of c.args.literal in
    let w = chars (string_bytes c.letters.name) in
    let last = drop_all c.letters.letter-index c.args.others.now
    (let end = c.letters-test.false in omega arith) in
    sym c.letters.invariant.total
    ∙ ap (λ ys. read_inside c.args.levels (word_from l w ys) c.letters.reader) last
    ∙ openings.word-ends c.args.levels l w c.letters.reader
    (sym c.is_before_name-2.ensures ∙ c.if-is_before_name-2.false)
    ∙ ap (λ x. took x c.letters.reader) (sym (c.in_ok-literal_side.ensures
    ∙ ap (λ x. literal_operand (literal_of x)) c.letters.invariant.same))
