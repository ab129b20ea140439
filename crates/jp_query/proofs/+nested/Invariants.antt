-- Each call of the cycle opens a level more, or goes on in the same one, where the functions are
-- numbered by how far they have to go. A call that opens a level has one less left, and those 32
-- outweigh what the numbers rise by.
use Rattle.std.proofs.Common.{◌≡◌, ℕ, ◌+◌, ◌*◌, ◌≤◌, ◌∷◌, false, drop, length, map}
use Rattle.std.specs.Str.{chars}
use Rattle.std.specs.String.{string_bytes}
use Rattle.jp_reading.specs.Outcome.{after_blank, passes, is}
use Rattle.jp_reading.specs.Views.{outcome_map, with_prefix}
use Rattle.jp_tree.specs.Views.{argument_of, expr_of, literal_of, selector_of, segment_of}
use Rattle.jp_reading.specs.Rule.{beyond, some}
use Rattle.jp_reading.specs.Characters.{comma}
use Rattle.jp_query.specs.declared.expressions.Connective.{Connective}
use Rattle.jp_query.specs.declared.expressions.Connective.TheVariants.{Or, And}
use Rattle.jp_query.specs.Private.Parts.{boxed_expr, character_of, part_of}
use Rattle.jp_query.specs.Private.Rules.{segments, entries, other_parts, next_argument, word_from}
use Rattle.jp_query.specs.Private.Rules.{word_of}
use Rattle.jp_query.specs.Private.Reading.{read_inside}
use Rattle.jp_query.proofs.Readers.Rounds.{other_entries, listed}
use Rattle.jp_query.proofs.+nested.Given as goal

abbrev pub decreases-expressions::inside : goal.decreases-expressions::inside
decreases-expressions::inside l = l.levels * 32 + 0

abbrev pub decreases-selectors::selector : goal.decreases-selectors::selector
decreases-selectors::selector l = l.levels * 32 + 1

abbrev pub decreases-selectors::entry : goal.decreases-selectors::entry
decreases-selectors::entry l = l.levels * 32 + 2

abbrev pub decreases-selectors::next_entry : goal.decreases-selectors::next_entry
decreases-selectors::next_entry l = l.levels * 32 + 3

abbrev pub decreases-expressions::parenthesis : goal.decreases-expressions::parenthesis
decreases-expressions::parenthesis l = l.levels * 32 + 2

abbrev pub decreases-selectors::entries : goal.decreases-selectors::entries
decreases-selectors::entries l = l.levels * 32 + 4

abbrev pub decreases-segments::in_brackets : goal.decreases-segments::in_brackets
decreases-segments::in_brackets l = l.levels * 32 + 5

abbrev pub decreases-segments::bracketed : goal.decreases-segments::bracketed
decreases-segments::bracketed l = l.levels * 32 + 6

abbrev pub decreases-segments::segment : goal.decreases-segments::segment
decreases-segments::segment l = l.levels * 32 + 7

abbrev pub decreases-segments::segments : goal.decreases-segments::segments
decreases-segments::segments l = l.levels * 32 + 8

abbrev pub decreases-sides::query_within : goal.decreases-sides::query_within
decreases-sides::query_within l = l.levels * 32 + 9

abbrev pub decreases-calls::call_from : goal.decreases-calls::call_from
decreases-calls::call_from l = l.levels * 32 + 9

abbrev pub decreases-calls::rest_of_call : goal.decreases-calls::rest_of_call
decreases-calls::rest_of_call l = l.levels * 32 + 33

abbrev pub decreases-calls::call : goal.decreases-calls::call
decreases-calls::call l = l.levels * 32 + 10

abbrev pub decreases-sides::called : goal.decreases-sides::called
decreases-sides::called l = l.levels * 32 + 10

abbrev pub decreases-sides::word_or_call : goal.decreases-sides::word_or_call
decreases-sides::word_or_call l = l.levels * 32 + 11

abbrev pub decreases-sides::word : goal.decreases-sides::word
decreases-sides::word l = l.levels * 32 + 12

abbrev pub decreases-sides::side_within : goal.decreases-sides::side_within
decreases-sides::side_within l = l.levels * 32 + 13

abbrev pub decreases-sides::side : goal.decreases-sides::side
decreases-sides::side l = l.levels * 32 + 14

abbrev pub decreases-expressions::comparison : goal.decreases-expressions::comparison
decreases-expressions::comparison l = l.levels * 32 + 15

abbrev pub decreases-expressions::compared_or_test : goal.decreases-expressions::compared_or_test
decreases-expressions::compared_or_test l = l.levels * 32 + 16

abbrev pub decreases-expressions::subject : goal.decreases-expressions::subject
decreases-expressions::subject l = l.levels * 32 + 17

abbrev pub decreases-expressions::test : goal.decreases-expressions::test
decreases-expressions::test l = l.levels * 32 + 18

abbrev pub decreases-expressions::negated : goal.decreases-expressions::negated
decreases-expressions::negated l = l.levels * 32 + 19

abbrev pub decreases-expressions::negation : goal.decreases-expressions::negation
decreases-expressions::negation l = l.levels * 32 + 20

abbrev pub decreases-expressions::basic : goal.decreases-expressions::basic
decreases-expressions::basic l = l.levels * 32 + 21

-- how much a connective's parts nest at one level
abbrev rank : Connective → ℕ
rank Or = 25
rank And = 22

abbrev pub decreases-expressions::part : goal.decreases-expressions::part
decreases-expressions::part l = l.levels * 32 + rank l.connective

abbrev pub decreases-expressions::joined_from : goal.decreases-expressions::joined_from
decreases-expressions::joined_from l = l.levels * 32 + (rank l.connective + 1)

abbrev pub decreases-expressions::conjunction : goal.decreases-expressions::conjunction
decreases-expressions::conjunction l = l.levels * 32 + 24

abbrev pub decreases-expressions::expression : goal.decreases-expressions::expression
decreases-expressions::expression l = l.levels * 32 + 27

abbrev pub decreases-calls::compared_or_alone : goal.decreases-calls::compared_or_alone
decreases-calls::compared_or_alone l = l.levels * 32 + 26

abbrev pub decreases-calls::logical : goal.decreases-calls::logical
decreases-calls::logical l = l.levels * 32 + 27

abbrev pub decreases-calls::argument_start : goal.decreases-calls::argument_start
decreases-calls::argument_start l = l.levels * 32 + 27

abbrev pub decreases-calls::argument_from : goal.decreases-calls::argument_from
decreases-calls::argument_from l = l.levels * 32 + 28

abbrev pub decreases-calls::argument : goal.decreases-calls::argument
decreases-calls::argument l = l.levels * 32 + 29

abbrev pub decreases-calls::next_argument : goal.decreases-calls::next_argument
decreases-calls::next_argument l = l.levels * 32 + 30

abbrev pub decreases-calls::some_arguments : goal.decreases-calls::some_arguments
decreases-calls::some_arguments l = l.levels * 32 + 31

abbrev pub decreases-calls::arguments : goal.decreases-calls::arguments
decreases-calls::arguments l = l.levels * 32 + 32

abbrev pub invariant-segments::segments-segments : goal.invariant-segments::segments-segments
invariant-segments::segments-segments l =
    with_prefix (map segment_of l.segments.items)
    (read_inside l.levels segments l.reader) ≡ read_inside l.levels segments l.initial.reader

abbrev pub decreases-segments::segments-segments : goal.decreases-segments::segments-segments
decreases-segments::segments-segments l = length l.reader.rest

abbrev pub invariant-selectors::entries-entries : goal.invariant-selectors::entries-entries
invariant-selectors::entries-entries l =
    with_prefix (map selector_of l.selectors.items)
    (read_inside l.levels other_entries l.reader) ≡ read_inside l.levels entries l.fn.reader

abbrev pub decreases-selectors::entries-entries : goal.decreases-selectors::entries-entries
decreases-selectors::entries-entries l = length l.reader.rest

abbrev pub invariant-expressions::joined_from-parts : goal.invariant-expressions::joined_from-parts
invariant-expressions::joined_from-parts l = record {
  total : with_prefix (map expr_of l.parts.items)
      (read_inside l.levels (other_parts (character_of l.connective) (part_of l.connective)) l.reader)
      ≡ outcome_map (λ es. boxed_expr l.fn.first ∷ es)
      (read_inside l.levels (other_parts (character_of l.connective)
      (part_of l.connective)) l.fn.reader);
  some : 1 ≤ length l.parts.items;
  several : passes (is (character_of l.connective)) (after_blank l.reader) ≡ false
      → 2 ≤ length l.parts.items;
}

abbrev pub decreases-expressions::joined_from-parts : goal.decreases-expressions::joined_from-parts
decreases-expressions::joined_from-parts l = length l.reader.rest

abbrev pub invariant-calls::some_arguments-arguments :
    goal.invariant-calls::some_arguments-arguments
invariant-calls::some_arguments-arguments l =
    with_prefix (map argument_of l.arguments.items)
    (read_inside l.levels (some beyond (is comma) next_argument) l.reader)
    ≡ read_inside l.levels listed l.fn.reader

abbrev pub decreases-calls::some_arguments-arguments :
    goal.decreases-calls::some_arguments-arguments
decreases-calls::some_arguments-arguments l = length l.reader.rest

abbrev pub invariant-sides::word_or_call-letters : goal.invariant-sides::word_or_call-letters
invariant-sides::word_or_call-letters l = record {
  total : read_inside l.levels (word_from (literal_of l.fn.literal) (chars (string_bytes l.name))
      (drop l.letter-index l.fn.others)) l.reader
      ≡ read_inside l.levels (word_of (literal_of l.fn.literal) l.fn.first l.fn.others) l.fn.reader;
  same : l.literal ≡ l.fn.literal;
}
