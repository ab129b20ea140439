-- A sweep over the parts of a pattern, from the left: it takes off the marks of each position and the
-- rounds of each repeat as it comes to them.
use Rattle.std.specs.Prelude.{◌≡◌, ◌↔◌, ℕ, ◌+◌, ◌≤◌, ◌<◌, min, Bool, IsTrue, true, false, ◌||◌, ◌&&◌}
use Rattle.std.specs.Prelude.{not, nat_le, ⊤, List, [], drop, length, get_or}
use Rattle.jp_match.specs.declared.sweep.Reach.{Reach}
use Rattle.jp_match.specs.declared.sweep.Sweep.{Sweep}
use Rattle.jp_match.specs.Private.Plain.{Plain, class, nothing, either, empty, sequence, plus}
use Rattle.jp_match.specs.Bounds.{MakesAtMost}
use Rattle.jp_match.specs.Private.Marks.{size, Rest, Ends, Steps}

-- a repeat without a most keeps whether a round of it has ended: not where a class is repeated, for
-- its mark says so, and not where there is no position
abbrev pub own_rounds : Plain → ℕ
own_rounds (class negated items) = 0
own_rounds a = min (size a) 1

-- how many repeats keep that
abbrev pub rounds_of : Plain → ℕ
rounds_of (class negated items) = 0
rounds_of nothing = 0
rounds_of (either a b) = rounds_of a + rounds_of b
rounds_of empty = 0
rounds_of (sequence a b) = rounds_of a + rounds_of b
rounds_of (plus a) = own_rounds a + rounds_of a

-- what is kept is so: a round has ended exactly where a mark has reached the end of the inner
-- pattern
abbrev pub Rounds : Plain → List Bool → List Bool → Type 0
Rounds (class negated items) marks rounds = ⊤
Rounds nothing marks rounds = ⊤
Rounds (either a b) marks rounds =
    Rounds a marks rounds × Rounds b (drop (size a) marks) (drop (rounds_of a) rounds)
Rounds empty marks rounds = ⊤
Rounds (sequence a b) marks rounds =
    Rounds a marks rounds × Rounds b (drop (size a) marks) (drop (rounds_of a) rounds)
Rounds (plus a) marks rounds =
    (own_rounds a ≡ 1 → IsTrue (get_or rounds 0 false) ↔ Rest a marks [])
    × Rounds a marks (drop (own_rounds a) rounds)

-- a sweep stands before a part: there are marks for its positions, and what is kept of its rounds is
-- so
pub record IsBefore (a : Plain) (sweep : Sweep) : Type 0 where
  pub marks : sweep.at + size a ≤ length sweep.marks.items
  pub rounds : 1 ≤ size a → sweep.round + rounds_of a ≤ length sweep.rounds.items
  pub so : Rounds a (drop sweep.at sweep.marks.items) (drop sweep.round sweep.rounds.items)

-- the lists are as long, and the same outside of the offsets from one on and before another
pub record IsSameOutside (first end : ℕ) (before after : List Bool) : Type 0 where
  pub same_length : length after ≡ length before
  pub below : (k : ℕ) → k < first → get_or after k false ≡ get_or before k false
  pub above : (k : ℕ) → end ≤ k → get_or after k false ≡ get_or before k false

-- the end of a part is reached in no way
abbrev pub nowhere : Reach
nowhere = record { before = false; after = false; after_entered = false }

-- the start of a part, which is entered before the character or not
abbrev pub at_start : Bool → Reach
at_start entered = record { before = entered; after = false; after_entered = true }

-- by one part or by another
abbrev pub by_either : Reach → Reach → Reach
by_either r s = record {
  before = r.before || s.before;
  after = r.after || s.after;
  after_entered = r.after_entered || s.after_entered;
}

-- the same where a condition holds, and else nowhere
abbrev pub only_if : Bool → Reach → Reach
only_if b r = record {
  before = b && r.before;
  after = b && r.after;
  after_entered = b && r.after_entered;
}

-- whether the end of a part is reached, from the answers for one that is not entered and for one
-- that is
abbrev pub reached : Bool → Bool → Bool → Bool
reached entered by_mark if_entered = by_mark || (entered && if_entered)

-- by a part after another, which was swept as it was entered
abbrev pub by_next : Reach → Reach → Reach
by_next r next = record {
  before = next.before;
  after = reached r.after next.after next.after_entered;
  after_entered = reached r.after_entered next.after next.after_entered;
}

-- the sweep has gone over so many positions and so many repeats, by one class test for each position
-- at most; its character stays, and what stands before them and after them is as it was
pub record GoesOver (positions repeats : ℕ) (before after : Sweep) : Type 0 where
  pub char : after.c ≡ before.c
  pub at : after.at ≡ before.at + positions
  pub round : after.round ≡ before.round + repeats
  pub marks : IsSameOutside before.at after.at before.marks.items after.marks.items
  pub rounds : IsSameOutside before.round after.round before.rounds.items after.rounds.items
  pub tests : MakesAtMost positions before.tests after.tests

-- the sweep has gone over a part and moved its marks over its character; told is how the part's end
-- is reached where its start is reached so
pub record Moves (a : Plain) (start : Reach) (before after : Sweep) (end : Reach) : Type 0 where
  pub over : GoesOver (size a) (rounds_of a) before after
  pub open over use *
  pub step : Steps a before.c start.before (drop before.at before.marks.items)
      (drop before.at after.marks.items) end.before
  pub ends : Ends a start.after (drop before.at after.marks.items) end.after
  pub ends_too : Ends a start.after_entered (drop before.at after.marks.items) end.after_entered
  pub so : Rounds a (drop before.at after.marks.items) (drop before.round after.rounds.items)

-- the same as tests, for what is kept from one character to the next: a pattern has the empty word
abbrev pub takes_none : Plain → Bool
takes_none (class negated items) = false
takes_none nothing = false
takes_none (either a b) = takes_none a || takes_none b
takes_none empty = true
takes_none (sequence a b) = takes_none a && takes_none b
takes_none (plus a) = takes_none a

-- a mark has reached the end
abbrev pub marks_end : Plain → List Bool → Bool
marks_end (class negated items) marks = get_or marks 0 false
marks_end nothing marks = false
marks_end (either a b) marks = marks_end a marks || marks_end b (drop (size a) marks)
marks_end empty marks = false
marks_end (sequence a b) marks =
    (marks_end a marks && takes_none b) || marks_end b (drop (size a) marks)
marks_end (plus a) marks = marks_end a marks

-- one truth value is the other
abbrev pub is_same : Bool → Bool → Bool
is_same true b = b
is_same false b = not b

-- what is kept of the rounds is so
abbrev pub rounds_end : Plain → List Bool → List Bool → Bool
rounds_end (class negated items) marks rounds = true
rounds_end nothing marks rounds = true
rounds_end (either a b) marks rounds =
    rounds_end a marks rounds && rounds_end b (drop (size a) marks) (drop (rounds_of a) rounds)
rounds_end empty marks rounds = true
rounds_end (sequence a b) marks rounds =
    rounds_end a marks rounds && rounds_end b (drop (size a) marks) (drop (rounds_of a) rounds)
rounds_end (plus a) marks rounds =
    (nat_le (own_rounds a) 0 || is_same (get_or rounds 0 false) (marks_end a marks))
    && rounds_end a marks (drop (own_rounds a) rounds)

-- where the number of its positions is known, both numbers are those of the part
pub record IsSize (a : Plain) (positions rounds : ℕ) : Type 0 where
  pub positions_so : 1 ≤ positions → size a ≡ positions
  pub rounds_so : 1 ≤ positions → rounds_of a ≡ rounds

-- none of the next positions, as many as that, has a mark
abbrev pub IsUnmarked : Sweep → ℕ → Type 0
IsUnmarked sweep positions =
    (k : ℕ) → k < positions → IsTrue (get_or sweep.marks.items (sweep.at + k) false) → ⊥

-- a part without rounds has no mark: where it is not entered, a step leaves it as it is
pub record IsIdle (a : Plain) (sweep : Sweep) (positions : ℕ) (has_empty_word : Bool) : Type 0 where
  pub sized : size a ≡ positions
  pub no_rounds : rounds_of a ≡ 0
  pub takes : takes_none a ≡ has_empty_word
  pub no_mark : IsUnmarked sweep positions

-- a sweep stands at the start of a whole pattern, which has no mark from an offset on
pub record IsAtStart (a : Plain) (end : ℕ) (sweep : Sweep) : Type 0 where
  pub before : IsBefore a sweep
  pub at : sweep.at ≡ 0
  pub sized : length sweep.marks.items ≡ size a
  pub ended : (k : ℕ) → end ≤ k → IsTrue (get_or sweep.marks.items k false) → ⊥

-- the sweep has moved the marks of a whole pattern over its character, and there is none from its end
-- on; told is how the end is reached, as for a part
pub record MovesAll (a : Plain) (entered : Bool) (before after : Sweep) (end : Reach) : Type 0 where
  pub marks : length after.marks.items ≡ length before.marks.items
  pub rounds : length after.rounds.items ≡ length before.rounds.items
  pub within : after.at ≤ size a
  pub none : (k : ℕ) → after.at ≤ k → IsTrue (get_or after.marks.items k false) → ⊥
  pub step : Steps a before.c entered (drop before.at before.marks.items)
      (drop before.at after.marks.items) end.before
  pub ends : Ends a false (drop before.at after.marks.items) end.after
  pub ends_too : Ends a true (drop before.at after.marks.items) end.after_entered
  pub so : Rounds a (drop before.at after.marks.items) (drop before.round after.rounds.items)
  pub tests : MakesAtMost after.at before.tests after.tests
