-- How far the automaton reads a text, and why it stops there.
use Rattle.std.specs.Prelude.{◌≡◌, ◌-◌, ℕ, true, false, List, [], ◌∷◌, Option, Some, None, if◌then◌else◌, ◌++◌, length, Result, Ok, Err}
use Rattle.std.specs.Str.{chars}
use Rattle.jp_reading.specs.Texts.{Text, bytes}
use Rattle.jp_json.specs.declared.state.Level.{Level}
use Rattle.jp_json.specs.declared.state.State.{State}
use Rattle.jp_json.specs.declared.state.State.TheVariants.{Value}
use Rattle.jp_json.specs.declared.state.Step.{Step}
use Rattle.jp_json.specs.declared.reading.Reading.{Reading}
use Rattle.jp_json.specs.declared.reading.Stop.{Stop}
use Rattle.jp_json.specs.declared.reading.Stop.TheVariants.{Whole, Unfinished, Unexpected, TooDeep}
use Rattle.jp_json.specs.Private.Machine.{on, stuck, deep, moved, move, walk, top, is_final, may_end}

-- the most levels, and how many of them are left
abbrev pub spare_in : List Level → ℕ
spare_in k = 127 - length k

-- where a step leads from these levels, as a reader finds it: to a state and other levels, of which that
-- is the innermost, or nowhere
abbrev pub IsMoved : List Level → Step → Result (State × Option Level) Stop → List Level → Type 0
IsMoved k x (Ok s) j = (moved (spare_in k) k x ≡ on (spare_in j) j s.0) × (s.1 ≡ top j)
IsMoved k x (Err Unexpected) j = (moved (spare_in k) k x ≡ stuck) × (j ≡ k)
IsMoved k x (Err TooDeep) j = (moved (spare_in k) k x ≡ deep) × (j ≡ k)
IsMoved k x (Err Whole) j = ⊥
IsMoved k x (Err Unfinished) j = ⊥

-- the automaton goes over a front of the text to this state and these levels, and that is left
pub record IsReadTo (text rest : Text) (offset : ℕ) (k : List Level) (s : State) : Type 0 where
  pub front : Text
  pub parts : text ≡ front ++ rest
  pub offset_is : offset ≡ bytes front
  pub way : walk 127 [] Value front ≡ on (spare_in k) k s

-- why it goes no further
abbrev pub IsStopped : Stop → Text → List Level → State → Type 0
IsStopped Whole rest k s = (rest ≡ []) × (is_final k s ≡ true)
IsStopped Unfinished rest k s = (rest ≡ []) × (is_final k s ≡ false)
IsStopped Unexpected rest k s =
    (c : ℕ) × (more : Text) × (rest ≡ c ∷ more) × (move (spare_in k) k s c ≡ stuck)
IsStopped TooDeep rest k s =
    (c : ℕ) × (more : Text) × (rest ≡ c ∷ more) × (move (spare_in k) k s c ≡ deep)

-- why it goes no further at the end of a text
abbrev pub at_end : Option Level → State → Stop
at_end None s = if may_end s then Whole else Unfinished
at_end (Some l) s = Unfinished

-- it goes so far, and no further
pub record IsReading (text : Text) (r : Reading) : Type 0 where
  pub open_levels : List Level
  pub read : IsReadTo text (chars r.rest.now) r.offset open_levels r.state
  pub top_is : r.top ≡ top open_levels
  pub stops : IsStopped r.stop (chars r.rest.now) open_levels r.state
