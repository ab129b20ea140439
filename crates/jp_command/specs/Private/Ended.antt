-- How a run ended, and with which status. The private functions that run a task cite it.
use Rattle.std.specs.Prelude.{◌≡◌, ◌==◌, ◌&&◌, ℕ, Bool, List, Option, Result, Ok, Err, if◌then◌else◌}
use Rattle.jp_check.specs.declared.profile.Profile.{Profile}
use Rattle.jp_command.specs.Line.{IsWrittenBy, status_of_done}
use Rattle.jp_command.specs.Writes.{GoByCalls}
use Rattle.jp_command.specs.declared.fault.Fault.{Fault}
use Rattle.jp_command.specs.declared.words.Task.{Task}

-- the status of a run that is done and wrote so many lines
abbrev pub status_by : Bool → ℕ → ℕ
status_by tells_none count = if tells_none && (count == 0) then 6 else 0

-- how a run ended, whatever it answers where it is done
abbrev pub ending : {X : Type 0} → Result X Fault → Result (Unit {0}) Fault
ending (Ok x) = Ok tt
ending (Err f) = Err f

-- i and j are the input before and after a run, o and p the output
module _ (profile : Profile) {R W : Type 0} (remaining : R → Option (List ℕ))
    (has_failed : R → Bool) (read_gives : R → Option (List ℕ) → R → Type 0)
    (contents : W → Option (List ℕ)) (writes_failed : W → Bool)
    (write_takes : W → Option (List ℕ) → W → Type 0) where
  -- a task is done with this status, and what it writes went by calls
  pub record IsDoneWith (task : Task) (query : List ℕ) (i j : R) (o p : W) (status : ℕ) : Type 0 where
    pub output : List ℕ
    pub is : IsWrittenBy profile remaining has_failed read_gives contents writes_failed task query i j
        output
    pub goes : GoByCalls write_takes o p output
    pub ends : status ≡ status_of_done profile remaining has_failed read_gives contents writes_failed
        task query i j output is
