-- Characters that lead the automaton from a state to a state, whatever levels are open.
use Rattle.std.specs.Prelude.{◌≡◌, ◌≤◌, ◌<◌, ◌+◌, ℕ, Bool, true, List, ◌++◌, length, get_or, take, nat_lt}
use Rattle.std.specs.Str.{chars}
use Rattle.jp_reading.specs.Forms.{AllPassing}
use Rattle.jp_reading.specs.Texts.{Text, bytes}
use Rattle.jp_json.specs.declared.state.Level.{Level}
use Rattle.jp_json.specs.declared.state.Role.{Role}
use Rattle.jp_json.specs.declared.state.State.{State}
use Rattle.jp_json.specs.declared.state.State.TheVariants.{Text as InText}
use Rattle.jp_json.specs.Private.Machine.{on, walk}

-- a text has some characters, over which the automaton goes from the one state to the other, and then
-- the rest
pub record IsBehindRun (s e : State) (text rest : List ℕ) : Type 0 where
  pub run : Text
  pub parts : chars text ≡ run ++ chars rest
  pub size : length text ≡ bytes run + length rest
  pub leads : (n : ℕ) (k : List Level) → walk n k s run ≡ on n k e

-- a text has some characters of a string, and then the rest
abbrev pub IsBehindText : List ℕ → List ℕ → Type 0
IsBehindText text rest = (r : Role) → IsBehindRun (InText r) (InText r) text rest

abbrev pub is_ascii : ℕ → Bool
is_ascii c = nat_lt c 128

-- the first so many bytes are ASCII characters, over which the automaton goes from the one state to the
-- other
pub record LeadsOver (s e : State) (text : List ℕ) (size : ℕ) : Type 0 where
  pub within : size ≤ length text
  pub ascii : AllPassing is_ascii (take size text)
  pub leads : (n : ℕ) (k : List Level) → walk n k s (take size text) ≡ on n k e

-- the first so many bytes pass the test
pub record FrontPasses (p : ℕ → Bool) (text : List ℕ) (size : ℕ) : Type 0 where
  pub within : size ≤ length text
  pub passes : (k : ℕ) → k < size → p (get_or text k 0) ≡ true
