-- What a run has written to its output: all of a text, or a prefix of one, and nothing else. `Run`,
-- `QueryLine` and `Line` say with which answer each holds.
use Rattle.std.specs.Prelude.{◌≡◌, ℕ, Bool, List, ◌++◌, Option}
use Rattle.std.specs.Io.KnownBytes.{Appends}

-- a writer took a prefix of the text
pub record AppendsPrefix (old new : Option (List ℕ)) (text : List ℕ) : Type 0 where
  pub prefix : List ℕ
  pub rest : List ℕ
  pub is : text ≡ prefix ++ rest
  pub written : Appends old new prefix

-- a writer took some text, and keeps what it had
abbrev pub AppendsSome : Option (List ℕ) → Option (List ℕ) → Type 0
AppendsSome old new = (text : List ℕ) × Appends old new text

-- o and p are the output before and after
module _ {W : Type 0} (contents : W → Option (List ℕ)) (has_failed : W → Bool) where
  -- the text was written to its end, and no write failed
  pub record WritesAll (o p : W) (text : List ℕ) : Type 0 where
    pub written : Appends (contents o) (contents p) text
    pub works : has_failed p ≡ has_failed o

  -- an output with this property was written, and nothing else
  pub record WritesOutput (IsOutput : List ℕ → Type 0) (o p : W) : Type 0 where
    pub output : List ℕ
    pub is : IsOutput output
    pub writes : WritesAll o p output

  -- a prefix of an output with this property was written
  pub record WritesPrefix (IsOutput : List ℕ → Type 0) (o p : W) : Type 0 where
    pub output : List ℕ
    pub is : IsOutput output
    pub written : AppendsPrefix (contents o) (contents p) output
