-- That the line of each node is written before the next node is asked for. The clause `as_found` of
-- `write_lines` cites it.
use Rattle.std.specs.Prelude.{◌≡◌, ◌⊎◌, ℕ, true, false, List, [], ◌∷◌, ◌++◌, Option, Result, Ok}
use Rattle.std.specs.Prelude.{Err}
use Rattle.std.specs.Io.KnownBytes.{Appends}
use Rattle.std.specs.List.{flat_map}
use Rattle.jp_document.specs.Node.{Node}
use Rattle.jp_document.specs.Value.{Value}
use Rattle.jp_evaluate.specs.Lent.{has_failed, rest_of}
use Rattle.jp_evaluate.specs.declared.lent.LentNodes.{LentNodes}
use Rattle.jp_command.specs.Writes.{GoByCalls, GoesToAFailure}
use Rattle.jp_command.specs.declared.fault.Fault.{Fault}
use Rattle.jp_command.specs.declared.fault.Fault.TheVariants.{NoMemory, Write}

-- o and p are the output before and after, and line_of is the line of each node
module _ {W : Type 0} (contents : W → Option (List ℕ))
    (write_takes : W → Option (List ℕ) → W → Type 0) (line_of : Node → List ℕ) where
  -- all nodes but the rest were given, and the line of each is written
  pub record WritesGiven (all rest : List Node) (o p : W) : Type 0 where
    pub given : List Node
    pub nodes : all ≡ given ++ rest
    pub written : Appends (contents o) (contents p) (flat_map line_of given)
    pub calls : GoByCalls write_takes o p (flat_map line_of given)

  -- the same of all that were given but the last, of whose line a prefix is written before the call
  -- that fails, the last that is made
  pub record WritesPart (all rest : List Node) (o p : W) : Type 0 where
    pub given : List Node
    pub last : Node
    pub nodes : all ≡ given ++ last ∷ rest
    pub prefix : List ℕ
    pub left : List ℕ
    pub line : line_of last ≡ prefix ++ left
    pub written : Appends (contents o) (contents p) (flat_map line_of given ++ prefix)
    pub between : W
    pub calls : GoByCalls write_takes o between (flat_map line_of given)
    pub goes : GoesToAFailure write_takes between p (line_of last)

  -- The nodes v were asked for, until w were left, where m says what their values stand for, and
  -- each but the last had its line before the next was asked for. Memory runs out for a line, of
  -- which nothing is written, or for the next node: then the nodes end, and which were left is not
  -- told.
  abbrev pub WritesAsFound : {V M X : Type 0} → (V → Value) → LentNodes V M → LentNodes V M → W → W
      → Result X Fault → Type 0
  WritesAsFound m v w o p (Ok x) =
      (rest_of m w ≡ []) × WritesGiven (rest_of m v) (rest_of m w) o p
  WritesAsFound m v w o p (Err NoMemory) =
      ((has_failed w ≡ false) × (last : Node)
      × WritesGiven (rest_of m v) (last ∷ rest_of m w) o p)
      ⊎ ((has_failed w ≡ true) × (rest : List Node) × WritesGiven (rest_of m v) rest o p)
  WritesAsFound m v w o p (Err Write) =
      (has_failed w ≡ false) × WritesPart (rest_of m v) (rest_of m w) o p
  WritesAsFound m v w o p (Err _) = ⊥
