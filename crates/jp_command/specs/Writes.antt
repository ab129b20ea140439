-- Calls of `write` and `flush`, one after another, and how far a text went by them. The clauses of
-- what writes cite it, and `Line` does.
use Rattle.std.specs.Prelude.{◌≡◌, ◌⊎◌, ℕ, List, [], ◌++◌, Option, Some, None, Result, Ok, Err}
use Rattle.jp_command.specs.declared.fault.Fault.{Fault}
use Rattle.jp_command.specs.declared.fault.Fault.TheVariants.{Write}

-- `write_takes k (Some bytes) p` says that one call leads from k to p and took these bytes, and
-- `write_takes k None p` that one leads there that failed
module _ {W : Type 0} (write_takes : W → Option (List ℕ) → W → Type 0) where
  -- bytes went from o on by one call after another, none of which failed
  pub data GoByCalls (o : W) : W → List ℕ → Type 0 where
    none : GoByCalls o o []
    one_more : (k p : W) (before last bytes : List ℕ) → GoByCalls o k before
        → write_takes k (Some last) p → bytes ≡ before ++ last → GoByCalls o p bytes

  -- a prefix of the text went, and no call failed
  pub record GoesInPart (o p : W) (text : List ℕ) : Type 0 where
    pub prefix : List ℕ
    pub rest : List ℕ
    pub is : text ≡ prefix ++ rest
    pub calls : GoByCalls o p prefix

  -- a prefix of the text went, and the call after it failed, the last that was made
  pub record GoesToAFailure (o p : W) (text : List ℕ) : Type 0 where
    pub prefix : List ℕ
    pub rest : List ℕ
    pub is : text ≡ prefix ++ rest
    pub between : W
    pub calls : GoByCalls o between prefix
    pub last : write_takes between None p

  -- how far an output with this property went, by the answer; after other faults than `Write` there
  -- may have been no call
  abbrev pub WritesByCalls : {X : Type 0} → (List ℕ → Type 0) → W → W → Result X Fault → Type 0
  WritesByCalls IsOutput o p (Ok x) =
      (output : List ℕ) × IsOutput output × GoByCalls o p output
  WritesByCalls IsOutput o p (Err Write) =
      (output : List ℕ) × IsOutput output × GoesToAFailure o p output
  WritesByCalls IsOutput o p (Err _) =
      (p ≡ o) ⊎ ((output : List ℕ) × IsOutput output × GoesInPart o p output)
