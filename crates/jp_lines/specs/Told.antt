-- What is told of lines that are refused.
use Rattle.std.specs.Prelude.{◌≡◌, ℕ, Bool, true, false, List, Option}
use Rattle.std.specs.Io.KnownBytes.{Appends}
use Rattle.jp_command.specs.Output.{AppendsPrefix}

-- u and v are what takes it, before and after
module _ {E : Type 0} (reports : E → Option (List ℕ)) (has_failed : E → Bool) where
  -- The whole text is told; or a write failed, and a prefix of the text is told; or a write had
  -- failed before, and nothing more is told.
  pub data Tells (u v : E) (text : List ℕ) : Type 0 where
    whole : has_failed u ≡ false → has_failed v ≡ false → Appends (reports u) (reports v) text
        → Tells u v text
    part : has_failed u ≡ false → has_failed v ≡ true
        → AppendsPrefix (reports u) (reports v) text → Tells u v text
    nothing : has_failed u ≡ true → v ≡ u → Tells u v text
