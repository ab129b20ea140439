-- What is told of a part of a JSON text.
use Rattle.std.specs.Prelude.{◌≡◌, ◌⊎◌, ℕ, List}
use Rattle.jp_json.specs.Misreading.{Cause, IsPartAt, cause_of}
use Rattle.jp_json.specs.declared.reason.JsonReason.{JsonReason}
use Rattle.jp_json.specs.declared.reason.JsonReason.TheVariants.{Unreadable}

-- a reason of that kind at a part with such a defect, or no part is found
abbrev pub IsBlamed : Cause → (List ℕ → Type 0) → List ℕ → ℕ → JsonReason → Type 0
IsBlamed kind Has bytes place reason =
    ((cause_of reason ≡ kind) × IsPartAt bytes place Has) ⊎ (reason ≡ Unreadable)
