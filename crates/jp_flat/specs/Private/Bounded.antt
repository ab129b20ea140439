-- The bounds of a document's values.
use Rattle.std.specs.Prelude.{Bool, true}
use Rattle.jp_decimal.specs.Number.{is_decimal}
use Rattle.jp_document.specs.Value.{Value, list, decimal, list_fits}

-- a list is not too long, and a decimal is one that can be held
abbrev pub is_bounded : Value → Bool
is_bounded (list vs) = list_fits (list vs)
is_bounded (decimal c e) = is_decimal c e
is_bounded v = true
