-- Laws of the places where texts are no JSON texts.
use Rattle.std.specs.Prelude.{◌≡◌, ◌⊎◌, ℕ}
use Rattle.jp_reading.specs.Texts.{Text}
use Rattle.jp_json.specs.Grammar.{json_text}
use Rattle.jp_json.specs.ViablePrefix.{IsSyntaxAt, IsTooDeepAt}

-- the text is wrong at that byte: no JSON text goes on with it, or none of at most n levels
abbrev pub IsWrongTextAt : ℕ → Text → ℕ → Type 0
IsWrongTextAt n text place = IsSyntaxAt n text place ⊎ IsTooDeepAt n text place

-- a text is a JSON text of at most n levels, or is wrong at some byte; it is wrong at one byte at
-- most, and not where it is a JSON text
pub record IsWrongOnce (n : ℕ) (text : Text) : Type 0 where
  pub answered : json_text n text ⊎ ((place : ℕ) × IsWrongTextAt n text place)
  pub once : (place elsewhere : ℕ) → IsWrongTextAt n text place → IsWrongTextAt n text elsewhere
      → place ≡ elsewhere
  pub only : (place : ℕ) → IsWrongTextAt n text place → json_text n text → ⊥

-- whatever the text, and the levels
abbrev pub OnePlace : Type 0
OnePlace = (n : ℕ) (text : Text) → IsWrongOnce n text
