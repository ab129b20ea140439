-- Viable prefixes: beginnings of JSON texts (RFC 8259 section 2), and the places where they end.
use Rattle.std.specs.Prelude.{◌≡◌, ◌⊎◌, ℕ, suc, [], ◌∷◌, ◌++◌}
use Rattle.jp_reading.specs.Texts.{Text, bytes}
use Rattle.jp_json.specs.Grammar.{json_text}

-- some text that begins with this one is a JSON text of at most n levels
abbrev pub IsViablePrefix : ℕ → Text → Type 0
IsViablePrefix n prefix = (more : Text) × json_text n (prefix ++ more)

-- no text that begins with this one is a JSON text, whatever its levels
abbrev pub IsNoViablePrefix : Text → Type 0
IsNoViablePrefix prefix = (n : ℕ) → IsViablePrefix n prefix → ⊥

-- the text has that many bytes before the character, and what is before it goes on to a JSON text of
-- at most n levels
pub record IsViableBefore (n : ℕ) (text : Text) (place : ℕ) : Type 0 where
  pub before : Text
  pub character : ℕ
  pub after : Text
  pub parts : text ≡ before ++ character ∷ after
  pub place_is : bytes before ≡ place
  pub is_viable : IsViablePrefix n before

-- the character at that byte is the first through which no JSON text goes on
pub record IsUnexpectedAt (n : ℕ) (text : Text) (place : ℕ) : Type 0 where
  pub there : IsViableBefore n text place
  pub is_not_viable : IsNoViablePrefix (there.before ++ there.character ∷ [])

-- the character at that byte goes on to a JSON text of a level more, and to none of n levels
pub record IsTooDeepAt (n : ℕ) (text : Text) (place : ℕ) : Type 0 where
  pub there : IsViableBefore n text place
  pub is_not_viable : IsViablePrefix n (there.before ++ there.character ∷ []) → ⊥
  pub deeper : IsViablePrefix (suc n) (there.before ++ there.character ∷ [])

-- the text goes on to a JSON text and is none, and that byte is its end
pub record IsUnfinishedAt (n : ℕ) (text : Text) (place : ℕ) : Type 0 where
  pub place_is : bytes text ≡ place
  pub is_viable : IsViablePrefix n text
  pub is_no_text : (m : ℕ) → json_text m text → ⊥

-- the text is no JSON text, and that byte is its first through which none goes on, or its end
abbrev pub IsSyntaxAt : ℕ → Text → ℕ → Type 0
IsSyntaxAt n text place = IsUnexpectedAt n text place ⊎ IsUnfinishedAt n text place
