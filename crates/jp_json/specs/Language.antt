-- Sets of texts, put together as ABNF puts its rules together (RFC 5234 section 3).
use Rattle.std.specs.Prelude.{◌≡◌, ◌⊎◌, ℕ, zero, suc, Bool, true, [], ◌∷◌, ◌++◌}
use Rattle.jp_reading.specs.Texts.{Text}

-- a set of texts
abbrev pub Language : Type 1
Language = Text → Type 0

-- just these characters (RFC 5234 section 2.3)
abbrev pub word : Text → Language
word w t = t ≡ w

-- one character, which passes the test (RFC 5234 section 3.4)
pub record One (ok : ℕ → Bool) (t : Text) : Type 0 where
  pub character : ℕ
  pub is : t ≡ character ∷ []
  pub passes : ok character ≡ true

-- a text of the one, and after it one of the other (RFC 5234 section 3.1)
pub record Joined (P Q : Language) (t : Text) : Type 0 where
  pub first : Text
  pub second : Text
  pub is : t ≡ first ++ second
  pub one : P first
  pub two : Q second

infixr 6 ◌⌢◌
abbrev pub ◌⌢◌ : Language → Language → Language
P ⌢ Q = Joined P Q

-- a text of the one or of the other (RFC 5234 section 3.2)
abbrev pub Either : Language → Language → Language
Either P Q t = P t ⊎ Q t

-- no text, or one (RFC 5234 section 3.8)
abbrev pub Optional : Language → Language
Optional P = Either (word []) P

-- so many texts, one after another (RFC 5234 section 3.7)
abbrev pub Times : ℕ → Language → Language
Times zero P = word []
Times (suc n) P = P ⌢ Times n P

-- any number of texts, one after another (RFC 5234 section 3.6)
pub record Any (P : Language) (t : Text) : Type 0 where
  pub times : ℕ
  pub is : Times times P t
