-- Forms of text, out of which a grammar's rules are put together (RFC 5234 section 3).
use Rattle.std.specs.Prelude.{◌≡◌, ℕ, ◌+◌, Bool, true, List, [], ◌∷◌, ◌++◌, Some, None}
use Rattle.jp_reading.specs.Texts.{Text, Spans, bytes, is_blank}

-- a form says of the spans of the components in a text, the byte where the text begins, and the text,
-- that they belong together
abbrev pub Form : Type 1
Form = Spans → ℕ → Text → Type 0

-- just the characters w, and no component (RFC 5234 section 2.3)
pub record word (w : Text) (s : Spans) (o : ℕ) (t : Text) : Type 0 where
  pub none : s ≡ []
  pub is : t ≡ w

-- just the character c, which passes the test (RFC 5234 section 3.4)
pub record One (ok : ℕ → Bool) (c : ℕ) (s : Spans) (o : ℕ) (t : Text) : Type 0 where
  pub none : s ≡ []
  pub is : t ≡ c ∷ []
  pub passes : ok c ≡ true

-- a text of the form P and after it one of the form Q (RFC 5234 section 3.1)
pub record Joined (P Q : Form) (s : Spans) (o : ℕ) (t : Text) : Type 0 where
  pub first_spans : Spans
  pub second_spans : Spans
  pub first : Text
  pub second : Text
  pub spans : s ≡ first_spans ++ second_spans
  pub is : t ≡ first ++ second
  pub one : P first_spans o first
  pub two : Q second_spans (o + bytes first) second

infixr 6 ◌⌢◌
abbrev pub ◌⌢◌ : Form → Form → Form
P ⌢ Q = Joined P Q

-- each character passes the test
abbrev pub AllPassing : (ℕ → Bool) → Text → Type 0
AllPassing ok [] = Unit {0}
AllPassing ok (c ∷ t) = (ok c ≡ true) × AllPassing ok t

-- any number of blanks (RFC 9535 section 2.1.1, S)
pub record Blank (s : Spans) (o : ℕ) (t : Text) : Type 0 where
  pub none : s ≡ []
  pub blank : AllPassing is_blank t

-- one text after another, one for each x (RFC 5234 section 3.6)
abbrev pub Each : {A : Type 0} → (A → Form) → List A → Form
Each P [] = word []
Each P (x ∷ xs) = P x ⌢ Each P xs

-- no text
abbrev pub Never : Form
Never s o t = ⊥

-- one text after another, with a text of the form w between two neighbours; there is at least one
abbrev pub Separated : {A : Type 0} → Form → (A → Form) → List A → Form
Separated w P [] = Never
Separated w P (x ∷ xs) = P x ⌢ Each (λ y. w ⌢ P y) xs

-- a component: its own span stands before those of the components inside it
pub record Component (P : Form) (s : Spans) (o : ℕ) (t : Text) : Type 0 where
  pub inside : Spans
  pub spans : s ≡ Some (record { start = o; end = o + bytes t }) ∷ inside
  pub is : P inside o t

-- an omitted component: no text, and no span
pub record Omitted (s : Spans) (o : ℕ) (t : Text) : Type 0 where
  pub spans : s ≡ None ∷ []
  pub is : t ≡ []
