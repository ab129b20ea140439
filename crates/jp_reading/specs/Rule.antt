-- Rules of a grammar as data (RFC 5234 section 3): out of what a rule is put together, and how far
-- each part looks.
use Rattle.std.specs.Prelude.{ℕ, Bool, true, false, ◌||◌, ◌&&◌, List}

-- how far a rule looks: at the next character, or at the next that is no blank
pub data Look : Type 0 where
  here : Look
  beyond : Look

-- what rules may nest: the openings of a level, the characters that each begins with, and the
-- values one level further in
pub record Nesting : Type 1 where
  pub Opening : Type 0
  pub opens : Opening → ℕ → Bool
  pub Inner : Opening → Type 0

-- what a text has before a rule: a character, or any number of blanks. The flag: whether it takes
-- a character.
pub data Lead : Look → Bool → Type 0 where
  the : ℕ → Lead here true
  blanks : {m : Look} → Lead m false

-- a rule for values of a type: whether it takes a character at least, and up to where the text is
-- looked at as it begins and as it ends
pub data Rule (N : Nesting) : Bool → Look → Look → Type 0 → Type 1 where
  -- no text, for that value
  value : {m : Look} {A : Type 0} → A → Rule N false m m A
  -- a character that passes the test
  character : (ℕ → Bool) → Rule N true here here ℕ
  -- a lead, and then the rule
  after : {t u : Bool} {m n b : Look} {A : Type 0} → Lead m t → Rule N u n b A
      → Rule N (t || u) m b A
  -- one rule, and then one that goes on from its value
  seq : {u v : Bool} {a b c : Look} {A B : Type 0} → Rule N u a b A → (A → Rule N v b c B)
      → Rule N (u || v) a c B
  -- the values made by a function
  made : {u : Bool} {a b : Look} {A B : Type 0} → (A → B) → Rule N u a b A → Rule N u a b B
  -- the first rule where the character that it looks at passes, else the second
  look : {u v : Bool} {b : Look} {A : Type 0} (m : Look) → (ℕ → Bool) → Rule N u m b A
      → Rule N v m b A → Rule N (u && v) m b A
  -- the first rule after the character c, or else the second
  upon : {u v : Bool} {n b : Look} {A : Type 0} → ℕ → Rule N u n b A → Rule N v here b A
      → Rule N v here b A
  -- what stands one level further in after the opening, and then the first rule, or else the second
  nested : {u v : Bool} {b : Look} {A : Type 0} (o : N.Opening) → (N.Inner o → Rule N u beyond b A)
      → Rule N v here b A → Rule N v here b A
  -- the rule, with a span of its own where its value is a component
  component_where : {u : Bool} {a b : Look} {A : Type 0} → (A → Bool) → Rule N u a b A → Rule N u a b A
  -- a component that the text omits
  omitted : {m : Look} {A : Type 0} → A → Rule N false m m A
  -- the rule as often as the character that it looks at passes
  some : {A : Type 0} (m : Look) → (ℕ → Bool) → Rule N true m m A → Rule N false m m (List A)
  -- the rule, where the text may have been looked at further
  relaxed : {u : Bool} {a : Look} {A : Type 0} → Rule N u a here A → Rule N u a beyond A
  -- the rule, where it need not take a character
  loose : {u : Bool} {a b : Look} {A : Type 0} → Rule N u a b A → Rule N false a b A
  -- the rule, where past the blanks a character that passes comes next
  until : {u : Bool} {a : Look} {A : Type 0} → (ℕ → Bool) → Rule N u a beyond A
      → Rule N u a beyond A
  -- the rule, where nothing is nested in it
  flat : {u : Bool} {a b : Look} {A : Type 0} → Rule N u a b A → Rule N u a b A

-- a component, which has a span
abbrev pub component : {N : Nesting} {u : Bool} {a b : Look} {A : Type 0} → Rule N u a b A
    → Rule N u a b A
component r = component_where (λ x. true) r

infixl 10 ◌>>=◌
abbrev pub ◌>>=◌ : {N : Nesting} {u v : Bool} {a b c : Look} {A B : Type 0} → Rule N u a b A
    → (A → Rule N v b c B) → Rule N (u || v) a c B
r >>= k = seq r k

infixl 10 ◌>>◌
abbrev pub ◌>>◌ : {N : Nesting} {t u : Bool} {m n b : Look} {A : Type 0} → Lead m t → Rule N u n b A
    → Rule N (t || u) m b A
s >> r = after s r
