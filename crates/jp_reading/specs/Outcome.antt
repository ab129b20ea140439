-- What a reader does, as functions on what it has read so far.
use Rattle.std.specs.Prelude.{ℕ, zero, suc, ◌+◌, ◌==◌, Bool, false, if◌then◌else◌, List, [], ◌∷◌}
use Rattle.std.specs.Prelude.{length, Option, Some, None, insert, ◌++◌}
use Rattle.std.specs.Char.{len_utf8}
use Rattle.jp_reading.specs.Texts.{Text, Spans, first_of, is_blank}

-- a reader: the byte where it stands, the text from there on, and the spans of the components so far
pub record State : Type 0 where
  pub at : ℕ
  pub rest : Text
  pub found : Spans

-- a rule reads a value and goes on from a state, or is stuck at one, or would need a level more
-- there
pub data Outcome (A : Type 0) : Type 0 where
  took : A → State → Outcome A
  stuck : State → Outcome A
  deep : State → Outcome A

-- then: what follows takes the value and goes on
infixl 10 ◌>>=◌
abbrev pub ◌>>=◌ : {A B : Type 0} → Outcome A → (A → State → Outcome B) → Outcome B
took x p >>= f = f x p
stuck p >>= f = stuck p
deep p >>= f = deep p

-- the next character
abbrev pub head : State → Option ℕ
head p = first_of p.rest

-- on from byte `at` with these spans, past the first character of the text
abbrev pub past_first : ℕ → Spans → Text → State
past_first at found [] = record { at = at; rest = []; found = found }
past_first at found (c ∷ t) = record { at = at + len_utf8 c; rest = t; found = found }

-- past the next character, if there is one
abbrev pub past : State → State
past p = past_first p.at p.found p.rest

-- on from byte `at` with these spans, past the blanks that begin the text
unfoldable pub past_blanks : ℕ → Spans → Text → State
past_blanks at found [] = record { at = at; rest = []; found = found }
past_blanks at found (c ∷ t) =
    if is_blank c then past_blanks (at + len_utf8 c) found t
    else record { at = at; rest = c ∷ t; found = found }

-- past the blanks that stand next (RFC 9535 section 2.1.1, S)
abbrev pub skip : State → State
skip p = past_blanks p.at p.found p.rest

-- the next character that is no blank
abbrev pub after_blank : State → Option ℕ
after_blank p = head (skip p)

-- whether there is a character, and it passes
abbrev pub passes : (ℕ → Bool) → Option ℕ → Bool
passes ok None = false
passes ok (Some c) = ok c

-- whether a character is c
abbrev pub is : ℕ → ℕ → Bool
is c x = x == c

-- whether the next character is c
abbrev pub is_at : ℕ → State → Bool
is_at c p = passes (is c) (head p)

-- whether the text is at its end
abbrev pub is_end : State → Bool
is_end p = length p.rest == 0

-- the character, if it passes, and on past it
abbrev pub take_passing : (ℕ → Bool) → State → Option ℕ → Outcome ℕ
take_passing ok p None = stuck p
take_passing ok p (Some c) = if ok c then took c (past p) else stuck p

-- takes the next character, which has to pass
abbrev pub take_if : (ℕ → Bool) → State → Outcome ℕ
take_if ok p = take_passing ok p (head p)

-- takes the character c
abbrev pub expect : ℕ → State → Outcome ℕ
expect c p = take_if (is c) p

-- item after item for at most n rounds, as long as another begins
unfoldable pub loop : {A : Type 0} → ℕ → (State → Bool) → (State → Outcome A) → State
    → Outcome (List A)
loop zero begins item p = took [] p
loop (suc n) begins item p =
    if begins p then item p >>= (λ x q. loop n begins item q >>= λ xs r. took (x ∷ xs) r)
    else took [] p

-- item after item, as long as another begins, where each takes a character at least
abbrev pub each : {A : Type 0} → (State → Bool) → (State → Outcome A) → State → Outcome (List A)
each begins item p = loop (suc (length p.rest)) begins item p

-- a component began at byte `start`, when there were so many spans, and ends here: its span goes before
-- those inside it
abbrev pub component_since : ℕ → ℕ → State → State
component_since start before p = record {
  at = p.at;
  rest = p.rest;
  found = insert p.found before (Some (record { start = start; end = p.at }));
}

-- a component: what the rule reads from the state p, with its span
abbrev pub component : {A : Type 0} → State → Outcome A → Outcome A
component p o = o >>= λ x q. took x (component_since p.at (length p.found) q)

-- one level further in; with no level left the rule would need one more here
abbrev pub enter : {A : Type 0} → ℕ → State → (ℕ → Outcome A) → Outcome A
enter zero p inside = deep p
enter (suc n) p inside = inside n

-- a component that the text omits has no span
abbrev pub omit : State → State
omit p = record { at = p.at; rest = p.rest; found = p.found ++ None ∷ [] }
