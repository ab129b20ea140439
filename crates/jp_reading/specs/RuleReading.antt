-- How a rule is read: a function on what a reader has read so far.
use Rattle.std.specs.Prelude.{ℕ, Bool, if◌then◌else◌, length, Option}
use Rattle.jp_reading.specs.Outcome.{State, Outcome, took, stuck, ◌>>=◌, head, past, skip}
use Rattle.jp_reading.specs.Outcome.{after_blank, passes, is_at, take_if, expect, each}
use Rattle.jp_reading.specs.Outcome.{component_since}
use Rattle.jp_reading.specs.Outcome.{omit}
use Rattle.jp_reading.specs.Views.{outcome_map}
use Rattle.jp_reading.specs.Rule.{Look, here, beyond, Nesting, Lead, the, blanks, Rule, value}
use Rattle.jp_reading.specs.Rule.{character, after, seq, made, look, upon, nested, component_where}
use Rattle.jp_reading.specs.Rule.{omitted, some, relaxed, loose, until, flat}

-- how what stands one level further in is read, from its opening on
abbrev pub InnerReader : Nesting → Type 0
InnerReader N = (o : N.Opening) → State → Outcome (N.Inner o)

-- nothing is nested
abbrev pub nothing : (N : Nesting) → InnerReader N
nothing N o p = stuck p

-- the character that is looked at
abbrev pub next : Look → State → Option ℕ
next here p = head p
next beyond p = after_blank p

-- a lead, and then what goes on
abbrev pub led : {m : Look} {t : Bool} {A : Type 0} → Lead m t → (State → Outcome A) → State
    → Outcome A
led (the c) k p = expect c p >>= λ d q. k q
led blanks k p = k (skip p)

-- on from q, with the span of what was read since p where it is a component
abbrev pub spanned_if : Bool → State → State → State
spanned_if is_component p q = if is_component then component_since p.at (length p.found) q else q

-- what was read since p, with its span where the value is a component
abbrev pub spanned : {A : Type 0} → (A → Bool) → State → Outcome A → Outcome A
spanned ok p o = o >>= λ x q. took x (spanned_if (ok x) p q)

-- what a rule reads
abbrev pub read : {N : Nesting} {u : Bool} {a b : Look} {A : Type 0} → InnerReader N → Rule N u a b A
    → State → Outcome A
read inner (value x) p = took x p
read inner (character ok) p = take_if ok p
read inner (after s r) p = led s (λ q. read inner r q) p
read inner (seq r k) p = read inner r p >>= λ x q. read inner (k x) q
read inner (made f r) p = outcome_map f (read inner r p)
read inner (look m ok r s) p = if passes ok (next m p) then read inner r p else read inner s p
read inner (upon c r s) p = if is_at c p then read inner r (past p) else read inner s p
read {N} inner (nested o k s) p =
    if passes (N.opens o) (head p) then inner o p >>= (λ x q. read inner (k x) q)
    else read inner s p
read inner (component_where ok r) p = spanned ok p (read inner r p)
read inner (omitted x) p = took x (omit p)
read inner (some m ok r) p = each (λ q. passes ok (next m q)) (λ q. read inner r q) p
read inner (relaxed r) p = read inner r p
read inner (loose r) p = read inner r p
read inner (until ok r) p = read inner r p
read {N} inner (flat r) p = read (nothing N) r p
