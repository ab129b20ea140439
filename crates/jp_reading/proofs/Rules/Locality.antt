-- Reading a rule looks at a text from its beginning on, and what comes after the text that it looks
-- at changes nothing.
use Rattle.std.proofs.Common.{ℕ, Bool}
use Rattle.jp_reading.specs.Texts.{Text}
use Rattle.jp_reading.specs.Outcome.{State, Outcome, head, passes, is, expect}
use Rattle.jp_reading.specs.Rule.{Look, here, beyond, Nesting, Lead, the, blanks, Rule, value}
use Rattle.jp_reading.specs.Rule.{character, after, seq, made, look, upon, nested, component_where}
use Rattle.jp_reading.specs.Rule.{omitted, some, relaxed, loose, until, flat}
use Rattle.jp_reading.specs.RuleReading.{InnerReader, nothing, next, led, read}
use Rattle.jp_reading.proofs.States.Progress.{Progress}
use Rattle.jp_reading.proofs.Rules.Progress.{goes}
use Rattle.jp_reading.proofs.States.Locality.{all, unblanked, Local, Tests, local-then, local-took}
use Rattle.jp_reading.proofs.States.Locality.{local-map, local-omit, local-spanned, local-stuck}
use Rattle.jp_reading.proofs.States.Locality.{local-if}
use Rattle.jp_reading.proofs.States.Locality.{tests-head, tests-after, local-past, local-take_if}
use Rattle.jp_reading.proofs.States.Locality.{local-skip, local-from, local-to, local-each}

-- how much is left to be looked at
abbrev pub left : Look → Text → ℕ
left here = all
left beyond = unblanked

local-started : {A : Type 0} (m : Look) (b : Text → ℕ) (rule : State → Outcome A)
    → Local (left m) b rule → Local all b rule
local-started here b rule h = h
local-started beyond b rule h = local-from b rule h

local-unblanked : {A : Type 0} (m : Look) (b : Text → ℕ) (rule : State → Outcome A)
    → Local unblanked b rule → Local (left m) b rule
local-unblanked here b rule h = local-from b rule h
local-unblanked beyond b rule h = h

tests-next : (m : Look) (ok : ℕ → Bool) → Tests (left m) (λ p. passes ok (next m p))
tests-next here ok = tests-head ok
tests-next beyond ok = tests-after ok

local-led : {A : Type 0} {m : Look} {t : Bool} (s : Lead m t) (n : Look) (b : Text → ℕ)
    (k : State → Outcome A) → Local (left n) b k
    → Local (left m) b (led s k)
local-led (the c) n b k h =
    local-then all all b (expect c) (λ d q. k q) (local-take_if (is c)) (λ d. local-started n b k h)
local-led (blanks {m = m}) n b k h =
    local-unblanked m b (led {m = m} blanks k) (local-skip b k (local-started n b k h))

pub local-rule : {N : Nesting} {u : Bool} {a b : Look} {A : Type 0} (inner : InnerReader N)
    → ((o : N.Opening) → Progress (inner o))
    → ((o : N.Opening) → Local all unblanked (inner o)) → (r : Rule N u a b A)
    → Local (left a) (left b) (read inner r)
local-rule inner moves h (value {m = m} x) = local-took (left m) x
local-rule inner moves h (character ok) = local-take_if ok
local-rule inner moves h (after {n = n} {b = b} s r) =
    local-led s n (left b) (λ q. read inner r q) (local-rule inner moves h r)
local-rule inner moves h (seq {a = a} {b = b} {c = c} r k) =
    local-then (left a) (left b) (left c) (read inner r) (λ x q. read inner (k x) q)
    (local-rule inner moves h r)
    (λ x. local-rule inner moves h (k x))
local-rule inner moves h (made {a = a} {b = b} f r) =
    local-map (left a) (left b) f (read inner r) (local-rule inner moves h r)
local-rule inner moves h (look {b = b} m ok r s) =
    local-if (left m) (left b) (λ p. passes ok (next m p)) (read inner r) (read inner s)
    (tests-next m ok)
    (local-rule inner moves h r) (local-rule inner moves h s)
local-rule inner moves h (upon {n = n} {b = b} c r s) =
    local-if all (left b) (λ p. passes (is c) (head p)) _ (read inner s) (tests-head (is c))
    (local-past (left b) (read inner r)
    (local-started n (left b) (read inner r) (local-rule inner moves h r)))
    (local-rule inner moves h s)
local-rule {N} inner moves h (nested {b = b} o k s) =
    local-if all (left b) (λ p. passes (N.opens o) (head p)) _ (read inner s)
    (tests-head (N.opens o))
    (local-then all unblanked (left b) (inner o) (λ x q. read inner (k x) q) (h o)
    (λ x. local-rule inner moves h (k x)))
    (local-rule inner moves h s)
local-rule inner moves h (component_where {a = a} {b = b} ok r) =
    local-spanned (left a) (left b) ok (read inner r) (local-rule inner moves h r)
local-rule inner moves h (omitted {m = m} x) = local-omit (left m) x
local-rule inner moves h (some m ok r) =
    local-each (left m) (λ p. passes ok (next m p)) (read inner r) (goes inner moves r)
    (tests-next m ok) (local-rule inner moves h r)
local-rule inner moves h (relaxed {a = a} r) =
    local-to (left a) (read inner r) (local-rule inner moves h r)
local-rule inner moves h (loose r) = local-rule inner moves h r
local-rule inner moves h (until ok r) = local-rule inner moves h r
local-rule {N} inner moves h (flat r) =
    local-rule (nothing N) (λ o p. tt) (λ o. local-stuck unblanked) r
