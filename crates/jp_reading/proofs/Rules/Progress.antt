-- A rule leaves no longer text, and a shorter one where it takes a character.
use Rattle.std.proofs.Common.{◌≡◌, ℕ, Bool, true, false, ◌||◌, ◌&&◌, if◌then◌else◌, refl, arith}
use Rattle.jp_reading.specs.Outcome.{State, Outcome, took, stuck, deep, ◌>>=◌, head, past, skip}
use Rattle.jp_reading.specs.Outcome.{passes, is, is_at, expect}
use Rattle.jp_reading.specs.Views.{outcome_map}
use Rattle.jp_reading.specs.Rule.{Look, Nesting, Lead, the, blanks, Rule, value, character, after}
use Rattle.jp_reading.specs.Rule.{seq, made, look, upon, nested, component_where, omitted, some}
use Rattle.jp_reading.specs.Rule.{relaxed}
use Rattle.jp_reading.specs.Rule.{loose, until, flat}
use Rattle.jp_reading.specs.RuleReading.{InnerReader, nothing, next, led, spanned_if, spanned, read}
use Rattle.jp_reading.proofs.Texts.Chars.{past-shorter}
use Rattle.jp_reading.proofs.States.Progress.{Moves, Keeps, Progress, keeps-from_moves, keeps-then}
use Rattle.jp_reading.proofs.States.Progress.{moves-then, moves-later, moves-skip, keeps-skip}
use Rattle.jp_reading.proofs.States.Progress.{moves-take_if, moves-map, keeps-map, keeps-each}

-- whether it takes a character at least
abbrev pub Goes : {A : Type 0} → Bool → State → Outcome A → Type 0
Goes true p o = Moves p o
Goes false p o = Keeps p o

goes-keeps : {A : Type 0} (u : Bool) (p : State) (o : Outcome A) → Goes u p o → Keeps p o
goes-keeps true p o h = keeps-from_moves p o h
goes-keeps false p o h = h

goes-moves : {A : Type 0} (u : Bool) (p : State) (o : Outcome A) → Moves p o → Goes u p o
goes-moves true p o h = h
goes-moves false p o h = keeps-from_moves p o h

goes-then : {A B : Type 0} (u v : Bool) (p : State) (o : Outcome A) (k : A → State → Outcome B)
    → Goes u p o → ((x : A) (q : State) → Goes v q (k x q)) → Goes (u || v) p (o >>= k)
goes-then true v p o k h g = moves-then p o k h (λ x q. goes-keeps v q (k x q) (g x q))
goes-then false true p o k h g = moves-later p o k h g
goes-then false false p o k h g = keeps-then p o k h g

goes-skip : {A : Type 0} (u : Bool) (p : State) (o : Outcome A) → Goes u (skip p) o → Goes u p o
goes-skip true p o h = moves-skip p o h
goes-skip false p o h = keeps-skip p o h

goes-map : {A B : Type 0} (u : Bool) (f : A → B) (p : State) (o : Outcome A) → Goes u p o
    → Goes u p (outcome_map f o)
goes-map true f p o h = moves-map f p o h
goes-map false f p o h = keeps-map f p o h

-- a span changes nothing of what is left
goes-spanned : {A : Type 0} (u : Bool) (ok : A → Bool) (p : State) (o : Outcome A) → Goes u p o
    → Goes u p (spanned ok p o)
goes-spanned u ok p (took x q) h = way (ok x) u h
  where
    way : (b : Bool) (v : Bool) → Goes v p (took x q) → Goes v p (took x (spanned_if b p q))
    way true true g = g
    way true false g = g
    way false true g = g
    way false false g = g
goes-spanned true ok p (stuck q) h = h
goes-spanned false ok p (stuck q) h = h
goes-spanned true ok p (deep q) h = h
goes-spanned false ok p (deep q) h = h

-- of two ways one is taken
goes-look : {A : Type 0} (u v b : Bool) (p : State) (o w : Outcome A) → Goes u p o → Goes v p w
    → Goes (u && v) p (if b then o else w)
goes-look true v true p o w h g = goes-moves v p o h
goes-look false v true p o w h g = h
goes-look true v false p o w h g = g
goes-look false v false p o w h g = goes-keeps v p w g

goes-upon : {A : Type 0} (v b : Bool) (p : State) (o w : Outcome A) → (b ≡ true → Moves p o)
    → Goes v p w → Goes v p (if b then o else w)
goes-upon v true p o w h g = goes-moves v p o (h refl)
goes-upon v false p o w h g = g

-- past a character that was looked at
moves-past : {A : Type 0} (c : ℕ) (p : State) (o : Outcome A) → is_at c p ≡ true → Keeps (past p) o
    → Moves p o
moves-past c p (took x q) on h = let less = past-shorter (is c) p on in omega arith
moves-past c p (stuck q) on h = tt
moves-past c p (deep q) on h = tt

goes-led : {A : Type 0} {m : Look} {t : Bool} (u : Bool) (s : Lead m t) (k : State → Outcome A)
    → ((q : State) → Goes u q (k q)) → (p : State)
    → Goes (t || u) p (led s k p)
goes-led u (the c) k h p =
    goes-then true u p (expect c p) (λ d q. k q) (moves-take_if (is c) p) (λ d q. h q)
goes-led u blanks k h p = goes-skip u p (k (skip p)) (h (skip p))

pub goes : {N : Nesting} {u : Bool} {a b : Look} {A : Type 0} (inner : InnerReader N)
    → ((o : N.Opening) → Progress (inner o))
    → (r : Rule N u a b A) (p : State) → Goes u p (read inner r p)
goes inner moves (value x) p = omega arith
goes inner moves (character ok) p = moves-take_if ok p
goes inner moves (after {u = u} s r) p =
    goes-led u s (λ q. read inner r q) (λ q. goes inner moves r q) p
goes inner moves (seq {u = u} {v = v} r k) p =
    goes-then u v p (read inner r p) (λ x q. read inner (k x) q) (goes inner moves r p)
    (λ x q. goes inner moves (k x) q)
goes inner moves (made {u = u} f r) p = goes-map u f p (read inner r p) (goes inner moves r p)
goes inner moves (look {u = u} {v = v} m ok r s) p =
    goes-look u v (passes ok (next m p)) p (read inner r p) (read inner s p) (goes inner moves r p)
    (goes inner moves s p)
goes inner moves (upon {u = u} {v = v} c r s) p =
    goes-upon v (is_at c p) p (read inner r (past p)) (read inner s p)
    (λ on. moves-past c p (read inner r (past p)) on
    (goes-keeps u (past p) (read inner r (past p)) (goes inner moves r (past p))))
    (goes inner moves s p)
goes {N} inner moves (nested {u = u} {v = v} o k s) p =
    goes-upon v (passes (N.opens o) (head p)) p (inner o p >>= λ x q. read inner (k x) q)
    (read inner s p)
    (λ on. moves-then p (inner o p) (λ x q. read inner (k x) q) (moves o p)
    (λ x q. goes-keeps u q (read inner (k x) q) (goes inner moves (k x) q))) (goes inner moves s p)
goes inner moves (component_where {u = u} ok r) p =
    goes-spanned u ok p (read inner r p) (goes inner moves r p)
goes inner moves (omitted x) p = omega arith
goes inner moves (some m ok r) p =
    keeps-each (λ q. passes ok (next m q)) (λ q. read inner r q) (λ q. goes inner moves r q) p
goes inner moves (relaxed r) p = goes inner moves r p
goes inner moves (loose {u = u} r) p = goes-keeps u p (read inner r p) (goes inner moves r p)
goes inner moves (until ok r) p = goes inner moves r p
goes {N} inner moves (flat r) p = goes (nothing N) (λ o q. tt) r p
