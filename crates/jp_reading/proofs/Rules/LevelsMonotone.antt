-- Reading with one level more does the same, but where a level is missing.
use Rattle.std.proofs.Common.{◌≡◌, ℕ, zero, suc, Bool, true, false, if◌then◌else◌, length, refl}
use Rattle.jp_reading.specs.Outcome.{State, Outcome, took, stuck, deep, ◌>>=◌, head, past, skip}
use Rattle.jp_reading.specs.Outcome.{passes, is_at, expect, loop}
use Rattle.jp_reading.specs.Rule.{Look, Nesting, Lead, the, blanks, Rule, value, character, after}
use Rattle.jp_reading.specs.Rule.{seq, made, look, upon, nested, component_where, omitted, some}
use Rattle.jp_reading.specs.Rule.{relaxed}
use Rattle.jp_reading.specs.Rule.{loose, until, flat}
use Rattle.jp_reading.specs.RuleReading.{InnerReader, next, led, read}

-- the second outcome is the first, or the first needs a level more
pub data Stays {A : Type 0} (o v : Outcome A) : Type 0 where
  stays : v ≡ o → Stays o v
  needs_more : (r : State) → o ≡ deep r → Stays o v

pub stays-on : {A B : Type 0} (o : Outcome A) (k j : A → State → Outcome B)
    → ((x : A) (q : State) → Stays (k x q) (j x q))
    → Stays (o >>= k) (o >>= j)
stays-on (took x q) k j h = h x q
stays-on (stuck q) k j h = stays refl
stays-on (deep q) k j h = stays refl

pub stays-then : {A B : Type 0} (o v : Outcome A) (k j : A → State → Outcome B) → Stays o v
    → ((x : A) (q : State) → Stays (k x q) (j x q))
    → Stays (o >>= k) (v >>= j)
stays-then o v k j (stays e) h = rw e (stays-on o k j h)
stays-then o v k j (needs_more r e) h = needs_more r (rw e refl)

stays-if : {A : Type 0} (on : Bool) (o v r w : Outcome A) → Stays o v → Stays r w
    → Stays (if on then o else r) (if on then v else w)
stays-if true o v r w h g = h
stays-if false o v r w h g = g

stays-loop : {A : Type 0} (n : ℕ) (begins : State → Bool) (rule other : State → Outcome A)
    → ((q : State) → Stays (rule q) (other q))
    → (p : State) → Stays (loop n begins rule p) (loop n begins other p)
unfolding loop
stays-loop zero begins rule other h p = stays refl
stays-loop (suc n) begins rule other h p =
    stays-if (begins p) _ _ _ _ (stays-then (rule p) (other p) _ _ (h p)
    (λ x q. stays-then (loop n begins rule q) (loop n begins other q) _ _
    (stays-loop n begins rule other h q) (λ xs r. stays refl)))
    (stays refl)

stays-led : {A : Type 0} {m : Look} {t : Bool} (s : Lead m t) (k j : State → Outcome A)
    → ((q : State) → Stays (k q) (j q)) → (p : State)
    → Stays (led s k p) (led s j p)
stays-led (the c) k j h p = stays-on (expect c p) (λ d q. k q) (λ d q. j q) (λ d q. h q)
stays-led blanks k j h p = h (skip p)

pub stays-rule : {N : Nesting} {u : Bool} {a b : Look} {A : Type 0} (f g : InnerReader N)
    → ((o : N.Opening) (p : State) → Stays (f o p) (g o p))
    → (r : Rule N u a b A) (p : State) → Stays (read f r p) (read g r p)
stays-rule f g h (value x) p = stays refl
stays-rule f g h (character ok) p = stays refl
stays-rule f g h (after s r) p =
    stays-led s (λ q. read f r q) (λ q. read g r q) (λ q. stays-rule f g h r q) p
stays-rule f g h (seq r k) p =
    stays-then (read f r p) (read g r p) _ _ (stays-rule f g h r p)
    (λ x q. stays-rule f g h (k x) q)
stays-rule f g h (made i r) p =
    stays-then (read f r p) (read g r p) _ _ (stays-rule f g h r p) (λ x q. stays refl)
stays-rule f g h (look m ok r s) p =
    stays-if (passes ok (next m p)) _ _ _ _ (stays-rule f g h r p) (stays-rule f g h s p)
stays-rule f g h (upon c r s) p =
    stays-if (is_at c p) _ _ _ _ (stays-rule f g h r (past p)) (stays-rule f g h s p)
stays-rule {N} f g h (nested o k s) p =
    stays-if (passes (N.opens o) (head p)) _ _ _ _
    (stays-then (f o p) (g o p) _ _ (h o p) (λ x q. stays-rule f g h (k x) q))
    (stays-rule f g h s p)
stays-rule f g h (component_where ok r) p =
    stays-then (read f r p) (read g r p) _ _ (stays-rule f g h r p) (λ x q. stays refl)
stays-rule f g h (omitted x) p = stays refl
stays-rule f g h (some m ok r) p =
    stays-loop (suc (length p.rest)) (λ q. passes ok (next m q)) (λ q. read f r q) (λ q. read g r q)
    (λ q. stays-rule f g h r q) p
stays-rule f g h (relaxed r) p = stays-rule f g h r p
stays-rule f g h (loose r) p = stays-rule f g h r p
stays-rule f g h (until ok r) p = stays-rule f g h r p
stays-rule f g h (flat r) p = stays refl
