-- With which characters a text may begin or go on, and when a rule tells its own texts from what
-- follows them: no more than the next character, or the next that is no blank, has to be looked at.
-- Characters are given by ranges, so each of the conditions computes.
use Rattle.std.proofs.Common.{◌≡◌, ℕ, Bool, true, false, not, ◌&&◌, ◌||◌, List, [], ◌∷◌, ◌++◌}
use Rattle.std.proofs.Common.{Option, Some, None, refl, sym, ◌∙◌, arith}
use Rattle.std.proofs.lemmas.Bool.Decides.{nat_tests}
use Rattle.jp_reading.specs.Outcome.{State, head, after_blank, passes}
use Rattle.jp_reading.specs.Rule.{Look, here, beyond, Nesting, Lead, the, blanks, Rule, value}
use Rattle.jp_reading.specs.Rule.{character, after, seq, made, look, upon, nested, component_where}
use Rattle.jp_reading.specs.Rule.{omitted, some, relaxed, loose, until, flat}
use Rattle.jp_reading.proofs.Rules.Ranges.{Range, range, on_from, within, are_apart, are_inside}
use Rattle.jp_reading.proofs.Rules.Ranges.{single}
use Rattle.jp_reading.proofs.Rules.Ranges.{or-left, or-right, within-left, within-right, both}
use Rattle.jp_reading.proofs.Rules.Ranges.{one_of, inside-within, apart-within}
use Rattle.jp_reading.proofs.Rules.Form.{Alive, least}

-- what may come next: the end of the text, or a character in some ranges
pub record Next : Type 0 where
  pub end : Bool
  pub ranges : List Range

abbrev pub allows : Next → Option ℕ → Bool
allows T None = T.end
allows T (Some c) = within T.ranges c

-- what may come next, and what may come next that is no blank
pub record Follow : Type 0 where
  pub near : Next
  pub far : Next

-- what comes next is allowed
pub record Meets (K : Follow) (p : State) : Type 0 where
  pub near : allows K.near (head p) ≡ true
  pub far : allows K.far (after_blank p) ≡ true

-- whatever there is
abbrev pub anything : Next
anything = record { end = true; ranges = on_from 0 ∷ [] }

abbrev pub any : Follow
any = record { near = anything; far = anything }

-- nothing more
abbrev pub at_end : Follow
at_end = let nothing : Next = record { end = true; ranges = [] } in
    record { near = nothing; far = nothing }

-- a character in the ranges, whatever comes after it
abbrev pub beginning : List Range → Follow
beginning rs = record { near = record { end = false; ranges = rs }; far = anything }

abbrev pub or_next : Next → Next → Next
or_next T S = record { end = T.end || S.end; ranges = T.ranges ++ S.ranges }

abbrev pub either_of : Follow → Follow → Follow
either_of J K = record { near = or_next J.near K.near; far = or_next J.far K.far }

abbrev pub blank_ranges : List Range
blank_ranges = range 9 10 ∷ range 13 13 ∷ range 32 32 ∷ []

-- the same after blanks
abbrev pub blanked : Follow → Follow
blanked K = record {
  near = record { end = K.near.end; ranges = blank_ranges ++ K.near.ranges };
  far = K.near;
}

-- how a step and what comes after it begin
abbrev pub leading : {m : Look} {t : Bool} → Lead m t → Follow → Follow
leading (the c) K = beginning (single c)
leading blanks K = blanked K

-- how the texts of a rule begin, or what follows them where they are empty; `starts` says how what
-- is nested begins
abbrev pub begins : {N : Nesting} {u : Bool} {a b : Look} {A : Type 0}
    → (N.Opening → List Range) → (r : Rule N u a b A) → Alive r → Follow → Follow
begins starts (value x) w K = K
begins starts (character ok) w K = beginning w.outer
begins starts (after s r) w K = leading s (begins starts r w K)
begins starts (seq r k) w K =
    begins starts r w.0 (begins starts (k (least r w.0)) (w.1 (least r w.0)) K)
begins starts (made f r) w K = begins starts r w K
begins starts (look m ok r s) w K = either_of (begins starts r w.1 K) (begins starts s w.2 K)
begins starts (upon c r s) w K = either_of (beginning (single c)) (begins starts s w.1 K)
begins starts (nested o k s) w K = either_of (beginning (starts o)) (begins starts s w.1 K)
begins starts (component_where ok r) w K = begins starts r w K
begins starts (omitted x) w K = K
begins starts (some m ok r) w K = either_of (begins starts r w.1 any) K
begins starts (relaxed r) w K = begins starts r w K
begins starts (loose r) w K = begins starts r w K
begins starts (until ok r) w K = begins starts r w.1 (blanked (beginning w.0.inner))
begins starts (flat r) w K = begins starts r w K

-- ---- conditions

-- what the first allows the second does
abbrev pub Passing : Next → Next → Type 0
Passing T S = (o : Option ℕ) → allows T o ≡ true → allows S o ≡ true

pub record Under (J K : Follow) : Type 0 where
  pub near : Passing J.near K.near
  pub far : Passing J.far K.far

-- the same by computing
abbrev is_passing : Next → Next → Bool
is_passing T S = (not T.end || S.end) && are_inside T.ranges S.ranges

abbrev pub is_under : Follow → Follow → Bool
is_under J K = is_passing J.near K.near && is_passing J.far K.far

-- whatever is allowed is a character in the ranges
abbrev pub implies : Next → List Range → Bool
implies T rs = not T.end && are_inside T.ranges rs

-- no character that is allowed is in the ranges
abbrev pub excludes : Next → List Range → Bool
excludes T rs = are_apart T.ranges rs

-- what is allowed at a mark
abbrev pub at : Look → Follow → Next
at here K = K.near
at beyond K = K.far

-- a step is told from what comes after it
abbrev pub ends : {m : Look} {t : Bool} → Lead m t → Follow → Bool
ends (the c) K = true
ends blanks K = excludes K.near blank_ranges

-- each way of the rule is told from the others, where K follows, and `closes` what stands one level
-- further in
abbrev pub Apart : {N : Nesting} {u : Bool} {a b : Look} {A : Type 0} → (N.Opening → List Range)
    → (N.Opening → Follow) → (r : Rule N u a b A) → Alive r → Follow → Type 0
Apart starts closes (value x) w K = Unit {0}
Apart starts closes (character ok) w K = Unit {0}
Apart starts closes (after s r) w K =
    (ends s (begins starts r w K) ≡ true) × Apart starts closes r w K
Apart starts closes (seq {A = A} r k) w K =
    Apart starts closes r w.0 (begins starts (k (least r w.0)) (w.1 (least r w.0)) K)
    × ((x : A) → Under (begins starts (k x) (w.1 x) K)
    (begins starts (k (least r w.0)) (w.1 (least r w.0)) K))
    × ((x : A) → Apart starts closes (k x) (w.1 x) K)
Apart starts closes (made f r) w K = Apart starts closes r w K
Apart starts closes (look m ok r s) w K =
    (implies (at m (begins starts r w.1 K)) w.0.inner ≡ true)
    × (excludes (at m (begins starts s w.2 K)) w.0.outer ≡ true)
    × Apart starts closes r w.1 K × Apart starts closes s w.2 K
Apart starts closes (upon c r s) w K =
    (excludes (begins starts s w.1 K).near (single c) ≡ true)
    × Apart starts closes r w.0 K × Apart starts closes s w.1 K
Apart {N} starts closes (nested o k s) w K =
    (excludes (begins starts s w.1 K).near (starts o) ≡ true)
    × ((x : N.Inner o) → is_under (begins starts (k x) (w.0 x) K) (closes o) ≡ true)
    × ((x : N.Inner o) → Apart starts closes (k x) (w.0 x) K) × Apart starts closes s w.1 K
Apart starts closes (component_where ok r) w K = Apart starts closes r w K
Apart starts closes (omitted x) w K = Unit {0}
Apart starts closes (some m ok r) w K =
    (is_under (begins starts r w.1 (either_of (begins starts r w.1 any) K))
    (either_of (begins starts r w.1 any) K) ≡ true)
    × (implies (at m (begins starts r w.1 (either_of (begins starts r w.1 any) K))) w.0.inner
    ≡ true) × (excludes (at m K) w.0.outer ≡ true)
    × Apart starts closes r w.1 (either_of (begins starts r w.1 any) K)
Apart starts closes (relaxed r) w K = Apart starts closes r w K
Apart starts closes (loose r) w K = Apart starts closes r w K
Apart starts closes (until ok r) w K =
    (is_under K (blanked (beginning w.0.inner)) ≡ true)
    × Apart starts closes r w.1 (blanked (beginning w.0.inner))
Apart {N} starts closes (flat r) w K = Apart {N = N} starts (λ o. any) r w K

-- ---- what the conditions say

pub all-allowed : (o : Option ℕ) → allows anything o ≡ true
all-allowed None = refl
all-allowed (Some c) = grind (arith, nat_tests)

-- a character that passes, where the ranges have all of them
pub covered : (ok : ℕ → Bool) (rs : List Range) → ((c : ℕ) → ok c ≡ true → within rs c ≡ true)
    → (o : Option ℕ) → passes ok o ≡ true → allows (beginning rs).near o ≡ true
covered ok rs f None h = h
covered ok rs f (Some c) h = f c h

pub next-left : (T S : Next) (o : Option ℕ) → allows T o ≡ true → allows (or_next T S) o ≡ true
next-left T S None h = or-left T.end S.end h
next-left T S (Some c) h = within-left T.ranges S.ranges c h

pub next-right : (T S : Next) (o : Option ℕ) → allows S o ≡ true → allows (or_next T S) o ≡ true
next-right T S None h = or-right T.end S.end h
next-right T S (Some c) h = within-right T.ranges S.ranges c h

-- a character that is allowed, at a test that passes all characters of the ranges
pub implied : (T : Next) (rs : List Range) (ok : ℕ → Bool)
    → ((c : ℕ) → within rs c ≡ true → ok c ≡ true) → implies T rs ≡ true → (o : Option ℕ)
    → allows T o ≡ true → passes ok o ≡ true
implied T rs ok f h None e = both (not T.end) (are_inside T.ranges rs) h (λ g i. absurd (cc))
implied T rs ok f h (Some c) e =
    both (not T.end) (are_inside T.ranges rs) h (λ g i. f c (inside-within T.ranges rs c i e))

-- and at one that passes none of them
pub excluded : (T : Next) (rs : List Range) (ok : ℕ → Bool)
    → ((c : ℕ) → ok c ≡ true → within rs c ≡ true) → excludes T rs ≡ true → (o : Option ℕ)
    → allows T o ≡ true → passes ok o ≡ false
excluded T rs ok f h None e = refl
excluded T rs ok f h (Some c) e =
    none (ok c) (within rs c) (f c) (apart-within T.ranges rs c h e)
  where
    none : (a b : Bool) → (a ≡ true → b ≡ true) → b ≡ false → a ≡ false
    none true b g off = sym (g refl) ∙ off
    none false b g off = refl

pub under-computed : (J K : Follow) → is_under J K ≡ true → Under J K
under-computed J K h =
    both (is_passing J.near K.near) (is_passing J.far K.far) h (λ f g. record {
      near = passing J.near K.near f;
      far = passing J.far K.far g;
    })
  where
    passing : (T S : Next) → is_passing T S ≡ true → Passing T S
    passing T S h None e =
        both (not T.end || S.end) (are_inside T.ranges S.ranges) h
        (λ f g. one_of (not T.end) S.end f (λ i. absurd (cc)) (λ i. i))
    passing T S h (Some c) e =
        both (not T.end || S.end) (are_inside T.ranges S.ranges) h
        (λ f g. inside-within T.ranges S.ranges c g e)
