-- Reading a text, and reading it with more after it: the same happens, unless reading comes to the
-- end of the shorter text.
use Rattle.std.proofs.Common.{◌≡◌, ℕ, zero, suc, ◌+◌, ◌≤◌, Bool, true, false, if◌then◌else◌, []}
use Rattle.std.proofs.Common.{◌∷◌, ◌++◌, length, Option, Some, None, inl, inr, refl, ap}
use Rattle.std.proofs.Common.{length-append, arith}
use Rattle.std.proofs.lemmas.Bool.{cases_Bool}
use Rattle.std.specs.Char.{len_utf8}
use Rattle.jp_reading.specs.Texts.{Text, Spans, is_blank}
use Rattle.jp_reading.specs.Outcome.{State, Outcome, took, stuck, deep, ◌>>=◌, head, past}
use Rattle.jp_reading.specs.Texts.{first_of}
use Rattle.jp_reading.specs.Outcome.{past_first, past_blanks, skip, after_blank, passes}
use Rattle.jp_reading.specs.Outcome.{take_passing, take_if, loop, each, omit}
use Rattle.jp_reading.specs.Views.{outcome_map}
use Rattle.jp_reading.specs.RuleReading.{spanned_if, spanned}
use Rattle.jp_reading.proofs.Texts.Chars.{past_blanks-rest, skip-shorter}
use Rattle.jp_reading.proofs.States.Progress.{Progress, past-keeps}
use Rattle.jp_reading.proofs.States.Loops.{loop-same}

-- a reader with more text after its own
abbrev pub longer : Text → State → State
longer u p = record { at = p.at; rest = p.rest ++ u; found = p.found }

-- the same outcome, with more text after
abbrev pub extended : {A : Type 0} → Text → Outcome A → Outcome A
extended u (took x q) = took x (longer u q)
extended u (stuck q) = stuck (longer u q)
extended u (deep q) = deep (longer u q)

-- how many characters are to be looked at yet: all, or those after the blanks that stand next
abbrev pub all : Text → ℕ
all t = length t

abbrev pub unblanked : Text → ℕ
unblanked t = length (past_blanks 0 [] t).rest

-- a rule came so far that at most m characters are to be looked at yet
abbrev pub Ends : {A : Type 0} → (Text → ℕ) → ℕ → Outcome A → Type 0
Ends left m (took x q) = left q.rest ≤ m
Ends left m (stuck q) = length q.rest ≤ m
Ends left m (deep q) = length q.rest ≤ m

-- two outcomes, the second with the text u after: the same, or the first came to the end of its
-- text and the second to u
pub data Agrees {A : Type 0} (left : Text → ℕ) (u : Text) (o v : Outcome A) : Type 0 where
  same : v ≡ extended u o → Agrees left u o v
  ended : Ends left 0 o → Ends left (length u) v → Agrees left u o v

-- a rule looks at a text from its prefix on: where `before` says how much is left as it begins, and
-- `after` as it ends,
-- it never goes back, and what stands after the text that it looks at changes nothing
pub record Local {A : Type 0} (before after : Text → ℕ) (rule : State → Outcome A) : Type 0 where
  pub ends : (m : ℕ) (p : State) → before p.rest ≤ m → Ends after m (rule p)
  pub agrees : (u : Text) (p : State) → Agrees after u (rule p) (rule (longer u p))

-- so does a test
pub data Sees (before : Text → ℕ) (u : Text) (test : State → Bool) (p : State) : Type 0 where
  same_test : test (longer u p) ≡ test p → Sees before u test p
  at_end : before p.rest ≤ 0 → before (p.rest ++ u) ≤ length u → Sees before u test p

abbrev pub Tests : (Text → ℕ) → (State → Bool) → Type 0
Tests before test = (u : Text) (p : State) → Sees before u test p

-- ---- one after the other

ends-then : {A B : Type 0} (b c : Text → ℕ) (m : ℕ) (o : Outcome A) (k : A → State → Outcome B)
    → ((x : A) → Local b c (k x))
    → Ends b m o → Ends c m (o >>= k)
ends-then b c m (took x q) k h e = (h x).ends m q e
ends-then b c m (stuck q) k h e = e
ends-then b c m (deep q) k h e = e

agrees-extended : {A B : Type 0} (b c : Text → ℕ) (u : Text) (o : Outcome A)
    (k : A → State → Outcome B) → ((x : A) → Local b c (k x))
    → Agrees c u (o >>= k) (extended u o >>= k)
agrees-extended b c u (took x q) k h = (h x).agrees u q
agrees-extended b c u (stuck q) k h = same refl
agrees-extended b c u (deep q) k h = same refl

agrees-then : {A B : Type 0} (b c : Text → ℕ) (u : Text) (o v : Outcome A)
    (k : A → State → Outcome B) → ((x : A) → Local b c (k x))
    → Agrees b u o v → Agrees c u (o >>= k) (v >>= k)
agrees-then b c u o v k h (same e) = rw e (agrees-extended b c u o k h)
agrees-then b c u o v k h (ended e f) =
    ended (ends-then b c 0 o k h e) (ends-then b c (length u) v k h f)

pub local-then : {A B : Type 0} (a b c : Text → ℕ) (rule : State → Outcome A)
    (k : A → State → Outcome B)
    → Local a b rule → ((x : A) → Local b c (k x)) → Local a c (λ p. rule p >>= k)
local-then a b c rule k f g = record {
  ends = λ m p e. ends-then b c m (rule p) k g (f.ends m p e);
  agrees = λ u p. agrees-then b c u (rule p) (rule (longer u p)) k g (f.agrees u p);
}

-- ---- values

pub local-took : {A : Type 0} (a : Text → ℕ) (x : A) → Local a a (took x)
local-took a x = record { ends = λ m p e. e; agrees = λ u p. same refl }

pub local-map : {A B : Type 0} (a b : Text → ℕ) (f : A → B) (rule : State → Outcome A)
    → Local a b rule → Local a b (λ p. outcome_map f (rule p))
local-map a b f rule h = local-then a b b rule (λ x q. took (f x) q) h (λ x. local-took b (f x))

pub local-omit : {A : Type 0} (a : Text → ℕ) (x : A) → Local a a (λ p. took x (omit p))
local-omit a x = record { ends = λ m p e. e; agrees = λ u p. same refl }

pub local-spanned : {A : Type 0} (a b : Text → ℕ) (ok : A → Bool) (rule : State → Outcome A)
    → Local a b rule → Local a b (λ p. spanned ok p (rule p))
local-spanned {A} a b ok rule h = record {
  ends = λ m p e. ends-then b b m (rule p) _ (λ x. taken p x (ok x)) (h.ends m p e);
  agrees = λ u p. agrees-then b b u (rule p) (rule (longer u p)) _ (λ x. taken p x (ok x))
      (h.agrees u p);
}
  where
    taken : (p : State) (x : A) (is_component : Bool) → Local b b (λ q. took x (spanned_if is_component p q))
    taken p x true = record { ends = λ m q e. e; agrees = λ u q. same refl }
    taken p x false = record { ends = λ m q e. e; agrees = λ u q. same refl }

-- where it stops
pub local-stuck : {A : Type 0} (a : Text → ℕ) → Local {A = A} all a stuck
local-stuck a = record { ends = λ m p e. e; agrees = λ u p. same refl }

pub local-deep : {A : Type 0} (a : Text → ℕ) → Local {A = A} all a deep
local-deep a = record { ends = λ m p e. e; agrees = λ u p. same refl }

-- ---- characters and blanks

ends-if : {A : Type 0} (b : Text → ℕ) (m : ℕ) (on : Bool) (o v : Outcome A) → Ends b m o
    → Ends b m v → Ends b m (if on then o else v)
ends-if b m true o v e f = e
ends-if b m false o v e f = f

pub local-if : {A : Type 0} (a b : Text → ℕ) (test : State → Bool) (f g : State → Outcome A)
    → Tests a test → Local a b f → Local a b g → Local a b (λ p. if test p then f p else g p)
local-if a b test f g tests hf hg = record {
  ends = λ m p e. ends-if b m (test p) (f p) (g p) (hf.ends m p e) (hg.ends m p e);
  agrees = λ u p. choose u p (tests u p);
}
  where
    either : (u : Text) (p : State) (on : Bool)
        → Agrees b u (if on then f p else g p) (if on then f (longer u p) else g (longer u p))
    either u p true = hf.agrees u p
    either u p false = hg.agrees u p

    choose : (u : Text) (p : State) → Sees a u test p
        → Agrees b u (if test p then f p else g p)
        (if test (longer u p) then f (longer u p) else g (longer u p))
    choose u p (same_test e) = rw e (either u p (test p))
    choose u p (at_end e k) =
        ended (ends-if b 0 (test p) (f p) (g p) (hf.ends 0 p e) (hg.ends 0 p e))
        (ends-if b (length u) (test (longer u p)) (f (longer u p)) (g (longer u p))
        (hf.ends (length u) (longer u p) k) (hg.ends (length u) (longer u p) k))

-- at the end of a text, nothing is left
sees-head : (ok : ℕ → Bool) (u : Text) (at : ℕ) (found : Spans) (t : Text)
    → Sees all u (λ p. passes ok (head p)) (record { at = at; rest = t; found = found })
sees-head ok u at found [] = at_end (omega arith) (omega arith)
sees-head ok u at found (c ∷ t) = same_test refl

pub tests-head : (ok : ℕ → Bool) → Tests all (λ p. passes ok (head p))
tests-head ok u p = sees-head ok u p.at p.found p.rest

pub local-past : {A : Type 0} (b : Text → ℕ) (rule : State → Outcome A) → Local all b rule
    → Local all b (λ p. rule (past p))
local-past b rule h = record {
  ends = λ m p e. h.ends m (past p) (let f = past-keeps p in omega arith);
  agrees = λ u p. beyond u p.at p.found p.rest;
}
  where
    beyond : (u : Text) (at : ℕ) (found : Spans) (t : Text)
        → Agrees b u (rule (past_first at found t)) (rule (past_first at found (t ++ u)))
    beyond u at found [] =
        ended (h.ends 0 (past_first at found []) (omega arith))
        (h.ends (length u) (past_first at found u) (past-keeps (record {
          at = at;
          rest = u;
          found = found;
        })))
    beyond u at found (c ∷ t) = h.agrees u (past_first at found (c ∷ t))

pub local-take_if : (ok : ℕ → Bool) → Local all all (take_if ok)
local-take_if ok = record {
  ends = λ m p e. taken m p (head p) e;
  agrees = λ u p. longer-taken u p.at p.found p.rest;
}
  where
    taken : (m : ℕ) (p : State) (o : Option ℕ) → length p.rest ≤ m
        → Ends all m (take_passing ok p o)
    taken m p None e = e
    taken m p (Some c) e =
        ends-if all m (ok c) (took c (past p)) (stuck p) (let f = past-keeps p in omega arith) e

    longer-taken : (u : Text) (at : ℕ) (found : Spans) (t : Text)
        → Agrees all u (take_if ok (record { at = at; rest = t; found = found }))
        (take_if ok (record { at = at; rest = t ++ u; found = found }))
    longer-taken u at found [] =
        ended (omega arith) (taken (length u) (record { at = at; rest = u; found = found })
        (first_of u) (omega arith))
    longer-taken u at found (c ∷ t) =
        elim (cases_Bool (ok c)) [ inl on ↦ rw on (same refl) | inr off ↦ rw off (same refl) ]

-- blanks are skipped alike, unless there is nothing after them
data Skips (u : Text) (at : ℕ) (found : Spans) (t : Text) : Type 0 where
  alike : past_blanks at found (t ++ u) ≡ longer u (past_blanks at found t) → Skips u at found t
  none_behind : (past_blanks at found t).rest ≡ []
      → length (past_blanks at found (t ++ u)).rest ≤ length u → Skips u at found t

skips : (u : Text) (at : ℕ) (found : Spans) (t : Text) → Skips u at found t
unfolding past_blanks
skips u at found [] = none_behind refl (skip-shorter (record { at = at; rest = u; found = found }))
skips u at found (c ∷ t) =
    elim (cases_Bool (is_blank c)) [
      | inl blank ↦ on blank (skips u (at + len_utf8 c) found t)
      | inr other ↦ alike (rw other refl)
    ]
  where
    on : is_blank c ≡ true → Skips u (at + len_utf8 c) found t → Skips u at found (c ∷ t)
    on blank (alike e) = alike (rw blank e)
    on blank (none_behind e k) = none_behind (rw blank e) (rw blank k)

-- after blanks there is as much wherever they stand
pub unblanked-skip : (p : State) → unblanked p.rest ≡ length (skip p).rest
unblanked-skip p = ap length (past_blanks-rest 0 p.at [] p.found p.rest)

unblanked-less : (t : Text) → unblanked t ≤ length t
unblanked-less t = skip-shorter (record { at = 0; rest = t; found = [] })

pub local-skip : {A : Type 0} (b : Text → ℕ) (rule : State → Outcome A) → Local all b rule
    → Local unblanked b (λ p. rule (skip p))
local-skip b rule h = record {
  ends = λ m p e. h.ends m (skip p) (let f = unblanked-skip p in omega arith);
  agrees = λ u p. beyond u p (skips u p.at p.found p.rest);
}
  where
    beyond : (u : Text) (p : State) → Skips u p.at p.found p.rest
        → Agrees b u (rule (skip p)) (rule (skip (longer u p)))
    beyond u p (alike e) = rw e (h.agrees u (skip p))
    beyond u p (none_behind e k) =
        ended (h.ends 0 (skip p) (rw e (omega arith))) (h.ends (length u) (skip (longer u p)) k)

pub tests-after : (ok : ℕ → Bool) → Tests unblanked (λ p. passes ok (after_blank p))
tests-after ok u p = beyond (skips u p.at p.found p.rest)
  where
    seen : skip (longer u p) ≡ longer u (skip p) → Sees all u (λ q. passes ok (head q)) (skip p)
        → Sees unblanked u (λ q. passes ok (after_blank q)) p
    seen e (same_test f) = same_test (rw e f)
    seen e (at_end f k) =
        at_end (let g = unblanked-skip p in omega arith) (rw (unblanked-skip (longer u p), e) k)

    beyond : Skips u p.at p.found p.rest → Sees unblanked u (λ q. passes ok (after_blank q)) p
    beyond (alike e) = seen e (tests-head ok u (skip p))
    beyond (none_behind e k) =
        at_end (let f = unblanked-skip p in let g : length (skip p).rest ≡ 0 =
        ap length e in omega arith)
        (let f = unblanked-skip (longer u p) in omega arith)

-- a rule that may begin at blanks may begin at any character, and one that leaves no blanks leaves
-- no more
pub local-from : {A : Type 0} (b : Text → ℕ) (rule : State → Outcome A) → Local unblanked b rule
    → Local all b rule
local-from b rule h = record {
  ends = λ m p e. h.ends m p (let f = unblanked-less p.rest in omega arith);
  agrees = h.agrees;
}

pub local-to : {A : Type 0} (a : Text → ℕ) (rule : State → Outcome A) → Local a all rule
    → Local a unblanked rule
local-to a rule h = record {
  ends = λ m p e. looser m (rule p) (h.ends m p e);
  agrees = λ u p. agrees-looser u (rule p) (rule (longer u p)) (h.agrees u p);
}
  where
    looser : {A : Type 0} (m : ℕ) (o : Outcome A) → Ends all m o → Ends unblanked m o
    looser m (took x q) e = let f = unblanked-less q.rest in omega arith
    looser m (stuck q) e = e
    looser m (deep q) e = e

    agrees-looser : {A : Type 0} (u : Text) (o v : Outcome A) → Agrees all u o v
        → Agrees unblanked u o v
    agrees-looser u o v (same e) = same e
    agrees-looser u o v (ended e k) = ended (looser 0 o e) (looser (length u) v k)

-- ---- loops

local-loop : {A : Type 0} (a : Text → ℕ) (n : ℕ) (begins : State → Bool) (rule : State → Outcome A)
    → Tests a begins → Local a a rule → Local a a (loop n begins rule)
unfolding loop
local-loop a zero begins rule t h = local-took a []
local-loop a (suc n) begins rule t h =
    local-if a a begins _ (took []) t
    (local-then a a a rule _ h
    (λ x. local-then a a a (loop n begins rule) _ (local-loop a n begins rule t h)
    (λ xs. local-took a (x ∷ xs))))
    (local-took a [])

pub local-each : {A : Type 0} (a : Text → ℕ) (begins : State → Bool) (rule : State → Outcome A)
    → Progress rule → Tests a begins → Local a a rule → Local a a (each begins rule)
local-each a begins rule moves t h = record {
  ends = λ m p e. (local-loop a (suc (length p.rest)) begins rule t h).ends m p e;
  agrees = λ u p. (let more = length-append p.rest u in
      let rounds = suc (length (p.rest ++ u)) in
      rw (loop-same (suc (length p.rest)) rounds begins rule moves p (omega arith) (omega arith))
      ((local-loop a rounds begins rule t h).agrees u p));
}
