-- Runs of characters that pass a test, and the digits of a number.
use Rattle.std.proofs.Common.{◌≡◌, ℕ, ◌+◌, Bool, true, false, [], ◌∷◌, ◌++◌, refl, ap, ◌∙◌, arith}
use Rattle.jp_reading.specs.Texts.{Text, Spans, bytes}
use Rattle.jp_reading.specs.Forms.{◌⌢◌, One, AllPassing, Each}
use Rattle.jp_reading.specs.Outcome.{State, took, head, passes, take_if, each}
use Rattle.jp_reading.specs.Texts.{first_of}
use Rattle.jp_reading.specs.Numbers.{is_digit, Digits}
use Rattle.jp_reading.specs.NumberReading.{is_at_digit, digit_at, digits_at}
use Rattle.jp_reading.proofs.States.Between.{Reads, Within, reads-as}
use Rattle.jp_reading.proofs.States.Progress.{moves-take_if}
use Rattle.jp_reading.proofs.States.Again.{split, again-take_if, again-each, again-round, one-first}

-- a run of characters that pass
pub record Run (ok : ℕ → Bool) (cs : Text) (s : Spans) (o : ℕ) (t : Text) : Type 0 where
  pub none : s ≡ []
  pub is : t ≡ cs
  pub all : AllPassing ok cs

-- one after another they are a run
pub each-run : (ok : ℕ → Bool) (cs : Text) → Within (Each (One ok) cs) (Run ok cs)
each-run ok [] s o t h = record { none = h.none; is = h.is; all = tt }
each-run ok (c ∷ cs) s o t h =
    let rest = each-run ok cs h.second_spans (o + bytes h.first) h.second h.two in
    record {
      none = h.spans ∙ rw (h.one.none, rest.none) refl;
      is = h.is ∙ rw (h.one.is, rest.is) refl;
      all = (h.one.passes, rest.all);
    }

run-of : (ok : ℕ → Bool) (cs : Text) (o : ℕ) → AllPassing ok cs → Each (One ok) cs [] o cs
run-of ok [] o h = record { none = refl; is = refl }
run-of ok (c ∷ cs) o h = record {
  first_spans = [];
  second_spans = [];
  first = c ∷ [];
  second = cs;
  spans = refl;
  is = refl;
  one = record { none = refl; is = refl; passes = h.0 };
  two = run-of ok cs (o + bytes (c ∷ [])) h.1;
}

-- and a run is that
pub run-each : (ok : ℕ → Bool) (cs : Text) → Within (Run ok cs) (Each (One ok) cs)
run-each ok cs s o t h = rw (h.none, h.is) (run-of ok cs o h.all)

-- up to what does not pass
pub again-run : (ok : ℕ → Bool) (cs : Text) (p q : State) → Reads (Run ok cs) p q
    → passes ok (head q) ≡ false
    → each (λ r. passes ok (head r)) (take_if ok) p ≡ took cs q
again-run ok cs p q h off =
    again-each (One ok) (λ t. Unit {0}) (λ r. passes ok (head r)) (take_if ok) (moves-take_if ok)
    (λ c r u one next. again-take_if ok c r u one)
    (λ c r u one. (ap (passes ok) (one-first ok c r u one) ∙ one.is.passes, tt))
    cs p q (reads-as (Run ok cs) (Each (One ok) cs) p q (run-each ok cs) h) off tt

-- ---- digits

-- where digits stand the next character is one
pub digits-first : (ds : Text) (p q : State) → Reads (Digits ds) p q → is_at_digit p ≡ true
digits-first [] p q h = absurd (let l = h.is.some in omega arith)
digits-first (d ∷ ds) p q h =
    ap is_digit_next (h.way.rest ∙ ap (λ t. t ++ q.rest) h.is.is) ∙ h.is.digits.0
  where
    is_digit_next : Text → Bool
    is_digit_next t = passes is_digit (first_of t)

-- digits up to what is none
pub again-digits : (ds : Text) (p q : State) → Reads (Digits ds) p q → is_at_digit q ≡ false
    → digits_at p ≡ took ds q
unfolding digits_at
again-digits [] p q h off = absurd (let l = h.is.some in omega arith)
again-digits (d ∷ ds) p q h off =
    let parts = split (One is_digit d) (Run is_digit ds) p q
    (reads-as (Digits (d ∷ ds)) (One is_digit d ⌢ Run is_digit ds) p q (cons-digits d ds) h) in
    again-round d ds p parts.middle q (digit_at p) (each is_at_digit digit_at)
    (again-take_if is_digit d p parts.middle parts.one)
    (again-run is_digit ds parts.middle q parts.two off)
  where
    cons-digits : (d : ℕ) (ds : Text) → Within (Digits (d ∷ ds)) (One is_digit d ⌢ Run is_digit ds)
    cons-digits d ds s o t g = record {
      first_spans = [];
      second_spans = [];
      first = d ∷ [];
      second = ds;
      spans = g.none;
      is = g.is;
      one = record { none = refl; is = refl; passes = g.digits.0 };
      two = record { none = refl; is = refl; all = g.digits.1 };
    }
