-- What a rule took has the form of its value, where nothing is asked of a rule that fails.
use Rattle.std.proofs.Common.{◌≡◌, ℕ, zero, suc, Bool, true, false, cond, [], ◌∷◌, ◌++◌, length}
use Rattle.std.proofs.Common.{Option, Some, None, inl, inr, refl, subst, arith}
use Rattle.std.proofs.lemmas.Bool.{cases_Bool, eqb-true}
use Rattle.jp_reading.specs.Texts.{Text}
use Rattle.jp_reading.specs.Forms.{Form, ◌⌢◌, word, One, Each}
use Rattle.jp_reading.specs.Numbers.{Digits, is_digit}
use Rattle.jp_reading.specs.NumberReading.{is_at_digit, digit_at, digits_at}
use Rattle.jp_reading.specs.Outcome.{State, Outcome, took, stuck, deep, ◌>>=◌, head, past, is}
use Rattle.jp_reading.specs.Outcome.{is_at, take_passing, take_if, expect, loop, each}
use Rattle.jp_reading.specs.Views.{outcome_map}
use Rattle.jp_reading.proofs.States.Between.{Reads, Within, between-same, reads-then, reads-as}
use Rattle.jp_reading.proofs.Texts.Runs.{each-run}
use Rattle.jp_reading.proofs.States.Steps.{past-way, head-is}
use Rattle.jp_reading.proofs.Texts.Words.{words-join}

-- what was taken from p on has the form of its value
abbrev pub Fits : {A : Type 0} → (A → Form) → State → Outcome A → Type 0
Fits F p (took x q) = Reads (F x) p q
Fits F p (stuck q) = Unit {0}
Fits F p (deep q) = Unit {0}

-- one rule, and then one that goes on from what it read
pub fits-then : {A B : Type 0} (F : A → Form) (G : B → Form) (p q : State) (o : Outcome A)
    (k : A → State → Outcome B)
    → Fits F q o → ((x : A) (r : State) → Reads (F x) q r → Fits G p (k x r)) → Fits G p (o >>= k)
fits-then F G p q (took x r) k h g = g x r h
fits-then F G p q (stuck r) k h g = tt
fits-then F G p q (deep r) k h g = tt

pub fits-if : {A : Type 0} (F : A → Form) (b : Bool) (p : State) (o r : Outcome A)
    → (b ≡ true → Fits F p o) → (b ≡ false → Fits F p r) → Fits F p (cond b o r)
fits-if F true p o r f g = f refl
fits-if F false p o r f g = g refl

-- values made by f
pub fits-map : {A B : Type 0} (f : A → B) (F : A → Form) (G : B → Form) (p q : State) (o : Outcome A)
    → Fits F q o → ((x : A) (r : State) → Reads (F x) q r → Reads (G (f x)) p r) → Fits G p (outcome_map f o)
fits-map f F G p q o h g = fits-then F G p q o (λ x r. took (f x) r) h g

pub fits-as : {A : Type 0} (F G : A → Form) (p : State) (o : Outcome A)
    → ((x : A) → Within (F x) (G x)) → Fits F p o → Fits G p o
fits-as F G p (took x q) w h = reads-as (F x) (G x) p q (w x) h
fits-as F G p (stuck q) w h = tt
fits-as F G p (deep q) w h = tt

-- nothing at all
pub reads-nothing : (p : State) → Reads (word []) p p
reads-nothing p = record {
  spans = [];
  text = [];
  way = between-same p;
  is = record { none = refl; is = refl };
}

-- a character that stands next
pub reads-one : (ok : ℕ → Bool) (p : State) (c : ℕ) → head p ≡ Some c → ok c ≡ true
    → Reads (One ok c) p (past p)
reads-one ok p c e h = record {
  spans = [];
  text = c ∷ [];
  way = past-way p c e;
  is = record { none = refl; is = refl; passes = h };
}

pub reads-word : (p : State) (c : ℕ) → head p ≡ Some c → Reads (word (c ∷ [])) p (past p)
reads-word p c e = record {
  spans = [];
  text = c ∷ [];
  way = past-way p c e;
  is = record { none = refl; is = refl };
}

-- a character that passes
pub fits-take_if : (ok : ℕ → Bool) (p : State) → Fits (One ok) p (take_if ok p)
fits-take_if ok p = taken (head p) refl
  where
    taken : (o : Option ℕ) → head p ≡ o → Fits (One ok) p (take_passing ok p o)
    taken None e = tt
    taken (Some c) e =
        elim (cases_Bool (ok c)) [
          | inl passing ↦ rw passing (reads-one ok p c e passing)
          | inr failing ↦ rw failing tt
        ]

-- the character c
pub fits-expect : (c : ℕ) (p : State) → Fits (λ x. word (c ∷ [])) p (expect c p)
fits-expect c p =
    fits-as (One (is c)) (λ x. word (c ∷ [])) p (expect c p)
    (λ x s o t h. record {
      none = h.none;
      is = subst (λ d. t ≡ d ∷ []) (eqb-true x c h.passes) h.is;
    }) (fits-take_if (is c) p)

fits-loop : {A : Type 0} (F : A → Form) (n : ℕ) (begins : State → Bool) (rule : State → Outcome A)
    → ((q : State) → Fits F q (rule q)) → (p : State) → Fits (Each F) p (loop n begins rule p)
unfolding loop
fits-loop F zero begins rule h p = reads-nothing p
fits-loop F (suc n) begins rule h p =
    fits-if (Each F) (begins p) p _ (took [] p) (λ on. fits-then F (Each F) p p (rule p) _ (h p)
    (λ x q one. fits-map (λ xs. x ∷ xs) (Each F) (Each F) p q (loop n begins rule q)
    (fits-loop F n begins rule h q)
    (λ xs r more. reads-then (F x) (Each F xs) p q r one more))) (λ off. reads-nothing p)

-- one after another
pub fits-each : {A : Type 0} (F : A → Form) (begins : State → Bool) (rule : State → Outcome A)
    → ((q : State) → Fits F q (rule q)) → (p : State) → Fits (Each F) p (each begins rule p)
fits-each F begins rule h p = fits-loop F (suc (length p.rest)) begins rule h p

-- digits
pub fits-digits : (p : State) → Fits Digits p (digits_at p)
unfolding digits_at
fits-digits p =
    fits-then (One is_digit) Digits p p (digit_at p) _ (fits-take_if is_digit p)
    (λ d q one. fits-map (λ ds. d ∷ ds) (Each (One is_digit)) Digits p q
    (each is_at_digit digit_at q)
    (fits-each (One is_digit) is_at_digit digit_at (fits-take_if is_digit) q)
    (λ ds r more. reads-as (One is_digit d ⌢ Each (One is_digit) ds) (Digits (d ∷ ds)) p r
    (λ s o t h. (let run = each-run is_digit (d ∷ ds) s o t h in
    record { none = run.none; is = run.is; digits = run.all; some = omega arith }))
    (reads-then (One is_digit d) (Each (One is_digit) ds) p q r one more)))

-- two words, one after the other, are one
pub reads-words : (v w : Text) (p q r : State) → Reads (word v) p q → Reads (word w) q r
    → Reads (word (v ++ w)) p r
reads-words v w p q r h g =
    reads-as (word v ⌢ word w) (word (v ++ w)) p r (words-join v w)
    (reads-then (word v) (word w) p q r h g)

-- the character c, where it stands next
pub reads-next : (c : ℕ) (p : State) → is_at c p ≡ true → Reads (word (c ∷ [])) p (past p)
reads-next c p h = reads-word p c (head-is c p h)
