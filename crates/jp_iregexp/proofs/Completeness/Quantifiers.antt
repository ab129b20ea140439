-- What spells a quantifier is read as it: for the pieces of patterns.
use Rattle.std.proofs.Common.{◌≡◌, ℕ, ◌≤◌, true, false, nat_lt, [], Option}
use Rattle.std.proofs.Common.{Some, None, refl, sym, ap, subst, arith}
use Rattle.std.specs.Prelude.{codes}
use Rattle.std.proofs.lemmas.Bool.Decides.{nat_tests}
use Rattle.jp_reading.specs.Characters as char
use Rattle.jp_reading.specs.Forms.{◌⌢◌, word}
use Rattle.jp_reading.specs.Numbers.{Digits, is_digit}
use Rattle.jp_reading.specs.NumberReading.{is_at_digit, capped}
use Rattle.jp_reading.specs.Outcome.{State, took, head, passes, is, is_at}
use Rattle.jp_reading.proofs.States.Steps.{head-is, is-other}
use Rattle.jp_reading.proofs.States.Between.{Reads, reads-is}
use Rattle.jp_reading.proofs.Texts.Digits.{capped-is_min}
use Rattle.jp_reading.proofs.States.Again.{split, reads-none, word-first, again-expect, at-word}
use Rattle.jp_reading.proofs.States.Again.{past-word}
use Rattle.jp_reading.proofs.Texts.Runs.{again-digits, digits-first}
use Rattle.jp_iregexp.specs.Grammar as grammar
use Rattle.jp_iregexp.specs.Grammar.{QuantExact, Most, Quantifier, one}
use Rattle.jp_iregexp.specs.Private.Reading.{number_at, most_at, braces_at}
use Rattle.jp_iregexp.specs.Private.Reading.{quantifier_at, begins_quantifier}

digit-off : (c : ℕ) (o : Option ℕ) → passes is_digit o ≡ true → is_digit c ≡ false
    → passes (is c) o ≡ false
digit-off c None h e = refl
digit-off c (Some d) h e = is-other is_digit d c h e

again-number : (n : ℕ) (p q : State) → Reads (QuantExact n) p q → is_at_digit q ≡ false
    → number_at p ≡ took n q
unfolding number_at
again-number n p q h ends =
    let ds = h.is.digits in
    let least = capped-is_min 1000000000 0 ds (omega arith) in
    let value : capped 1000000000 0 ds ≡ n = omega (arith, h.is.value, h.is.small, least) in
    let low : nat_lt 999999999 n ≡ false = (let small = h.is.small in grind (arith, nat_tests)) in
    rw (again-digits ds p q (reads-is (QuantExact n) (Digits ds) p q h h.is.is) ends, value, low) refl

number-first : (n : ℕ) (p q : State) → Reads (QuantExact n) p q → is_at_digit p ≡ true
number-first n p q h =
    digits-first h.is.digits p q (reads-is (QuantExact n) (Digits h.is.digits) p q h h.is.is)

-- what stands between a least number and its closing brace
record MostRead (n : ℕ) (m : Option ℕ) (p q : State) : Type 0 where
  ends : is_at_digit p ≡ false
  is : most_at n p ≡ took m q

most-exactly : (n : ℕ) (p : State) → is_at char.closing_brace p ≡ true → MostRead n (Some n) p p
unfolding most_at is_digit
most-exactly n p at = record {
  ends = ap (passes is_digit) (head-is char.closing_brace p at);
  is =
      rw at refl;
}

most-from : (n : ℕ) (p q : State) → Reads (word (codes ",")) p q → is_at char.closing_brace q ≡ true
    → MostRead n None p q
unfolding most_at is_digit
most-from n p q h at =
    let e = word-first char.comma [] p q h in
    record {
      ends = ap (passes is_digit) e;
      is = rw (ap (passes (is char.closing_brace)) e, again-expect char.comma p q h, at) refl;
    }

most-to : (n k : ℕ) (p q : State) → n ≤ k → Reads (word (codes ",") ⌢ QuantExact k) p q
    → is_at char.closing_brace q ≡ true → MostRead n (Some k) p q
unfolding most_at is_digit
most-to n k p q order h at =
    let parts = split (word (codes ",")) (QuantExact k) p q h in
    let m = parts.middle in
    let e = word-first char.comma [] p m parts.one in
    let low : nat_lt k n ≡ false = grind (arith, nat_tests) in
    record {
      ends = ap (passes is_digit) e;
      is = rw (
        ap (passes (is char.closing_brace)) e,
        again-expect char.comma p m parts.one,
        digit-off char.closing_brace (head m) (number-first k m q parts.two) refl,
        again-number k m q parts.two (ap (passes is_digit) (head-is char.closing_brace q at)),
        low,
      ) refl;
    }

again-most : (n : ℕ) (m : Option ℕ) (p q : State) → Reads (Most n m) p q
    → is_at char.closing_brace q ≡ true
    → MostRead n m p q
again-most n m p q h at = elim h.is [
  | grammar.exactly e g ↦
      (let same = reads-none p q (reads-is (Most n m) (word []) p q h g) in
      subst (λ l. MostRead n l p q) (sym e)
      (subst (λ r. MostRead n (Some n) r q) (sym same) (most-exactly n q at)))
  | grammar.from e g ↦
      subst (λ l. MostRead n l p q) (sym e)
      (most-from n p q (reads-is (Most n m) (word (codes ",")) p q h g) at)
  | grammar.to k e order g ↦
      subst (λ l. MostRead n l p q) (sym e)
      (most-to n k p q order (reads-is (Most n m) (word (codes ",") ⌢ QuantExact k) p q h g) at)
]

-- a quantifier is read where it begins
pub record QuantifierRead (least : ℕ) (most : Option ℕ) (p q : State) : Type 0 where
  pub begins : passes begins_quantifier (head p) ≡ true
  pub is : quantifier_at p ≡ took (record { least = least; most = most }) q

quantifier-any : (p q : State) → Reads (word (codes "*")) p q → QuantifierRead 0 None p q
unfolding quantifier_at
quantifier-any p q h =
    let e = word-first char.star [] p q h in
    record {
      begins = ap (passes begins_quantifier) e;
      is = rw (ap (passes (is char.star)) e, past-word char.star p q h) refl;
    }

quantifier-some : (p q : State) → Reads (word (codes "+")) p q → QuantifierRead 1 None p q
unfolding quantifier_at
quantifier-some p q h =
    let e = word-first char.plus [] p q h in
    record {
      begins = ap (passes begins_quantifier) e;
      is = rw (
        ap (passes (is char.star)) e,
        ap (passes (is char.plus)) e,
        past-word char.plus p q h,
      ) refl;
    }

quantifier-optional : (p q : State) → Reads (word (codes "?")) p q → QuantifierRead 0 (Some 1) p q
unfolding quantifier_at
quantifier-optional p q h =
    let e = word-first char.question_mark [] p q h in
    record {
      begins = ap (passes begins_quantifier) e;
      is =
          rw (
            ap (passes (is char.star)) e,
            ap (passes (is char.plus)) e,
            ap (passes (is char.question_mark)) e,
            past-word char.question_mark p q h,
          ) refl;
    }

quantifier-braces : (n : ℕ) (m : Option ℕ) (p q : State)
    → Reads (word (codes "{") ⌢ QuantExact n ⌢ Most n m ⌢ word (codes "}")) p q → QuantifierRead n m p q
unfolding quantifier_at braces_at
quantifier-braces n m p q h =
    let parts = split (word (codes "{")) (QuantExact n ⌢ Most n m ⌢ word (codes "}")) p q h in
    let a = parts.middle in
    let numbers = split (QuantExact n) (Most n m ⌢ word (codes "}")) a q parts.two in
    let b = numbers.middle in
    let ends = split (Most n m) (word (codes "}")) b q numbers.two in
    let c = ends.middle in
    let most = again-most n m b c ends.one (at-word char.closing_brace [] c q ends.two) in
    let e = word-first char.opening_brace [] p a parts.one in
    record {
      begins = ap (passes begins_quantifier) e;
      is = rw (
        ap (passes (is char.star)) e,
        ap (passes (is char.plus)) e,
        ap (passes (is char.question_mark)) e,
        again-expect char.opening_brace p a parts.one,
        again-number n a b numbers.one most.ends,
        most.is,
        again-expect char.closing_brace c q ends.two,
      ) refl;
    }

pub again-quantifier : (least : ℕ) (most : Option ℕ) (p q : State)
    → Reads (Quantifier least most) p q → QuantifierRead least most p q
again-quantifier least most p q h = elim h.is [
  | grammar.any e f g ↦
      rw (e, f) (quantifier-any p q (reads-is (Quantifier least most) (word (codes "*")) p q h g))
  | grammar.some e f g ↦
      rw (e, f) (quantifier-some p q (reads-is (Quantifier least most) (word (codes "+")) p q h g))
  | grammar.optional e f g ↦
      rw (e, f)
      (quantifier-optional p q (reads-is (Quantifier least most) (word (codes "?")) p q h g))
  | grammar.braces g ↦
      quantifier-braces least most p q
      (reads-is (Quantifier least most)
      (word (codes "{") ⌢ QuantExact least ⌢ Most least most ⌢ word (codes "}")) p q h g)
]
