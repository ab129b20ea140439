-- The quantifiers that the reader takes have the forms of their counts: for the pieces of patterns.
use Rattle.std.proofs.Common.{◌≡◌, ℕ, ◌≤◌, nat_lt, [], Some, None, refl, arith}
use Rattle.std.specs.Prelude.{codes}
use Rattle.std.proofs.lemmas.Bool.Decides.{nat_tests}
use Rattle.jp_reading.specs.Characters as char
use Rattle.jp_reading.specs.Texts.{Text, Spans}
use Rattle.jp_reading.specs.Forms.{Form, ◌⌢◌, word}
use Rattle.jp_reading.specs.Numbers.{Digits, value_from}
use Rattle.jp_reading.specs.NumberReading.{digits_at, capped}
use Rattle.jp_reading.specs.Outcome.{State, took, stuck, past, is_at, expect}
use Rattle.jp_reading.specs.Views.{outcome_map}
use Rattle.jp_reading.proofs.States.Between.{reads-then, reads-as}
use Rattle.jp_reading.proofs.Texts.Digits.{capped-is_min}
use Rattle.jp_reading.proofs.States.Fits.{reads-next, Fits, fits-then, fits-if, fits-map}
use Rattle.jp_reading.proofs.States.Fits.{reads-nothing, fits-expect, fits-digits}
use Rattle.jp_iregexp.specs.declared.quantifiers.Count.{Count}
use Rattle.jp_iregexp.specs.Grammar as grammar
use Rattle.jp_iregexp.specs.Grammar.{QuantExact, Most, Quantifier, one}
use Rattle.jp_iregexp.specs.Private.Reading.{number_at, most_at, braces_at, quantifier_at}

-- a number as it is read, capped
record Capped (n : ℕ) (s : Spans) (o : ℕ) (t : Text) : Type 0 where
  digits : Text
  value : n ≡ capped 1000000000 0 digits
  is : Digits digits s o t

small-number : (n : ℕ) (ds : Text) → n ≡ capped 1000000000 0 ds → n ≤ 999999999
    → n ≡ value_from 0 ds
small-number n ds e h = let is = capped-is_min 1000000000 0 ds (omega arith) in omega arith

fits-number : (p : State) → Fits QuantExact p (number_at p)
unfolding number_at
fits-number p =
    fits-then Capped QuantExact p p (outcome_map (capped 1000000000 0) (digits_at p)) _
    (fits-map (capped 1000000000 0) Digits Capped p p (digits_at p) (fits-digits p)
    (λ ds q h. reads-as (Digits ds) (Capped (capped 1000000000 0 ds)) p q (λ s o t g. record {
      digits = ds;
      value = refl;
      is = g;
    }) h))
    (λ n q h. fits-if QuantExact (nat_lt 999999999 n) p (stuck q) (took n q) (λ large. tt)
    (λ small. (let low : n ≤ 999999999 = grind (arith, nat_tests) in
    record {
      spans = h.spans;
      text = h.text;
      way = h.way;
      is = record {
        digits = h.is.digits;
        value = small-number n h.is.digits h.is.value low;
        small = low;
        is = h.is.is;
      };
    })))

fits-most : (n : ℕ) (p : State) → Fits (Most n) p (most_at n p)
unfolding most_at
fits-most n p =
    fits-if (Most n) (is_at char.closing_brace p) p (took (Some n) p) _
    (λ h. reads-as (word []) (Most n (Some n)) p p (λ s o t g. grammar.exactly refl g)
    (reads-nothing p))
    (λ h. fits-then (λ x. word (codes ",")) (Most n) p p (expect char.comma p) _
    (fits-expect char.comma p)
    (λ x q comma. fits-if (Most n) (is_at char.closing_brace q) p (took None q) _
    (λ h. reads-as (word (codes ",")) (Most n None) p q (λ s o t g. grammar.from refl g) comma)
    (λ h. fits-then QuantExact (Most n) p q (number_at q) _ (fits-number q)
    (λ m r number. fits-if (Most n) (nat_lt m n) p (stuck r) (took (Some m) r) (λ less. tt)
    (λ more. reads-as (word (codes ",") ⌢ QuantExact m) (Most n (Some m)) p r
    (λ s o t g. grammar.to m refl (grind (arith, nat_tests)) g)
    (reads-then (word (codes ",")) (QuantExact m) p q r comma number))))))

-- how often, by both counts
abbrev pub Counted : Count → Form
Counted k = Quantifier k.least k.most

pub fits-quantifier : (p : State) → Fits Counted p (quantifier_at p)
unfolding quantifier_at braces_at
fits-quantifier p =
    fits-if Counted (is_at char.star p) p _ _
    (λ h. reads-as (word (codes "*")) (Quantifier 0 None) p (past p)
    (λ s o t g. grammar.any refl refl g) (reads-next char.star p h))
    (λ h. fits-if Counted (is_at char.plus p) p _ _
    (λ h. reads-as (word (codes "+")) (Quantifier 1 None) p (past p)
    (λ s o t g. grammar.some refl refl g) (reads-next char.plus p h))
    (λ h. fits-if Counted (is_at char.question_mark p) p _ _
    (λ h. reads-as (word (codes "?")) (Quantifier 0 (Some 1)) p (past p)
    (λ s o t g. grammar.optional refl refl g) (reads-next char.question_mark p h))
    (λ h. fits-then (λ x. word (codes "{")) Counted p p (expect char.opening_brace p) _
    (fits-expect char.opening_brace p)
    (λ x q opening. fits-then QuantExact Counted p q (number_at q) _ (fits-number q)
    (λ n r number. fits-then (Most n) Counted p r (most_at n r) _ (fits-most n r)
    (λ m u most. fits-then (λ x. word (codes "}")) Counted p u (expect char.closing_brace u) _
    (fits-expect char.closing_brace u)
    (λ y v closing. reads-as (word (codes "{") ⌢ QuantExact n ⌢ Most n m ⌢ word (codes "}"))
    (Quantifier n m) p v (λ s o t g. grammar.braces g)
    (reads-then (word (codes "{")) (QuantExact n ⌢ Most n m ⌢ word (codes "}")) p q v opening
    (reads-then (QuantExact n) (Most n m ⌢ word (codes "}")) q r v number
    (reads-then (Most n m) (word (codes "}")) r u v most closing))))))))))
