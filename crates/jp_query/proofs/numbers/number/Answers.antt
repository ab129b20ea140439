use Rattle.std.proofs.Common.{◌≡◌, ◌++◌, [], length, sym, ap, ◌∙◌, arith}
use mathlib.Core.List.{append_assoc}
use Rattle.jp_reading.specs.Outcome.{State, took}
use Rattle.jp_reading.specs.Texts.{Text}
use Rattle.jp_reading.specs.Views.{outcome_map}
use Rattle.jp_tree.specs.declared.tree.Numeral.TheVariants.{Fraction}
use Rattle.jp_query.specs.Literals.{number_in}
use Rattle.jp_query.specs.Private.Numerals.{held_integer}
use Rattle.jp_query.specs.Private.Rules.{decimals, exponent, mantissa}
use Rattle.jp_query.specs.Private.Reading.{read_flat}
use Rattle.jp_query.proofs.Readers.Exits.{err_is}
use Rattle.jp_query.proofs.Readers.Integers.{decimals-fail, exponent-fails, fraction-written}
use Rattle.jp_query.proofs.Readers.Integers.{integer-written, mantissa-took, number-took, taken}
use Rattle.jp_query.proofs.Readers.Integers.{whole-fails}
use Rattle.jp_query.proofs.numbers.number.Goals as goal

pub returns-in_err-whole : goal.returns-in_err-whole
returns-in_err-whole c =
    rw (err_is c.from_residual.result c.from_residual.ensures.1)
    (whole-fails c.args.reader.now c.in_err-whole.field-0.0 (λ w. c.new.result.items ++ w)
    c.in_err-whole.ensures)

pub returns-in_err-with_decimals : goal.returns-in_err-with_decimals
returns-in_err-with_decimals c =
    let p = c.args.reader.now in
    let q = c.mantissa.new.reader in
    let first = taken (λ w. c.new.result.items ++ w) (read_flat mantissa p) c.in_ok-whole.whole.items q
    c.in_ok-whole.ensures in
    rw (err_is c.from_residual-in_err-with_decimals.result
    c.from_residual-in_err-with_decimals.ensures.1)
    (decimals-fail p q first.text c.in_err-with_decimals.field-0.0
    (λ w. c.in_ok-whole.whole.items ++ w) first.took_it c.in_err-with_decimals.ensures)

pub returns-in_err-text : goal.returns-in_err-text
returns-in_err-text c =
    let p = c.args.reader.now in
    let q = c.mantissa.new.reader in
    let r = c.decimals.new.reader in
    let first = taken (λ w. c.new.result.items ++ w) (read_flat mantissa p) c.in_ok-whole.whole.items q
    c.in_ok-whole.ensures in
    let second = taken (λ w. c.in_ok-whole.whole.items ++ w) (read_flat decimals q)
    c.in_ok-with_decimals.with_decimals.items r c.in_ok-with_decimals.ensures in
    rw (err_is c.from_residual-in_err-text.result c.from_residual-in_err-text.ensures.1)
    (exponent-fails p q r first.text second.text c.in_err-text.field-0.0
    (λ w. c.in_ok-with_decimals.with_decimals.items ++ w) first.took_it second.took_it
    c.in_err-text.ensures)

-- the parts that were taken, and the whole text
record Parts (p q r u : State) (v whole : Text) : Type 0 where
  a : Text
  b : Text
  d : Text
  first : read_flat mantissa p ≡ took a q
  second : read_flat decimals q ≡ took b r
  third : read_flat exponent r ≡ took d u
  all : v ≡ a ++ (b ++ d)
  length_of : length whole ≡ length a

parts : (p q r u : State) (new whole longer v : Text) → new ≡ []
    → outcome_map (λ w. new ++ w) (read_flat mantissa p) ≡ took whole q
    → outcome_map (λ w. whole ++ w) (read_flat decimals q) ≡ took longer r
    → outcome_map (λ w. longer ++ w) (read_flat exponent r) ≡ took v u
    → Parts p q r u v whole
parts p q r u new whole longer v none first second third =
    let one = taken (λ w. new ++ w) (read_flat mantissa p) whole q first in
    let two = taken (λ w. whole ++ w) (read_flat decimals q) longer r second in
    let three = taken (λ w. longer ++ w) (read_flat exponent r) v u third in
    let is : whole ≡ one.text = sym one.value ∙ ap (λ w. w ++ one.text) none in
    record {
      a = one.text;
      b = two.text;
      d = three.text;
      first = one.took_it;
      second = two.took_it;
      third = three.took_it;
      all = sym three.value ∙ ap (λ w. w ++ three.text) (sym two.value)
          ∙ append_assoc whole two.text three.text ∙ ap (λ w. w ++ (two.text ++ three.text)) is;
      length_of = ap length is;
    }

pub returns-then-len-length : goal.returns-then-len-length
returns-then-len-length c =
    let p = c.args.reader.now in
    let q = c.mantissa.new.reader in
    let r = c.decimals.new.reader in
    let u = c.exponent.new.reader in
    let v = c.in_ok-text.text.items in
    let h = parts p q r u c.new.result.items c.in_ok-whole.whole.items
    c.in_ok-with_decimals.with_decimals.items v c.new.ensures.items c.in_ok-whole.ensures
    c.in_ok-with_decimals.ensures c.in_ok-text.ensures in
    let held : c.number_of-number.result ≡ number_in v =
    c.number_of-number.ensures.value ∙ ap number_in c.deref.ensures.value in
    number-took p q r u h.a h.b h.d h.first h.second h.third
    ∙ ap (λ x. took x u)
    (fraction-written h.a h.b h.d v h.all
    (omega (arith, h.length_of, c.len.ensures, c.len-length.ensures, c.if-len-length.true))
    ∙ ap Fraction (sym held))

pub returns : goal.returns
returns c =
    let p = c.args.reader.now in
    let q = c.mantissa.new.reader in
    let r = c.decimals.new.reader in
    let u = c.exponent.new.reader in
    let v = c.in_ok-text.text.items in
    let h = parts p q r u c.new.result.items c.in_ok-whole.whole.items
    c.in_ok-with_decimals.with_decimals.items v c.new.ensures.items c.in_ok-whole.ensures
    c.in_ok-with_decimals.ensures c.in_ok-text.ensures in
    let held : c.number_of-number.result ≡ number_in v =
    c.number_of-number.ensures.value ∙ ap number_in c.deref.ensures.value in
    number-took p q r u h.a h.b h.d h.first h.second h.third
    ∙ ap (λ x. took x u)
    (integer-written h.a h.b h.d v h.all
    (omega (arith, h.length_of, c.len.ensures, c.len-length.ensures, c.if-len-length.false))
    (mantissa-took p q h.a h.first)
    ∙ ap held_integer (sym held) ∙ sym c.integer.ensures)
