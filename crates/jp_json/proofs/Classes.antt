-- What classes of characters have no character in common.
use Rattle.std.proofs.Common.{◌≡◌, ℕ, Bool, true, false, ◌||◌, ◌==◌, ◌⊎◌, inl, inr, refl}
use Rattle.std.proofs.Common.{sym, subst}
use Rattle.std.proofs.lemmas.Bool.{eqb-true}
use Rattle.jp_reading.specs.Characters.{closing_brace, closing_bracket, dot}
use Rattle.jp_reading.specs.Numbers.{is_digit, is_leading_digit}
use Rattle.jp_reading.specs.Texts.{is_blank}
use Rattle.jp_json.specs.Grammar.{is_e, is_sign}

pub or-cases : (a b : Bool) → (a || b) ≡ true → (a ≡ true) ⊎ (b ≡ true)
or-cases true b h = inl refl
or-cases false b h = inr h

-- what holds of each of the four blanks holds of every blank
pub of-blanks : (P : ℕ → Type 0) → P 32 → P 9 → P 10 → P 13 → (c : ℕ) → is_blank c ≡ true → P c
unfolding is_blank
of-blanks P space tab feed return c h =
    elim (or-cases _ (c == 13) h) [
      | inr e ↦ subst P (sym (eqb-true c 13 e)) return
      | inl three ↦
          elim (or-cases _ (c == 10) three) [
            | inr e ↦ subst P (sym (eqb-true c 10 e)) feed
            | inl two ↦
                elim (or-cases _ (c == 9) two) [
                  | inr e ↦ subst P (sym (eqb-true c 9 e)) tab
                  | inl e ↦ subst P (sym (eqb-true c 32 e)) space
                ]
          ]
    ]

-- no character of a number
pub record IsOutside (c : ℕ) : Type 0 where
  pub digit : is_digit c ≡ false
  pub leading : is_leading_digit c ≡ false
  pub point : (c == dot) ≡ false
  pub e : is_e c ≡ false

pub blank-outside : (c : ℕ) → is_blank c ≡ true → IsOutside c
unfolding is_digit
blank-outside =
    of-blanks
    IsOutside
    (record { digit = refl; leading = refl; point = refl; e = refl })
    (record { digit = refl; leading = refl; point = refl; e = refl })
    (record { digit = refl; leading = refl; point = refl; e = refl })
    (record { digit = refl; leading = refl; point = refl; e = refl })

pub e-no-digit : (c : ℕ) → is_e c ≡ true → is_digit c ≡ false
unfolding is_digit
e-no-digit c h =
    elim (or-cases (c == 101) (c == 69) h) [
      | inl e ↦ subst (λ (x : ℕ). is_digit x ≡ false) (sym (eqb-true c 101 e)) refl
      | inr e ↦ subst (λ (x : ℕ). is_digit x ≡ false) (sym (eqb-true c 69 e)) refl
    ]

pub e-no-point : (c : ℕ) → is_e c ≡ true → (c == dot) ≡ false
e-no-point c h =
    elim (or-cases (c == 101) (c == 69) h) [
      | inl e ↦ subst (λ (x : ℕ). (x == dot) ≡ false) (sym (eqb-true c 101 e)) refl
      | inr e ↦ subst (λ (x : ℕ). (x == dot) ≡ false) (sym (eqb-true c 69 e)) refl
    ]

pub sign-no-digit : (c : ℕ) → is_sign c ≡ true → is_digit c ≡ false
unfolding is_digit
sign-no-digit c h =
    elim (or-cases (c == 45) (c == 43) h) [
      | inl e ↦ subst (λ (x : ℕ). is_digit x ≡ false) (sym (eqb-true c 45 e)) refl
      | inr e ↦ subst (λ (x : ℕ). is_digit x ≡ false) (sym (eqb-true c 43 e)) refl
    ]

pub blank-no-bracket : (c : ℕ) → is_blank c ≡ true → (c == closing_bracket) ≡ false
blank-no-bracket = of-blanks (λ c. (c == closing_bracket) ≡ false) refl refl refl refl

pub blank-no-brace : (c : ℕ) → is_blank c ≡ true → (c == closing_brace) ≡ false
blank-no-brace = of-blanks (λ c. (c == closing_brace) ≡ false) refl refl refl refl

-- what may follow a value
pub comma-outside : IsOutside 44
unfolding is_digit
comma-outside = record { digit = refl; leading = refl; point = refl; e = refl }

pub bracket-outside : IsOutside 93
unfolding is_digit
bracket-outside = record { digit = refl; leading = refl; point = refl; e = refl }

pub brace-outside : IsOutside 125
unfolding is_digit
brace-outside = record { digit = refl; leading = refl; point = refl; e = refl }
