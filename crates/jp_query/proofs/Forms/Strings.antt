-- The rules of names and strings take exactly the texts that the grammar says.
use Rattle.std.proofs.Common.{ℕ, Bool}
use Rattle.std.specs.Prelude.{codes}
use Rattle.std.specs.Char.{digit_value}
use Rattle.jp_reading.specs.Texts.{Text}
use Rattle.jp_reading.specs.Forms.{Form, ◌⌢◌, word, One}
use Rattle.jp_reading.proofs.Forms.Levels.{Then, Made}
use Rattle.jp_reading.proofs.Forms.Same.{Same, same, ways, ◌⨾◌, after, joined, either, made, then}
use Rattle.jp_reading.proofs.Forms.Same.{each}
use Rattle.jp_reading.proofs.Forms.Same.{after-either, after-made, after-value, made-made}
use Rattle.jp_reading.proofs.Forms.Same.{made-same}
use Rattle.jp_reading.proofs.Forms.Same.{then-only, then-made, then-of_made, then-either, then-then}
use Rattle.jp_reading.proofs.Rules.Form.{left, right, Inside, form}
use Rattle.jp_query.specs.Names.{Shorthand, shorthand}
use Rattle.jp_query.specs.Strings.{is_hexdig, is_d, is_not_d, is_0_to_7, is_8_to_b, is_c_to_f}
use Rattle.jp_query.specs.Strings.{scalar_of, Unit as HexUnit, digits, Hexchar, not_d}
use Rattle.jp_query.specs.Strings.{below_surrogates, surrogates, StringCharacter, plain, escape}
use Rattle.jp_query.specs.Strings.{hex}
use Rattle.jp_query.specs.Strings.{Between}
use Rattle.jp_query.specs.Private.Rules.{nesting}
use Rattle.jp_query.specs.Private.Rules as rule

-- the rules that nest nothing take the same texts, whatever is nested elsewhere
module _ (F : Inside nesting) where
  -- ---- names

  pub shorthand-same : (cs : Text) → Same (form F rule.shorthand cs) (Shorthand cs)
  unfolding rule.shorthand
  shorthand-same cs = then-made ⨾ record {
    to = λ s o t h. shorthand h.part.0 h.part.1 h.same h.is;
    from =
        λ s o t h. elim h [ shorthand c more e g ↦ record { part = (c, more); same = e; is = g } ];
  }

  -- ---- hexadecimal digits

  unit-same : (first second : ℕ → Bool) (v : ℕ)
      → Same (form F (rule.unit first second) v) (HexUnit first second v)
  unfolding rule.unit rule.unit_after
  unit-same first second v =
      then-of_made
      ⨾ then (λ a u. after (then-of_made
      ⨾ then (λ b w. after (then-of_made ⨾ then (λ c x. after made-made) ⨾ then-made))
      ⨾ then-made))
      ⨾ then-made ⨾ record {
        to = λ s o t h. digits h.part.0 h.part.1.0 h.part.1.1.0 h.part.1.1.1 h.same h.is;
        from = λ s o t h. elim h [
          | digits a b c d e g ↦ record { part = (a, (b, (c, d))); same = e; is = g }
        ];
      }

  -- ---- surrogates

  -- two halves of a pair
  abbrev Pair : ℕ → Form
  Pair =
      Made (λ (p : ℕ × ℕ). scalar_of p.0 p.1)
      (λ p. HexUnit is_d is_8_to_b p.0 ⌢ word (codes "\\") ⌢ word (codes "u")
      ⌢ HexUnit is_d is_c_to_f p.1)

  pair-same : (c : ℕ)
      → Same (Then (Made digit_value (One is_d)) (λ a. form F (rule.surrogates_after a)) c) (Pair c)
  unfolding rule.surrogates_after rule.unit
  pair-same c =
      then-then
      ⨾ then (λ high x. joined (unit-same is_d is_8_to_b high)
      (after (after (made (unit-same is_d is_c_to_f)) ⨾ after-made) ⨾ after-made))
      ⨾ then-made

  pub hexchar-same : (c : ℕ) → Same (form F rule.hexchar c) (Hexchar c)
  unfolding rule.hexchar rule.unit
  hexchar-same c =
      either (unit-same is_not_d is_hexdig c)
      (then-either ⨾ either (unit-same is_d is_0_to_7 c) (pair-same c))
      ⨾ record {
        to = ways (λ s o t. not_d) (ways (λ s o t. below_surrogates)
            (λ s o t h. surrogates h.part.0 h.part.1 h.same h.is));
        from = λ s o t h. elim h [
          | not_d g ↦ left g
          | below_surrogates g ↦ right (left g)
          | surrogates high low e g ↦
              right (right (record { part = (high, low); same = e; is = g }))
        ];
      }

  -- ---- strings

  character-same : (quote c : ℕ) → Same (form F (rule.string_character quote) c) (StringCharacter quote c)
  unfolding rule.string_character rule.escape
  character-same quote c =
      either (after-either ⨾ either (after (after (hexchar-same c))) after-made) same
      ⨾ record {
        to = ways (ways (λ s o t. hex) (λ s o t h. escape h.part h.same h.is)) (λ s o t. plain);
        from = λ s o t h. elim h [
          | hex g ↦ left (left g)
          | escape letter e g ↦ left (right (record { part = letter; same = e; is = g }))
          | plain g ↦ right g
        ];
      }

  pub quoted-same : (quote : ℕ) (cs : Text)
      → Same (form F (rule.quoted quote) cs) (Between quote cs)
  unfolding rule.quoted rule.characters
  quoted-same quote cs =
      after (then (λ x z. joined (each (character-same quote) x) after-value)
      ⨾ then-only
      ⨾ made-same)
