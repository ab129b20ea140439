-- Lines, by the newlines that end them.
use Rattle.std.proofs.Common.{◌≡◌, ◌≢◌, ℕ, ◌==◌, Bool, true, false, not, ◌&&◌, List, [], ◌∷◌, ◌++◌}
use Rattle.std.proofs.Common.{if◌then◌else◌, refl, ap, sym, ◌∙◌, append_assoc}
use Rattle.std.proofs.Math.Facts.{eqb_yes}
use Rattle.std.proofs.lemmas.Float.{T_from_true}
use Rattle.std.specs.List.{list_all, join_with_byte}
use Rattle.jp_lines.specs.Lines.{lines_of_input, newline, with_byte}
use Rattle.jp_lines.specs.Private.Passing.{ended, is_in_line}

pub and_both : (a b : Bool) → (a && b) ≡ true → (a ≡ true) × (b ≡ true)
and_both true b both = (refl, both)
and_both false b both = cc

is_false : (a : Bool) → not a ≡ true → a ≡ false
is_false true is = cc
is_false false is = refl

-- the line that a newline ends, and those behind it
pub lines-in_line : (l r : List ℕ) → is_in_line l ≡ true
    → lines_of_input (l ++ newline ∷ r) ≡ l ∷ lines_of_input r
lines-in_line [] r all = refl
lines-in_line (byte ∷ l) r all =
    let parts = and_both _ _ all in
    rw (is_false (byte == newline) parts.0) (ap (with_byte byte) (lines-in_line l r parts.1))

-- the line that nothing ends
pub lines-whole : (l : List ℕ) → is_in_line l ≡ true → lines_of_input l ≡ l ∷ []
lines-whole [] all = refl
lines-whole (byte ∷ l) all =
    let parts = and_both _ _ all in
    rw (is_false (byte == newline) parts.0) (ap (with_byte byte) (lines-whole l parts.1))

-- lines that ended, and those behind them
pub lines-ended : (ls : List (List ℕ)) (r : List ℕ) → list_all is_in_line ls ≡ true
    → lines_of_input (ended ls ++ r) ≡ ls ++ lines_of_input r
lines-ended [] r all = refl
lines-ended (l ∷ ls) r all =
    let parts = and_both _ _ all in
    ap lines_of_input
    (append_assoc (l ++ newline ∷ []) (ended ls) r ∙ append_assoc l (newline ∷ []) (ended ls ++ r))
    ∙ lines-in_line l (ended ls ++ r) parts.0
    ∙ ap (λ t. l ∷ t) (lines-ended ls r parts.1)

with_byte-some : (byte : ℕ) (ls : List (List ℕ)) → with_byte byte ls ≢ []
with_byte-some byte [] is = cc
with_byte-some byte (l ∷ ls) is = cc

-- an input has lines
pub lines-some : (bytes : List ℕ) → lines_of_input bytes ≢ []
lines-some [] is = cc
lines-some (byte ∷ bytes) is = go (byte == newline) is
  where
    go : (b : Bool) → (if b then [] ∷ lines_of_input bytes else with_byte byte (lines_of_input bytes)) ≡ [] → ⊥
    go true is = cc
    go false is = with_byte-some byte (lines_of_input bytes) is

-- the last of some lines, and those before it
pub last-line : (ls : List (List ℕ)) → ls ≢ []
    → (init : List (List ℕ)) × (last : List ℕ) × (ls ≡ init ++ last ∷ [])
last-line [] some = absurd (some refl)
last-line (l ∷ []) some = ([], l, refl)
last-line (l ∷ m ∷ ls) some =
    let rest = last-line (m ∷ ls) (λ is. cc) in (l ∷ rest.0, rest.1, ap (λ t. l ∷ t) rest.2)

-- a line that is empty, and one that has a byte more, before others
joined-empty : (ls : List (List ℕ)) → ls ≢ []
    → join_with_byte newline ([] ∷ ls) ≡ newline ∷ join_with_byte newline ls
joined-empty [] some = absurd (some refl)
joined-empty (l ∷ ls) some = refl

joined-byte : (byte : ℕ) (ls : List (List ℕ)) → ls ≢ []
    → join_with_byte newline (with_byte byte ls) ≡ byte ∷ join_with_byte newline ls
joined-byte byte [] some = absurd (some refl)
joined-byte byte (l ∷ []) some = refl
joined-byte byte (l ∷ m ∷ ls) some = refl

-- lines joined by newlines are the input
pub lines_joined : (bytes : List ℕ) → join_with_byte newline (lines_of_input bytes) ≡ bytes
lines_joined [] = refl
lines_joined (byte ∷ bytes) = go (byte == newline) refl (lines_joined bytes)
  where
    go : (b : Bool) → (byte == newline) ≡ b
        → join_with_byte newline (lines_of_input bytes) ≡ bytes
        → join_with_byte newline
        (if b then [] ∷ lines_of_input bytes else with_byte byte (lines_of_input bytes))
        ≡ byte ∷ bytes
    go true is rest =
        joined-empty (lines_of_input bytes) (lines-some bytes)
        ∙ ap (λ t. newline ∷ t) rest
        ∙ ap (λ b. b ∷ bytes) (sym (eqb_yes (T_from_true _ is)))
    go false is rest =
        joined-byte byte (lines_of_input bytes) (lines-some bytes)
        ∙ ap (λ t. byte ∷ t) rest
