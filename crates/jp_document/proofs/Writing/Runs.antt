-- Runs of characters that stand for themselves: for the loop of `push_spelled`.
use Rattle.std.proofs.Common.{◌≡◌, ℕ, ◌<◌, List, [], ◌∷◌, ◌++◌, length, get_or, drop, take}
use Rattle.std.proofs.Common.{ap, sym, subst, ◌∙◌, append_assoc, arith, length-drop}
use Rattle.std.specs.Str.{IsUtf8}
use Rattle.std.proofs.lemmas.List.{get_or-drop, take-append-drop}
use Rattle.std.proofs.lemmas.Str.{IsUtf8-drop, IsCharBoundary-after_ascii}
use Rattle.std.proofs.lemmas.Grind.{flat_map-append}
use Rattle.std.specs.List.{flat_map}

-- a run that stands for itself, one character, and what follows
pub flat_map-run : (f : ℕ → List ℕ) (text run rest : List ℕ) (c : ℕ) → text ≡ run ++ c ∷ rest
    → flat_map f run ≡ run → flat_map f text ≡ run ++ (f c ++ flat_map f rest)
flat_map-run f text run rest c cut plain =
    ap (flat_map f) cut ∙ flat_map-append f run (c ∷ rest)
    ∙ ap (λ xs. xs ++ (f c ++ flat_map f rest)) plain

-- a text so far, with a run and a character of the rest moved over
pub moved : (f : ℕ → List ℕ) (old now after run rest tail all : List ℕ) (c : ℕ)
    → rest ≡ run ++ c ∷ tail → flat_map f run ≡ run → after ≡ (now ++ run) ++ f c
    → now ++ flat_map f rest ≡ old ++ all → after ++ flat_map f tail ≡ old ++ all
moved f old now after run rest tail all c cut plain wrote before =
    ap (λ xs. xs ++ flat_map f tail) wrote ∙ append_assoc (now ++ run) (f c) (flat_map f tail)
    ∙ append_assoc now run (f c ++ flat_map f tail)
    ∙ ap (λ xs. now ++ xs) (sym (flat_map-run f rest run tail c cut plain)) ∙ before

-- before they are moved
pub moving : (f : ℕ → List ℕ) (old now run rest tail all : List ℕ) (c : ℕ)
    → rest ≡ run ++ c ∷ tail → flat_map f run ≡ run → now ++ flat_map f rest ≡ old ++ all
    → now ++ ((run ++ f c) ++ flat_map f tail) ≡ old ++ all
moving f old now run rest tail all c cut plain before =
    ap (λ xs. now ++ xs)
    (append_assoc run (f c) (flat_map f tail) ∙ sym (flat_map-run f rest run tail c cut plain))
    ∙ before

-- where the rest is cut: a run that stands for itself, and what begins with another character
pub cut_at : (f : ℕ → List ℕ) (text rest run marked : List ℕ) (n c : ℕ) → text ≡ rest
    → run ≡ take n rest → marked ≡ drop n rest → flat_map f (take n text) ≡ take n text
    → marked ≡ c ∷ drop 1 marked
    → (rest ≡ run ++ c ∷ drop 1 marked) × (flat_map f run ≡ run)
cut_at f text rest run marked n c same front back plain head = (
  sym (take-append-drop n rest) ∙ ap (λ xs. xs ++ drop n rest) (sym front)
      ∙ ap (λ xs. run ++ xs) (sym back ∙ head),
  ap (flat_map f) (front ∙ ap (take n) (sym same)) ∙ plain
      ∙ sym (front ∙ ap (take n) (sym same)),
)

pub first_and_rest : (xs : List ℕ) (c : ℕ) → 0 < length xs → c ≡ get_or xs 0 0 → xs ≡ c ∷ drop 1 xs
first_and_rest [] c some is = absurd (omega arith)
first_and_rest (x ∷ xs) c some is = ap (λ y. y ∷ xs) (sym is)

-- what follows a run begins with a byte of its own, if anything follows
pub ascii_after : (text marked : List ℕ) (n : ℕ) → marked ≡ drop n text → 0 < length marked
    → (n < length text → get_or text n 0 < 128) → get_or marked 0 0 < 128
ascii_after text marked n cut some ascii =
    let within : n < length text = omega (arith, length-drop n text, ap length cut) in
    subst (λ b. b < 128)
    (sym
    (ap (λ xs. get_or xs 0 0) cut ∙ get_or-drop n text 0 0
    ∙ ap (λ k. get_or text k 0) (omega arith))) (ascii within)

-- the text after one byte of its own
pub IsUtf8-after : (text rest : List ℕ) → IsUtf8 text → 0 < length text → get_or text 0 0 < 128
    → rest ≡ drop 1 text → IsUtf8 rest
IsUtf8-after text rest utf8 some ascii cut =
    subst IsUtf8 (sym cut)
    (IsUtf8-drop text 1 utf8 (IsCharBoundary-after_ascii text 0 utf8 some ascii))
