-- Items that are counted from an array's end, in the parts of a text that is cut around them.
use Rattle.std.proofs.Common.{◌≡◌, ◌⊎◌, ℕ, Bool, true, false, [], ◌∷◌, ◌++◌, take, drop}
use Rattle.std.proofs.Math.Numerals.{one-add}
use Rattle.std.proofs.Common.{◌+◌, cond, inl, inr, refl, sym, ap, ◌∙◌, arith, append-nil, append_assoc, length, take-append-drop}
use Rattle.std.proofs.lemmas.Bool.Decides.{nat_tests}
use Rattle.std.proofs.lemmas.Slice.Eq.{bytes_eq-Decides}
use Rattle.std.specs.List.{list_any, prefix_len}
use Rattle.std.specs.Prelude.{Result, Ok, Err, Option, Some, None, IfOk, IfSome, codes}
use Rattle.std.specs.Str.{chars}
use Rattle.jp_reading.specs.Forms.{AllPassing}
use Rattle.jp_reading.specs.Texts.{Text, is_among}
use Rattle.jp_explain.specs.declared.class.Class.TheVariants.{Blank, Digit}
use Rattle.jp_explain.specs.Private.Classes.{holds}
use Rattle.jp_explain.specs.Private.Marks.{begins, begins_in}
use Rattle.jp_explain.specs.Private.FromEnd.{IsFromEnd, last, script}
use Rattle.jp_explain.proofs.Ascii.{ascii_chars}

-- what is so of a text that is told, if there is one
pub told : {X E : Type 0} (r : Result (Option X) E) (P Q : X → Type 0) → ((x : X) → P x → Q x)
    → IfOk r (λ o. IfSome o P)
    → IfOk r (λ o. IfSome o Q)
told (Ok (Some x)) P Q more h = more x h
told (Ok None) P Q more h = h
told (Err e) P Q more h = h

-- a text that begins with a word is the word, and what is after it
begun : (text word : Text) → begins text word ≡ true → text ≡ word ++ drop (length word) text
begun text word h =
    sym (take-append-drop (length word) text)
    ∙ ap (λ t. t ++ drop (length word) text) ((bytes_eq-Decides (take (length word) text) word).0 h)

-- the first characters that pass
all-passing : (p : ℕ → Bool) (t : Text) → AllPassing p (take (prefix_len p t) t)
all-passing p [] = tt
all-passing p (c ∷ t) = one (p c) refl (all-passing p t)
  where
    one : (b : Bool) → p c ≡ b → AllPassing p (take (prefix_len p t) t)
        → AllPassing p (take (cond b (1 + prefix_len p t) 0) (c ∷ t))
    one true is h = rw (one-add) (is, h)
    one false is h = tt

-- a sign that is one of a single one
one-sign : (c : ℕ) → is_among (45 ∷ []) c ≡ true → c ≡ 45
one-sign c h = grind (arith, nat_tests)

signed : (t : Text) → begins_in t (45 ∷ []) ≡ true → t ≡ 45 ∷ drop 1 t
signed [] h = absurd cc
signed (c ∷ t) h = ap (λ x. x ∷ t) (one-sign c h)

-- nothing is behind no sign
none-behind : (t number end : Text) → t ≡ []
    → number ≡ drop (prefix_len (holds Blank) t) t
    → end ≡ drop (prefix_len (holds Digit) number) number
    → begins end (41 ∷ []) ≡ true → ⊥
none-behind t number end none number_is end_is closes =
    let no_number : number ≡ [] = number_is ∙ ap (λ x. drop (prefix_len (holds Blank) x) x) none in
    let no_end : end ≡ [] = end_is ∙ ap (λ x. drop (prefix_len (holds Digit) x) x) no_number in
    let wrong : begins [] (41 ∷ []) ≡ true = ap (λ x. begins x (41 ∷ [])) (sym no_end) ∙ closes in
    cc

-- `last()`
pub last-index : (front rest text : Text) → begins rest (codes "last()") ≡ true
    → text ≡ front ++ chars (codes "-1") ++ drop 6 rest
    → IsFromEnd front rest text
last-index front rest text h is =
    last (drop 6 rest) (begun rest (codes "last()") h)
    (is ∙ ap (λ w. front ++ w ++ drop 6 rest) (ascii_chars (codes "-1") refl))

-- the parts of a script, and of what stands for it, one after the other
script-parts : (a b c d : Text)
    → a ++ (45 ∷ (b ++ (c ++ (41 ∷ d)))) ≡ a ++ (45 ∷ []) ++ b ++ c ++ (41 ∷ []) ++ d
script-parts a b c d =
    sym (append_assoc (a ++ (45 ∷ []) ++ b ++ c) (41 ∷ []) d
    ∙ append_assoc (a ++ (45 ∷ []) ++ b) c (41 ∷ d)
    ∙ append_assoc (a ++ (45 ∷ [])) b (c ++ (41 ∷ d))
    ∙ append_assoc a (45 ∷ []) (b ++ (c ++ (41 ∷ d))))

index-parts : (a b c : Text) → a ++ (45 ∷ (b ++ (c ++ []))) ≡ a ++ (45 ∷ []) ++ b ++ c
index-parts a b c =
    ap (λ t. a ++ (45 ∷ (b ++ t))) (append-nil c)
    ∙ sym (append_assoc (a ++ (45 ∷ [])) b c ∙ append_assoc a (45 ∷ []) (b ++ c))

-- a script
pub script-index : (front rest before less skipped number digits end after text : Text)
    → rest ≡ before ++ less
    → list_any (is_among (45 ∷ [])) before ≡ false
    → (begins_in less (45 ∷ []) ≡ true) ⊎ (less ≡ [])
    → skipped ≡ drop 1 less
    → number ≡ drop (prefix_len (holds Blank) skipped) skipped
    → digits ≡ take (prefix_len (holds Digit) number) number
    → end ≡ drop (prefix_len (holds Digit) number) number
    → begins end (41 ∷ []) ≡ true
    → after ≡ drop 1 end
    → text ≡ front ++ (chars (45 ∷ []) ++ (digits ++ (after ++ [])))
    → IsFromEnd front rest text
script-index front rest before less skipped number digits end after text parts free minus skipped_is number_is digits_is end_is closes after_is is =
    script (record {
      before = before;
      blanks = blanks;
      digits = digits;
      after = after;
      parts = parts ∙ ap (λ t. before ++ t) whole ∙ script-parts before blanks digits after;
      first = free;
      blank = all-passing (holds Blank) skipped;
      number = rw digits_is (all-passing (holds Digit) number);
      is =
          is ∙ ap (λ w. front ++ (w ++ (digits ++ (after ++ [])))) (ascii_chars (45 ∷ []) refl)
          ∙ index-parts front digits after;
    })
  where
    blanks : Text
    blanks = take (prefix_len (holds Blank) skipped) skipped

    later : skipped ≡ blanks ++ number
    later =
        sym (take-append-drop (prefix_len (holds Blank) skipped) skipped)
        ∙ ap (λ t. blanks ++ t) (sym number_is)

    closed : end ≡ 41 ∷ after
    closed = begun end (41 ∷ []) closes ∙ ap (λ t. 41 ∷ t) (sym after_is)

    number-parts : number ≡ digits ++ (41 ∷ after)
    number-parts =
        sym (take-append-drop (prefix_len (holds Digit) number) number)
        ∙ ap (λ t. t ++ drop (prefix_len (holds Digit) number) number) (sym digits_is)
        ∙ ap (λ t. digits ++ t) (sym end_is ∙ closed)

    less-is : less ≡ 45 ∷ drop 1 less
    less-is = elim minus [
      | inl sign ↦ signed less sign
      | inr none ↦
          absurd (none-behind skipped number end (skipped_is ∙ ap (drop 1) none) number_is end_is closes)
    ]

    whole : less ≡ 45 ∷ (blanks ++ (digits ++ (41 ∷ after)))
    whole =
        less-is ∙ ap (λ t. 45 ∷ t) (sym skipped_is ∙ later ∙ ap (λ t. blanks ++ t) number-parts)
