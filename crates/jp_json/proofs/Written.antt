-- Accepted texts are JSON texts.
use Rattle.std.proofs.Common.{◌≡◌, ℕ, zero, suc, Bool, true, false, ◌==◌, List, [], ◌∷◌}
use Rattle.std.proofs.Common.{if◌then◌else◌, inl, inr, refl, ap, subst, sym}
use Rattle.std.proofs.lemmas.Bool.{eqb-true}
use Rattle.jp_reading.specs.Numbers.{is_digit, is_leading_digit}
use Rattle.jp_reading.specs.Texts.{Text, is_blank}
use Rattle.jp_json.specs.Language.{Language, word, ◌⌢◌, Optional}
use Rattle.jp_json.specs.Grammar.{is_e, is_escapable, is_hex_digit, is_sign, is_unescaped, json_text}
use Rattle.jp_json.specs.Grammar.{char, scalar, exp}
use Rattle.jp_json.specs.declared.state.Level.{Level}
use Rattle.jp_json.specs.declared.state.Level.TheVariants.{Array, Object}
use Rattle.jp_json.specs.declared.state.Role.{Role}
use Rattle.jp_json.specs.declared.state.Role.TheVariants.{Key, Plain}
use Rattle.jp_json.specs.declared.state.Part.{Part}
use Rattle.jp_json.specs.declared.state.Part.TheVariants.{Minus, Zero, Whole, Point, Fraction}
use Rattle.jp_json.specs.declared.state.Part.TheVariants.{Exponent, Sign, Power}
use Rattle.jp_json.specs.declared.state.Letters.{Letters as Wants}
use Rattle.jp_json.specs.declared.state.Letters.TheVariants.{Rue, Ue, E, Alse, Lse, Se, Ull, Ll, L}
use Rattle.jp_json.specs.declared.state.Wanted.{Wanted}
use Rattle.jp_json.specs.declared.state.Wanted.TheVariants.{Four, Three, Two, Last}
use Rattle.jp_json.specs.declared.state.State.{State}
use Rattle.jp_json.specs.declared.state.State.TheVariants.{Value, Item, Member, Name, Colon, After}
use Rattle.jp_json.specs.declared.state.State.TheVariants.{Text as InText, Escape, Hex, Number}
use Rattle.jp_json.specs.declared.state.State.TheVariants.{Letters}
use Rattle.jp_json.specs.declared.state.Step.{Step}
use Rattle.jp_json.specs.declared.state.Step.TheVariants.{Open}
use Rattle.jp_json.specs.Private.Machine.{top, Moved, on, stuck, deep, moved, move, from, accepts}
use Rattle.jp_json.specs.Private.Machine.{is_final, ends_number, after_value, begin_value, begin_name}
use Rattle.jp_json.specs.Private.Machine.{in_number, in_text, in_escape, past_text}
use Rattle.jp_json.specs.Private.Machine.{after_comma, closing}
use Rattle.jp_json.proofs.Rest.{rest, after_rest, value_rest, name_rest, array_end, object_end}
use Rattle.jp_json.proofs.Rest.{text_rest, number_end, in_front, behind, behind-one, blankless}
use Rattle.jp_json.proofs.Rest.{unpassed, without, none, one_more, grouped, map-first, map-second}
use Rattle.jp_json.proofs.Rest.{structured, blank-structural, blank-any, enclosed-none, enclosed-some}
use Rattle.jp_json.proofs.Rest.{scalar-value}

-- where the automaton goes on, the text is one that it may go on with
abbrev pub into : Moved → Text → Type 0
into (on m j e) t = rest m j e t
into stuck t = ⊥
into deep t = ⊥

-- by a test
branch : (b : Bool) (x y : Step) (n : ℕ) (k : List Level) (t : Text) {G : Type 0}
    → into (moved n k (if b then x else y)) t → (b ≡ true → into (moved n k x) t → G)
    → (b ≡ false → into (moved n k y) t → G)
    → G
branch true x y n k t h f g = f refl h
branch false x y n k t h f g = g refl h

-- by the character that it is
upon : (G : ℕ → Type 0) (c d : ℕ) (x y : Step) (n : ℕ) (k : List Level) (t : Text)
    → into (moved n k (if c == d then x else y)) t → (into (moved n k x) t → G d)
    → (into (moved n k y) t → G c)
    → G c
upon G c d x y n k t h f g =
    branch (c == d) x y n k t h (λ e a. subst G (sym (eqb-true c d e)) (f a)) (λ e a. g a)

-- ---- after a value

blank-after : (n : ℕ) (k : List Level) (c : ℕ) (t : Text) → is_blank c ≡ true → after_rest n k t
    → after_rest n k (c ∷ t)
blank-after n [] c t e h = (e, h)
blank-after n (Array ∷ k) c t e h =
    blank-any
    c
    (λ u g. in_front c (blank-structural 44 c e) g)
    (λ u g. in_front c (blank-structural 93 c e) g)
    h
blank-after n (Object ∷ k) c t e h =
    blank-any
    c
    (λ u g. in_front c (blank-structural 44 c e) g)
    (λ u g. in_front c (blank-structural 125 c e) g)
    h

comma-after : (n : ℕ) (k : List Level) (t : Text) → into (moved n k (after_comma (top k))) t
    → after_rest n k (44 ∷ t)
comma-after n [] t h = absurd h
comma-after n (Array ∷ k) t h = one_more (grouped (structured 44 h))
comma-after n (Object ∷ k) t h = one_more (grouped (structured 44 h))

bracket-end : (n : ℕ) (k : List Level) (t : Text) → into (moved n k (closing Array (top k))) t
    → array_end n k (93 ∷ t)
bracket-end n [] t h = h
bracket-end n (Array ∷ k) t h = structured 93 (blankless h)
bracket-end n (Object ∷ k) t h = h

brace-end : (n : ℕ) (k : List Level) (t : Text) → into (moved n k (closing Object (top k))) t
    → object_end n k (125 ∷ t)
brace-end n [] t h = h
brace-end n (Array ∷ k) t h = h
brace-end n (Object ∷ k) t h = structured 125 (blankless h)

array-ended : (n : ℕ) (k : List Level) (t : Text) → array_end n k t → after_rest n k t
array-ended n [] t h = absurd h
array-ended n (Array ∷ k) t h = none h
array-ended n (Object ∷ k) t h = absurd h

object-ended : (n : ℕ) (k : List Level) (t : Text) → object_end n k t → after_rest n k t
object-ended n [] t h = absurd h
object-ended n (Array ∷ k) t h = absurd h
object-ended n (Object ∷ k) t h = none h

back-after : (n : ℕ) (k : List Level) (c : ℕ) (t : Text)
    → into (moved n k (after_value (top k) c)) t
    → after_rest n k (c ∷ t)
back-after n k c t h =
    let G : ℕ → Type 0 = λ x. after_rest n k (x ∷ t) in
    branch (is_blank c) _ _ n k t h (λ e a. blank-after n k c t e a) (λ e a.
    upon G c 44 _ _ n k t a (comma-after n k t) (λ a.
    upon G c 93 _ _ n k t a (λ a. array-ended n k (93 ∷ t) (bracket-end n k t a)) (λ a.
    upon G c 125 _ _ n k t a (λ a. object-ended n k (125 ∷ t) (brace-end n k t a)) (λ a. absurd a))))

-- ---- where a value begins

-- a value of no level, and what is after it
scalar-rest : (n : ℕ) (k : List Level) (c : ℕ) (t : Text) {P : Language}
    → ((u : Text) → P u → scalar (c ∷ u)) → (P ⌢ after_rest n k) t
    → value_rest n k (c ∷ t)
scalar-rest n k c t f h = blankless (in_front c (λ u g. scalar-value n (c ∷ u) (f u g)) h)

number-whole : (c : ℕ) → is_leading_digit c ≡ true → (u : Text) → number_end Whole u → scalar (c ∷ u)
number-whole c e u h = inr (inl (without (in_front c (λ d g. inr (behind-one c e g)) h)))

number-zero : (u : Text) → number_end Zero u → scalar (48 ∷ u)
number-zero u h = inr (inl (without (in_front 48 (λ v g. inl (ap (λ x. 48 ∷ x) g)) (blank-word h))))
  where
    blank-word : {Q : Language} {u : Text} → Q u → (word [] ⌢ Q) u
    blank-word {Q} {u} h = record { first = []; second = u; is = refl; one = refl; two = h }

number-minus : (u : Text) → number_end Minus u → scalar (45 ∷ u)
number-minus u h =
    inr (inl (record { first = 45 ∷ []; second = u; is = refl; one = inr refl; two = h }))

array-opened : (n : ℕ) (k : List Level) (t : Text) → into (moved n k (Open Array)) t
    → value_rest n k (91 ∷ t)
array-opened zero k t h = absurd h
array-opened (suc n) k t (inl h) = blankless (map-first (λ u g. inr (inl g)) (enclosed-none 91 h))
array-opened (suc n) k t (inr h) = blankless (map-first (λ u g. inr (inl g)) (enclosed-some 91 h))

object-opened : (n : ℕ) (k : List Level) (t : Text) → into (moved n k (Open Object)) t
    → value_rest n k (123 ∷ t)
object-opened zero k t h = absurd h
object-opened (suc n) k t (inl h) = blankless (map-first (λ u g. inr (inr g)) (enclosed-none 123 h))
object-opened (suc n) k t (inr h) = blankless (map-first (λ u g. inr (inr g)) (enclosed-some 123 h))

back-value : (n : ℕ) (k : List Level) (c : ℕ) (t : Text) → into (moved n k (begin_value c)) t
    → value_rest n k (c ∷ t)
back-value n k c t h =
    let G : ℕ → Type 0 = λ x. value_rest n k (x ∷ t) in
    branch (is_leading_digit c) _ _ n k t h (λ e a. scalar-rest n k c t (number-whole c e) a) (λ e a.
    branch (is_blank c) _ _ n k t a (λ e a. in_front c (λ u g. (e, g)) a) (λ e a.
    upon G c 34 _ _ n k t a (λ a. scalar-rest n k 34 t (λ u g. inr (inr (behind 34 g))) a) (λ a.
    upon G c 91 _ _ n k t a (array-opened n k t) (λ a.
    upon G c 123 _ _ n k t a (object-opened n k t) (λ a.
    upon G c 45 _ _ n k t a (λ a. scalar-rest n k 45 t number-minus a) (λ a.
    upon G c 48 _ _ n k t a (λ a. scalar-rest n k 48 t number-zero a) (λ a.
    upon G c 116 _ _ n k t a (λ a. scalar-rest n k 116 t (λ u g. inl (inr (inr (ap (λ x. 116 ∷ x) g)))) a) (λ a.
    upon G c 102 _ _ n k t a (λ a. scalar-rest n k 102 t (λ u g. inl (inl (ap (λ x. 102 ∷ x) g))) a) (λ a.
    upon G c 110 _ _ n k t a (λ a. scalar-rest n k 110 t (λ u g. inl (inr (inl (ap (λ x. 110 ∷ x) g)))) a) (λ a.
    absurd a))))))))))

back-name : (n : ℕ) (k : List Level) (c : ℕ) (t : Text) → into (moved n k (begin_name c)) t
    → name_rest n k (c ∷ t)
back-name n k c t h =
    let G : ℕ → Type 0 = λ x. name_rest n k (x ∷ t) in
    branch (is_blank c) _ _ n k t h (λ e a. in_front c (λ u g. (e, g)) a) (λ e a.
    upon G c 34 _ _ n k t a (λ a. blankless (grouped (map-second (λ u g. grouped g) (in_front 34 (λ u g. behind 34 g) a)))) (λ a.
    absurd a))

-- one blank more before the end of an array or an object
blank-array_end : (n : ℕ) (k : List Level) (c : ℕ) (t : Text) → is_blank c ≡ true
    → array_end n k t
    → array_end n k (c ∷ t)
blank-array_end n [] c t e h = h
blank-array_end n (Array ∷ k) c t e h = in_front c (blank-structural 93 c e) h
blank-array_end n (Object ∷ k) c t e h = h

blank-object_end : (n : ℕ) (k : List Level) (c : ℕ) (t : Text) → is_blank c ≡ true
    → object_end n k t
    → object_end n k (c ∷ t)
blank-object_end n [] c t e h = h
blank-object_end n (Array ∷ k) c t e h = h
blank-object_end n (Object ∷ k) c t e h = in_front c (blank-structural 125 c e) h

back-item : (n : ℕ) (k : List Level) (c : ℕ) (t : Text) → into (move n k Item c) t
    → rest n k Item (c ∷ t)
back-item n k c t h =
    let G : ℕ → Type 0 = λ x. rest n k Item (x ∷ t) in
    upon G c 93 _ _ n k t h (λ a. inl (bracket-end n k t a)) (λ a.
    branch (is_blank c) _ _ n k t a (λ e a. blank-item e a) (λ e a. inr (back-value n k c t a)))
  where
    blank-item : is_blank c ≡ true → rest n k Item t → rest n k Item (c ∷ t)
    blank-item e (inl g) = inl (blank-array_end n k c t e g)
    blank-item e (inr g) = inr (in_front c (λ u x. (e, x)) g)

back-member : (n : ℕ) (k : List Level) (c : ℕ) (t : Text) → into (move n k Member c) t
    → rest n k Member (c ∷ t)
back-member n k c t h =
    let G : ℕ → Type 0 = λ x. rest n k Member (x ∷ t) in
    upon G c 125 _ _ n k t h (λ a. inl (brace-end n k t a)) (λ a.
    branch (is_blank c) _ _ n k t a (λ e a. blank-member e a) (λ e a. inr (back-name n k c t a)))
  where
    blank-member : is_blank c ≡ true → rest n k Member t → rest n k Member (c ∷ t)
    blank-member e (inl g) = inl (blank-object_end n k c t e g)
    blank-member e (inr g) = inr (in_front c (λ u x. (e, x)) g)

back-colon : (n : ℕ) (k : List Level) (c : ℕ) (t : Text) → into (move n k Colon c) t
    → rest n k Colon (c ∷ t)
back-colon n k c t h =
    let G : ℕ → Type 0 = λ x. rest n k Colon (x ∷ t) in
    branch (is_blank c) _ _ n k t h (λ e a. in_front c (blank-structural 58 c e) a) (λ e a.
    upon G c 58 _ _ n k t a (λ a. structured 58 a) (λ a. absurd a))

-- ---- in a string

text-past : (n : ℕ) (k : List Level) (r : Role) (t : Text) → rest n k (past_text r) t
    → text_rest n k r (34 ∷ t)
text-past n k Key t h = record { first = 34 ∷ []; second = t; is = refl; one = none refl; two = h }
text-past n k Plain t h = record { first = 34 ∷ []; second = t; is = refl; one = none refl; two = h }

-- one character more in a string
text-char : (n : ℕ) (k : List Level) (r : Role) (t : Text) → (char ⌢ text_rest n k r) t
    → text_rest n k r t
text-char n k r t h = map-first (λ u g. one_more g) (grouped h)

back-text : (n : ℕ) (k : List Level) (r : Role) (c : ℕ) (t : Text)
    → into (moved n k (in_text r c)) t
    → text_rest n k r (c ∷ t)
back-text n k r c t h =
    let G : ℕ → Type 0 = λ x. text_rest n k r (x ∷ t) in
    branch (is_unescaped c) _ _ n k t h
    (λ e a. text-char n k r (c ∷ t) (record { first = c ∷ []; second = t; is = refl; one = inl (record { character = c; is = refl; passes = e }); two = a })) (λ e a.
    upon G c 34 _ _ n k t a (λ a. text-past n k r t a) (λ a.
    upon G c 92 _ _ n k t a (λ a. text-char n k r (92 ∷ t) (map-first (λ u g. inr g) (in_front 92 (λ u g. behind 92 g) a))) (λ a.
    absurd a)))

back-escape : (n : ℕ) (k : List Level) (r : Role) (c : ℕ) (t : Text)
    → into (moved n k (in_escape r c)) t
    → rest n k (Escape r) (c ∷ t)
back-escape n k r c t h =
    let G : ℕ → Type 0 = λ x. rest n k (Escape r) (x ∷ t) in
    branch (is_escapable c) _ _ n k t h
    (λ e a. record { first = c ∷ []; second = t; is = refl; one = inl (record { character = c; is = refl; passes = e }); two = a }) (λ e a.
    upon G c 117 _ _ n k t a (λ a. in_front 117 (λ u g. inr (behind 117 g)) a) (λ a. absurd a))

back-hex : (n : ℕ) (k : List Level) (r : Role) (w : Wanted) (c : ℕ) (t : Text)
    → into (move n k (Hex r w) c) t
    → rest n k (Hex r w) (c ∷ t)
back-hex n k r Four c t h =
    branch (is_hex_digit c) _ _ n k t h (λ e a. in_front c (λ u g. behind-one c e g) a) (λ e a. absurd a)
back-hex n k r Three c t h =
    branch (is_hex_digit c) _ _ n k t h (λ e a. in_front c (λ u g. behind-one c e g) a) (λ e a. absurd a)
back-hex n k r Two c t h =
    branch (is_hex_digit c) _ _ n k t h (λ e a. in_front c (λ u g. behind-one c e g) a) (λ e a. absurd a)
back-hex n k r Last c t h =
    branch (is_hex_digit c) _ _ n k t h
    (λ e a. record { first = c ∷ []; second = t; is = refl; one = behind-one c e refl; two = a }) (λ e a. absurd a)

-- ---- in a number

-- where a number may end, nothing more of it is wanted
no_more : (p : Part) → ends_number p ≡ true → number_end p []
no_more Minus e = cc
no_more Zero e = record { first = []; second = []; is = refl; one = inl refl; two = inl refl }
no_more Whole e = unpassed (record { first = []; second = []; is = refl; one = inl refl; two = inl refl })
no_more Point e = cc
no_more Fraction e = unpassed (inl refl)
no_more Exponent e = cc
no_more Sign e = cc
no_more Power e = tt

number-over : (n : ℕ) (k : List Level) (p : Part) (t : Text) → ends_number p ≡ true → after_rest n k t
    → rest n k (Number p) t
number-over n k p t e h = record { first = []; second = t; is = refl; one = no_more p e; two = h }

point-more : (u : Text) → number_end Point u → number_end Zero (46 ∷ u)
point-more u h = in_front 46 (λ v q. inr (behind 46 q)) h

exponent-more : (c : ℕ) → is_e c ≡ true → (u : Text) → number_end Exponent u
    → Optional exp (c ∷ u)
exponent-more c e u h = inr (behind-one c e h)

back-number : (n : ℕ) (k : List Level) (p : Part) (c : ℕ) (t : Text)
    → into (moved n k (in_number p (top k) c)) t
    → rest n k (Number p) (c ∷ t)
back-number n k Minus c t h =
    let G : ℕ → Type 0 = λ x. rest n k (Number Minus) (x ∷ t) in
    branch (is_leading_digit c) _ _ n k t h
    (λ e a. in_front c (λ u g. in_front c (λ d q. inr (behind-one c e q)) g) a) (λ e a.
    upon G c 48 _ _ n k t a (λ a. in_front 48 (λ u g. record { first = 48 ∷ []; second = u; is = refl; one = inl refl; two = g }) a) (λ a.
    absurd a))
back-number n k Zero c t h =
    let G : ℕ → Type 0 = λ x. rest n k (Number Zero) (x ∷ t) in
    upon G c 46 _ _ n k t h (λ a. in_front 46 point-more a) (λ a.
    branch (is_e c) _ _ n k t a (λ e a. in_front c (λ u g. without (exponent-more c e u g)) a) (λ e a.
    number-over n k Zero (c ∷ t) refl (back-after n k c t a)))
back-number n k Whole c t h =
    let G : ℕ → Type 0 = λ x. rest n k (Number Whole) (x ∷ t) in
    branch (is_digit c) _ _ n k t h (λ e a. in_front c (λ u g. in_front c (λ v q. (e, q)) g) a) (λ e a.
    upon G c 46 _ _ n k t a (λ a. in_front 46 (λ u g. unpassed (point-more u g)) a) (λ a.
    branch (is_e c) _ _ n k t a (λ e a. in_front c (λ u g. unpassed (without (exponent-more c e u g))) a) (λ e a.
    number-over n k Whole (c ∷ t) refl (back-after n k c t a))))
back-number n k Point c t h =
    branch (is_digit c) _ _ n k t h (λ e a. in_front c (λ u g. in_front c (λ v q. behind-one c e q) g) a) (λ e a. absurd a)
back-number n k Fraction c t h =
    branch (is_digit c) _ _ n k t h (λ e a. in_front c (λ u g. in_front c (λ v q. (e, q)) g) a) (λ e a.
    branch (is_e c) _ _ n k t a (λ e a. in_front c (λ u g. unpassed (exponent-more c e u g)) a) (λ e a.
    number-over n k Fraction (c ∷ t) refl (back-after n k c t a)))
back-number n k Exponent c t h =
    branch (is_digit c) _ _ n k t h (λ e a. in_front c (λ u g. without (behind-one c e g)) a) (λ e a.
    branch (is_sign c) _ _ n k t a
    (λ e a. in_front c (λ u g. record { first = c ∷ []; second = u; is = refl; one = inr (record { character = c; is = refl; passes = e }); two = g }) a) (λ e a.
    absurd a))
back-number n k Sign c t h =
    branch (is_digit c) _ _ n k t h (λ e a. in_front c (λ u g. behind-one c e g) a) (λ e a. absurd a)
back-number n k Power c t h =
    branch (is_digit c) _ _ n k t h (λ e a. in_front c (λ u g. (e, g)) a) (λ e a.
    number-over n k Power (c ∷ t) refl (back-after n k c t a))

-- ---- in a literal name

back-letters : (n : ℕ) (k : List Level) (w : Wants) (c : ℕ) (t : Text)
    → into (move n k (Letters w) c) t
    → rest n k (Letters w) (c ∷ t)
back-letters n k Rue c t h =
    upon (λ x. rest n k (Letters Rue) (x ∷ t)) c 114 _ _ n k t h (λ a. in_front 114 (λ u g. ap (λ x. 114 ∷ x) g) a) (λ a. absurd a)
back-letters n k Ue c t h =
    upon (λ x. rest n k (Letters Ue) (x ∷ t)) c 117 _ _ n k t h (λ a. in_front 117 (λ u g. ap (λ x. 117 ∷ x) g) a) (λ a. absurd a)
back-letters n k E c t h =
    upon (λ x. rest n k (Letters E) (x ∷ t)) c 101 _ _ n k t h (λ a. behind 101 a) (λ a. absurd a)
back-letters n k Alse c t h =
    upon (λ x. rest n k (Letters Alse) (x ∷ t)) c 97 _ _ n k t h (λ a. in_front 97 (λ u g. ap (λ x. 97 ∷ x) g) a) (λ a. absurd a)
back-letters n k Lse c t h =
    upon (λ x. rest n k (Letters Lse) (x ∷ t)) c 108 _ _ n k t h (λ a. in_front 108 (λ u g. ap (λ x. 108 ∷ x) g) a) (λ a. absurd a)
back-letters n k Se c t h =
    upon (λ x. rest n k (Letters Se) (x ∷ t)) c 115 _ _ n k t h (λ a. in_front 115 (λ u g. ap (λ x. 115 ∷ x) g) a) (λ a. absurd a)
back-letters n k Ull c t h =
    upon (λ x. rest n k (Letters Ull) (x ∷ t)) c 117 _ _ n k t h (λ a. in_front 117 (λ u g. ap (λ x. 117 ∷ x) g) a) (λ a. absurd a)
back-letters n k Ll c t h =
    upon (λ x. rest n k (Letters Ll) (x ∷ t)) c 108 _ _ n k t h (λ a. in_front 108 (λ u g. ap (λ x. 108 ∷ x) g) a) (λ a. absurd a)
back-letters n k L c t h =
    upon (λ x. rest n k (Letters L) (x ∷ t)) c 108 _ _ n k t h (λ a. behind 108 a) (λ a. absurd a)

-- ---- the whole

-- what may follow a character, after that character
back : (n : ℕ) (k : List Level) (s : State) (c : ℕ) (t : Text) → into (move n k s c) t
    → rest n k s (c ∷ t)
back n k Value c t h = back-value n k c t h
back n k Item c t h = back-item n k c t h
back n k Member c t h = back-member n k c t h
back n k Name c t h = back-name n k c t h
back n k Colon c t h = back-colon n k c t h
back n k After c t h = back-after n k c t h
back n k (InText r) c t h = back-text n k r c t h
back n k (Escape r) c t h = back-escape n k r c t h
back n k (Hex r w) c t h = back-hex n k r w c t h
back n k (Number p) c t h = back-number n k p c t h
back n k (Letters w) c t h = back-letters n k w c t h

-- at the end of the text
at_end : (n : ℕ) (k : List Level) (s : State) → is_final k s ≡ true → rest n k s []
at_end n (l ∷ k) s h = cc
at_end n [] Value h = cc
at_end n [] Item h = cc
at_end n [] Member h = cc
at_end n [] Name h = cc
at_end n [] Colon h = cc
at_end n [] After h = tt
at_end n [] (InText r) h = cc
at_end n [] (Escape r) h = cc
at_end n [] (Hex r w) h = cc
at_end n [] (Number p) h = number-over n [] p [] h tt
at_end n [] (Letters w) h = cc

-- what is accepted from a place may follow there
accepted-rest : (t : Text) (n : ℕ) (k : List Level) (s : State) → accepts n k s t ≡ true
    → rest n k s t
accepted-rest [] n k s h = at_end n k s h
accepted-rest (c ∷ t) n k s h =
    back n k s c t (gone (move n k s c) (λ m j r a. accepted-rest t m j r a) h)
  where
    gone : (y : Moved)
        → ((m : ℕ) (j : List Level) (r : State) → accepts m j r t ≡ true → rest m j r t)
        → from false false y (λ m j r. accepts m j r t) ≡ true
        → into y t
    gone (on m j r) more h = more m j r h
    gone stuck more h = cc
    gone deep more h = cc

-- an accepted text is a JSON text
pub accepted-text : (n : ℕ) (t : Text) → accepts n [] Value t ≡ true → json_text n t
accepted-text n t h = accepted-rest t n [] Value h
