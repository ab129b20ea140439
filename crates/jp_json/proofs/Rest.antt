-- What a JSON text may go on with, from each place where the automaton may be.
use Rattle.std.proofs.Common.{◌≡◌, ℕ, zero, suc, Bool, true, List, [], ◌∷◌, ◌++◌, inl, inr, refl}
use Rattle.std.proofs.Common.{append_assoc}
use Rattle.jp_reading.specs.Forms.{AllPassing}
use Rattle.jp_reading.specs.Texts.{Text, is_blank}
use Rattle.jp_json.specs.Language.{Language, word, One, ◌⌢◌, Either, Optional, Times, Any}
use Rattle.jp_json.specs.Grammar.{blanks, structural, char, digits, some_digits, int, frac, exp}
use Rattle.jp_json.specs.Grammar.{member, value, scalar, is_escapable, is_hex_digit, is_sign}
use Rattle.jp_json.specs.declared.state.Level.{Level}
use Rattle.jp_json.specs.declared.state.Level.TheVariants.{Array, Object}
use Rattle.jp_json.specs.declared.state.Role.{Role}
use Rattle.jp_json.specs.declared.state.Role.TheVariants.{Key, Plain}
use Rattle.jp_json.specs.declared.state.Part.{Part}
use Rattle.jp_json.specs.declared.state.Part.TheVariants.{Minus, Zero, Whole, Point, Fraction}
use Rattle.jp_json.specs.declared.state.Part.TheVariants.{Exponent, Sign, Power}
use Rattle.jp_json.specs.declared.state.Letters.{Letters as Wants}
use Rattle.jp_json.specs.declared.state.Letters.TheVariants.{Rue, Ue, E, Alse, Lse, Se, Ull, Ll, L}
use Rattle.jp_json.specs.declared.state.Wanted.{Wanted}
use Rattle.jp_json.specs.declared.state.Wanted.TheVariants.{Four, Three, Two, Last}
use Rattle.jp_json.specs.declared.state.State.{State}
use Rattle.jp_json.specs.declared.state.State.TheVariants.{Value, Item, Member, Name, Colon, After}
use Rattle.jp_json.specs.declared.state.State.TheVariants.{Text as InText, Escape, Hex, Number}
use Rattle.jp_json.specs.declared.state.State.TheVariants.{Letters}

-- after a value
abbrev pub after_rest : ℕ → List Level → Language
after_rest n [] = blanks
after_rest n (Array ∷ k) =
    Any (structural 44 ⌢ value n) ⌢ structural 93 ⌢ after_rest (suc n) k
after_rest n (Object ∷ k) =
    Any (structural 44 ⌢ member (value n)) ⌢ structural 125 ⌢ after_rest (suc n) k

-- the end of an array, or of an object, where one is open
abbrev pub array_end : ℕ → List Level → Language
array_end n [] t = ⊥
array_end n (Array ∷ k) t = (structural 93 ⌢ after_rest (suc n) k) t
array_end n (Object ∷ k) t = ⊥

abbrev pub object_end : ℕ → List Level → Language
object_end n [] t = ⊥
object_end n (Array ∷ k) t = ⊥
object_end n (Object ∷ k) t = (structural 125 ⌢ after_rest (suc n) k) t

abbrev pub value_rest : ℕ → List Level → Language
value_rest n k = blanks ⌢ value n ⌢ after_rest n k

abbrev pub name_rest : ℕ → List Level → Language
name_rest n k = blanks ⌢ member (value n) ⌢ after_rest n k

abbrev pub colon_rest : ℕ → List Level → Language
colon_rest n k = structural 58 ⌢ value n ⌢ after_rest n k

-- the rest of a string, from within it, and what is after it
abbrev pub text_end : Language
text_end = Any char ⌢ word (34 ∷ [])

abbrev pub past_text_rest : ℕ → List Level → Role → Language
past_text_rest n k Key = colon_rest n k
past_text_rest n k Plain = after_rest n k

abbrev pub text_rest : ℕ → List Level → Role → Language
text_rest n k r = text_end ⌢ past_text_rest n k r

abbrev pub hex_count : Wanted → ℕ
hex_count Four = 4
hex_count Three = 3
hex_count Two = 2
hex_count Last = 1

-- the rest of a number
abbrev pub number_end : Part → Language
number_end Minus = int ⌢ Optional frac ⌢ Optional exp
number_end Zero = Optional frac ⌢ Optional exp
number_end Whole = digits ⌢ Optional frac ⌢ Optional exp
number_end Point = some_digits ⌢ Optional exp
number_end Fraction = digits ⌢ Optional exp
number_end Exponent = Optional (One is_sign) ⌢ some_digits
number_end Sign = some_digits
number_end Power = digits

abbrev pub letters : Wants → Text
letters Rue = 114 ∷ 117 ∷ 101 ∷ []
letters Ue = 117 ∷ 101 ∷ []
letters E = 101 ∷ []
letters Alse = 97 ∷ 108 ∷ 115 ∷ 101 ∷ []
letters Lse = 108 ∷ 115 ∷ 101 ∷ []
letters Se = 115 ∷ 101 ∷ []
letters Ull = 117 ∷ 108 ∷ 108 ∷ []
letters Ll = 108 ∷ 108 ∷ []
letters L = 108 ∷ []

abbrev pub rest : ℕ → List Level → State → Language
rest n k Value = value_rest n k
rest n k Item = Either (array_end n k) (value_rest n k)
rest n k Member = Either (object_end n k) (name_rest n k)
rest n k Name = name_rest n k
rest n k Colon = colon_rest n k
rest n k After = after_rest n k
rest n k (InText r) = text_rest n k r
rest n k (Escape r) =
    Either (One is_escapable) (word (117 ∷ []) ⌢ Times 4 (One is_hex_digit)) ⌢ text_rest n k r
rest n k (Hex r w) = Times (hex_count w) (One is_hex_digit) ⌢ text_rest n k r
rest n k (Number p) = number_end p ⌢ after_rest n k
rest n k (Letters w) = word (letters w) ⌢ after_rest n k

-- ---- texts put together

pub joined : {P Q : Language} (t u : Text) → P t → Q u → (P ⌢ Q) (t ++ u)
joined t u p q = record { first = t; second = u; is = refl; one = p; two = q }

-- one character more in front of the first part
pub in_front : {P P' Q : Language} (c : ℕ) {t : Text} → ((u : Text) → P u → P' (c ∷ u)) → (P ⌢ Q) t
    → (P' ⌢ Q) (c ∷ t)
in_front c f h = record {
  first = c ∷ h.first;
  second = h.second;
  is = rw h.is refl;
  one = f h.first h.one;
  two = h.two;
}

-- nothing in front
pub unpassed : {ok : ℕ → Bool} {Q : Language} {t : Text} → Q t → (AllPassing ok ⌢ Q) t
unpassed {ok} {Q} {t} h = record { first = []; second = t; is = refl; one = tt; two = h }

pub blankless : {Q : Language} {t : Text} → Q t → (blanks ⌢ Q) t
blankless {Q} h = unpassed {ok = is_blank} {Q = Q} h

pub without : {P Q : Language} {t : Text} → Q t → (Optional P ⌢ Q) t
without {P} {Q} {t} h = record { first = []; second = t; is = refl; one = inl refl; two = h }

pub none : {P Q : Language} {t : Text} → Q t → (Any P ⌢ Q) t
none {P} {Q} {t} h = record {
  first = [];
  second = t;
  is = refl;
  one = record { times = 0; is = refl };
  two = h;
}

-- the first part is replaced, and the second
pub map-first : {P P' Q : Language} {t : Text} → ((u : Text) → P u → P' u) → (P ⌢ Q) t → (P' ⌢ Q) t
map-first f h = record {
  first = h.first;
  second = h.second;
  is = h.is;
  one = f h.first h.one;
  two = h.two;
}

pub map-second : {P Q Q' : Language} {t : Text} → ((u : Text) → Q u → Q' u) → (P ⌢ Q) t → (P ⌢ Q') t
map-second f h = record {
  first = h.first;
  second = h.second;
  is = h.is;
  one = h.one;
  two = f h.second h.two;
}

-- regrouped
pub grouped : {P Q R : Language} {t : Text} → (P ⌢ Q ⌢ R) t → ((P ⌢ Q) ⌢ R) t
grouped {P} {Q} {R} {t} h = record {
  first = h.first ++ h.two.first;
  second = h.two.second;
  is = rw (append_assoc h.first h.two.first h.two.second, ← h.two.is) h.is;
  one = joined h.first h.two.first h.one h.two.one;
  two = h.two.two;
}

pub ungrouped : {P Q R : Language} {t : Text} → ((P ⌢ Q) ⌢ R) t → (P ⌢ Q ⌢ R) t
ungrouped {P} {Q} {R} {t} h = record {
  first = h.one.first;
  second = h.one.second ++ h.second;
  is = rw (← append_assoc h.one.first h.one.second h.second, ← h.one.is) h.is;
  one = h.one.one;
  two = joined h.one.second h.second h.one.two h.two;
}

-- one more of any number
pub one_more : {P Q : Language} {t : Text} → (P ⌢ Any P ⌢ Q) t → (Any P ⌢ Q) t
one_more {P} {Q} {t} h =
    map-first
    (λ u g. record { times = suc g.two.times; is = record { first = g.first; second = g.second; is = g.is; one = g.one; two = g.two.is } })
    (grouped h)

-- a word begins with its first character
pub behind : {Q : Language} (c : ℕ) {t : Text} → Q t → (word (c ∷ []) ⌢ Q) (c ∷ t)
behind {Q} c {t} h = record { first = c ∷ []; second = t; is = refl; one = refl; two = h }

pub behind-one : {Q : Language} {ok : ℕ → Bool} (c : ℕ) {t : Text} → ok c ≡ true → Q t
    → (One ok ⌢ Q) (c ∷ t)
behind-one {Q} {ok} c {t} passes h = record {
  first = c ∷ [];
  second = t;
  is = refl;
  one = record { character = c; is = refl; passes = passes };
  two = h;
}

-- a value of no level is one of any
pub scalar-value : (n : ℕ) (t : Text) → scalar t → value n t
scalar-value zero t h = h
scalar-value (suc n) t h = inl h

-- ---- structural characters

pub structured : {Q : Language} (c : ℕ) {t : Text} → (blanks ⌢ Q) t → (structural c ⌢ Q) (c ∷ t)
structured c h = grouped (blankless (grouped (behind c h)))

-- one blank more in front of one
pub blank-structural : (d c : ℕ) → is_blank c ≡ true → (u : Text) → structural d u
    → structural d (c ∷ u)
blank-structural d c e u h = in_front c (λ v g. (e, g)) h

-- one blank more where any number may come, or what is after it
blank-times : {P Q : Language} (c : ℕ) → ((u : Text) → P u → P (c ∷ u))
    → ((u : Text) → Q u → Q (c ∷ u))
    → (n : ℕ) (first second : Text) → Times n P first → Q second
    → (Any P ⌢ Q) (c ∷ (first ++ second))
blank-times {P} {Q} c p q zero first second f h = rw f (none (q second h))
blank-times {P} {Q} c p q (suc n) first second f h = record {
  first = c ∷ first;
  second = second;
  is = refl;
  one = record { times = suc n; is = in_front c p f };
  two = h;
}

pub blank-any : {P Q : Language} (c : ℕ) {t : Text} → ((u : Text) → P u → P (c ∷ u))
    → ((u : Text) → Q u → Q (c ∷ u)) → (Any P ⌢ Q) t
    → (Any P ⌢ Q) (c ∷ t)
blank-any {P} {Q} c {t} p q h =
    rw h.is (blank-times c p q h.one.times h.first h.second h.one.is h.two)

-- an array or an object with nothing in it, and one with something
pub enclosed-none : (o : ℕ) {S E R : Language} {t : Text} → (E ⌢ R) t
    → ((structural o ⌢ Optional S ⌢ E) ⌢ R) (o ∷ t)
enclosed-none o h = grouped (structured o (blankless (grouped (without h))))

pub enclosed-some : (o : ℕ) {P X E R : Language} {t : Text} → (blanks ⌢ P ⌢ Any X ⌢ E ⌢ R) t
    → ((structural o ⌢ Optional (P ⌢ Any X) ⌢ E) ⌢ R) (o ∷ t)
enclosed-some o {P} {X} {E} {R} {t} h =
    grouped
    (structured
    o
    (map-second
    (λ u g.
    let some : (Optional (P ⌢ Any X) ⌢ E ⌢ R) u = map-first (λ v x. inr x) (grouped g) in
    grouped some)
    h))
