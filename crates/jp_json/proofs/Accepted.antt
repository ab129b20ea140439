-- JSON texts are accepted.
use Rattle.std.proofs.Common.{◌≡◌, ◌⊎◌, ℕ, zero, suc, true, false, ◌==◌, List, [], ◌∷◌}
use Rattle.std.proofs.Common.{Option, inl, inr, refl, sym, append-nil, subst}
use Rattle.std.proofs.lemmas.Bool.{cases_Bool, eqb-true}
use Rattle.jp_reading.specs.Numbers.{is_digit, is_leading_digit}
use Rattle.jp_reading.specs.Texts.{Text, is_blank}
use Rattle.jp_json.specs.Language.{Language, word, One, ◌⌢◌, Optional, Any, Times}
use Rattle.jp_json.specs.Grammar.{blanks, structural, separated, char, string, digits, some_digits}
use Rattle.jp_json.specs.Grammar.{int, frac, exp, number, literal_name, member, object, array, scalar}
use Rattle.jp_json.specs.Grammar.{escaped, is_hex_digit, value, json_text, is_e, is_sign}
use Rattle.jp_json.specs.declared.state.Level.{Level}
use Rattle.jp_json.specs.declared.state.Level.TheVariants.{Array, Object}
use Rattle.jp_json.specs.declared.state.Role.{Role}
use Rattle.jp_json.specs.declared.state.Role.TheVariants.{Key, Plain}
use Rattle.jp_json.specs.declared.state.Part.{Part}
use Rattle.jp_json.specs.declared.state.Part.TheVariants.{Minus, Zero, Whole, Point, Fraction}
use Rattle.jp_json.specs.declared.state.Part.TheVariants.{Exponent, Sign, Power}
use Rattle.jp_json.specs.declared.state.State.{State}
use Rattle.jp_json.specs.declared.state.State.TheVariants.{Value, Item, Member, Name, Colon, After}
use Rattle.jp_json.specs.declared.state.State.TheVariants.{Text as InText, Number, Escape, Hex}
use Rattle.jp_json.specs.declared.state.Wanted.TheVariants.{Four, Three, Two, Last}
use Rattle.jp_json.specs.declared.state.Step.TheVariants.{Stuck}
use Rattle.jp_json.specs.Private.Machine.{after_value, in_number, ends_number, past_text}
use Rattle.jp_json.specs.Private.Machine.{top, accepts}
use Rattle.jp_json.proofs.Classes.{IsOutside, blank-outside, e-no-digit, e-no-point}
use Rattle.jp_json.proofs.Classes.{sign-no-digit, comma-outside, bracket-outside, brace-outside}
use Rattle.jp_json.proofs.Classes.{blank-no-bracket, blank-no-brace}
use Rattle.jp_json.proofs.Leads.{Config, Leads, at, nothing, then, either, either-then, onward, until}
use Rattle.jp_json.proofs.Leads.{optional-then, any, one, sign, passing}

-- ---- after a number

in_number-outside : (p : Part) (l : Option Level) (c : ℕ) → ends_number p ≡ true → IsOutside c
    → in_number p l c ≡ after_value l c
in_number-outside Minus l c f h = cc
in_number-outside Zero l c f h = rw (h.point, h.e) refl
in_number-outside Whole l c f h = rw (h.digit, h.point, h.e) refl
in_number-outside Point l c f h = cc
in_number-outside Fraction l c f h = rw (h.digit, h.e) refl
in_number-outside Exponent l c f h = cc
in_number-outside Sign l c f h = cc
in_number-outside Power l c f h = rw h.digit refl

-- each character that a value may be followed by is none of a number
after_value-cases : (l : Option Level) (c : ℕ) → (after_value l c ≡ Stuck) ⊎ IsOutside c
after_value-cases l c =
    elim (cases_Bool (is_blank c)) [
      | inl blank ↦ inr (blank-outside c blank)
      | inr not_blank ↦
          elim (cases_Bool (c == 44)) [
            | inl e ↦ inr (subst IsOutside (sym (eqb-true c 44 e)) comma-outside)
            | inr not_comma ↦
                elim (cases_Bool (c == 93)) [
                  | inl e ↦ inr (subst IsOutside (sym (eqb-true c 93 e)) bracket-outside)
                  | inr not_bracket ↦
                      elim (cases_Bool (c == 125)) [
                        | inl e ↦ inr (subst IsOutside (sym (eqb-true c 125 e)) brace-outside)
                        | inr not_brace ↦ inl (rw (not_blank, not_comma, not_bracket, not_brace) refl)
                      ]
                ]
          ]
    ]

-- where a number may end, what is accepted after a value is accepted
pub ends-text : (n : ℕ) (k : List Level) (p : Part) (r : Text) → ends_number p ≡ true
    → accepts n k After r ≡ true
    → accepts n k (Number p) r ≡ true
ends-text n [] p [] f a = f
ends-text n (l ∷ k) p [] f a = a
ends-text n k p (c ∷ r) f a =
    elim (after_value-cases (top k) c) [
      | inl dead ↦ let no : false ≡ true = rw dead at a in cc
      | inr outside ↦ rw (in_number-outside p (top k) c f outside) a
    ]

ends : {n : ℕ} {k : List Level} (p : Part) → ends_number p ≡ true
    → Leads (at n k (Number p)) (word []) (at n k After)
ends {n} {k} p f = record { ahead = λ t r h a. rw h (ends-text n k p r f a) }

-- ---- numbers (RFC 8259 section 6)

power : (n : ℕ) (k : List Level) → Leads (at n k (Number Power)) digits (at n k After)
power n k = until (passing (λ c h. rw h refl)) (ends Power refl)

exponent : (n : ℕ) (k : List Level)
    → Leads (at n k (Number Exponent)) (Optional (One is_sign) ⌢ some_digits) (at n k After)
exponent n k =
    optional-then
    (then {y = at n k (Number Power)} (one (λ c h. rw h refl)) (power n k))
    (then {y = at n k (Number Sign)}
    (one (λ c h. rw (sign-no-digit c h, h) refl))
    (then {y = at n k (Number Power)} (one (λ c h. rw h refl)) (power n k)))

optional_exp : (n : ℕ) (k : List Level) (p : Part) → ends_number p ≡ true
    → Leads (at n k (Number p)) (One is_e) (at n k (Number Exponent))
    → Leads (at n k (Number p)) (Optional exp) (at n k After)
optional_exp n k p f e = either (ends p f) (then e (exponent n k))

fraction : (n : ℕ) (k : List Level)
    → Leads (at n k (Number Point)) some_digits (at n k (Number Fraction))
fraction n k = then {y = at n k (Number Fraction)} (one (λ c h. rw h refl)) (passing (λ c h. rw h refl))

after_fraction : (n : ℕ) (k : List Level)
    → Leads (at n k (Number Fraction)) (Optional exp) (at n k After)
after_fraction n k =
    optional_exp n k Fraction refl (one (λ c h. rw (e-no-digit c h, h) refl))

after_zero : (n : ℕ) (k : List Level)
    → Leads (at n k (Number Zero)) (Optional frac ⌢ Optional exp) (at n k After)
after_zero n k =
    optional-then
    (optional_exp n k Zero refl (one (λ c h. rw (e-no-point c h, h) refl)))
    (then (then {y = at n k (Number Point)} (sign 46 refl) (fraction n k)) (after_fraction n k))

after_whole : (n : ℕ) (k : List Level)
    → Leads (at n k (Number Whole)) (Optional frac ⌢ Optional exp) (at n k After)
unfolding is_digit
after_whole n k =
    optional-then
    (optional_exp n k Whole refl (one (λ c h. rw (e-no-digit c h, e-no-point c h, h) refl)))
    (then (then {y = at n k (Number Point)} (sign 46 refl) (fraction n k)) (after_fraction n k))

-- the whole part, from a place where both of its beginnings lead into it
from_int : (n : ℕ) (k : List Level) (s : State)
    → Leads (at n k s) (word (48 ∷ [])) (at n k (Number Zero))
    → Leads (at n k s) (One is_leading_digit) (at n k (Number Whole))
    → Leads (at n k s) (int ⌢ Optional frac ⌢ Optional exp) (at n k After)
from_int n k s zeroes leading =
    either-then
    (then zeroes (after_zero n k))
    (then {y = at n k (Number Whole)} (then leading (passing (λ c h. rw h refl))) (after_whole n k))

number-leads : (n : ℕ) (k : List Level) → Leads (at n k Value) number (at n k After)
unfolding is_blank
number-leads n k =
    optional-then
    (from_int n k Value (sign 48 refl) (one (λ c h. rw h refl)))
    (then {y = at n k (Number Minus)} (sign 45 refl) (from_int n k (Number Minus) (sign 48 refl) (one (λ c h. rw h refl))))

-- ---- strings (RFC 8259 section 7)

hex : (n : ℕ) (k : List Level) (r : Role)
    → Leads (at n k (Hex r Four)) (Times 4 (One is_hex_digit)) (at n k (InText r))
hex n k r =
    then {y = at n k (Hex r Three)}
    (one (λ c h. rw h refl))
    (then {y = at n k (Hex r Two)}
    (one (λ c h. rw h refl))
    (then {y = at n k (Hex r Last)}
    (one (λ c h. rw h refl))
    (then {y = at n k (InText r)} (one (λ c h. rw h refl)) (nothing (at n k (InText r))))))

escapes : (n : ℕ) (k : List Level) (r : Role)
    → Leads (at n k (InText r)) escaped (at n k (InText r))
unfolding is_digit
escapes n k r =
    then {y = at n k (Escape r)}
    (sign 92 refl)
    (either (one (λ c h. rw h refl)) (then {y = at n k (Hex r Four)} (sign 117 refl) (hex n k r)))

-- the rest of a string, after the double quote that begins it
text-leads : (n : ℕ) (k : List Level) (r : Role)
    → Leads (at n k (InText r)) (Any char ⌢ word (34 ∷ [])) (at n k (past_text r))
text-leads n k r =
    then {y = at n k (InText r)} (any (either (one (λ c h. rw h refl)) (escapes n k r))) (sign 34 refl)

-- ---- blanks and structural characters (RFC 8259 section 2)

value_blanks : (n : ℕ) (k : List Level) → Leads (at n k Value) blanks (at n k Value)
value_blanks n k = passing (λ c h. rw ((blank-outside c h).leading, h) refl)

item_blanks : (n : ℕ) (k : List Level) → Leads (at n k Item) blanks (at n k Item)
item_blanks n k = passing (λ c h. rw (blank-no-bracket c h, h) refl)

member_blanks : (n : ℕ) (k : List Level) → Leads (at n k Member) blanks (at n k Member)
member_blanks n k = passing (λ c h. rw (blank-no-brace c h, h) refl)

name_blanks : (n : ℕ) (k : List Level) → Leads (at n k Name) blanks (at n k Name)
name_blanks n k = passing (λ c h. rw h refl)

colon_blanks : (n : ℕ) (k : List Level) → Leads (at n k Colon) blanks (at n k Colon)
colon_blanks n k = passing (λ c h. rw h refl)

after_blanks : (n : ℕ) (k : List Level) → Leads (at n k After) blanks (at n k After)
after_blanks n k = passing (λ c h. rw h refl)

-- a structural character from one place to another, with the blanks at both
between : {x y : Config} {c : ℕ} → Leads x blanks x → Leads x (word (c ∷ [])) y → Leads y blanks y
    → Leads x (structural c) y
between before sign after = then before (then sign after)

-- where a value may come, it may come in place of the end of an array
item_value : (n : ℕ) (k : List Level) (t : Text) → accepts n k Value t ≡ true
    → accepts n k Item t ≡ true
unfolding is_blank
item_value n [] [] a = a
item_value n (l ∷ k) [] a = a
item_value n k (c ∷ t) a =
    elim (cases_Bool (c == 93)) [
      | inl e ↦
          let no : accepts n k Value (93 ∷ t) ≡ true
          = subst (λ (x : ℕ). accepts n k Value (x ∷ t) ≡ true) (eqb-true c 93 e) a in cc
      | inr other ↦
          elim (cases_Bool (is_blank c)) [
            | inl blank ↦
                let b : accepts n k Value t ≡ true = rw ((blank-outside c blank).leading, blank) at a in
                rw (other, blank) (item_value n k t b)
            | inr not_blank ↦ rw (other, not_blank) (rw not_blank at a)
          ]
    ]

-- and a member in place of the end of an object
member_name : (n : ℕ) (k : List Level) (t : Text) → accepts n k Name t ≡ true
    → accepts n k Member t ≡ true
unfolding is_blank
member_name n [] [] a = a
member_name n (l ∷ k) [] a = a
member_name n k (c ∷ t) a =
    elim (cases_Bool (c == 125)) [
      | inl e ↦
          let no : accepts n k Name (125 ∷ t) ≡ true
          = subst (λ (x : ℕ). accepts n k Name (x ∷ t) ≡ true) (eqb-true c 125 e) a in cc
      | inr other ↦
          elim (cases_Bool (is_blank c)) [
            | inl blank ↦
                let b : accepts n k Name t ≡ true = rw blank at a in
                rw (other, blank) (member_name n k t b)
            | inr not_blank ↦ rw (other, not_blank) (rw not_blank at a)
          ]
    ]

first_item : (n : ℕ) (k : List Level) → Leads (at n k Item) (word []) (at n k Value)
first_item n k = record { ahead = λ t r h a. rw h (item_value n k r a) }

first_member : (n : ℕ) (k : List Level) → Leads (at n k Member) (word []) (at n k Name)
first_member n k = record { ahead = λ t r h a. rw h (member_name n k r a) }

-- ---- values (RFC 8259 sections 3 to 5)

string-leads : (n : ℕ) (k : List Level) → Leads (at n k Value) string (at n k After)
unfolding is_blank
string-leads n k = then {y = at n k (InText Plain)} (sign 34 refl) (text-leads n k Plain)

name-leads : (n : ℕ) (k : List Level) → Leads (at n k Name) string (at n k Colon)
unfolding is_blank
name-leads n k = then {y = at n k (InText Key)} (sign 34 refl) (text-leads n k Key)

literal-leads : (n : ℕ) (k : List Level) → Leads (at n k Value) literal_name (at n k After)
unfolding is_blank
literal-leads n k =
    either
    (record { ahead = λ t r h a. rw h a })
    (either (record { ahead = λ t r h a. rw h a }) (record { ahead = λ t r h a. rw h a }))

scalar-leads : (n : ℕ) (k : List Level) → Leads (at n k Value) scalar (at n k After)
scalar-leads n k = either (literal-leads n k) (either (number-leads n k) (string-leads n k))

array-leads : (n : ℕ) (k : List Level) (P : Language)
    → Leads (at n (Array ∷ k) Value) P (at n (Array ∷ k) After)
    → Leads (at (suc n) k Value) (array P) (at (suc n) k After)
unfolding is_blank
array-leads n k P item =
    let open_it : Leads (at (suc n) k Value) (structural 91) (at n (Array ∷ k) Item)
    = between (value_blanks (suc n) k) (sign 91 refl) (item_blanks n (Array ∷ k)) in
    let close_first : Leads (at n (Array ∷ k) Item) (structural 93) (at (suc n) k After)
    = between (item_blanks n (Array ∷ k)) (sign 93 refl) (after_blanks (suc n) k) in
    let close_it : Leads (at n (Array ∷ k) After) (structural 93) (at (suc n) k After)
    = between (after_blanks n (Array ∷ k)) (sign 93 refl) (after_blanks (suc n) k) in
    let comma : Leads (at n (Array ∷ k) After) (structural 44) (at n (Array ∷ k) Value)
    = between (after_blanks n (Array ∷ k)) (sign 44 refl) (value_blanks n (Array ∷ k)) in
    let items : Leads (at n (Array ∷ k) Value) (separated P) (at n (Array ∷ k) After)
    = then item (any (then comma item)) in
    then open_it (optional-then close_first (then (onward (first_item n (Array ∷ k)) items) close_it))

member-leads : (n : ℕ) (k : List Level) (P : Language) → Leads (at n k Value) P (at n k After)
    → Leads (at n k Name) (member P) (at n k After)
unfolding is_blank
member-leads n k P inner =
    let colon : Leads (at n k Colon) (structural 58) (at n k Value)
    = between (colon_blanks n k) (sign 58 refl) (value_blanks n k) in
    then (name-leads n k) (then colon inner)

object-leads : (n : ℕ) (k : List Level) (P : Language)
    → Leads (at n (Object ∷ k) Value) P (at n (Object ∷ k) After)
    → Leads (at (suc n) k Value) (object P) (at (suc n) k After)
unfolding is_blank
object-leads n k P inner =
    let open_it : Leads (at (suc n) k Value) (structural 123) (at n (Object ∷ k) Member)
    = between (value_blanks (suc n) k) (sign 123 refl) (member_blanks n (Object ∷ k)) in
    let close_first : Leads (at n (Object ∷ k) Member) (structural 125) (at (suc n) k After)
    = between (member_blanks n (Object ∷ k)) (sign 125 refl) (after_blanks (suc n) k) in
    let close_it : Leads (at n (Object ∷ k) After) (structural 125) (at (suc n) k After)
    = between (after_blanks n (Object ∷ k)) (sign 125 refl) (after_blanks (suc n) k) in
    let comma : Leads (at n (Object ∷ k) After) (structural 44) (at n (Object ∷ k) Name)
    = between (after_blanks n (Object ∷ k)) (sign 44 refl) (name_blanks n (Object ∷ k)) in
    let one_member = member-leads n (Object ∷ k) P inner in
    let members : Leads (at n (Object ∷ k) Name) (separated (member P)) (at n (Object ∷ k) After)
    = then one_member (any (then comma one_member)) in
    then open_it (optional-then close_first (then (onward (first_member n (Object ∷ k)) members) close_it))

value-leads : (n : ℕ) (k : List Level) → Leads (at n k Value) (value n) (at n k After)
value-leads zero k = scalar-leads zero k
value-leads (suc n) k =
    either
    (scalar-leads (suc n) k)
    (either
    (array-leads n k (value n) (value-leads n (Array ∷ k)))
    (object-leads n k (value n) (value-leads n (Object ∷ k))))

json_text-leads : (n : ℕ) → Leads (at n [] Value) (json_text n) (at n [] After)
json_text-leads n =
    then (value_blanks n []) (then (value-leads n []) (after_blanks n []))

-- a JSON text is accepted
pub text-accepted : (n : ℕ) (t : Text) → json_text n t → accepts n [] Value t ≡ true
text-accepted n t h = rw append-nil at ((json_text-leads n).ahead t [] h refl)
