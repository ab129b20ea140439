-- Values are the same where they are so from outside and part by part.
use Rattle.std.proofs.Common.{◌≡◌, ◌≢◌, ℕ, zero, suc, ◌+◌, ◌==◌, ◌&&◌, Bool, true, false}
use Rattle.std.proofs.Common.{List, [], ◌∷◌, length, drop, Option, Some, None, option_map, refl}
use Rattle.std.proofs.Common.{sym, ap, ap₂, ◌∙◌, arith}
use Rattle.std.specs.List.{slice_get}
use Rattle.std.specs.Str.{bytes_eq}
use Rattle.std.proofs.lemmas.Bool.{and_right, false≢true}
use Rattle.std.proofs.lemmas.Bool.Decides.{Decides-eqb}
use Rattle.jp_document.specs.Location.{Step, entries, items_from, members_by_name}
use Rattle.jp_document.specs.Value.{Value, null, boolean, whole, decimal, text, list, object}
use Rattle.jp_document.specs.Value.{Items, no_items, item, Members, no_members, member}
use Rattle.jp_lent.specs.Lending.{bare}
use Rattle.jp_select.specs.Comparison.{equals, same_items, same_members, same_value}
use Rattle.jp_select.specs.Private.Parts.{same_part, same_parts}
use Rattle.jp_select.proofs.Comparisons.Sameness.{equals_is, equals_itself}
use Rattle.jp_select.proofs.Walks.{drop_at, drop_past}

-- ---- the parts of lists and objects

same_number : (i : ℕ) → (i == i) ≡ true
same_number i = (Decides-eqb i i).1 refl

items-parts : (i : ℕ) (vs ws : Items)
    → same_items vs ws ≡ same_parts (items_from i vs) (items_from i ws)
items-parts i no_items no_items = refl
items-parts i no_items (item w ws) = refl
items-parts i (item v vs) no_items = refl
items-parts i (item v vs) (item w ws) =
    ap₂ (λ k rest. (k && same_value v w) && rest) (sym (same_number i)) (items-parts (suc i) vs ws)

members-parts : (ms ns : Members)
    → same_members ms ns ≡ same_parts (members_by_name ms) (members_by_name ns)
members-parts no_members no_members = refl
members-parts no_members (member n w ns) = refl
members-parts (member m v ms) no_members = refl
members-parts (member m v ms) (member n w ns) =
    ap (λ rest. (bytes_eq m n && same_value v w) && rest) (members-parts ms ns)

-- ---- values that are the same from outside

-- their parts decide
pub parts_decide : (v w : Value) → same_value (bare v) (bare w) ≡ true
    → same_value v w ≡ same_parts (entries v) (entries w)
parts_decide (list vs) (list ws) h = items-parts 0 vs ws
parts_decide (object ms) (object ns) h = members-parts ms ns
parts_decide (list vs) w h = absurd (cc)
parts_decide (object ms) w h = absurd (cc)
parts_decide null (list ws) h = absurd (cc)
parts_decide null (object ns) h = absurd (cc)
parts_decide (boolean true) (list ws) h = absurd (cc)
parts_decide (boolean true) (object ns) h = absurd (cc)
parts_decide (boolean false) (list ws) h = absurd (cc)
parts_decide (boolean false) (object ns) h = absurd (cc)
parts_decide (whole x) (list ws) h = absurd (cc)
parts_decide (whole x) (object ns) h = absurd (cc)
parts_decide (decimal c e) (list ws) h = absurd (cc)
parts_decide (decimal c e) (object ns) h = absurd (cc)
parts_decide (text s) (list ws) h = absurd (cc)
parts_decide (text s) (object ns) h = absurd (cc)
parts_decide v w h = h

-- ---- the same with Nothing beside the values

-- the sides are the same from outside, or not
abbrev pub Looks : Bool → Option Value → Option Value → Type 0
Looks same a b = equals (option_map bare a) (option_map bare b) ≡ same

pub by_parts : (a b : Option Value) (v w : Value) → a ≡ Some v → b ≡ Some w → Looks true a b
    → same_parts (entries v) (entries w) ≡ equals a b
by_parts a b v w left right h =
    let both : same_value (bare v) (bare w) ≡ true =
    sym (ap₂ (λ c d. equals (option_map bare c) (option_map bare d)) left right) ∙ h in
    sym (ap₂ equals left right ∙ parts_decide v w both)

pub unlike-looks : (a b : Option Value) → Looks false a b → false ≡ equals a b
unlike-looks a b h = by (equals a b) refl
  where
    by : (r : Bool) → equals a b ≡ r → false ≡ equals a b
    by false is = sym is
    by true is =
        absurd
        (false≢true
        (sym h ∙ ap (λ o. equals (option_map bare a) (option_map bare o)) (sym (equals_is a b is))
        ∙ equals_itself (option_map bare a)))

-- ---- part by part

-- as many parts on both sides
pub unlike-lengths : (es fs : List (Step × Value)) → (length es ≢ length fs)
    → false ≡ same_parts es fs
unlike-lengths [] [] unlike = absurd (unlike refl)
unlike-lengths [] (f ∷ fs) unlike = refl
unlike-lengths (e ∷ es) [] unlike = refl
unlike-lengths (e ∷ es) (f ∷ fs) unlike =
    sym
    (and_right (same_part e f) (same_parts es fs)
    (sym (unlike-lengths es fs (λ same. unlike (ap suc same)))))

-- from a position on
abbrev pub parts_from : List (Step × Value) → List (Step × Value) → ℕ → Bool
parts_from es fs i = same_parts (drop i es) (drop i fs)

pub part_next : (es fs : List (Step × Value)) (i : ℕ) (e f : Step × Value) (same : Bool)
    → slice_get es i ≡ Some e → slice_get fs i ≡ Some f → same_part e f ≡ same
    → parts_from es fs i ≡ (same && parts_from es fs (i + 1))
part_next es fs i e f same left right is =
    let next : suc i ≡ i + 1 = omega arith in
    ap₂ same_parts (drop_at es i e left) (drop_at fs i f right)
    ∙ ap₂ (λ b j. b && parts_from es fs j) is next

pub part_missing : (es fs : List (Step × Value)) (i : ℕ) (e : Step × Value)
    → slice_get es i ≡ Some e → slice_get fs i ≡ None → parts_from es fs i ≡ false
part_missing es fs i e left right =
    ap₂ same_parts (drop_at es i e left) (drop_past fs i right)

pub parts_done : (es fs : List (Step × Value)) (i : ℕ) → length es ≡ length fs
    → slice_get es i ≡ None → parts_from es fs i ≡ true
parts_done [] [] zero long none = refl
parts_done [] [] (suc i) long none = refl
parts_done [] (f ∷ fs) i long none = absurd (omega arith)
parts_done (e ∷ es) [] i long none = absurd (omega arith)
parts_done (e ∷ es) (f ∷ fs) zero long none = absurd (cc)
parts_done (e ∷ es) (f ∷ fs) (suc i) long none = parts_done es fs i (omega arith) none
