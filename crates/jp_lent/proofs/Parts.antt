-- The texts of parts joined by a comma, as a loop writes them: for `push_parts`.
use Rattle.std.proofs.Common.{◌≡◌, ℕ, ◌+◌, eqb, cond, Bool, true, false, List, [], ◌∷◌}
use Rattle.std.proofs.Common.{◌++◌, refl, sym, ap, ◌∙◌, append_assoc, append-nil, add-one, drop, Some, None, suc, zero}
use Rattle.std.proofs.Math.Dec.{eqb-suc-zero}
use Rattle.std.proofs.lemmas.Option.{same_Some}
use Rattle.std.specs.List.{flat_map, join_with_byte, slice_get}
use Rattle.jp_reading.specs.Characters as char
use Rattle.jp_decimal.specs.Appended.{IsBegun}
use Rattle.jp_document.specs.Location.{Step, entries, items_from, members_by_name}
use Rattle.jp_document.specs.Text.{text_of, item_texts, member_texts, string_text}
use Rattle.jp_document.specs.Value.{Value, null, boolean, whole, decimal, text, list, object, Items}
use Rattle.jp_document.specs.Value.{no_items, item, Members, no_members, member}
use Rattle.jp_document.proofs.Writing.Appended.{on}
use Rattle.jp_lent.specs.Lending.{bare}
use Rattle.jp_lent.specs.Private.Printing.{part_text, part_texts}

-- ---- what is printed of a list and of an object, by their parts

item_parts : (k : ℕ) (vs : Items) → part_texts (items_from k vs) ≡ item_texts vs
item_parts k no_items = refl
item_parts k (item v vs) = ap (λ ts. text_of v ∷ ts) (item_parts (suc k) vs)

member_parts : (ms : Members) → part_texts (members_by_name ms) ≡ member_texts ms
member_parts no_members = refl
member_parts (member n v ms) =
    ap (λ t. t ∷ part_texts (members_by_name ms))
    (append_assoc (string_text n) (char.colon ∷ []) (text_of v))
    ∙ ap (λ ts. (string_text n ++ char.colon ∷ text_of v) ∷ ts) (member_parts ms)

pub list-printed : (v : Value) → list no_items ≡ bare v
    → char.opening_bracket ∷ (join_with_byte char.comma (part_texts (entries v)) ++ char.closing_bracket ∷ [])
    ≡ text_of v
list-printed (list vs) is =
    ap (λ ts. char.opening_bracket ∷ (join_with_byte char.comma ts ++ char.closing_bracket ∷ []))
    (item_parts 0 vs)
list-printed null is = absurd (cc)
list-printed (boolean b) is = absurd (cc)
list-printed (whole z) is = absurd (cc)
list-printed (decimal c e) is = absurd (cc)
list-printed (text s) is = absurd (cc)
list-printed (object ms) is = absurd (cc)

pub object-printed : (v : Value) → object no_members ≡ bare v
    → char.opening_brace ∷ (join_with_byte char.comma (part_texts (entries v)) ++ char.closing_brace ∷ [])
    ≡ text_of v
object-printed (object ms) is =
    ap (λ ts. char.opening_brace ∷ (join_with_byte char.comma ts ++ char.closing_brace ∷ []))
    (member_parts ms)
object-printed null is = absurd (cc)
object-printed (boolean b) is = absurd (cc)
object-printed (whole z) is = absurd (cc)
object-printed (decimal c e) is = absurd (cc)
object-printed (text s) is = absurd (cc)
object-printed (list vs) is = absurd (cc)

-- ---- the parts from a position on

next_of : (es : List (Step × Value)) (i : ℕ) (e : Step × Value) → Some e ≡ slice_get es i
    → part_texts (drop i es) ≡ part_text e ∷ part_texts (drop (suc i) es)
next_of [] i e is = absurd (cc)
next_of (x ∷ es) zero e is = ap (λ y. part_text y ∷ part_texts es) (same_Some x e (sym is))
next_of (x ∷ es) (suc i) e is = next_of es i e is

pub next_part : (es : List (Step × Value)) (i : ℕ) (e : Step × Value) → Some e ≡ slice_get es i
    → part_texts (drop i es) ≡ part_text e ∷ part_texts (drop (i + 1) es)
next_part es i e is =
    next_of es i e is ∙ ap (λ k. part_text e ∷ part_texts (drop k es)) (sym (add-one i))

pub no_part : (es : List (Step × Value)) (i : ℕ) → None ≡ slice_get es i → part_texts (drop i es) ≡ []
no_part [] zero is = refl
no_part [] (suc i) is = refl
no_part (x ∷ es) zero is = absurd (cc)
no_part (x ∷ es) (suc i) is = no_part es i is

abbrev commas_before : List (List ℕ) → List ℕ
commas_before = flat_map (λ t. char.comma ∷ t)

-- the parts from place i on, with a comma before each but the first of all
abbrev pub parts_from : ℕ → List (List ℕ) → List ℕ
parts_from i ts = cond (eqb i 0) (join_with_byte char.comma ts) (commas_before ts)

join-cons : (t : List ℕ) (ts : List (List ℕ)) → join_with_byte char.comma (t ∷ ts) ≡ t
    ++ commas_before ts
join-cons t [] = sym (append-nil t)
join-cons t (u ∷ us) = ap (λ xs. t ++ (char.comma ∷ xs)) (join-cons u us)

parts_step : (first : Bool) (t : List ℕ) (ts : List (List ℕ))
    → cond first (join_with_byte char.comma (t ∷ ts)) (commas_before (t ∷ ts)) ≡
    cond first [] (char.comma ∷ []) ++ (t ++ commas_before ts)
parts_step true t ts = join-cons t ts
parts_step false t ts = refl

later : (i : ℕ) (ts : List (List ℕ)) → parts_from (i + 1) ts ≡ commas_before ts
later i ts =
    ap (λ k. parts_from k ts) (add-one i)
    ∙ ap (λ b. cond b (join_with_byte char.comma ts) (commas_before ts)) (eqb-suc-zero i)

-- a text so far, with the next part written
pub joined_more : (now after part all : List ℕ) (rest more : List (List ℕ)) (i : ℕ)
    → rest ≡ part ∷ more → after ≡ (now ++ cond (eqb i 0) [] (char.comma ∷ [])) ++ part
    → now ++ parts_from i rest ≡ all → after ++ parts_from (i + 1) more ≡ all
joined_more now after part all rest more i next wrote before =
    ap (λ xs. xs ++ parts_from (i + 1) more) wrote
    ∙ ap (λ xs. ((now ++ cond (eqb i 0) [] (char.comma ∷ [])) ++ part) ++ xs) (later i more)
    ∙ append_assoc (now ++ cond (eqb i 0) [] (char.comma ∷ [])) part (commas_before more)
    ∙ append_assoc now (cond (eqb i 0) [] (char.comma ∷ [])) (part ++ commas_before more)
    ∙ ap (λ xs. now ++ xs) (sym (parts_step (eqb i 0) part more) ∙ ap (parts_from i) (sym next))
    ∙ before

-- and with a part of the next part written
pub part_more : (before all now part after : List ℕ) (rest more : List (List ℕ)) (i : ℕ)
    → rest ≡ part ∷ more → IsBegun before all now → now ++ parts_from i rest ≡ before
    ++ all → IsBegun now (cond (eqb i 0) [] (char.comma ∷ []) ++ part) after
    → IsBegun before all after
part_more before all now part after rest more i next kept begun wrote =
    let comma = cond (eqb i 0) [] (char.comma ∷ []) in
    on before all now (comma ++ part) (commas_before more) after kept
    (ap (λ xs. now ++ xs)
    (append_assoc comma part (commas_before more) ∙ sym (parts_step (eqb i 0) part more)
    ∙ ap (parts_from i) (sym next)) ∙ begun)
    wrote

-- where no part is to come
pub nothing_more : (now before all : List ℕ) (i : ℕ) (rest : List (List ℕ)) → rest ≡ []
    → now ++ parts_from i rest ≡ before ++ all → now ≡ before ++ all
nothing_more now before all i rest none so =
    sym (append-nil now)
    ∙ ap (λ x. now ++ x) (sym (nothing_from (eqb i 0)) ∙ ap (parts_from i) (sym none)) ∙ so
  where
    nothing_from : (first : Bool) → cond first (join_with_byte char.comma []) (commas_before []) ≡ []
    nothing_from true = refl
    nothing_from false = refl
