-- Which lists fit, as one flag for all of a value says it: for the flag of `json_of`.
use Rattle.std.proofs.Common.{◌≡◌, ℕ, suc, Bool, true, false, ◌&&◌, List, []}
use Rattle.std.proofs.Common.{◌∷◌, ◌++◌, length, map, refl, sym, ap, ap₂, ◌∙◌, nat_le}
use Rattle.std.proofs.Math.Bool.{and-false, and-true}
use Rattle.std.proofs.lemmas.List.{length-map, map-append}
use Rattle.std.proofs.lemmas.List.Folds.{list_all-append}
use Rattle.jp_document.proofs.Descent.Inside.{all-items, all-members}
use Rattle.jp_reading.specs.Numbers.{largest_exact}
use Rattle.jp_document.specs.Value.{Value, list, items_of, item_count, members_of}
use Rattle.jp_document.specs.Value.{everywhere, everywhere_in_items}
use Rattle.jp_document.specs.Value.{everywhere_in_members, list_fits, value_of, member_of}
use Rattle.jp_document.specs.declared.value.Json.{Json}
use Rattle.jp_document.specs.declared.value.Member.{Member}

pub item_count-items_of : (vs : List Value) → item_count (items_of vs) ≡ length vs
item_count-items_of [] = refl
item_count-items_of (v ∷ vs) = ap suc (item_count-items_of vs)

pub list_fits-length : (xs : List Json)
    → nat_le (length xs) largest_exact ≡ list_fits (list (items_of (map value_of xs)))
list_fits-length xs =
    ap (λ n. nat_le n largest_exact)
    (sym (item_count-items_of (map value_of xs) ∙ length-map xs value_of))

-- one more part, beside those before it
and-more : (here before old : Bool) → (here && (before && old)) ≡ ((before && here) && old)
and-more here true old = refl
and-more here false old = and-false here

items_fit-push : (vs : List Value) (v : Value)
    → everywhere_in_items list_fits (items_of (vs ++ v ∷ [])) ≡
    (everywhere_in_items list_fits (items_of vs) && everywhere list_fits v)
items_fit-push vs v =
    all-items list_fits (vs ++ v ∷ []) ∙ list_all-append (everywhere list_fits) vs (v ∷ [])
    ∙ ap₂ (λ a b. a && b) (sym (all-items list_fits vs)) (and-true (everywhere list_fits v))

members_fit-push : (ms : List (List ℕ × Value)) (m : List ℕ × Value)
    → everywhere_in_members list_fits (members_of (ms ++ m ∷ [])) ≡
    (everywhere_in_members list_fits (members_of ms) && everywhere list_fits m.1)
members_fit-push ms m =
    all-members list_fits (ms ++ m ∷ [])
    ∙ list_all-append (λ n. everywhere list_fits n.1) ms (m ∷ [])
    ∙ ap₂ (λ a b. a && b) (sym (all-members list_fits ms)) (and-true (everywhere list_fits m.1))

-- the flag after one more item, and after one more member
pub items_fit_more : (done more : List Json) (j : Json) (now after old : Bool)
    → more ≡ done ++ j ∷ []
    → now ≡ (everywhere_in_items list_fits (items_of (map value_of done)) && old)
    → after ≡ (everywhere list_fits (value_of j) && now)
    → after ≡ (everywhere_in_items list_fits (items_of (map value_of more)) && old)
items_fit_more done more j now after old pushed so here =
    here ∙ ap (λ b. everywhere list_fits (value_of j) && b) so
    ∙ and-more (everywhere list_fits (value_of j)) _ old
    ∙ ap (λ b. b && old)
    (sym
    (ap (λ xs. everywhere_in_items list_fits (items_of (map value_of xs))) pushed
    ∙ ap (λ vs. everywhere_in_items list_fits (items_of vs))
    (map-append value_of done (j ∷ [])) ∙ items_fit-push (map value_of done) (value_of j)))

pub members_fit_more : (done more : List Member) (m : Member) (v : Value) (now after old : Bool)
    → more ≡ done ++ m ∷ [] → (member_of m).1 ≡ v
    → now ≡ (everywhere_in_members list_fits (members_of (map member_of done)) && old)
    → after ≡ (everywhere list_fits v && now)
    → after ≡ (everywhere_in_members list_fits (members_of (map member_of more)) && old)
members_fit_more done more m v now after old pushed is so here =
    here ∙ ap (λ b. everywhere list_fits v && b) so ∙ and-more (everywhere list_fits v) _ old
    ∙ ap (λ b. b && old)
    (sym
    (ap (λ xs. everywhere_in_members list_fits (members_of (map member_of xs))) pushed
    ∙ ap (λ ms. everywhere_in_members list_fits (members_of ms))
    (map-append member_of done (m ∷ []))
    ∙ members_fit-push (map member_of done) (member_of m)
    ∙ ap
    (λ w. everywhere_in_members list_fits (members_of (map member_of done))
    && everywhere list_fits w) is))
