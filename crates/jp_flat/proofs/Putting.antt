-- Members put one by one among others whose names rise: for `put` and `put_each`.
use Rattle.std.proofs.Common.{◌≡◌, ◌++◌, ◌∷◌, ◌<◌, ◌≤◌, ℕ, zero, suc, Bool, true, List, [], length}
use Rattle.std.proofs.Common.{Option, Some, Ordering, Less, Equal, Greater, Err, is_lt, get_or}
use Rattle.std.proofs.Common.{map, option_map, option_and_then, take, drop, refl, sym, ap, subst, ◌∙◌}
use Rattle.std.proofs.Common.{arith, unwrap_or}
use Rattle.std.specs.BTreeMap.{insert_entry}
use Rattle.std.specs.List.{insert, list_all}
use Rattle.std.specs.List.Sorted.{IsBinarySearchResult, IsStrictlySortedBy}
use Rattle.std.specs.Map.{keys_of}
use Rattle.std.specs.Ordering.{match_ordering, ordering_reverse}
use Rattle.std.proofs.Math.ListN.{set}
use Rattle.std.proofs.lemmas.Bool.{and_from}
use Rattle.std.proofs.lemmas.Cmp.{nat_list_cmp_total}
use Rattle.std.proofs.lemmas.Map.Lookups.{exact_bytes}
use Rattle.std.proofs.lemmas.Option.{same_Some}
use Rattle.jp_document.specs.Value.{Value, names_rise, null}
use Rattle.jp_reading.proofs.Conjunctions.{and-left, and-right}
use Rattle.jp_document.proofs.Members.ByName.{Less-from_is_lt, bytes_cmp, searchable, sorted_from_rise}
use Rattle.jp_document.proofs.Members.Inserting.{keys_rise}
use Rattle.jp_flat.proofs.Inserting.{insert_point}
use Rattle.jp_document.proofs.Options.{some_from_both}
use Rattle.jp_flat.specs.Flat.{Shown, all_of, member_with, text_at}
use Rattle.jp_flat.specs.Private.Parts.{name_in}
use Rattle.jp_flat.specs.Private.Reading.{put_all}
use Rattle.jp_flat.specs.Private.Sorting.{Puts, PutsAll}
use Rattle.jp_flat.specs.declared.item.Item.{Item}
use Rattle.jp_flat.specs.declared.item.Named.{Named}
use Rattle.jp_flat.proofs.Growth.{length-all_of}
use Rattle.jp_flat.proofs.Names.{Pair, all_of_last, put_all-push}

-- ---- names of members

named_as : (f : Item → Option Value) (t : Shown) (m : Named) (p : Pair)
    → member_with f t m ≡ Some p → name_in t m ≡ p.0
named_as f t m p is =
    let h = some_from_both (λ name v. (name, v)) (text_at t m.name) (f m.item) p is in
    ap (λ o. unwrap_or o []) h.2 ∙ ap (λ q. q.0) h.4

-- a member by its name alone
abbrev by_name : Shown → Named → List ℕ × Value
by_name t m = (name_in t m, null)

keys-by_name : (t : Shown) (xs : List Named) → keys_of (map (by_name t) xs) ≡ map (name_in t) xs
keys-by_name t [] = refl
keys-by_name t (x ∷ xs) = ap (λ ns. name_in t x ∷ ns) (keys-by_name t xs)

pub keys-named : (f : Item → Option Value) (t : Shown) (xs : List Named) (ps : List Pair)
    → all_of (member_with f t) xs ≡ Some ps → map (name_in t) xs ≡ keys_of ps
keys-named f t [] ps is = ap keys_of (same_Some [] ps is)
keys-named f t (x ∷ xs) ps is =
    let h = some_from_both (λ y ys. y ∷ ys) (member_with f t x) (all_of (member_with f t) xs) ps is
    in
    ap (λ n. n ∷ map (name_in t) xs) (named_as f t x h.0 h.2)
    ∙ ap (λ ns. h.0.0 ∷ ns) (keys-named f t xs h.1 h.3) ∙ ap keys_of h.4

name-at : (f : Item → Option Value) (t : Shown) (xs : List Named) (ps : List Pair) (k : ℕ)
    (d : Named) (e : Pair) → all_of (member_with f t) xs ≡ Some ps → k < length xs
    → name_in t (get_or xs k d) ≡ (get_or ps k e).0
name-at f t [] ps k d e is within = absurd (omega (arith, within))
name-at f t (x ∷ xs) ps zero d e is within =
    let h = some_from_both (λ y ys. y ∷ ys) (member_with f t x) (all_of (member_with f t) xs) ps is
    in
    named_as f t x h.0 h.2 ∙ ap (λ ys. (get_or ys 0 e).0) h.4
name-at f t (x ∷ xs) ps (suc k) d e is within =
    let h = some_from_both (λ y ys. y ∷ ys) (member_with f t x) (all_of (member_with f t) xs) ps is
    in
    name-at f t xs h.1 k d e h.3 (omega (arith, within)) ∙ ap (λ ys. (get_or ys (suc k) e).0) h.4

-- ---- lists by their positions

all_before : {A : Type 0} (p : A → Bool) (xs : List A) (i : ℕ)
    → ((k : ℕ) (d : A) → k < i → k < length xs → p (get_or xs k d) ≡ true)
    → list_all p (take i xs) ≡ true
all_before p [] zero each = refl
all_before p [] (suc i) each = refl
all_before p (x ∷ xs) zero each = refl
all_before p (x ∷ xs) (suc i) each =
    and_from _ _ (each 0 x (omega arith) (omega arith))
    (all_before p xs i (λ k d low within. each (suc k) d (omega arith) (omega arith)))

all_from : {A : Type 0} (p : A → Bool) (xs : List A) (i : ℕ)
    → ((k : ℕ) (d : A) → i ≤ k → k < length xs → p (get_or xs k d) ≡ true)
    → list_all p (drop i xs) ≡ true
all_from p [] zero each = refl
all_from p [] (suc i) each = refl
all_from p (x ∷ xs) zero each =
    and_from _ _ (each 0 x (omega arith) (omega arith))
    (all_from p xs zero (λ k d low within. each (suc k) d (omega arith) (omega arith)))
all_from p (x ∷ xs) (suc i) each =
    all_from p xs i (λ k d low within. each (suc k) d (omega arith) (omega arith))

all_of-insert : {A B : Type 0} (g : A → Option B) (xs : List A) (ys : List B) (i : ℕ) (x : A)
    (y : B) → all_of g xs ≡ Some ys → g x ≡ Some y
    → all_of g (insert xs i x) ≡ Some (insert ys i y)
all_of-insert g [] ys zero x y is here =
    let none : [] ≡ ys = same_Some [] ys is in
    ap (option_and_then (λ z. Some (z ∷ []))) here ∙ ap (λ zs. Some (insert zs 0 y)) none
all_of-insert g [] ys (suc i) x y is here =
    let none : [] ≡ ys = same_Some [] ys is in
    ap (option_and_then (λ z. Some (z ∷ []))) here ∙ ap (λ zs. Some (insert zs (suc i) y)) none
all_of-insert g (w ∷ xs) ys zero x y is here =
    ap (option_and_then (λ z. option_map (λ zs. z ∷ zs) (all_of g (w ∷ xs)))) here
    ∙ ap (option_map (λ zs. y ∷ zs)) is
all_of-insert g (w ∷ xs) ys (suc i) x y is here =
    let h = some_from_both (λ y ys. y ∷ ys) (g w) (all_of g xs) ys is in
    ap (option_and_then (λ z. option_map (λ zs. z ∷ zs) (all_of g (insert xs i x)))) h.2
    ∙ ap (option_map (λ zs. h.0 ∷ zs)) (all_of-insert g xs h.1 i x y h.3 here)
    ∙ ap (λ zs. Some (insert zs (suc i) y)) h.4

all_of-set : {A B : Type 0} (g : A → Option B) (xs : List A) (ys : List B) (i : ℕ) (x : A) (y : B)
    → all_of g xs ≡ Some ys → g x ≡ Some y → all_of g (set xs i x) ≡ Some (set ys i y)
all_of-set g [] ys i x y is here =
    let none : [] ≡ ys = same_Some [] ys is in ap (λ zs. Some (set zs i y)) none
all_of-set g (w ∷ xs) ys zero x y is here =
    let h = some_from_both (λ y ys. y ∷ ys) (g w) (all_of g xs) ys is in
    ap (option_and_then (λ z. option_map (λ zs. z ∷ zs) (all_of g xs))) here
    ∙ ap (option_map (λ zs. y ∷ zs)) h.3 ∙ ap (λ zs. Some (set zs 0 y)) h.4
all_of-set g (w ∷ xs) ys (suc i) x y is here =
    let h = some_from_both (λ y ys. y ∷ ys) (g w) (all_of g xs) ys is in
    ap (option_and_then (λ z. option_map (λ zs. z ∷ zs) (all_of g (set xs i x)))) h.2
    ∙ ap (option_map (λ zs. h.0 ∷ zs)) (all_of-set g xs h.1 i x y h.3 here)
    ∙ ap (λ zs. Some (set zs (suc i) y)) h.4

-- ---- where a name is, or goes

all_at : (q : List ℕ → Bool) (ps : List Pair) (i : ℕ) (e : Pair) → list_all q (keys_of ps) ≡ true
    → i < length ps → q (get_or ps i e).0 ≡ true
all_at q [] i e all within = absurd (omega (arith, within))
all_at q (p ∷ ps) zero e all within = and-left _ _ all
all_at q (p ∷ ps) (suc i) e all within = all_at q ps i e (and-right _ _ all) (omega (arith, within))

pub own_reverse : (o : Ordering) → o ≡ ordering_reverse o → o ≡ Equal
own_reverse Less is = absurd (cc)
own_reverse Equal is = refl
own_reverse Greater is = absurd (cc)

-- a member goes instead of one of its name
replace_at : (ps : List Pair) (i : ℕ) (e : Pair) (k : List ℕ) (v : Value)
    → names_rise (keys_of ps) ≡ true → i < length ps → (get_or ps i e).0 ≡ k
    → insert_entry bytes_cmp ps k v ≡ set ps i (k, v)
replace_at [] i e k v rise within at = absurd (omega (arith, within))
replace_at (p ∷ ps) zero e k v rise within at =
    ap (λ o. match_ordering o ((k, v) ∷ p ∷ ps) ((p.0, v) ∷ ps) (p ∷ insert_entry bytes_cmp ps k v))
    (ap (bytes_cmp k) at ∙ own_reverse (bytes_cmp k k) (nat_list_cmp_total.antisymm k k))
    ∙ ap (λ n. (n, v) ∷ ps) at
replace_at (p ∷ ps) (suc i) e k v rise within at =
    let below : is_lt (bytes_cmp p.0 k) ≡ true =
    ap (λ n. is_lt (bytes_cmp p.0 n)) (sym at)
    ∙ all_at (λ n. is_lt (bytes_cmp p.0 n)) ps i e (and-left _ _ rise) (omega (arith, within)) in
    ap (λ o. match_ordering o ((k, v) ∷ p ∷ ps) ((p.0, v) ∷ ps) (p ∷ insert_entry bytes_cmp ps k v))
    (nat_list_cmp_total.antisymm k p.0 ∙ ap ordering_reverse (Less-from_is_lt _ below))
    ∙ ap (λ qs. p ∷ qs)
    (replace_at ps i e k v (and-right _ _ rise) (omega (arith, within)) at)

pub put-hit : (t : Shown) (m : Named) (q : List ℕ) (xs : List Named) (i : ℕ)
    → text_at t m.name ≡ Some q → i < length xs
    → ((d : Named) → bytes_cmp (name_in t (get_or xs i d)) q ≡ Equal) → Puts t m xs (set xs i m)
put-hit t m q xs i named within equal f ps p is rise here =
    let name : q ≡ p.0 =
    ap (λ o. unwrap_or o []) (sym named) ∙ named_as f t m p here in
    let long : length ps ≡ length xs = length-all_of (member_with f t) xs ps is in
    let at : (get_or ps i p).0 ≡ p.0 =
    sym (name-at f t xs ps i m p is within)
    ∙ exact_bytes (name_in t (get_or xs i m)) q (equal m) ∙ name in
    all_of-set (member_with f t) xs ps i m p is here
    ∙ ap Some
    (sym (replace_at ps i p p.0 p.1 rise (omega (arith, long, within)) at))

pub put-missed : (t : Shown) (m : Named) (q : List ℕ) (xs : List Named) (i : ℕ)
    → text_at t m.name ≡ Some q
    → IsBinarySearchResult (λ x. bytes_cmp (name_in t x) q) xs (Err i) → Puts t m xs (insert xs i m)
put-missed t m q xs i named miss f ps p is rise here =
    let name : q ≡ p.0 =
    ap (λ o. unwrap_or o []) (sym named) ∙ named_as f t m p here in
    let long : length ps ≡ length xs = length-all_of (member_with f t) xs ps is in
    let sorted : IsStrictlySortedBy bytes_cmp (keys_of (map (by_name t) xs)) =
    subst (IsStrictlySortedBy bytes_cmp) (sym (keys-by_name t xs ∙ keys-named f t xs ps is))
    (sorted_from_rise (keys_of ps) rise) in
    let parts = miss (searchable (by_name t) q xs sorted) in
    let below =
    all_before (λ z. is_lt (bytes_cmp z.0 p.0)) ps i
    (λ k d low within. ap (λ n. is_lt (bytes_cmp n p.0))
    (sym (name-at f t xs ps k m d is (omega (arith, long, within))))
    ∙ ap (λ n. is_lt (bytes_cmp (name_in t (get_or xs k m)) n)) (sym name)
    ∙ ap is_lt (parts.0 k m (omega arith) low)) in
    let above =
    all_from (λ z. is_lt (bytes_cmp p.0 z.0)) ps i
    (λ k d low within. ap (λ n. is_lt (bytes_cmp p.0 n))
    (sym (name-at f t xs ps k m d is (omega (arith, long, within))))
    ∙ ap (λ n. is_lt (bytes_cmp n (name_in t (get_or xs k m)))) (sym name)
    ∙ ap is_lt
    (nat_list_cmp_total.antisymm q (name_in t (get_or xs k m))
    ∙ ap ordering_reverse (parts.1 k m low (omega (arith, long, within))))) in
    all_of-insert (member_with f t) xs ps i m p is here
    ∙ ap Some (insert_point p.0 p.1 ps i below above)

-- ---- one after another

put_all-rise : (found ms : List Pair) → names_rise (keys_of found) ≡ true
    → names_rise (keys_of (put_all found ms)) ≡ true
put_all-rise found [] rise = rise
put_all-rise found (m ∷ ms) rise =
    put_all-rise (insert_entry bytes_cmp found m.0 m.1) ms (keys_rise found m.0 m.1 rise)

pub puts_none : (t : Shown) → PutsAll t [] []
puts_none t f ms is = ap (λ ps. Some (put_all [] ps)) (same_Some [] ms is)

pub puts_more : (t : Shown) (members before after : List Named) (m : Named)
    → Puts t m before after → PutsAll t members before → PutsAll t (members ++ m ∷ []) after
puts_more t members before after m one so f ms is =
    let h = all_of_last (member_with f t) members m ms is in
    one f (put_all [] h.0) h.1 (so f h.0 h.3) (put_all-rise [] h.0 refl) h.4
    ∙ ap Some (sym (put_all-push [] h.0 h.1)) ∙ ap (λ ps. Some (put_all [] ps)) (sym h.2)
