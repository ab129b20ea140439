-- Members put in their places, so that their names rise, for the objects that are read from
-- tokens.
use Rattle.std.proofs.Common.{◌++◌, ◌≡◌}
use Rattle.std.proofs.Common.{ℕ, zero, suc, Bool, true, List, [], ◌∷◌, take, drop}
use Rattle.std.proofs.Common.{Greater, is_lt, refl, sym, ap, ◌∙◌}
use Rattle.std.specs.BTreeMap.{insert_entry}
use Rattle.std.specs.List.{insert, list_all}
use Rattle.std.specs.Map.{keys_of}
use Rattle.std.specs.Ordering.{match_ordering, ordering_reverse}
use Rattle.std.proofs.lemmas.Cmp.{nat_list_cmp_total}
use Rattle.jp_document.specs.Value.{Value, members_of}
use Rattle.jp_document.specs.Value.{names_of, names_rise, everywhere, everywhere_in_members}
use Rattle.jp_document.proofs.Members.ByName.{bytes_cmp, Less-from_is_lt, names_of-members_of}
use Rattle.jp_document.proofs.Members.Inserting.{insert_all, keys_rise}
use Rattle.jp_reading.proofs.Conjunctions.{and-left, and-right}
use Rattle.jp_document.proofs.Descent.Inside.{all-members}

abbrev Pair : Type 0
Pair = List ℕ × Value

-- ---- where a name goes

less_is_above : (k n : List ℕ) → is_lt (bytes_cmp n k) ≡ true → bytes_cmp k n ≡ Greater
less_is_above k n h = nat_list_cmp_total.antisymm k n ∙ ap ordering_reverse (Less-from_is_lt _ h)

-- what goes to its place goes there by its name
pub insert_point : (k : List ℕ) (v : Value) (ms : List Pair) (i : ℕ)
    → list_all (λ m. is_lt (bytes_cmp m.0 k)) (take i ms) ≡ true
    → list_all (λ m. is_lt (bytes_cmp k m.0)) (drop i ms) ≡ true
    → insert ms i (k, v) ≡ insert_entry bytes_cmp ms k v
insert_point k v [] zero below above = refl
insert_point k v [] (suc i) below above = refl
insert_point k v (m ∷ ms) zero below above =
    sym
    (ap
    (λ o. match_ordering o ((k, v) ∷ m ∷ ms) ((m.0, v) ∷ ms)
    (m ∷ insert_entry bytes_cmp ms k v)) (Less-from_is_lt _ (and-left _ _ above)))
insert_point k v (m ∷ ms) (suc i) below above =
    ap (λ ns. m ∷ ns) (insert_point k v ms i (and-right _ _ below) above)
    ∙ sym
    (ap
    (λ o. match_ordering o ((k, v) ∷ m ∷ ms) ((m.0, v) ∷ ms)
    (m ∷ insert_entry bytes_cmp ms k v)) (less_is_above k m.0 (and-left _ _ below)))

below_middle : (n : List ℕ) (ms : List Pair) (m : Pair) (rest : List Pair)
    → list_all (λ k. is_lt (bytes_cmp n k)) (keys_of (ms ++ m ∷ rest)) ≡ true
    → is_lt (bytes_cmp n m.0) ≡ true
below_middle n [] m rest h = and-left _ _ h
below_middle n (x ∷ ms) m rest h = below_middle n ms m rest (and-right _ _ h)

-- a name above all goes last
pub insert_last : (k : List ℕ) (v : Value) (ms rest : List Pair)
    → names_rise (keys_of (ms ++ (k, v) ∷ rest)) ≡ true
    → insert_entry bytes_cmp ms k v ≡ ms ++ (k, v) ∷ []
insert_last k v [] rest rise = refl
insert_last k v (m ∷ ms) rest rise =
    ap (λ o. match_ordering o ((k, v) ∷ m ∷ ms) ((m.0, v) ∷ ms) (m ∷ insert_entry bytes_cmp ms k v))
    (less_is_above k m.0 (below_middle m.0 ms (k, v) rest (and-left _ _ rise)))
    ∙ ap (λ ns. m ∷ ns) (insert_last k v ms rest (and-right _ _ rise))

-- ---- what one member more keeps

pub insert_sound : (p : Value → Bool) (ms : List Pair) (k : List ℕ) (v : Value)
    → everywhere_in_members p (members_of ms) ≡ true → everywhere p v ≡ true
    → everywhere_in_members p (members_of (insert_entry bytes_cmp ms k v)) ≡ true
insert_sound p ms k v h here =
    all-members p (insert_entry bytes_cmp ms k v)
    ∙ insert_all (everywhere p) ms k v (sym (all-members p ms) ∙ h) here

pub insert_rises : (ms : List Pair) (k : List ℕ) (v : Value)
    → names_rise (names_of (members_of ms)) ≡ true
    → names_rise (names_of (members_of (insert_entry bytes_cmp ms k v))) ≡ true
insert_rises ms k v rise =
    ap names_rise (names_of-members_of (insert_entry bytes_cmp ms k v))
    ∙ keys_rise ms k v (sym (ap names_rise (names_of-members_of ms)) ∙ rise)
