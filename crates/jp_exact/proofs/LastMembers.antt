-- The last member of each name, found member by member: for `last_members`.
use Rattle.std.proofs.Common.{◌≡◌, ◌<◌, ◌+◌, ℕ, List, [], ◌∷◌, Bor, Ordering, Less, Equal, Greater}
use Rattle.std.proofs.Common.{drop, get_or, length, map, refl, sym, ap, subst, ◌∙◌}
use Rattle.std.specs.BTreeMap.{insert_entry}
use Rattle.std.specs.List.{AllByRecursion, slice_get}
use Rattle.std.specs.Ordering.{match_ordering}
use Rattle.std.proofs.lemmas.List.{drop_more}
use Rattle.std.proofs.lemmas.Option.{slice_get-get_or}
use Rattle.json.specs.Value.{members_view, value_view}
use Rattle.json.specs.declared.value.Value.{Value as Parsed}
use Rattle.jp_document.proofs.Members.ByName.{bytes_cmp}
use Rattle.jp_document.proofs.Members.Inserting.{through}
use Rattle.jp_exact.specs.Private.ExactValue.{StandsBefore, member_there, members_in, value_in, value_of_member}

abbrev Place : Type 0
Place = Bor (List ℕ) × ℕ

-- the order of names by their bytes
abbrev pub name_order : Bor (List ℕ) → Bor (List ℕ) → Ordering
name_order a b = bytes_cmp a.now b.now

-- ---- each place is one of the members

each-by : (P : Place → Type 0) (o : Ordering) (a b c : List Place) → AllByRecursion P a
    → AllByRecursion P b → AllByRecursion P c → AllByRecursion P (match_ordering o a b c)
each-by P Less a b c p q r = p
each-by P Equal a b c p q r = q
each-by P Greater a b c p q r = r

before-put : (n : ℕ) (es : List Place) (k : Bor (List ℕ)) (i : ℕ) → i < n
    → AllByRecursion (StandsBefore n) es
    → AllByRecursion (StandsBefore n) (insert_entry name_order es k i)
before-put n [] k i within all = (within, tt)
before-put n (e ∷ es) k i within all =
    each-by (StandsBefore n) (name_order k e.0) ((k, i) ∷ e ∷ es) ((e.0, i) ∷ es)
    (e ∷ insert_entry name_order es k i) (within, all) (within, all.1)
    (all.0, before-put n es k i within all.1)

pub before-more : (n : ℕ) (es more : List Place) (k : Bor (List ℕ)) (i : ℕ) → i < n
    → more ≡ insert_entry name_order es k i → AllByRecursion (StandsBefore n) es
    → AllByRecursion (StandsBefore n) more
before-more n es more k i within grown all =
    subst (AllByRecursion (StandsBefore n)) (sym grown) (before-put n es k i within all)

-- ---- the members at those places

-- the member that stands there
pub there-at : {A : Type 0} (ms : List (Bor (List ℕ) × Parsed A)) (i : ℕ)
    (d : Bor (List ℕ) × Parsed A) → i < length ms
    → value_of_member (slice_get ms i) ≡ value_in (value_view (get_or ms i d).1)
there-at ms i d within = ap value_of_member (slice_get-get_or ms i d within)

placed : {A : Type 0} (ms : List (Bor (List ℕ) × Parsed A)) (es : List Place) (k : Bor (List ℕ))
    (i : ℕ)
    → map (member_there ms) (insert_entry name_order es k i) ≡
    insert_entry bytes_cmp (map (member_there ms) es) k.now (value_of_member (slice_get ms i))
placed ms [] k i = refl
placed ms (e ∷ es) k i =
    through (map (member_there ms)) (name_order k e.0) ((k, i) ∷ e ∷ es) ((e.0, i) ∷ es)
    (e ∷ insert_entry name_order es k i)
    ∙ ap
    (λ xs. match_ordering (bytes_cmp k.now e.0.now)
    (member_there ms (k, i) ∷ member_there ms e ∷ map (member_there ms) es)
    (member_there ms (e.0, i) ∷ map (member_there ms) es) (member_there ms e ∷ xs))
    (placed ms es k i)

-- one member more
pub last-more : {A : Type 0} (ms : List (Bor (List ℕ) × Parsed A)) (es more : List Place)
    (m : Bor (List ℕ) × Parsed A) (i : ℕ) → i < length ms → m ≡ get_or ms i m
    → more ≡ insert_entry name_order es m.0 i
    → members_in (members_view (drop i ms)) (map (member_there ms) es) ≡
    members_in (members_view (drop (i + 1) ms)) (map (member_there ms) more)
last-more ms es more m i within is grown =
    let rest = members_view (drop (i + 1) ms) in
    ap (λ xs. members_in (members_view xs) (map (member_there ms) es))
    (drop_more ms i m within ∙ ap (λ x. x ∷ drop (i + 1) ms) (sym is))
    ∙ ap (λ v. members_in rest (insert_entry bytes_cmp (map (member_there ms) es) m.0.now v))
    (sym (there-at ms i m within ∙ ap (λ x. value_in (value_view x.1)) (sym is)))
    ∙ ap (members_in rest) (sym (ap (map (member_there ms)) grown ∙ placed ms es m.0 i))
