-- Values in which names rise are equal where they are the same.
use Rattle.std.proofs.Common.{◌≡◌, ◌↔◌, ℕ, zero, suc, List, [], ◌∷◌, length, Option, Some}
use Rattle.std.proofs.Common.{None, Ordering, Less, Equal, Greater, Bool, true, false}
use Rattle.std.proofs.Common.{is_eq, cond, inl, inr, refl, sym, ap, subst, ◌∙◌, arith}
use Rattle.std.specs.BTreeMap.{is_at}
use Rattle.std.specs.List.{AllByRecursion, slice_get}
use Rattle.std.specs.List.Sorted.{IsStrictlySortedBy}
use Rattle.std.specs.Map.{keys_of, lookup}
use Rattle.std.specs.Option.{is_some}
use Rattle.std.specs.Ordering.{ordering_reverse}
use Rattle.std.proofs.lemmas.Bool.{cases_Bool}
use Rattle.std.proofs.lemmas.Cmp.{tied_itself}
use Rattle.std.proofs.lemmas.Map.Entries.{place_from_lookup}
use Rattle.std.proofs.lemmas.Map.Keys.{sorted_head, sorted_tail}
use Rattle.std.proofs.lemmas.Map.Views.{tells_apart}
use Rattle.std.proofs.lemmas.Option.{same_Some}
use Rattle.jp_document.specs.Location.{Step, named, nth, step_cmp, items_from}
use Rattle.jp_document.specs.Location.{members_by_name, entries, child}
use Rattle.jp_document.specs.Value.{Value, null, boolean, whole, decimal, text, list, object}
use Rattle.jp_document.specs.Value.{Items, no_items, item, item_count, Members}
use Rattle.jp_document.specs.Value.{no_members, member, has_rising_names, NamesRise}
use Rattle.jp_document.proofs.Descent.Inside.{everywhere-child}
use Rattle.jp_document.proofs.Descent.Steps.{step_cmp_total, step_exact}
use Rattle.jp_document.proofs.Descent.Entries.{entries-rise_by_names}
use Rattle.jp_document.proofs.Members.ByName.{child-list_named, child-object_nth}
use Rattle.jp_select.specs.Comparison.{equals}
use Rattle.jp_select.specs.Equality.{IsEqual, nulls, truths, numbers, decimals, texts, lists}
use Rattle.jp_select.specs.Equality.{objects}
use Rattle.jp_select.specs.Laws.{EqualsIsExact}
use Rattle.jp_select.proofs.Items.{child-item, item_list, length-item_list}
use Rattle.jp_select.proofs.Locations.{by_children}
use Rattle.jp_select.proofs.Comparisons.Sameness.{equals_is, equals_itself}

-- ---- entries whose steps rise are the same where they answer alike

abbrev Entries : Type 0
Entries = List (Step × Value)

abbrev value_under : Step → Entries → Option Value
value_under k es = lookup (is_at (step_cmp k)) es

abbrev AllAbove : Step → Entries → Type 0
AllAbove k es = AllByRecursion (λ j. step_cmp k j ≡ Less) (keys_of es)

found_by : (o : Ordering) (e : Step × Value) (es : Entries) (k : Step) → step_cmp k e.0 ≡ o
    → value_under k (e ∷ es) ≡ cond (is_eq o) (Some e.1) (value_under k es)
found_by o e es k is = ap (λ r. cond (is_eq r) (Some e.1) (value_under k es)) is

found_first : (e : Step × Value) (es : Entries) → value_under e.0 (e ∷ es) ≡ Some e.1
found_first e es = found_by Equal e es e.0 (tied_itself step_cmp_total e.0)

none_above : (k : Step) (es : Entries) → AllAbove k es → value_under k es ≡ None
none_above k [] h = refl
none_above k (e ∷ es) h = found_by Less e es k h.0 ∙ none_above k es h.1

all_above : (k j : Step) (es : Entries) → step_cmp k j ≡ Less → AllAbove j es → AllAbove k es
all_above k j [] less h = tt
all_above k j (e ∷ es) less h = (step_cmp_total.trans k j e.0 less h.0, all_above k j es less h.1)

none_before : (k : Step) (f : Step × Value) (fs : Entries) → step_cmp k f.0 ≡ Less
    → IsStrictlySortedBy step_cmp (keys_of (f ∷ fs)) → value_under k (f ∷ fs) ≡ None
none_before k f fs less rise =
    none_above k (f ∷ fs)
    (less, all_above k f.0 fs less (sorted_head step_cmp f.0 (keys_of fs) rise))

-- past a first entry at one key the others answer alike too
found_after : (k : Step) (e f : Step × Value) (es fs : Entries) → e.0 ≡ f.0 → AllAbove e.0 es
    → AllAbove f.0 fs → value_under k (e ∷ es) ≡ value_under k (f ∷ fs)
    → value_under k es ≡ value_under k fs
found_after k e f es fs key above over alike =
    elim (cases_Bool (is_eq (step_cmp k e.0))) [
      | inl h ↦
          let here : k ≡ e.0 = tells_apart step_exact k e.0 h in
          none_above k es (subst (λ j. AllAbove j es) (sym here) above)
          ∙ sym (none_above k fs (subst (λ j. AllAbove j fs) (sym (here ∙ key)) over))
      | inr h ↦
          ap (λ b. cond b (Some e.1) (value_under k es)) (sym h) ∙ alike
          ∙ ap (λ b. cond b (Some f.1) (value_under k fs))
          (ap (λ j. is_eq (step_cmp k j)) (sym key) ∙ h)
    ]

same_entries : (es fs : Entries) → IsStrictlySortedBy step_cmp (keys_of es)
    → IsStrictlySortedBy step_cmp (keys_of fs) → ((k : Step) → value_under k es ≡ value_under k fs)
    → es ≡ fs
same_entries [] [] rise up alike = refl
same_entries [] (f ∷ fs) rise up alike =
    let e : None ≡ Some f.1 = alike f.0 ∙ found_first f fs in absurd (cc)
same_entries (e ∷ es) [] rise up alike =
    let f : Some e.1 ≡ None = sym (found_first e es) ∙ alike e.0 in absurd (cc)
same_entries (e ∷ es) (f ∷ fs) rise up alike =
    elim (step_cmp e.0 f.0) as (λ o. step_cmp e.0 f.0 ≡ o → e ∷ es ≡ f ∷ fs) [
      | Less ↦
          λ is. let no : Some e.1 ≡ None =
          sym (found_first e es) ∙ alike e.0 ∙ none_before e.0 f fs is up in absurd (cc)
      | Greater ↦ λ is.
          let less : step_cmp f.0 e.0 ≡ Less =
          step_cmp_total.antisymm f.0 e.0 ∙ ap ordering_reverse is in
          let no : None ≡ Some f.1 =
          sym (none_before f.0 e es less rise) ∙ alike f.0 ∙ found_first f fs in
          absurd (cc)
      | Equal ↦ λ is.
          let key : e.0 ≡ f.0 = step_exact e.0 f.0 is in
          let value : e.1 ≡ f.1 =
          same_Some _ _ (sym (found_first e es) ∙ alike e.0 ∙ found_by Equal f fs e.0 is) in
          let above = sorted_head step_cmp e.0 (keys_of es) rise in
          let over = sorted_head step_cmp f.0 (keys_of fs) up in
          let more : es ≡ fs =
          same_entries es fs (sorted_tail step_cmp e.0 (keys_of es) rise)
          (sorted_tail step_cmp f.0 (keys_of fs) up)
          (λ k. found_after k e f es fs key above over (alike k)) in
          λ i. (key i, value i) ∷ more i
    ] refl

-- ---- values are the same where their children are

abbrev items_back : Entries → Items
items_back [] = no_items
items_back (e ∷ es) = item e.1 (items_back es)

items_back-from : (n : ℕ) (vs : Items) → items_back (items_from n vs) ≡ vs
items_back-from n no_items = refl
items_back-from n (item v vs) = ap (item v) (items_back-from (suc n) vs)

abbrev name_in : Step → List ℕ
name_in (named n) = n
name_in (nth i) = []

abbrev members_back : Entries → Members
members_back [] = no_members
members_back (e ∷ es) = member (name_in e.0) e.1 (members_back es)

members_back-by_name : (ms : Members) → members_back (members_by_name ms) ≡ ms
members_back-by_name no_members = refl
members_back-by_name (member n v ms) = ap (member n v) (members_back-by_name ms)

abbrev Alike : Value → Value → Type 0
Alike v w = (k : Step) → child v k ≡ child w k

entries-alike : (v w : Value) → NamesRise v → NamesRise w → Alike v w
    → entries v ≡ entries w
entries-alike v w rise up alike =
    same_entries (entries v) (entries w) (entries-rise_by_names v rise)
    (entries-rise_by_names w up) alike

same_list : (vs ws : Items) → NamesRise (list vs) → NamesRise (list ws)
    → Alike (list vs) (list ws) → list vs ≡ list ws
same_list vs ws rise up alike =
    ap list
    (sym (items_back-from 0 vs)
    ∙ ap items_back (entries-alike (list vs) (list ws) rise up alike)
    ∙ items_back-from 0 ws)

same_object : (ms ns : Members) → NamesRise (object ms) → NamesRise (object ns)
    → Alike (object ms) (object ns) → object ms ≡ object ns
same_object ms ns rise up alike =
    ap object
    (sym (members_back-by_name ms)
    ∙ ap members_back (entries-alike (object ms) (object ns) rise up alike)
    ∙ members_back-by_name ns)

-- ---- children at one step

alike_options : (o p : Option Value) → is_some o ≡ is_some p
    → ((v w : Value) → o ≡ Some v → p ≡ Some w → v ≡ w) → o ≡ p
alike_options None None same each = refl
alike_options None (Some w) same each = absurd (cc)
alike_options (Some v) None same each = absurd (cc)
alike_options (Some v) (Some w) same each = ap Some (each v w refl refl)

get_alike : (xs ys : List Value) (i : ℕ) → length xs ≡ length ys
    → is_some (slice_get xs i) ≡ is_some (slice_get ys i)
get_alike [] [] i same = refl
get_alike [] (y ∷ ys) i same = absurd (omega arith)
get_alike (x ∷ xs) [] i same = absurd (omega arith)
get_alike (x ∷ xs) (y ∷ ys) zero same = refl
get_alike (x ∷ xs) (y ∷ ys) (suc i) same = get_alike xs ys i (omega arith)

item_alike : (vs ws : Items) (i : ℕ) → item_count vs ≡ item_count ws
    → is_some (child (list vs) (nth i)) ≡ is_some (child (list ws) (nth i))
item_alike vs ws i same =
    ap is_some (child-item vs i)
    ∙ get_alike (item_list vs) (item_list ws) i
    (length-item_list vs ∙ same ∙ sym (length-item_list ws))
    ∙ sym (ap is_some (child-item ws i))

Bool-from_both : (a b : Bool) → (a ≡ true) ↔ (b ≡ true) → a ≡ b
Bool-from_both true b h = sym (h.0 refl)
Bool-from_both false true h = h.1 refl
Bool-from_both false false h = refl

-- ---- equal values are the same

by_child : (P : Value → Type 0)
    → ((v : Value) → ((k : Step) (w : Value) → child v k ≡ Some w → P w) → P v) → (v : Value) → P v
by_child P step = by_children P (λ v each. step v (λ k w is.
    let at = place_from_lookup (is_at (step_cmp k)) (entries v) w is in
    each at.0 at.1 w at.2))

abbrev IsOnly : Value → Type 0
IsOnly v = (w : Value) → NamesRise v → NamesRise w → IsEqual v w → v ≡ w

abbrev ChildrenAreOnly : Value → Type 0
ChildrenAreOnly v = (k : Step) (u : Value) → child v k ≡ Some u → IsOnly u

only_child : (v w a b : Value) (k : Step) → ChildrenAreOnly v → NamesRise v
    → NamesRise w → child v k ≡ Some a → child w k ≡ Some b → IsEqual a b → a ≡ b
only_child v w a b k each rise up first second =
    each k a first b (everywhere-child has_rising_names v a k rise first)
    (everywhere-child has_rising_names w b k up second)

only_from_children : (v w : Value) → IsEqual v w → ChildrenAreOnly v → NamesRise v
    → NamesRise w → v ≡ w
only_from_children _ _ nulls each rise up = refl
only_from_children _ _ (truths b) each rise up = refl
only_from_children _ _ (numbers z) each rise up = refl
only_from_children _ _ (decimals c e) each rise up = refl
only_from_children _ _ (texts s) each rise up = refl
only_from_children _ _ (lists vs ws count items) each rise up =
    same_list vs ws rise up alike
  where
    alike : Alike (list vs) (list ws)
    alike (named n) = child-list_named n vs ∙ sym (child-list_named n ws)
    alike (nth i) =
        alike_options (child (list vs) (nth i)) (child (list ws) (nth i)) (item_alike vs ws i count)
        (λ a b first second. only_child (list vs) (list ws) a b (nth i) each rise up first
        second (items i a b first second))
only_from_children _ _ (objects ms ns names values) each rise up =
    same_object ms ns rise up alike
  where
    alike : Alike (object ms) (object ns)
    alike (named n) =
        alike_options (child (object ms) (named n)) (child (object ns) (named n))
        (Bool-from_both _ _ (names n))
        (λ a b first second. only_child (object ms) (object ns) a b (named n) each rise up
        first second (values n a b first second))
    alike (nth i) = child-object_nth i ms ∙ sym (child-object_nth i ns)

is_only : (v : Value) → IsOnly v
is_only =
    by_child IsOnly
    (λ v each w rise up equal. only_from_children v w equal each rise up)

-- ---- and each value is equal to itself

equal_itself : (v : Value) → IsEqual v v
equal_itself = by_child (λ v. IsEqual v v) from_children
  where
    from_children : (v : Value) → ((k : Step) (w : Value) → child v k ≡ Some w → IsEqual w w)
        → IsEqual v v
    from_children null each = nulls
    from_children (boolean b) each = truths b
    from_children (whole z) each = numbers z
    from_children (decimal c e) each = decimals c e
    from_children (text s) each = texts s
    from_children (list vs) each =
        lists vs vs refl
        (λ i v w first second. subst (IsEqual v) (same_Some v w (sym first ∙ second))
        (each (nth i) v first))
    from_children (object ms) each =
        objects ms ms (λ n. (λ h. h, λ h. h))
        (λ n v w first second. subst (IsEqual v) (same_Some v w (sym first ∙ second))
        (each (named n) v first))

pub equality_law : EqualsIsExact
equality_law v w rise up = (
  λ h. subst (IsEqual v) (same_Some v w (equals_is (Some v) (Some w) h)) (equal_itself v),
  λ h. ap (λ u. equals (Some v) (Some u)) (sym (is_only v w rise up h))
      ∙ equals_itself (Some v),
)
