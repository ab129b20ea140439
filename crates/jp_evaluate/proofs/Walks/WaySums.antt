-- Sums over the ways that lead to values.
use Rattle.std.proofs.Common.{◌≡◌, ◌<◌, ◌+◌, ◌*◌, ℕ, zero, suc, Bool, true, false, List, [], ◌∷◌, ◌++◌}
use Rattle.std.proofs.Common.{Option, Some, None, Ordering, Less, Equal, Greater, is_eq, refl, ap, ap₂, sym, subst, ◌∙◌, arith, All}
use Rattle.std.proofs.Common.{length, cond, get_or, set, take}
use Rattle.std.specs.List.{sum_by}
use Rattle.std.specs.Map.{lookup, remove_entry}
use Rattle.std.specs.BTreeMap.{BTreeMap, insert_entry, is_at}
use Rattle.std.specs.Option.{option_map_or}
use Rattle.std.specs.Ordering.{match_ordering}
use Rattle.std.proofs.lemmas.List.Elements.{All-cons, All-head, All-nil, All-pop, All-tail}
use Rattle.std.proofs.lemmas.List.Sums.{fold_more, sum_by-cons, sum_by_push}
use Rattle.jp_document.specs.Location.{Step, child, step_of}
use Rattle.jp_document.specs.contracts.location.StepOrd.TheImpl.{ghosts as steps}
use Rattle.jp_document.specs.declared.location.Step as code
use Rattle.jp_document.proofs.Descent.Steps.{step_exact}
use Rattle.jp_document.specs.Value.{Value}
use Rattle.jp_evaluate.specs.declared.tally.Place.{Place}
use Rattle.jp_evaluate.specs.declared.tally.Way.{Way}
use Rattle.jp_evaluate.specs.declared.tally.Ways.{Ways}
use Rattle.jp_evaluate.specs.Private.Tally.{ByStep, Counts, all_ways, capped, children_sum, inside}
use Rattle.jp_evaluate.specs.Private.Tally.{places_sum, ways_sum}
use Rattle.jp_evaluate.proofs.Walks.Capped.{capped_more}
use Rattle.jp_evaluate.proofs.Walks.Locations.{step-order}

-- ---- entries of a map

-- an entry that is taken out
pub sum-remove : {K X : Type 0} (h : K × X → ℕ) (g : X → ℕ) (test : K → Bool) (es : List (K × X))
    → ((e : K × X) → test e.0 ≡ true → h e ≡ g e.1)
    → sum_by h es ≡ option_map_or g (lookup test es) 0 + sum_by h (remove_entry test es)
sum-remove h g test [] same = omega arith
sum-remove h g test (e ∷ es) same =
    decided (test e.0) refl (sum-remove h g test es same)
  where
    decided : (b : Bool) → test e.0 ≡ b
        → sum_by h es ≡ option_map_or g (lookup test es) 0 + sum_by h (remove_entry test es)
        → sum_by h (e ∷ es) ≡ option_map_or g (cond b (Some e.1) (lookup test es)) 0
        + sum_by h (cond b es (e ∷ remove_entry test es))
    decided true is rest =
        let here = sum_by-cons h e es in
        let this = same e is in
        omega arith
    decided false is rest =
        let here = sum_by-cons h e es in
        let there = sum_by-cons h e (remove_entry test es) in
        omega arith

-- an entry that is put in
pub sum-insert : {K X : Type 0} (h : K × X → ℕ) (cmp : K → K → Ordering) (es : List (K × X)) (k : K)
    (x : X) → lookup (is_at (cmp k)) es ≡ None
    → sum_by h (insert_entry cmp es k x) ≡ h (k, x) + sum_by h es
sum-insert h cmp [] k x absent = sum_by-cons h (k, x) []
sum-insert h cmp (e ∷ es) k x absent = decided (cmp k e.0) refl (sum-insert h cmp es k x) absent
  where
    decided : (o : Ordering) → cmp k e.0 ≡ o
        → (lookup (is_at (cmp k)) es ≡ None
        → sum_by h (insert_entry cmp es k x) ≡ h (k, x) + sum_by h es)
        → cond (is_eq o) (Some e.1) (lookup (is_at (cmp k)) es) ≡ None
        → sum_by h (match_ordering o ((k, x) ∷ e ∷ es) ((e.0, x) ∷ es) (e ∷ insert_entry cmp es k x))
        ≡ h (k, x) + sum_by h (e ∷ es)
    decided Less is later none = sum_by-cons h (k, x) (e ∷ es)
    decided Equal is later none = absurd (cc)
    decided Greater is later none =
        let here = sum_by-cons h e (insert_entry cmp es k x) in
        let there = sum_by-cons h e es in
        let rest = later none in
        omega arith

-- ---- children

-- what is summed over an entry, by its step
abbrev entry_sum : {V : Type 0} → ByStep → code.Step × Place V → ℕ
entry_sum h e = ways_sum (h (step_of e.0)) e.1.ways

same_step : (k j : code.Step) → is_eq (steps.cmp k j) ≡ true → step_of k ≡ step_of j
same_step k j is = decided (steps.cmp k j) refl is
  where
    decided : (o : Ordering) → steps.cmp k j ≡ o → is_eq o ≡ true → step_of k ≡ step_of j
    decided Less at never = absurd (cc)
    decided Equal at ties = step_exact (step_of k) (step_of j) (sym (step-order k j) ∙ at)
    decided Greater at never = absurd (cc)

-- the ways at a step are taken out, and others put in
pub sum-put : {V : Type 0} (h : ByStep) (k : code.Step) (es fs gs : List (code.Step × Place V))
    (p : Place V) (o : Option (Place V)) → o ≡ lookup (is_at (steps.cmp k)) es
    → fs ≡ remove_entry (is_at (steps.cmp k)) es → lookup (is_at (steps.cmp k)) fs ≡ None
    → gs ≡ insert_entry steps.cmp fs k p
    → (sum_by (entry_sum h) es
    ≡ option_map_or (λ q. ways_sum (h (step_of k)) q.ways) o 0 + sum_by (entry_sum h) fs)
    × (sum_by (entry_sum h) gs ≡ ways_sum (h (step_of k)) p.ways + sum_by (entry_sum h) fs)
sum-put {V = T} h k es fs gs p o found out none put =
    let g : Place T → ℕ = λ q. ways_sum (h (step_of k)) q.ways in (
      sum-remove (entry_sum h) g (is_at (steps.cmp k)) es
          (λ e is. ap (λ s. ways_sum (h s) e.1.ways) (sym (same_step k e.0 is)))
          ∙ ap₂ (λ x ys. option_map_or g x 0 + sum_by (entry_sum h) ys) (sym found) (sym out),
      ap (sum_by (entry_sum h)) put ∙ sum-insert (entry_sum h) steps.cmp fs k p none,
    )

-- ---- what holds of each entry

All-remove : {K X : Type 0} (P : K × X → Type 0) (test : K → Bool) (es : List (K × X)) → All P es
    → All P (remove_entry test es)
All-remove P test [] all = All-nil P
All-remove P test (e ∷ es) all =
    decided (test e.0) (All-remove P test es (All-tail P e es all))
  where
    decided : (b : Bool) → All P (remove_entry test es)
        → All P (cond b es (e ∷ remove_entry test es))
    decided true rest = All-tail P e es all
    decided false rest = All-cons P e (remove_entry test es) (All-head P e es all) rest

All-insert : {K X : Type 0} (P : K × X → Type 0) (cmp : K → K → Ordering) (es : List (K × X)) (k : K)
    (x : X) → P (k, x) → ((j : K) → is_eq (cmp k j) ≡ true → P (j, x)) → All P es
    → All P (insert_entry cmp es k x)
All-insert P cmp [] k x here same all = All-cons P (k, x) [] here (All-nil P)
All-insert P cmp (e ∷ es) k x here same all =
    decided (cmp k e.0) refl (All-insert P cmp es k x here same (All-tail P e es all))
  where
    decided : (o : Ordering) → cmp k e.0 ≡ o → All P (insert_entry cmp es k x)
        → All P (match_ordering o ((k, x) ∷ e ∷ es) ((e.0, x) ∷ es) (e ∷ insert_entry cmp es k x))
    decided Less is rest = All-cons P (k, x) (e ∷ es) here all
    decided Equal is rest =
        All-cons P (e.0, x) es (same e.0 (ap is_eq is)) (All-tail P e es all)
    decided Greater is rest =
        All-cons P e (insert_entry cmp es k x) (All-head P e es all) rest

-- each stays where its step leads, where one is taken out and another put in
pub inside-put : {V : Type 0} (m : V → Value) (v : Value) (k : code.Step)
    (es fs gs : List (code.Step × Place V)) (p : Place V)
    → fs ≡ remove_entry (is_at (steps.cmp k)) es → gs ≡ insert_entry steps.cmp fs k p
    → child v (step_of k) ≡ Some (m p.value)
    → All (λ e. child v (step_of e.0) ≡ Some (m e.1.value)) es
    → All (λ e. child v (step_of e.0) ≡ Some (m e.1.value)) gs
inside-put {V = T} m v k es fs gs p out put at all =
    let P : code.Step × Place T → Type 0 = λ e. child v (step_of e.0) ≡ Some (m e.1.value) in
    subst (All P) (sym put)
    (All-insert P steps.cmp fs k p at (λ j is. ap (child v) (sym (same_step k j is)) ∙ at)
    (subst (All P) (sym out) (All-remove P (is_at (steps.cmp k)) es all)))

-- ---- sums of sums

pub sum-plus : {X : Type 0} (f g h : X → ℕ) (xs : List X) → ((x : X) → f x ≡ g x + h x)
    → sum_by f xs ≡ sum_by g xs + sum_by h xs
sum-plus f g h [] each = omega arith
sum-plus f g h (x ∷ xs) each =
    let rest = sum-plus f g h xs each in
    let this = each x in
    let a = sum_by-cons f x xs in
    let b = sum_by-cons g x xs in
    let c = sum_by-cons h x xs in
    omega arith

pub sum-same : {X : Type 0} (f g : X → ℕ) (xs : List X) → ((x : X) → f x ≡ g x)
    → sum_by f xs ≡ sum_by g xs
sum-same f g [] each = refl
sum-same f g (x ∷ xs) each =
    sum_by-cons f x xs ∙ ap₂ (λ a b. a + b) (each x) (sum-same f g xs each) ∙ sym (sum_by-cons g x xs)

pub sum-more : {X : Type 0} (f : X → ℕ) (xs : List X) (i : ℕ) (d : X) → i < length xs
    → sum_by f (take (i + 1) xs) ≡ sum_by f (take i xs) + f (get_or xs i d)
sum-more f xs i d within = fold_more (λ a x. a + f x) 0 xs i d within

pub sum-none : {X : Type 0} (f : X → ℕ) (xs : List X) → ((x : X) → f x ≡ 0) → sum_by f xs ≡ 0
sum-none f [] each = refl
sum-none f (x ∷ xs) each =
    let rest = sum-none f xs each in
    let this = each x in
    let here = sum_by-cons f x xs in
    omega arith

-- one of a list is put in the place of another
pub sum-set : {X : Type 0} (f : X → ℕ) (xs : List X) (i : ℕ) (d : X) → i < length xs
    → (rest : ℕ) × (sum_by f xs ≡ rest + f (get_or xs i d))
    × ((y : X) → sum_by f (set xs i y) ≡ rest + f y)
sum-set f [] i d within = absurd (omega arith)
sum-set f (x ∷ xs) zero d within = (
  sum_by f xs,
  (let here = sum_by-cons f x xs in omega arith),
  λ y. let here = sum_by-cons f y xs in omega arith,
)
sum-set f (x ∷ xs) (suc i) d within =
    let inner = sum-set f xs i d (omega arith) in (
      f x + inner.0,
      (let here = sum_by-cons f x xs in let was = inner.1 in omega arith),
      λ y. let here = sum_by-cons f x (set xs i y) in let is = inner.2 y in omega arith,
    )

-- ---- one child after another

inside-there : (v : Value) (h : Value → Way → ℕ) (k : Step) (ws : Ways) (u : Value)
    → Some u ≡ child v k → ways_sum (inside v h k) ws ≡ ways_sum (h u) ws
inside-there v h k ws u at =
    sum-same (inside v h k) (h u) (all_ways ws)
    (λ w. ap (λ o. option_map_or (λ x. h x w) o 0) (sym at))

-- the last is the value that its step leads to, and the others stay so
pub children-last : {V : Type 0} (m : V → Value) (v : Value) (h : Value → Way → ℕ)
    (es fs : List (code.Step × Place V)) (k : code.Step) (p : Place V) → es ≡ fs ++ (k, p) ∷ []
    → All (λ e. child v (step_of e.0) ≡ Some (m e.1.value)) es
    → All (λ e. child v (step_of e.0) ≡ Some (m e.1.value)) fs
    × (sum_by (entry_sum (inside v h)) es
    ≡ sum_by (entry_sum (inside v h)) fs + ways_sum (h (m p.value)) p.ways)
children-last {V = T} m v h es fs k p is all =
    let P : code.Step × Place T → Type 0 = λ e. child v (step_of e.0) ≡ Some (m e.1.value) in
    let apart = All-pop P es fs (Some (k, p)) is all in (
      apart.0,
      ap (sum_by (entry_sum (inside v h))) is ∙ sum_by_push (entry_sum (inside v h)) fs (k, p)
          ∙ ap (λ n. sum_by (entry_sum (inside v h)) fs + n)
          (inside-there v h (step_of k) p.ways (m p.value) (sym apart.1)),
    )

-- one place more
pub places-push : {V : Type 0} (m : V → Value) (h : Value → Way → ℕ) (ps qs : List (Place V))
    (p : Place V) → qs ≡ ps ++ p ∷ []
    → places_sum m h qs ≡ places_sum m h ps + ways_sum (h (m p.value)) p.ways
places-push {V = T} m h ps qs p is =
    ap (places_sum m h) is ∙ sum_by_push (λ (q : Place T). ways_sum (h (m q.value)) q.ways) ps p

-- ---- ways by as many segments

-- a is put together with b
pub together : (h : Way → ℕ) (a b c : Way) → Counts h → c.done ≡ a.done → a.done ≡ b.done
    → c.count ≡ capped (a.count + b.count) → capped (h c) ≡ capped (h a + h b)
together h a b c counts same alike is =
    let g = counts.0 in
    let more = capped_more a.count b.count (g a.done) (a.count * g a.done) c.count is refl in
    let first = counts.1 a in
    let second = counts.1 b ∙ ap (λ n. b.count * g n) (sym alike) in
    let both = counts.1 c ∙ ap (λ n. c.count * g n) same in
    omega arith

pub together-first : (h : Way → ℕ) (a b c : Way) (ws : List Way) → Counts h → c.done ≡ a.done
    → a.done ≡ b.done → c.count ≡ capped (a.count + b.count)
    → capped (sum_by h (c ∷ ws)) ≡ capped (sum_by h (a ∷ ws) + h b)
together-first h a b c ws counts same alike is =
    let more = together h a b c counts same alike is in
    let before = sum_by-cons h a ws in
    let after = sum_by-cons h c ws in
    omega arith

pub together-at : (h : Way → ℕ) (a b c : Way) (ws : List Way) (i : ℕ) → Counts h → i < length ws
    → a ≡ get_or ws i a → c.done ≡ a.done → a.done ≡ b.done → c.count ≡ capped (a.count + b.count)
    → capped (sum_by h (set ws i c)) ≡ capped (sum_by h ws + h b)
together-at h a b c ws i counts within at same alike is =
    let more = together h a b c counts same alike is in
    let put = sum-set h ws i a within in
    let there = ap h (sym at) in
    let before = put.1 in
    let after = put.2 c in
    omega arith

pub no_children : {V : Type 0} (h : ByStep) (c : BTreeMap code.Step (Place V)) → c.entries ≡ [] → children_sum h c ≡ 0
no_children h c none = ap (sum_by (entry_sum h)) none

pub none_left : {X : Type 0} (xs : List X) → (0 < length xs → ⊥) → xs ≡ []
none_left [] never = refl
none_left (x ∷ xs) never = absurd (never (omega arith))
