-- Queries that ask for no more than the names that were told.
use Rattle.std.proofs.Common.{◌≡◌, ℕ, Bool, true, List, [], ◌∷◌, Some, None, String, Vec, string_bytes}
use Rattle.std.proofs.Common.{length, ◌≢◌, map, refl, ap, inl, inr, subst, sym, ◌∙◌}
use Rattle.std.specs.Ordering.{is_eq}
use Rattle.std.specs.declared.alloc.Global.{Global}
use Rattle.jp_document.proofs.Descent.Steps.{step_same}
use Rattle.jp_document.specs.Location.{named}
use Rattle.jp_document.specs.Value.{Value}
use Rattle.jp_flat.specs.Asked.{is_listed, is_name, with_items_of}
use Rattle.jp_flat.specs.declared.asked.AskedFor.TheVariants.{Anywhere, OfItems}
use Rattle.jp_reading.proofs.Conjunctions.{and-both, and-left, and-right}
use Rattle.jp_reading.proofs.Rules.Ranges.{or-left, or-right}
use Rattle.jp_tree.proofs.Views.{query_of-is}
use Rattle.jp_tree.specs.Tree.{query, selectors}
use Rattle.jp_tree.specs.Views.{query_of, selector_of}
use Rattle.jp_tree.specs.declared.tree.Query.{Query, out-Query}
use Rattle.jp_tree.specs.declared.tree.Segment.{Segment}
use Rattle.jp_tree.specs.declared.tree.Selector.{Selector}
use Rattle.jp_evaluate.specs.Asked.{AsksNoMore}
use Rattle.jp_evaluate.specs.Nodelist.{nodelist}
use Rattle.jp_evaluate.specs.Private.Asks.{AskedOf, asked_anywhere, asks_items, only_name, pass}
use Rattle.jp_evaluate.proofs.Kept.Anywhere.{nodelist-anywhere}
use Rattle.jp_evaluate.proofs.Kept.Items.{nodelist-items}
use Rattle.jp_evaluate.proofs.Nodelists.Along.{of_segments}

pass-weaker : (p q : List ℕ → Bool) (ns : List (String Global))
    → ((m : List ℕ) → p m ≡ true → q m ≡ true) → pass p ns ≡ true → pass q ns ≡ true
pass-weaker p q [] each all = refl
pass-weaker p q (n ∷ ns) each all =
    and-both (q (string_bytes n)) (pass q ns) (each (string_bytes n) (and-left _ _ all))
    (pass-weaker p q ns each (and-right _ _ all))

-- names are among themselves
pub pass-itself : (ns : List (String Global)) → pass (is_listed ns) ns ≡ true
pass-itself [] = refl
pass-itself (n ∷ ns) =
    and-both (is_listed (n ∷ ns) (string_bytes n)) (pass (is_listed (n ∷ ns)) ns)
    (or-left (is_name (string_bytes n) (string_bytes n)) (is_listed ns (string_bytes n)) (ap is_eq (step_same (named (string_bytes n)))))
    (pass-weaker (is_listed ns) (is_listed (n ∷ ns)) ns
    (λ m among. or-right (is_name (string_bytes n) m) (is_listed ns m) among) (pass-itself ns))

-- several selectors or none have no only name
pub only_name-several : (xs : List Selector) → length xs ≢ 1
    → only_name (selectors (map selector_of xs)) ≡ None
only_name-several [] not = refl
only_name-several (x ∷ []) not = absurd (not refl)
only_name-several (x ∷ y ∷ xs) not = refl

by-tree : (q : Query) (d u : Value)
    → (let t = query (out-Query q).absolute (of_segments (out-Query q).segments.items) in
    nodelist t u ≡ nodelist t d)
    → nodelist (query_of q) u ≡ nodelist (query_of q) d
by-tree q d u same = subst (λ t. nodelist t u ≡ nodelist t d) (sym (query_of-is q)) same

pub anywhere-asks : (q : Query) (xs : List Segment) (k : String Global)
    → xs ≡ (out-Query q).segments.items → Some (string_bytes k) ≡ asked_anywhere (of_segments xs)
    → AsksNoMore (query_of q) (Anywhere k)
anywhere-asks q xs k are is = λ d u thin.
    by-tree q d u
    (nodelist-anywhere (string_bytes k) (out-Query q).absolute (of_segments (out-Query q).segments.items) d u
    (ap (λ ys. asked_anywhere (of_segments ys)) (sym are) ∙ sym is) thin)

pub items-ask : (q : Query) (xs : List Segment) (ns : Vec (String Global) Global)
    → xs ≡ (out-Query q).segments.items
    → AskedOf ns.items (λ p. asks_items p (of_segments xs))
    → AsksNoMore (query_of q) (OfItems ns)
items-ask q xs ns are asked = λ d u kept.
    let p = is_listed ns.items in
    let asks : asks_items p (of_segments (out-Query q).segments.items) ≡ true =
    ap (λ ys. asks_items p (of_segments ys)) (sym are) ∙ asked p (pass-itself ns.items) in
    let same : nodelist (query_of q) (with_items_of p d) ≡ nodelist (query_of q) d =
    by-tree q d (with_items_of p d)
    (nodelist-items p (out-Query q).absolute (of_segments (out-Query q).segments.items) d asks) in
    elim kept [
      | inl is ↦ ap (nodelist (query_of q)) is
      | inr is ↦ ap (nodelist (query_of q)) is ∙ same
    ]
