-- The nodes of what a selector chooses, one after another.
use Rattle.std.proofs.Common.{◌≡◌, ℕ, suc, List, [], ◌∷◌, ◌++◌, Some}
use Rattle.std.proofs.Common.{None, string_bytes, length, drop, map, rules, refl}
use Rattle.std.proofs.Common.{ap, ap₂, sym, ◌∙◌, append_assoc, arith}
use Rattle.std.specs.List.{All, slice_get}
use Rattle.std.proofs.lemmas.List.{append-nil, length_push, map-append}
use Rattle.std.proofs.lemmas.List.Elements.{All-map, All-nil, All-weaker}
use Rattle.std.specs.Str.{chars}
use Rattle.jp_document.proofs.Descent.Inside.{value_at-step}
use Rattle.jp_document.specs.Location.{Step, Location, value_at}
use Rattle.jp_document.specs.Node.{Node, NodeView, StandsIn, node_below, node_of}
use Rattle.jp_document.specs.Value.{IsDocumentValue, Value}
use Rattle.jp_tree.specs.Tree.{SelectorTree, filter, index, name, slice, wildcard}
use Rattle.jp_tree.specs.Views.{selector_of}
use Rattle.jp_tree.specs.declared.tree.Expr.{Expr, the_lemmas}
use Rattle.jp_tree.specs.declared.tree.Selector.{Selector}
use Rattle.jp_tree.specs.declared.tree.Selector.TheVariants as one
use Rattle.jp_select.proofs.Chosen.{StandsBelow, candidates_stand}
use Rattle.jp_document.proofs.Descent.Nodes.{IsDocumentValue-at}
use Rattle.jp_select.proofs.Walks.{drop_at, drop_past}
use Rattle.jp_select.specs.Laws.{ChoosesNodesAlone}
use Rattle.jp_select.specs.Selectors.{candidates, chosen}

-- one node more
pub next_chosen : (l : Location) (cs : List (Step × Value)) (all : List Node)
    (nodes new : List NodeView) (n : NodeView) (e : Step × Value) (i : ℕ) → i ≡ length nodes
    → slice_get cs i ≡ Some e → node_of n ≡ node_below l e → new ≡ nodes ++ n ∷ []
    → map node_of nodes ++ map (node_below l) (drop (length nodes) cs) ≡ all
    → map node_of new ++ map (node_below l) (drop (length new) cs) ≡ all
next_chosen l cs all nodes new n e i at entry is more before =
    let f = node_below l in
    let longer : length new ≡ suc i = ap length more ∙ length_push nodes n ∙ omega arith in
    let rest = map f (drop (suc i) cs) in
    ap₂ (λ ns k. map node_of ns ++ map f (drop k cs)) more longer
    ∙ ap (λ t. t ++ rest) (map-append node_of nodes (n ∷ []))
    ∙ append_assoc (map node_of nodes) (node_of n ∷ []) rest
    ∙ ap (λ t. map node_of nodes ++ t ∷ rest) is
    ∙ ap (λ es. map node_of nodes ++ map f es) (sym (drop_at cs i e entry))
    ∙ ap (λ k. map node_of nodes ++ map f (drop k cs)) at
    ∙ before

pub all_chosen : (l : Location) (cs : List (Step × Value)) (nodes : List NodeView) (i : ℕ)
    → i ≡ length nodes → slice_get cs i ≡ None
    → map node_of nodes ++ map (node_below l) (drop (length nodes) cs) ≡ map (node_below l) cs
    → map node_of nodes ≡ map (node_below l) cs
all_chosen l cs nodes i at past before =
    sym (append-nil (map node_of nodes))
    ∙ ap (λ es. map node_of nodes ++ map (node_below l) es)
    (sym (drop_past cs i past) ∙ ap (λ k. drop k cs) at)
    ∙ before

nodes_below-stand : (d v : Value) (l : Location) (es : List (Step × Value)) → IsDocumentValue d
    → value_at d l ≡ Some v → All (StandsBelow v) es
    → All (StandsIn d) (map (node_below l) es)
nodes_below-stand d v l es document at all =
    All-map (StandsIn d) (node_below l) es
    (All-weaker (StandsBelow v) (λ e. StandsIn d (node_below l e)) (λ e there. record {
      document = document;
      there = value_at-step d v l e.0 at ∙ there;
    }) es all)

-- what a selector chooses from at a node of d are nodes of d
pub candidates_below : (d : Value) (n : Node) (s : SelectorTree) → StandsIn d n
    → All (StandsIn d) (map (node_below n.location) (candidates s n.value))
candidates_below d n s stands =
    nodes_below-stand d n.value n.location (candidates s n.value) stands.document stands.there
    (candidates_stand s n.value
    (IsDocumentValue-at d n.value n.location stands.document stands.there))

pub choosing_law : ChoosesNodesAlone
choosing_law d n (filter e) stands = All-nil (StandsIn d)
choosing_law d n s stands = candidates_below d n s stands

-- a selector that is no filter is plain
pub plain_chosen : (s : Selector) (n : Node) → ((e : Expr) → s ≡ one.Filter e → ⊥)
    → map (node_below n.location) (candidates (selector_of s) n.value) ≡ chosen (selector_of s) n
plain_chosen (one.Name s) n not =
    let tree : selector_of (one.Name s) ≡ name (chars (string_bytes s)) =
    search (rules, the_lemmas) in rw tree refl
plain_chosen one.Wildcard n not =
    let tree : selector_of one.Wildcard ≡ wildcard = search (rules, the_lemmas) in rw tree refl
plain_chosen (one.Index i) n not =
    let tree : selector_of (one.Index i) ≡ index i = search (rules, the_lemmas) in rw tree refl
plain_chosen (one.Slice s) n not =
    let tree : selector_of (one.Slice s) ≡ slice s = search (rules, the_lemmas) in rw tree refl
plain_chosen (one.Filter e) n not = absurd (not e refl)
