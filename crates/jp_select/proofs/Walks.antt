-- How a walk goes on: by frames, child by child.
use Rattle.std.proofs.Common.{◌≡◌, ℕ, zero, suc, ◌+◌, ◌-◌, List, [], ◌∷◌, ◌++◌, drop, map, length}
use Rattle.std.proofs.Common.{take, reverse, Option, Some, None, refl, sym, ap, ap₂, ◌∙◌}
use Rattle.std.proofs.Common.{append_assoc, arith}
use Rattle.std.specs.List.{flat_map, slice_get}
use Rattle.std.specs.Option.{option_map, option_map_or}
use Rattle.std.proofs.lemmas.List.{length-map, length_push, map-append, reverse-append, take-map}
use Rattle.std.proofs.Math.Seq.{take-append_seam}
use Rattle.std.proofs.lemmas.Option.{same_Some, slice_get-map}
use Rattle.jp_document.specs.DocumentValue.{lent_entry, lent_value}
use Rattle.jp_document.specs.Location.{Step, Location, entries, step_of}
use Rattle.jp_document.specs.Node.{Node, NodeView, children, node_at, node_below, node_of}
use Rattle.jp_document.specs.Value.{Value}
use Rattle.jp_document.specs.declared.document_value.DocumentValue.{DocumentValue}
use Rattle.jp_document.specs.declared.location.Step as code
use Rattle.jp_select.specs.Subtree.{subtree_of}
use Rattle.jp_select.specs.Walk.{child_subtrees, frame_node, frames_give, frames_give_from, parent}
use Rattle.jp_select.specs.declared.descent.Frame.{Frame}
use Rattle.jp_select.proofs.Locations.{nodes-children}

-- ---- children by their positions

pub drop_at : {X : Type 0} (xs : List X) (i : ℕ) (x : X) → slice_get xs i ≡ Some x
    → drop i xs ≡ x ∷ drop (suc i) xs
drop_at [] i x is = cc
drop_at (y ∷ ys) zero x is = ap (λ z. z ∷ ys) (same_Some y x is)
drop_at (y ∷ ys) (suc i) x is = drop_at ys i x is

pub drop_past : {X : Type 0} (xs : List X) (i : ℕ) → slice_get xs i ≡ None → drop i xs ≡ []
drop_past [] zero is = refl
drop_past [] (suc i) is = refl
drop_past (y ∷ ys) zero is = cc
drop_past (y ∷ ys) (suc i) is = drop_past ys i is

child_there : (n : Node) (i : ℕ) (o : Option (Step × Value)) → o ≡ slice_get (entries n.value) i
    → slice_get (children n) i ≡ option_map (node_below n.location) o
child_there n i o is =
    slice_get-map (node_below n.location) (entries n.value) i
    ∙ ap (option_map (node_below n.location)) (sym is)

-- ---- frames

parent-push : (l : Location) (k : Step) → parent (l ++ k ∷ []) ≡ l
parent-push l k =
    let longer = length_push l k in
    let same : length (l ++ k ∷ []) - 1 ≡ length l = omega arith in
    ap (λ n. take n (l ++ k ∷ [])) same ∙ take-append_seam l (k ∷ [])

abbrev pub entered : DocumentValue → Frame
entered v = record { value = v; next = 0 }

abbrev pub advanced : Frame → Frame
advanced f = record { value = f.value; next = f.next + 1 }

-- the last frame gives its next child, and goes on with what is in it
pub child_gives : (was : List code.Step) (fs : List Frame) (f : Frame) (s : code.Step) (v : DocumentValue)
    → Some (lent_entry (s, v)) ≡ slice_get (entries (lent_value f.value)) f.next
    → frames_give was (fs ++ f ∷ []) ≡
    node_at (map step_of (was ++ s ∷ [])) (lent_value v)
    ∷ frames_give (was ++ s ∷ []) ((fs ++ advanced f ∷ []) ++ entered v ∷ [])
child_gives was fs f s v is =
    let l = map step_of was in
    let n = frame_node l f in
    let m = node_at (l ++ step_of s ∷ []) (lent_value v) in
    let same : suc f.next ≡ f.next + 1 = omega arith in
    let more = child_subtrees n (f.next + 1) in
    let rest = frames_give_from (parent l) (reverse fs) in
    rw (
      map-append step_of was (s ∷ []),
      reverse-append fs (f ∷ []),
      reverse-append (fs ++ advanced f ∷ []) (entered v ∷ []),
      reverse-append fs (advanced f ∷ []),
      parent-push l (step_of s),
    )
    (ap (λ ns. flat_map subtree_of ns ++ rest)
    (drop_at (children n) f.next m (child_there n f.next (Some (lent_entry (s, v))) is))
    ∙ ap (λ i. (subtree_of m ++ child_subtrees n i) ++ rest) same
    ∙ append_assoc (subtree_of m) more rest
    ∙ ap (λ ns. ns ++ (more ++ rest)) (nodes-children m.location m.value))

-- a last frame without a next child gives nothing
pub frame_ends : (n : ℕ) (was is : List code.Step) (fs : List Frame) (f : Frame) → n ≡ length was
    → is ≡ take (n - 1) was → None ≡ slice_get (entries (lent_value f.value)) f.next
    → frames_give is fs ≡ frames_give was (fs ++ f ∷ [])
frame_ends n was is fs f long rest end =
    let l = map step_of was in
    let up : map step_of is ≡ parent l =
    ap (map step_of) rest ∙ sym (take-map step_of (n - 1) was)
    ∙ ap (λ m. take (m - 1) l) (long ∙ sym (length-map was step_of)) in
    let m = frame_node l f in
    ap (λ t. frames_give_from t (reverse fs)) up
    ∙ sym
    (ap (frames_give_from l) (reverse-append fs (f ∷ []))
    ∙ ap (λ ns. flat_map subtree_of ns ++ frames_give_from (parent l) (reverse fs))
    (drop_past (children m) f.next (child_there m f.next None end)))

-- ---- walks

pub node_left : (o : Option NodeView) (n : NodeView) (ns : List Node) → Some n ≡ o
    → option_map_or (λ m. subtree_of (node_of m)) o ns ≡ subtree_of (node_of n)
node_left o n ns is = ap (λ x. option_map_or (λ m. subtree_of (node_of m)) x ns) (sym is)

pub frames_left : (o : Option NodeView) (was is : List code.Step) (fs gs : List Frame) → o ≡ None
    → was ≡ is → fs ≡ gs
    → option_map_or (λ n. subtree_of (node_of n)) o (frames_give was fs) ≡ frames_give is gs
frames_left o was is fs gs first location frames =
    ap (λ x. option_map_or (λ n. subtree_of (node_of n)) x (frames_give was fs)) first
    ∙ ap₂ frames_give location frames
