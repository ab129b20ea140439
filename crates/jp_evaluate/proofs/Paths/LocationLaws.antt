-- The location of a node as a query.
use Rattle.std.proofs.Common.{true, pos, ◌≡◌, ℕ, ◌<◌, ◌≤◌, List, [], ◌∷◌, ◌++◌}
use Rattle.std.proofs.Common.{map, Option, Some, ap, ap₂, sym, ◌∙◌}
use Rattle.std.proofs.Common.{append_assoc, arith, option_and_then, option_map, option_to_list}
use Rattle.std.proofs.Common.{lt-ltb}
use Rattle.std.specs.List.{All}
use Rattle.std.proofs.lemmas.Bool.{le-leb, leb-true}
use Rattle.std.proofs.lemmas.List.{append-nil}
use Rattle.std.proofs.lemmas.List.Elements.{All-cons, All-nil}
use Rattle.std.proofs.lemmas.Option.{option_and_then_some, same_Some, slice_get_within}
use Rattle.jp_reading.specs.Numbers.{largest_exact}
use Rattle.jp_document.proofs.Descent.Inside.{IsDocumentValue-child}
use Rattle.jp_document.proofs.Members.ByName.{child-object_nth}
use Rattle.jp_reading.proofs.Conjunctions.{and-left}
use Rattle.jp_document.proofs.Members.TextNames.{IsUtf8-child_named}
use Rattle.jp_document.specs.Location.{Step, Location, child, child_entry, named, nth, value_at}
use Rattle.jp_document.specs.Node.{Node, node_at, node_below}
use Rattle.jp_document.specs.Value.{IsDocumentValue, Items, Value, boolean, item_count}
use Rattle.jp_document.specs.Value.{list, null, object, text, whole, decimal}
use Rattle.jp_query.specs.Components.{segments_components}
use Rattle.jp_tree.specs.Tree.{segments}
use Rattle.jp_check.specs.declared.profile.Profile.{Profile}
use Rattle.jp_check.specs.Faults.{HasFault}
use Rattle.jp_check.proofs.OwnFault.{int-fault}
use Rattle.jp_check.specs.Ranges.{is_in_index_range}
use Rattle.jp_query.specs.Levels.{level_limit}
use Rattle.jp_query.specs.Components.{QueryComponent, as_index, int}
use Rattle.jp_query.specs.declared.refusal.RefusalKind.{RefusalKind}
use Rattle.jp_tree.specs.declared.tree.Numeral.TheVariants.{Whole}
use Rattle.jp_evaluate.specs.Laws.{PathSelectsItsNode}
use Rattle.jp_evaluate.proofs.Paths.CanonicalPaths.{path-spells}
use Rattle.jp_evaluate.specs.Private.PathTrees.{path_tree, step_segment}
use Rattle.jp_evaluate.proofs.Paths.PathTrees.{StepFits, StepsFit}
use Rattle.jp_evaluate.specs.Nodelist.{result, segment_result}
use Rattle.jp_select.proofs.Items.{child-item, item_list, length-item_list}
use Rattle.std.proofs.lemmas.Str.{encodes-chars}

-- an index at which there is an item is below the count
within_items : (vs : Items) (i : ℕ) (u : Value) → child (list vs) (nth i) ≡ Some u
    → i < item_count vs
within_items vs i u there =
    let got = slice_get_within (item_list vs) i u (sym (child-item vs i) ∙ there) in
    let count = length-item_list vs in omega arith

-- what stands one step below has its own step there
first_step_there : (o : Option Value) (w : Value) (m : Location)
    → option_and_then (λ u. value_at u m) o ≡ Some w
    → (u : Value) × (o ≡ Some u) × (value_at u m ≡ Some w)
first_step_there o w m e = option_and_then_some (λ u. value_at u m) o w e (λ u at end. (u, at, end))

-- what stands a step below, as a list
abbrev below : Location → Step → Option Value → List Node
below l k o = map (node_below l) (option_to_list (option_map (λ w. (k, w)) o))

-- one step as a segment
step_result : (d v u : Value) (l : Location) (k : Step) → child v k ≡ Some u → StepFits k
    → segment_result (step_segment k) d (node_at l v ∷ []) ≡ node_at (l ++ k ∷ []) u ∷ []
step_result d v u l (named s) there utf8 =
    append-nil _ ∙ append-nil _
    ∙ ap (λ b. map (node_below l) (option_to_list (child_entry v (named b)))) (encodes-chars s utf8)
    ∙ ap (below l (named s)) there
step_result d (list vs) u l (nth i) there small =
    append-nil _ ∙ append-nil _
    ∙ rw (lt-ltb i (item_count vs) (within_items vs i u there))
    (ap (below l (nth i)) there)
step_result d (object ms) u l (nth i) there small =
    absurd (let none = child-object_nth i ms in cc)
step_result d null u l (nth i) there small = absurd (cc)
step_result d (boolean b) u l (nth i) there small = absurd (cc)
step_result d (whole z) u l (nth i) there small = absurd (cc)
step_result d (decimal c e) u l (nth i) there small = absurd (cc)
step_result d (text s) u l (nth i) there small = absurd (cc)

-- the rest of a location selects what stands at its end
walks : (d v w : Value) (l m : Location) → value_at v m ≡ Some w → StepsFit m
    → result (segments (map step_segment m)) d (node_at l v ∷ []) ≡ node_at (l ++ m) w ∷ []
walks d v w l [] end fit = ap₂ (λ k x. node_at k x ∷ []) (sym (append-nil l)) (same_Some v w end)
walks d v w l (k ∷ m) end fit =
    let u = first_step_there (child v k) w m end in
    ap (result (segments (map step_segment m)) d) (step_result d v u.0 l k u.1 fit.0)
    ∙ walks d u.0 w (l ++ k ∷ []) m u.2 fit.1
    ∙ ap (λ x. node_at x w ∷ []) (append_assoc l (k ∷ []) m)

-- an index of a list in a document is in range
index_fits : (v u : Value) (i : ℕ) → IsDocumentValue v → child v (nth i) ≡ Some u → i ≤ largest_exact
index_fits (list vs) u i document there =
    let few : item_count vs ≤ largest_exact =
    leb-true (item_count vs) largest_exact (and-left _ _ document) in
    let below = within_items vs i u there in
    omega arith
index_fits (object ms) u i document there = absurd (let none = child-object_nth i ms in cc)
index_fits null u i document there = absurd (cc)
index_fits (boolean b) u i document there = absurd (cc)
index_fits (whole z) u i document there = absurd (cc)
index_fits (decimal c e) u i document there = absurd (cc)
index_fits (text s) u i document there = absurd (cc)

step_fits : (v u : Value) (k : Step) → IsDocumentValue v → child v k ≡ Some u → StepFits k
step_fits v u (named s) document there = IsUtf8-child_named v u s document there
step_fits v u (nth i) document there = index_fits v u i document there

steps_fit : (v w : Value) (m : Location) → IsDocumentValue v → value_at v m ≡ Some w → StepsFit m
steps_fit v w [] document end = tt
steps_fit v w (k ∷ m) document end =
    let u = first_step_there (child v k) w m end in (
      step_fits v u.0 k document u.1,
      steps_fit u.0 w m (IsDocumentValue-child v u.0 k document u.1) u.2,
    )

abbrev NoFault : Profile → QueryComponent → Type 0
NoFault profile x = (kind : RefusalKind) → ¬ HasFault profile x kind

index_faultless : (profile : Profile) (i : ℕ) → i ≤ largest_exact
    → NoFault profile (int (Whole (pos i)) as_index)
index_faultless profile i small kind fault =
    let out = (int-fault profile (Whole (pos i)) as_index kind fault).1 in
    let fits : is_in_index_range (Whole (pos i)) ≡ true = le-leb i largest_exact small in
    cc

steps_faultless : (profile : Profile) (m : Location) → StepsFit m
    → All (NoFault profile) (segments_components (segments (map step_segment m)))
steps_faultless profile [] fit = All-nil (NoFault profile)
steps_faultless profile (named s ∷ m) fit = steps_faultless profile m fit.1
steps_faultless profile (nth i ∷ m) fit =
    All-cons (NoFault profile) (int (Whole (pos i)) as_index)
    (segments_components (segments (map step_segment m)))
    (index_faultless profile i fit.0) (steps_faultless profile m fit.1)

pub path_selects_its_node : PathSelectsItsNode
path_selects_its_node d n stands =
    let l = n.location in
    let fit = steps_fit d n.value l stands.document stands.there in
    let spelled = path-spells level_limit l fit in (
      path_tree l,
      (λ profile. record {
        spans = spelled.0;
        spelled = spelled.1;
        faultless = steps_faultless profile l fit;
      }),
      walks d d n.value [] l stands.there fit,
    )
