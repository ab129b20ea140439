-- A value with nothing inside it offers no choices.
use Rattle.std.proofs.Common.{◌≡◌, ℕ, ◌≤◌, List, [], ◌∷◌, ◌++◌, Option, Some, None, length}
use Rattle.std.proofs.Common.{map, option_map, option_and_then, option_to_list, refl, ap, ap₂, ◌∙◌}
use Rattle.std.proofs.Common.{arith}
use Rattle.std.specs.Map.{lookup}
use Rattle.std.specs.BTreeMap.{is_at}
use Rattle.std.specs.List.{flat_map}
use Rattle.std.specs.Option.{option_map_or}
use Rattle.std.specs.Str.{encode_utf8_all}
use Rattle.jp_document.specs.Location.{Step, child_entry, entries, step_cmp, named, nth}
use Rattle.jp_document.specs.Value.{Value, list_length}
use Rattle.jp_tree.specs.Tree.{SelectorTree, SegmentTrees, name, wildcard, index, slice, filter}
use Rattle.jp_tree.specs.declared.tree.Numeral.TheVariants.{Whole, Beyond, Fraction}
use Rattle.jp_select.specs.Selectors.{candidates, indexes_chosen, item_at, item_entry, item_of}
use Rattle.jp_evaluate.specs.Private.Walk.{choice_of, choices_from, turn_choices}
use Rattle.jp_evaluate.proofs.Walks.Choices.{choices_all}

pub no_entries : (v : Value) → length (entries v) ≤ 0 → entries v ≡ []
no_entries v none = empty (entries v) none
  where
    empty : {T : Type 0} (xs : List T) → length xs ≤ 0 → xs ≡ []
    empty [] h = refl
    empty (x ∷ xs) h = absurd (omega arith)

none_there : (v : Value) (k : Step) → entries v ≡ [] → child_entry v k ≡ None
none_there v k none =
    ap (λ es. option_map (λ w. (k, w)) (lookup (is_at (step_cmp k)) es)) none

no_item : (v : Value) (o : Option ℕ) → entries v ≡ [] → option_and_then (item_of v) o ≡ None
no_item v None none = refl
no_item v (Some i) none = none_there v (nth i) none

no_items : (v : Value) (is : List ℕ) → entries v ≡ [] → flat_map (item_entry v) is ≡ []
no_items v [] none = refl
no_items v (i ∷ is) none =
    ap₂ (λ o es. option_to_list o ++ es) (none_there v (nth i) none) (no_items v is none)

no_candidates : (s : SelectorTree) (v : Value) → entries v ≡ [] → candidates s v ≡ []
no_candidates (name cs) v none = ap option_to_list (none_there v (named (encode_utf8_all cs)) none)
no_candidates wildcard v none = none
no_candidates (index (Whole i)) v none =
    ap option_to_list (no_item v (option_and_then (λ n. item_at n i) (list_length v)) none)
no_candidates (index (Beyond d)) v none = refl
no_candidates (index (Fraction n)) v none = refl
no_candidates (slice s) v none = of_length (list_length v)
  where
    of_length : (o : Option ℕ)
        → option_map_or (λ n. flat_map (item_entry v) (indexes_chosen s n)) o [] ≡ []
    of_length None = refl
    of_length (Some n) = no_items v (indexes_chosen s n) none
no_candidates (filter e) v none = none

no_turn_choices : (v : Value) (ts : List (SelectorTree × SegmentTrees)) → entries v ≡ []
    → flat_map (turn_choices v) ts ≡ []
no_turn_choices v [] none = refl
no_turn_choices v (t ∷ ts) none =
    ap₂ (λ es cs. map (choice_of t) es ++ cs) (no_candidates t.0 v none) (no_turn_choices v ts none)

pub no_choices : (v : Value) (ts : List (SelectorTree × SegmentTrees)) → entries v ≡ []
    → choices_from v ts 0 ≡ []
no_choices v ts none = choices_all v ts ∙ no_turn_choices v ts none
