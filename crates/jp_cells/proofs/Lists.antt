-- A JSON list of values, as it is pushed.
use Rattle.std.proofs.Common.{◌≡◌, ℕ, List, [], ◌∷◌, ◌++◌, ◌∙◌, ap, append_assoc, sym}
use Rattle.std.proofs.lemmas.List.{append-nil}
use Rattle.std.specs.List.{flat_map, join_with_byte}
use Rattle.jp_reading.specs.Characters.{closing_bracket, comma, opening_bracket}
use Rattle.jp_document.specs.Text.{item_texts, text_of}
use Rattle.jp_document.specs.Value.{Value, items_of, list}
use Rattle.jp_cells.specs.Private.Lists.{behind_comma}

joined : (v : Value) (vs : List Value)
    → join_with_byte comma (item_texts (items_of (v ∷ vs))) ≡ text_of v ++ flat_map behind_comma vs
joined v [] = sym (append-nil (text_of v))
joined v (w ∷ vs) = ap (λ t. text_of v ++ comma ∷ t) (joined w vs)

regrouped : (old first second others : List ℕ) (o c : ℕ)
    → ((((old ++ o ∷ []) ++ first) ++ second) ++ others) ++ c ∷ []
    ≡ old ++ (o ∷ ((first ++ (second ++ others)) ++ c ∷ []))
regrouped old first second others o c = simp append_assoc

-- a list of two values and more, part by part
pub list-pushed : (v w : Value) (vs : List Value) (old opened one two all closed : List ℕ)
    → opened ≡ old ++ opening_bracket ∷ [] → one ≡ opened ++ text_of v
    → two ≡ one ++ behind_comma w → all ≡ two ++ flat_map behind_comma vs
    → closed ≡ all ++ closing_bracket ∷ [] → closed ≡ old ++ text_of (list (items_of (v ∷ w ∷ vs)))
list-pushed v w vs old opened one two all closed opens first second others closes =
    closes ∙ ap (λ t. t ++ closing_bracket ∷ [])
    (others ∙ ap (λ t. t ++ flat_map behind_comma vs)
    (second ∙ ap (λ t. t ++ behind_comma w) (first ∙ ap (λ t. t ++ text_of v) opens)))
    ∙ regrouped old (text_of v) (behind_comma w) (flat_map behind_comma vs) opening_bracket
    closing_bracket
    ∙ ap (λ t. old ++ (opening_bracket ∷ (t ++ closing_bracket ∷ []))) (sym (joined v (w ∷ vs)))
