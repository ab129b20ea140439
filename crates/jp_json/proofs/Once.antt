-- A text is wrong at one byte at most.
use Rattle.std.proofs.Common.{◌≡◌, ◌⊎◌, ℕ, Bool, true, false, List, [], ◌∷◌, ◌++◌, inl, inr, refl}
use Rattle.std.proofs.Common.{ap, sym, ◌∙◌, append_assoc, append-nil, subst}
use Rattle.jp_reading.specs.Texts.{Text, bytes}
use Rattle.jp_json.specs.Grammar.{json_text}
use Rattle.jp_json.specs.Laws.{IsWrongTextAt}
use Rattle.jp_json.specs.ViablePrefix.{IsViablePrefix, IsViableBefore}
use Rattle.jp_json.specs.ViablePrefix.{IsUnexpectedAt, IsTooDeepAt, IsUnfinishedAt}
use Rattle.jp_json.specs.declared.state.Level.{Level}
use Rattle.jp_json.specs.declared.state.State.{State}
use Rattle.jp_json.specs.declared.state.State.TheVariants.{Value}
use Rattle.jp_json.specs.Private.Machine.{Moved, on, stuck, deep, move, walk, is_final}
use Rattle.jp_json.proofs.Viable.{viable, no_viable, not_viable, viable_deeper, walk-more, unfinished}
use Rattle.jp_json.proofs.Viable.{finished}

-- a front of a viable prefix is viable
front-viable : (n : ℕ) (t u : Text) → IsViablePrefix n (t ++ u) → IsViablePrefix n t
front-viable n t u v = (u ++ v.0, subst (λ x. json_text n x) (append_assoc t u v.0) v.1)

-- of two cuts of a text before a character they are one, or the one is in front of the other
pub record IsBefore (before : Text) (c : ℕ) (other : Text) : Type 0 where
  pub more : Text
  pub parts : other ≡ (before ++ c ∷ []) ++ more

cuts : (t u : Text) (c d : ℕ) (r s : Text) → t ++ c ∷ r ≡ u ++ d ∷ s
    → ((t ≡ u) ⊎ IsBefore t c u) ⊎ IsBefore u d t
cuts [] [] c d r s e = inl (inl refl)
cuts [] (x ∷ u) c d r s e =
    let same : c ≡ x = cc in
    inl (inr (record { more = u; parts = rw same refl }))
cuts (x ∷ t) [] c d r s e =
    let same : x ≡ d = cc in
    inr (record { more = t; parts = rw same refl })
cuts (x ∷ t) (y ∷ u) c d r s e =
    let same : x ≡ y = cc in
    let rest : t ++ c ∷ r ≡ u ++ d ∷ s = cc in
    elim (cuts t u c d r s rest) [
      | inl near ↦
          elim near [
            | inl one ↦ inl (inl (rw (same, one) refl))
            | inr h ↦ inl (inr (record { more = h.more; parts = rw same (ap (λ z. y ∷ z) h.parts) }))
          ]
      | inr h ↦ inr (record { more = h.more; parts = rw same (ap (λ z. y ∷ z) h.parts) })
    ]

-- a place where the text goes on no further within the levels
record IsEnd (n : ℕ) (text : Text) (place : ℕ) : Type 0 where
  there : IsViableBefore n text place
  is_not_viable : IsViablePrefix n (there.before ++ there.character ∷ []) → ⊥

unexpected-end : (n : ℕ) (text : Text) (place : ℕ) → IsUnexpectedAt n text place
    → IsEnd n text place
unexpected-end n text place h = record { there = h.there; is_not_viable = h.is_not_viable n }

deep-end : (n : ℕ) (text : Text) (place : ℕ) → IsTooDeepAt n text place → IsEnd n text place
deep-end n text place h = record { there = h.there; is_not_viable = h.is_not_viable }

-- what is before one of them is not in front of what is before another
apart : (n : ℕ) (t u : Text) (c : ℕ) → (IsViablePrefix n (t ++ c ∷ []) → ⊥) → IsViablePrefix n u
    → IsBefore t c u
    → ⊥
apart n t u c dead live h =
    dead (front-viable n (t ++ c ∷ []) h.more (subst (λ x. IsViablePrefix n x) h.parts live))

one-end : (n : ℕ) (text : Text) (place elsewhere : ℕ) → IsEnd n text place → IsEnd n text elsewhere
    → place ≡ elsewhere
one-end n text place elsewhere h g =
    elim
    (cuts h.there.before g.there.before h.there.character g.there.character h.there.after g.there.after
    (sym h.there.parts ∙ g.there.parts)) [
      | inl near ↦
          elim near [
            | inl one ↦ sym h.there.place_is ∙ ap bytes one ∙ g.there.place_is
            | inr b ↦
                absurd
                (apart n h.there.before g.there.before h.there.character h.is_not_viable g.there.is_viable b)
          ]
      | inr b ↦
          absurd
          (apart n g.there.before h.there.before g.there.character g.is_not_viable h.there.is_viable b)
    ]

-- a text with such a place is no viable prefix
no-prefix : (n : ℕ) (text : Text) (place : ℕ) → IsEnd n text place → IsViablePrefix n text → ⊥
no-prefix n text place h live =
    let parts : text ≡ (h.there.before ++ h.there.character ∷ []) ++ h.there.after
    = h.there.parts ∙ sym (append_assoc h.there.before (h.there.character ∷ []) h.there.after) in
    h.is_not_viable
    (front-viable n (h.there.before ++ h.there.character ∷ []) h.there.after
    (subst (λ x. IsViablePrefix n x) parts live))

-- a JSON text is a viable prefix
text-viable : (n : ℕ) (text : Text) → json_text n text → IsViablePrefix n text
text-viable n text h = ([], subst (λ x. json_text n x) (sym (append-nil text)) h)

-- the kinds of a wrong place
ended : (n : ℕ) (text : Text) (place : ℕ) → IsWrongTextAt n text place
    → IsEnd n text place ⊎ IsUnfinishedAt n text place
ended n text place (inl (inl h)) = inl (unexpected-end n text place h)
ended n text place (inl (inr h)) = inr h
ended n text place (inr h) = inl (deep-end n text place h)

pub wrong-once : (n : ℕ) (text : Text) (place elsewhere : ℕ) → IsWrongTextAt n text place
    → IsWrongTextAt n text elsewhere
    → place ≡ elsewhere
wrong-once n text place elsewhere h g =
    elim (ended n text place h) [
      | inl a ↦
          elim (ended n text elsewhere g) [
            | inl b ↦ one-end n text place elsewhere a b
            | inr b ↦ absurd (no-prefix n text place a b.is_viable)
          ]
      | inr a ↦
          elim (ended n text elsewhere g) [
            | inl b ↦ absurd (no-prefix n text elsewhere b a.is_viable)
            | inr b ↦ sym a.place_is ∙ b.place_is
          ]
    ]

pub wrong-only : (n : ℕ) (text : Text) (place : ℕ) → IsWrongTextAt n text place → json_text n text
    → ⊥
wrong-only n text place h is =
    elim (ended n text place h) [
      | inl a ↦ no-prefix n text place a (text-viable n text is)
      | inr a ↦ a.is_no_text n is
    ]

-- ---- some place

-- where the automaton stops in the text, from a front of it
found : (n : ℕ) (text front rest : Text) (m : ℕ) (k : List Level) (s : State)
    → text ≡ front ++ rest
    → walk n [] Value front ≡ on m k s
    → json_text n text ⊎ ((place : ℕ) × IsWrongTextAt n text place)
found n text front [] m k s parts way = at_end (is_final k s) refl
  where
    whole : text ≡ front
    whole = parts ∙ append-nil front

    at_end : (b : Bool) → is_final k s ≡ b
        → json_text n text ⊎ ((place : ℕ) × IsWrongTextAt n text place)
    at_end true f = inl (subst (λ x. json_text n x) (sym whole) (finished n m k s front way f))
    at_end false f =
        inr (
          bytes text,
          inl (inr (record {
            place_is = refl;
            is_viable = subst (λ x. IsViablePrefix n x) (sym whole) (viable n m k s front way);
            is_no_text = λ l t.
                unfinished n m l k s front way f (subst (λ x. json_text l x) whole t);
          })),
        )
found n text front (c ∷ rest) m k s parts way =
    moves
    (move m k s c)
    refl
    (λ l j e h. found n text (front ++ c ∷ []) rest l j e
    (parts ∙ sym (append_assoc front (c ∷ []) rest))
    (walk-more front n m k s c way ∙ h))
  where
    here : IsViableBefore n text (bytes front)
    here = record {
      before = front;
      character = c;
      after = rest;
      parts = parts;
      place_is = refl;
      is_viable = viable n m k s front way;
    }

    moves : (y : Moved) → move m k s c ≡ y
        → ((l : ℕ) (j : List Level) (e : State) → move m k s c ≡ on l j e
        → json_text n text ⊎ ((place : ℕ) × IsWrongTextAt n text place))
        → json_text n text ⊎ ((place : ℕ) × IsWrongTextAt n text place)
    moves (on l j e) h more = more l j e h
    moves stuck h more =
        inr (
          bytes front,
          inl (inl (record {
            there = here;
            is_not_viable = no_viable n (front ++ c ∷ []) (walk-more front n m k s c way ∙ h);
          })),
        )
    moves deep h more =
        inr (
          bytes front,
          inr (record {
            there = here;
            is_not_viable = not_viable n (front ++ c ∷ []) (walk-more front n m k s c way ∙ h);
            deeper = viable_deeper front n m k s c way h;
          }),
        )

pub wrong-somewhere : (n : ℕ) (text : Text)
    → json_text n text ⊎ ((place : ℕ) × IsWrongTextAt n text place)
wrong-somewhere n text = found n text [] text n [] Value refl refl
