-- A text spells a tree, or is refused with one kind and at one place.
use Rattle.std.proofs.Common.{◌≡◌, ◌⊎◌, ℕ, [], ◌∷◌, ◌++◌, inl, inr, refl, sym, ap, ◌∙◌, subst}
use Rattle.std.proofs.Common.{append_assoc, append-nil}
use Rattle.std.proofs.lemmas.List.{append_cancel_left}
use Rattle.jp_reading.specs.Texts.{Text, Spans, bytes}
use Rattle.jp_reading.specs.Outcome.{Outcome, took, stuck, deep}
use Rattle.jp_reading.proofs.States.Again.{start}
use Rattle.jp_query.specs.declared.refusal.RefusalKind.{RefusalKind}
use Rattle.jp_query.specs.declared.refusal.RefusalKind.TheVariants.{Syntax, TooDeep}
use Rattle.jp_tree.specs.Tree.{QueryTree}
use Rattle.jp_query.specs.Grammar.{Spells}
use Rattle.jp_query.specs.Spelled.{SpellsNothing}
use Rattle.jp_query.specs.ViablePrefix.{IsViablePrefix, IsNoViablePrefix, EndsViablePrefix}
use Rattle.jp_query.specs.ViablePrefix.{IsSyntaxAt, IsTooDeepAt}
use Rattle.jp_query.specs.Laws.{IsParseRefusal, OneRefusal}
use Rattle.jp_query.specs.Private.Reading.{query_at}
use Rattle.jp_query.proofs.Soundness.Whole.{read-spells}
use Rattle.jp_query.proofs.Refusals.Places.{stuck-place, deep-place}
use Rattle.jp_query.proofs.WholeRules.{queries}

-- ---- viable prefixes of one text

-- what begins a viable prefix is one
viable-less : (n : ℕ) (prefix more : Text) → IsViablePrefix n (prefix ++ more)
    → IsViablePrefix n prefix
viable-less n prefix more h =
    (more ++ h.0, h.1, h.2, subst (Spells n h.1 h.2) (append_assoc prefix more h.0) h.3)

-- a text that spells a tree is a viable prefix, and so is what begins it
spelled-viable : (n : ℕ) (text prefix more : Text) (q : QueryTree) (s : Spans)
    → text ≡ prefix ++ more → Spells n q s text → IsViablePrefix n prefix
spelled-viable n text prefix more q s e h = (more, q, s, subst (Spells n q s) e h)

-- two prefixes of one text are the same, or one goes on with the character that comes after the
-- other
data Meet (prefix other rest left : Text) : Type 0 where
  together : prefix ≡ other → Meet prefix other rest left
  further : (c : ℕ) (t u : Text) → rest ≡ c ∷ t → other ≡ (prefix ++ c ∷ []) ++ u
      → Meet prefix other rest left
  less : (c : ℕ) (t u : Text) → left ≡ c ∷ t → prefix ≡ (other ++ c ∷ []) ++ u
      → Meet prefix other rest left

meet : (prefix other rest left : Text) → prefix ++ rest ≡ other ++ left
    → Meet prefix other rest left
meet [] [] rest left e = together refl
meet [] (c ∷ other) rest left e = further c (other ++ left) other e refl
meet (c ∷ prefix) [] rest left e = less c (prefix ++ rest) prefix (sym e) refl
meet (c ∷ prefix) (d ∷ other) rest left e = after (meet prefix other rest left cc)
  where
    after : Meet prefix other rest left → Meet (c ∷ prefix) (d ∷ other) rest left
    after (together f) = together cc
    after (further x t u f g) = further x t u f cc
    after (less x t u f g) = less x t u f cc

-- ---- where a text goes no further

-- a place up to which a text is a viable prefix, and no longer so after the next character
record Point (n : ℕ) (text : Text) (place : ℕ) : Type 0 where
  before : Text
  rest : Text
  parts : text ≡ before ++ rest
  place_is : bytes before ≡ place
  is_viable : IsViablePrefix n before
  no_further : (unexpected : ℕ) (after : Text) → rest ≡ unexpected ∷ after
      → IsNoViablePrefix n (before ++ unexpected ∷ [])

one-prefix : (n : ℕ) (text : Text) (place other : ℕ) (h : Point n text place)
    (g : Point n text other) → h.before ≡ g.before
one-prefix n text place other h g =
    meets (meet h.before g.before h.rest g.rest (sym h.parts ∙ g.parts))
  where
    meets : Meet h.before g.before h.rest g.rest → h.before ≡ g.before
    meets (together e) = e
    meets (further c t u e f) =
        absurd (h.no_further c t e
        (viable-less n (h.before ++ c ∷ []) u (subst (IsViablePrefix n) f g.is_viable)))
    meets (less c t u e f) =
        absurd (g.no_further c t e
        (viable-less n (g.before ++ c ∷ []) u (subst (IsViablePrefix n) f h.is_viable)))

one-point : (n : ℕ) (text : Text) (place other : ℕ) → Point n text place → Point n text other
    → place ≡ other
one-point n text place other h g =
    sym h.place_is ∙ ap bytes (one-prefix n text place other h g) ∙ g.place_is

-- at a character, and at the end
unexpected-point : (n : ℕ) (text : Text) (place : ℕ) → EndsViablePrefix n text place → Point n text place
unexpected-point n text place h = record {
  before = h.before;
  rest = h.unexpected ∷ h.after;
  parts = h.parts;
  place_is = h.place_is;
  is_viable = h.is_viable;
  no_further = λ c t e. (let same : h.unexpected ≡ c = cc in subst
      (λ d. IsNoViablePrefix n (h.before ++ d ∷ [])) same h.is_not_viable);
}

syntax-point : (n : ℕ) (text : Text) (place : ℕ) → IsSyntaxAt n text place → Point n text place
syntax-point n text place (inl h) = record {
  before = text;
  rest = [];
  parts = sym (append-nil text);
  place_is = h.place_is;
  is_viable = h.is_viable;
  no_further = λ c t e. cc;
}
syntax-point n text place (inr h) = unexpected-point n text place h.end

deep-point : (n : ℕ) (text : Text) (place : ℕ) → IsTooDeepAt n text place → Point n text place
deep-point n text place h = unexpected-point n text place h.end

-- through a character that begins a level too many the text goes on one level deeper, through any other
-- it does not
not-both : (n : ℕ) (text : Text) (place other : ℕ) → IsSyntaxAt n text place
    → IsTooDeepAt n text other → ⊥
unfolding syntax-point unexpected-point deep-point
not-both n text place other (inl h) g =
    let end = g.end in
    end.is_not_viable (viable-less n (end.before ++ end.unexpected ∷ []) end.after
    (subst (IsViablePrefix n)
    (end.parts ∙ sym (append_assoc end.before (end.unexpected ∷ []) end.after)) h.is_viable))
not-both n text place other (inr h) g =
    let before = one-prefix n text place other (syntax-point n text place (inr h))
    (deep-point n text other g) in
    let one = h.end in
    let two = g.end in
    let left : one.unexpected ∷ one.after ≡ two.unexpected ∷ two.after =
    append_cancel_left two.before (one.unexpected ∷ one.after) (two.unexpected ∷ two.after)
    (ap (λ t. t ++ one.unexpected ∷ one.after) (sym before) ∙ sym one.parts ∙ two.parts) in
    let unexpected : one.unexpected ≡ two.unexpected = cc in
    h.none_deeper (rw (before, unexpected) g.deeper)

-- ---- the law

once : (n : ℕ) (text : Text) (kind other : RefusalKind) (place elsewhere : ℕ)
    → IsParseRefusal n text kind place → IsParseRefusal n text other elsewhere
    → (kind ≡ other) × (place ≡ elsewhere)
once n text kind other place elsewhere (inl h) (inl g) = (
  h.0 ∙ sym g.0,
  one-point n text place elsewhere (syntax-point n text place h.1)
      (syntax-point n text elsewhere g.1),
)
once n text kind other place elsewhere (inr h) (inr g) = (
  h.0 ∙ sym g.0,
  one-point n text place elsewhere (deep-point n text place h.1) (deep-point n text elsewhere g.1),
)
once n text kind other place elsewhere (inl h) (inr g) =
    absurd (not-both n text place elsewhere h.1 g.1)
once n text kind other place elsewhere (inr h) (inl g) =
    absurd (not-both n text elsewhere place g.1 h.1)

nothing-spelled : (n : ℕ) (text : Text) (place : ℕ) → EndsViablePrefix n text place
    → SpellsNothing n text
nothing-spelled n text place end q s h =
    let through = end.before ++ end.unexpected ∷ [] in
    end.is_not_viable (spelled-viable n text through end.after q s
    (end.parts ∙ sym (append_assoc end.before (end.unexpected ∷ []) end.after)) h)

only : (n : ℕ) (text : Text) (kind : RefusalKind) (place : ℕ) → IsParseRefusal n text kind place
    → SpellsNothing n text
only n text kind place (inl (e, inl h)) = h.nothing
only n text kind place (inl (e, inr h)) = nothing-spelled n text place h.end
only n text kind place (inr (e, h)) = nothing-spelled n text place h.end

answered : (n : ℕ) (text : Text) (o : Outcome QueryTree) → query_at n (start text) ≡ o
    → ((q : QueryTree) × (s : Spans) × Spells n q s text) ⊎
    ((kind : RefusalKind) × (place : ℕ) × IsParseRefusal n text kind place)
unfolding query_at
answered n text (took q r) e = inl (q, r.found, read-spells n text q r e)
answered n text (stuck r) e = inr (Syntax, r.at, inl (refl, stuck-place queries n text r e))
answered n text (deep r) e = inr (TooDeep, r.at, inr (refl, deep-place queries n text r e))

pub one-refusal : OneRefusal
one-refusal n text = record {
  answered = answered n text (query_at n (start text)) refl;
  once = once n text;
  only = only n text;
}
