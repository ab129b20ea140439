-- Tables that borrow nothing stand for what the others stood for: for `Flat::owned`.
use Rattle.std.proofs.Common.{◌≡◌, ◌+◌, ◌-◌, ◌≤◌, ◌++◌, ◌&&◌, ℕ, zero, suc, Bool, true, false, List, []}
use Rattle.std.proofs.Common.{Option, Some, None, cond, leb, length, take, drop, is_some, unwrap_or}
use Rattle.std.proofs.Common.{refl, sym, ap, subst, ◌∙◌, arith}
use Rattle.std.proofs.lemmas.Bool.{cond-true, leb-true, le-leb}
use Rattle.std.proofs.lemmas.Option.{cond_some}
use Rattle.jp_document.specs.Value.{everywhere, is_allowed, null}
use Rattle.jp_flat.specs.Flat.{BeginsWith, IsOwned, Keeps, Shown, flat_value, is_flat, meaning, piece}
use Rattle.jp_flat.specs.Flat.{text_at}
use Rattle.jp_document.specs.OfJson.{most_levels}
use Rattle.jp_flat.specs.declared.item.Item.{Item}
use Rattle.jp_flat.specs.declared.item.Span.{Span}
use Rattle.jp_reading.proofs.Conjunctions.{and-left, and-right}
use Rattle.jp_flat.proofs.Growth.{begins_same, piece_behind, value_kept, within_more}

-- a text of the document or a spare one, in both of them side by side
pub in_both : (t : Shown) (p : Span) (x : List ℕ) → text_at t p ≡ Some x
    → piece (t.source ++ t.spare) p.first p.count ≡ Some x
in_both t p x = go (leb (p.first + p.count) (length t.source)) (leb (length t.source) p.first) refl refl
  where
    go : (b c : Bool) → leb (p.first + p.count) (length t.source) ≡ b
        → leb (length t.source) p.first ≡ c
        → cond b (Some (take p.count (drop p.first t.source)))
        (cond c (piece t.spare (p.first - length t.source) p.count) None) ≡ Some x
        → piece (t.source ++ t.spare) p.first p.count ≡ Some x
    go true c there behind is =
        within_more t.source x t.spare p.first p.count (cond-true _ _ _ there ∙ is)
    go false true there behind is =
        piece_behind t.source t.spare x p.first p.count (leb-true _ _ behind) is
    go false false there behind is = absurd (cc)

nothing_there : (first count : ℕ) (w x : List ℕ) → first + count ≤ 0 → piece w first count ≡ Some x
    → Some (take count (drop first [])) ≡ Some x
nothing_there first zero w x few is = ap Some (cond_some _ _ x is).1
nothing_there first (suc count) w x few is = absurd (omega (arith, few))

alone : (w : List ℕ) (first count : ℕ) (x : List ℕ) → piece w first count ≡ Some x
    → cond (leb (first + count) 0) (Some (take count (drop first [])))
    (cond (leb 0 first) (piece w (first - 0) count) None) ≡ Some x
alone w first count x is = go (leb (first + count) 0) refl
  where
    go : (b : Bool) → leb (first + count) 0 ≡ b
        → cond b (Some (take count (drop first [])))
        (cond (leb 0 first) (piece w (first - 0) count) None) ≡ Some x
    go true few = nothing_there first count w x (leb-true _ _ few) is
    go false many =
        cond-true _ _ _ (le-leb 0 first (omega arith))
        ∙ ap (λ n. piece w n count) (omega arith) ∙ is

pub owned-keeps : (t s : Shown) → IsOwned t s → Keeps t s
owned-keeps t s o = record {
  texts = λ p x is. subst (λ w. text_at (record s { source = w }) p ≡ Some x) (sym o.source)
      (subst (λ w. text_at (record s { source = []; spare = w }) p ≡ Some x) (sym o.spare)
      (alone (t.source ++ t.spare) p.first p.count x (in_both t p x is)));
  items = subst (λ w. BeginsWith w t.items) (sym o.items) (begins_same t.items);
  members = subst (λ w. BeginsWith w t.members) (sym o.members) (begins_same t.members);
}

there : {A : Type 0} (o : Option A) (a : A) → is_some o ≡ true → o ≡ Some (unwrap_or o a)
there (Some x) a is = refl
there None a is = absurd (cc)

pub record IsSame (t s : Shown) (i : Item) : Type 0 where
  pub sound : is_flat s i ≡ true
  pub means : meaning s i ≡ meaning t i

pub owned_same : (t s : Shown) (i : Item) → IsOwned t s → is_flat t i ≡ true → IsSame t s i
owned_same t s i o sound =
    let has = there (flat_value most_levels t i) null (and-left _ _ sound) in
    let kept = value_kept most_levels t s (owned-keeps t s o) i (meaning t i) has in
    record {
      sound = ap (λ w. is_some w && everywhere is_allowed (unwrap_or w null)) kept
          ∙ and-right _ _ sound;
      means = ap (λ w. unwrap_or w null) kept;
    }
