-- The frames that a walk keeps, and the steps to them.
use Rattle.std.proofs.Common.{◌≡◌, ◌≤◌, min, List, [], ◌∷◌, ◌++◌, Option, Some}
use Rattle.std.proofs.Common.{None, take, length, map, option_map, option_to_list, refl, ap, ap₂, sym, ◌∙◌, append_assoc, Vec}
use Rattle.std.proofs.Common.{Global, arith}
use Rattle.std.specs.List.{flat_map, slice_get}
use Rattle.std.proofs.lemmas.List.{append-nil, length-map, map-append, take-append-le, take-take}
use Rattle.jp_document.specs.Location.{Location}
use Rattle.jp_evaluate.specs.Private.Walk.{Keeps, reached_at, step_to, steps_of, walk_frames, walk_steps}
use Rattle.jp_evaluate.specs.declared.walk.Frame.{Frame}
use Rattle.jp_evaluate.specs.declared.walk.Reached.{Reached}
use Rattle.jp_evaluate.specs.declared.walk.Walk.{Walk}

-- ---- what is kept

pub take-none : {X : Type 0} (xs : List X) → take 0 xs ≡ []
take-none [] = refl
take-none (x ∷ xs) = refl

-- of what another kept that kept no more
pub keeps_then : {V : Type 0} (u v w : Walk V) → Keeps u v → Keeps v w → Keeps u w
keeps_then u v w before after = (
  omega (arith, before.0, after.0),
  after.1
      ∙ sym (take-take w.kept v.kept (walk_steps v) after.0)
      ∙ ap (take w.kept) before.1
      ∙ take-take w.kept v.kept (walk_steps u) after.0,
)

-- the steps stay, and as many are kept
pub keeps_all : {V : Type 0} (v w : Walk V) → w.kept ≤ v.kept → walk_steps w ≡ walk_steps v → Keeps v w
keeps_all v w less same = (less, ap (take w.kept) same)

pub keeps_none : {V : Type 0} (v w : Walk V) → w.kept ≡ 0 → Keeps v w
keeps_none v w none = (
  omega (arith, none),
  ap (λ k. take k (walk_steps w)) none ∙ take-none (walk_steps w) ∙ sym (take-none (walk_steps v))
      ∙ ap (λ k. take k (walk_steps v)) (sym none),
)

-- the last frame goes on to another choice
pub keeps_turned : {V : Type 0} (v w : Walk V) (f g : Frame V) → w.below ≡ v.below → v.top ≡ Some f
    → w.top ≡ Some g → g.reached ≡ f.reached → w.kept ≡ v.kept → Keeps v w
keeps_turned {V = X} v w f g below was is reached kept =
    let fs = v.below.items in
    keeps_all v w (omega (arith, kept))
    (ap₂ (λ (b : Vec (Frame X) Global) t. map step_to (b.items ++ option_to_list t)) below is
    ∙ map-append step_to fs (g ∷ [])
    ∙ ap (λ (p : Reached X). map step_to fs ++ p.step ∷ []) reached
    ∙ sym (map-append step_to fs (f ∷ []))
    ∙ ap (λ t. map step_to (fs ++ option_to_list t)) (sym was))

-- the last frame went
pub keeps_front : {V : Type 0} (v w : Walk V) (fs : List (Frame V)) (f : Frame V)
    → walk_frames v ≡ fs ++ f ∷ [] → walk_frames w ≡ fs → w.kept ≡ min v.kept (length fs) → Keeps v w
keeps_front v w fs f was is kept =
    let short : w.kept ≤ length (map step_to fs) = omega (arith, kept, length-map fs step_to) in (
      omega (arith, kept),
      ap (λ gs. take w.kept (map step_to gs)) is
          ∙ sym (take-append-le w.kept (map step_to fs) (map step_to (f ∷ [])) short)
          ∙ ap (take w.kept) (sym (map-append step_to fs (f ∷ [])))
          ∙ ap (λ gs. take w.kept (map step_to gs)) (sym was),
    )

-- the same where it stood apart
pub keeps-left : {V : Type 0} (v w : Walk V) (f : Frame V) → v.top ≡ Some f → walk_frames w ≡ v.below.items
    → w.kept ≡ min v.kept (length v.below.items) → Keeps v w
keeps-left v w f was is kept =
    keeps_front v w v.below.items f (ap (λ t. v.below.items ++ option_to_list t) was) is kept

-- a frame came
pub keeps_push : {V : Type 0} (v w : Walk V) (f : Frame V) → walk_frames w ≡ walk_frames v ++ f ∷ []
    → w.kept ≡ min v.kept (length (walk_frames v)) → Keeps v w
keeps_push v w f is kept =
    let fs = walk_frames v in
    let short : w.kept ≤ length (map step_to fs) = omega (arith, kept, length-map fs step_to) in (
      omega (arith, kept),
      ap (λ gs. take w.kept (map step_to gs)) is
          ∙ ap (take w.kept) (map-append step_to fs (f ∷ []))
          ∙ take-append-le w.kept (map step_to fs) (map step_to (f ∷ [])) short,
    )

-- ---- steps

-- the steps lead to where the last frame stands
pub reached-steps : {V : Type 0} (l : Location) (fs : List (Frame V))
    → reached_at l fs ≡ l ++ flat_map steps_of (map step_to fs)
reached-steps l [] = sym (append-nil l)
reached-steps l (f ∷ fs) =
    reached-steps (l ++ steps_of f.reached.step) fs
    ∙ append_assoc l (steps_of f.reached.step) (flat_map steps_of (map step_to fs))

-- the step to the frame that stands apart
pub step-apart : {V : Type 0} (fs : List (Frame V)) (o : Option (Frame V))
    → slice_get (map step_to (fs ++ option_to_list o)) (length fs) ≡ option_map step_to o
step-apart [] None = refl
step-apart [] (Some f) = refl
step-apart (g ∷ fs) o = step-apart fs o
