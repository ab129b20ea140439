-- What is left of a list behind some that were skipped, and what that leaves as it was.
use Rattle.std.proofs.Common.{◌≡◌, ◌≤◌, ℕ, List, [], ◌∷◌, ◌++◌, length, map, refl, sym, ap, ap₂, subst, ◌∙◌}
use Rattle.std.proofs.Common.{append_assoc, arith, drop}
use Rattle.std.specs.List.{All, flat_map, sum_by}
use Rattle.std.proofs.lemmas.List.{length-append, map-append}
use Rattle.std.proofs.lemmas.List.Elements.{All-append, All-drop, All-head, All-map, All-nil, All-push, All-tail, All-weaker}
use Rattle.std.proofs.lemmas.List.Sums.{sum_by-append, sum_by-cons}
use Rattle.std.proofs.Math.Seq.{drop-append_seam}
use Rattle.jp_evaluate.specs.Private.Walk.{Skips}

pub skips-none : {A : Type 0} (P : A → Type 0) (xs : List A) → Skips P xs xs
skips-none P xs = record { skipped = []; such = All-nil P; is = refl }

pub skips-same : {A : Type 0} (P : A → Type 0) (xs ys zs : List A) → Skips P xs ys → ys ≡ zs → Skips P xs zs
skips-same P xs ys zs skips same = subst (Skips P xs) same skips

pub skips-from : {A : Type 0} (P : A → Type 0) (xs ys zs : List A) → xs ≡ ys → Skips P ys zs → Skips P xs zs
skips-from P xs ys zs same skips = subst (λ ws. Skips P ws zs) (sym same) skips

-- one more
pub skips-more : {A : Type 0} (P : A → Type 0) (xs ys : List A) (y : A) → Skips P xs (y ∷ ys) → P y
    → Skips P xs ys
skips-more P xs ys y skips such = record {
  skipped = skips.skipped ++ y ∷ [];
  such = All-push P skips.skipped y skips.such such;
  is = skips.is ∙ sym (append_assoc skips.skipped (y ∷ []) ys);
}

pub skips-then : {A : Type 0} (P : A → Type 0) (xs ys zs : List A) → Skips P xs ys → Skips P ys zs
    → Skips P xs zs
skips-then P xs ys zs one two = record {
  skipped = one.skipped ++ two.skipped;
  such = All-append P one.skipped two.skipped one.such two.such;
  is = one.is ∙ ap (λ t. one.skipped ++ t) two.is ∙ sym (append_assoc one.skipped two.skipped zs);
}

pub skips-map : {A B : Type 0} (P : A → Type 0) (Q : B → Type 0) (f : A → B) (xs ys : List A)
    → ((x : A) → P x → Q (f x)) → Skips P xs ys → Skips Q (map f xs) (map f ys)
skips-map P Q f xs ys each skips = record {
  skipped = map f skips.skipped;
  such = All-map Q f skips.skipped (All-weaker P (λ x. Q (f x)) each skips.skipped skips.such);
  is = ap (map f) skips.is ∙ map-append f skips.skipped ys;
}

pub skips-before : {A : Type 0} (P : A → Type 0) (xs ys more : List A) → Skips P xs ys
    → Skips P (xs ++ more) (ys ++ more)
skips-before P xs ys more skips = record {
  skipped = skips.skipped;
  such = skips.such;
  is = ap (λ t. t ++ more) skips.is ∙ append_assoc skips.skipped ys more;
}

none_of : {A B : Type 0} (P : A → Type 0) (f : A → List B) (xs ys : List A) → ((x : A) → P x → f x ≡ [])
    → All P xs → flat_map f (xs ++ ys) ≡ flat_map f ys
none_of P f [] ys none such = refl
none_of P f (x ∷ xs) ys none such =
    ap₂ (λ a b. a ++ b) (none x (All-head P x xs such)) (none_of P f xs ys none (All-tail P x xs such))

-- of what is skipped nothing is made
pub skips-flat : {A B : Type 0} (P : A → Type 0) (f : A → List B) (xs ys : List A)
    → ((x : A) → P x → f x ≡ []) → Skips P xs ys → flat_map f xs ≡ flat_map f ys
skips-flat P f xs ys none skips = ap (flat_map f) skips.is ∙ none_of P f skips.skipped ys none skips.such

pub skips-less : {A : Type 0} (P : A → Type 0) (f : A → ℕ) (xs ys : List A) → Skips P xs ys
    → sum_by f ys ≤ sum_by f xs
skips-less P f xs ys skips =
    let sum = ap (sum_by f) skips.is ∙ sum_by-append f skips.skipped ys in
    omega arith

nothing-in : {A : Type 0} (P : A → Type 0) (f : A → ℕ) (xs : List A) → ((x : A) → P x → f x ≡ 0)
    → All P xs → sum_by f xs ≡ 0
nothing-in P f [] none such = refl
nothing-in P f (x ∷ xs) none such =
    let sum = sum_by-cons f x xs in
    let here = none x (All-head P x xs such) in
    let rest = nothing-in P f xs none (All-tail P x xs such) in
    omega arith

pub skips-sum : {A : Type 0} (P : A → Type 0) (f : A → ℕ) (xs ys : List A) → ((x : A) → P x → f x ≡ 0)
    → Skips P xs ys → sum_by f xs ≡ sum_by f ys
skips-sum P f xs ys none skips =
    let sum = ap (sum_by f) skips.is ∙ sum_by-append f skips.skipped ys in
    let nothing = nothing-in P f skips.skipped none skips.such in
    omega arith

pub skips-length : {A : Type 0} (P : A → Type 0) (xs ys : List A) → Skips P xs ys → length ys ≤ length xs
skips-length P xs ys skips =
    let long = ap length skips.is ∙ length-append skips.skipped ys in
    omega arith

pub skips-all : {A : Type 0} (P Q : A → Type 0) (xs ys : List A) → Skips P xs ys → All Q xs → All Q ys
skips-all P Q xs ys skips all =
    subst (All Q) (ap (λ t. drop (length skips.skipped) t) skips.is ∙ drop-append_seam skips.skipped ys)
    (All-drop Q (length skips.skipped) xs all)
