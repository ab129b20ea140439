-- The words of branches, of sequences and of repeats, over lists: for the law `languages`.
use Rattle.std.proofs.Common.{◌≡◌, ℕ, zero, suc, ◌≤◌, List, [], ◌∷◌, ◌++◌, length}
use Rattle.std.proofs.Common.{◌⊎◌, inl, inr, refl, ap, sym, ◌∙◌, subst, arith}
use Rattle.std.specs.List.{Any, All, AllZip, concat}
use Rattle.std.proofs.lemmas.List.Elements.{All-cons, All-nil}
use Rattle.jp_iregexp.specs.Tree.{Tree, branches, pieces}
use Rattle.jp_iregexp.specs.Language.{Language, Power, IsAtMost}
use Rattle.jp_iregexp.specs.Laws.{BranchesUnite, SequencesCut, RepeatsCut}

any_here : {X : Type 0} (P : X → Type 0) (x : X) (xs : List X) → P x → Any P (x ∷ xs)
any_here P x xs p = (0, x, omega arith, refl, p)

any_later : {X : Type 0} (P : X → Type 0) (x : X) (xs : List X) → Any P xs → Any P (x ∷ xs)
any_later P x xs (k, y, below, at, p) = (suc k, y, omega arith, at, p)

any_split : {X : Type 0} (P : X → Type 0) (x : X) (xs : List X) → Any P (x ∷ xs) → P x ⊎ Any P xs
any_split P x xs (zero, y, below, at, p) = inl (subst P (sym at) p)
any_split P x xs (suc k, y, below, at, p) = inr (k, y, omega arith, at, p)

to_branch : (bs : List Tree) (word : List ℕ) → Language (branches bs) word
    → Any (λ b. Language b word) bs
to_branch [] word h = absurd h
to_branch (b ∷ bs) word (inl h) = any_here (λ b. Language b word) b bs h
to_branch (b ∷ bs) word (inr h) = any_later (λ b. Language b word) b bs (to_branch bs word h)

of_branch : (bs : List Tree) (word : List ℕ) → Any (λ b. Language b word) bs
    → Language (branches bs) word
of_branch [] word (k, b, below, at, h) = absurd (omega arith)
of_branch (b ∷ bs) word any =
    elim (any_split (λ b. Language b word) b bs any) [
      | inl h ↦ inl h
      | inr h ↦ inr (of_branch bs word h)
    ]

pub branches_unite : BranchesUnite
branches_unite bs word = (to_branch bs word, of_branch bs word)

to_cut : (ps : List Tree) (word : List ℕ) → Language (pieces ps) word
    → (words : List (List ℕ)) × (word ≡ concat words) × AllZip Language ps words
to_cut [] word h = ([], h, tt)
to_cut (p ∷ ps) word h =
    let (words, is, each) = to_cut ps h.suffix h.second in
    (h.prefix ∷ words, h.is ∙ ap (λ w. h.prefix ++ w) is, (h.first, each))

of_cut : (ps : List Tree) (words : List (List ℕ)) → AllZip Language ps words
    → Language (pieces ps) (concat words)
of_cut [] [] each = refl
of_cut [] (w ∷ words) each = absurd each
of_cut (p ∷ ps) [] each = absurd each
of_cut (p ∷ ps) (w ∷ words) each = record {
  prefix = w;
  suffix = concat words;
  is = refl;
  first = each.0;
  second = of_cut ps words each.1;
}

pub sequences_cut : SequencesCut
sequences_cut ps word =
    (to_cut ps word, λ c. subst (Language (pieces ps)) (sym c.1) (of_cut ps c.0 c.2))

to_power : (a : Tree) (k : ℕ) (word : List ℕ) → Power (Language a) k word
    → (words : List (List ℕ)) × (word ≡ concat words) × (length words ≡ k) × All (Language a) words
to_power a zero word h = ([], h, refl, All-nil (Language a))
to_power a (suc k) word h =
    let (words, is, long, each) = to_power a k h.suffix h.second in (
      h.prefix ∷ words,
      h.is ∙ ap (λ w. h.prefix ++ w) is,
      ap suc long,
      All-cons (Language a) h.prefix words h.first each,
    )

of_power : (a : Tree) (words : List (List ℕ)) → All (Language a) words
    → Power (Language a) (length words) (concat words)
of_power a [] each = refl
of_power a (w ∷ words) each = record {
  prefix = w;
  suffix = concat words;
  is = refl;
  first = each 0 w (omega arith);
  second = of_power a words (λ k d below. each (suc k) d (omega arith));
}

pub repeats_cut : RepeatsCut
repeats_cut a least most word = (
  λ h. let (words, is, long, each) = to_power a h.0 word h.3 in (
    words,
    is,
    subst (λ n. least ≤ n) (sym long) h.1,
    subst (IsAtMost most) (sym long) h.2,
    each,
  ),
  λ c. (
    length c.0,
    c.2,
    c.3,
    subst (Power (Language a) (length c.0)) (sym c.1) (of_power a c.0 c.4),
  ),
)
