-- Lists and objects of which some is kept, and values that are kept as they are: for `picked_list` and
-- `picked_object`.
use Rattle.std.proofs.Common.{◌≡◌, ◌-◌, ◌<◌, ℕ, suc, Bool, List, ◌∷◌, Some, refl, sym, subst, ◌∙◌}
use Rattle.std.proofs.Common.{arith}
use Rattle.json.specs.Token.{Token}
use Rattle.jp_document.specs.Value.{Value, boolean, items_of, list, members_of, null, object, text}
use Rattle.jp_document.specs.Value.{whole, decimal}
use Rattle.jp_reading.proofs.Conjunctions.{and-both}
use Rattle.jp_flat.specs.Asked.{with_items_of, with_members}
use Rattle.jp_flat.specs.Flat.{Shown, flat_value}
use Rattle.jp_flat.specs.Private.FromTokens.{ReadsValue}
use Rattle.jp_flat.specs.Private.Kept.{KeepsFlat, KeepsFlatItems, KeepsFlatMembers}
use Rattle.jp_flat.specs.Private.Reading.{ReadsFlat}
use Rattle.jp_flat.specs.Private.Tokens.{token_of}
use Rattle.jp_flat.specs.declared.item.Item.{Item}
use Rattle.jp_flat.specs.declared.token.Token as code
use Rattle.jp_flat.specs.declared.token.Token.TheVariants.{BeginArray, BeginObject}
use Rattle.jp_flat.proofs.Begun.{a_list, an_object, begins-list, begins-object, sort-number_of, sort_of}
use Rattle.jp_flat.proofs.Begun.{sort-read}
use Rattle.jp_flat.proofs.Begun.{token_sort}
use Rattle.jp_flat.proofs.Leaves.{reads_list, reads_object}
use Rattle.jp_document.specs.NumberTexts.{numbers_of}

-- ---- lists and objects of which some is kept

pub keeps-list : (Keeps : Value → Value → Type 0) (depth : ℕ) (ts s r : List Token) (t : Shown)
    (i : Item) → 0 < depth → ts ≡ Token.begin_array ∷ s → KeepsFlatItems Keeps (depth - 1) s r t i
    → KeepsFlat Keeps depth ts r t i
keeps-list Keeps depth ts s r t i deep first x = record {
  value = list (items_of x.values);
  kept = x.kept;
  reads = reads_list depth ts s r x.values deep first x.reads;
  short = and-both _ _ x.short x.within;
  keeps = x.keeps;
  means =
      let same : suc (depth - 1) ≡ depth = omega arith in
      subst (λ n. flat_value n t i ≡ Some x.kept) same x.means;
}

pub keeps-object : (Keeps : Value → Value → Type 0) (depth : ℕ) (ts s r : List Token) (t : Shown)
    (i : Item) → 0 < depth → ts ≡ Token.begin_object ∷ s
    → KeepsFlatMembers Keeps (depth - 1) s r t i → KeepsFlat Keeps depth ts r t i
keeps-object Keeps depth ts s r t i deep first x = record {
  value = object (members_of x.members);
  kept = x.kept;
  reads = reads_object depth ts s r x.members deep first x.reads;
  short = and-both _ _ refl x.within;
  keeps = x.keeps;
  means =
      let same : suc (depth - 1) ≡ depth = omega arith in
      subst (λ n. flat_value n t i ≡ Some x.kept) same x.means;
}

-- ---- values that are kept as they are

keeps-same : (f : Value → Value) (depth : ℕ) (ts q r : List Token) (k : Token) (t : Shown) (i : Item)
    → ts ≡ k ∷ q → ((v : Value) → sort_of v ≡ token_sort k → v ≡ f v) → ReadsFlat depth (k ∷ q) r t i
    → KeepsFlat (λ v u. u ≡ f v) depth ts r t i
keeps-same f depth ts q r k t i first same x = record {
  value = x.value;
  kept = x.value;
  reads = subst (λ ks. ReadsValue (numbers_of t.exact) depth ks r x.value) (sym first) x.reads;
  short = x.short;
  keeps = same x.value
      (sort-read (numbers_of t.exact) (sort-number_of t.exact) depth k q r x.value x.reads);
  means = x.means;
}

no-list : (p : List ℕ → Bool) (v : Value) → (sort_of v ≡ a_list → ⊥) → v ≡ with_items_of p v
no-list p (list vs) none = absurd (none refl)
no-list p (object ms) none = refl
no-list p (text s) none = refl
no-list p (whole z) none = refl
no-list p (decimal c e) none = refl
no-list p (boolean b) none = refl
no-list p null none = refl

no-object : (p : List ℕ → Bool) (v : Value) → (sort_of v ≡ an_object → ⊥) → v ≡ with_members p v
no-object p (list vs) none = refl
no-object p (object ms) none = absurd (none refl)
no-object p (text s) none = refl
no-object p (whole z) none = refl
no-object p (decimal c e) none = refl
no-object p (boolean b) none = refl
no-object p null none = refl

-- a value that begins as no list
pub keeps-no_list : (p : List ℕ → Bool) (depth : ℕ) (ts q r : List Token) (k : code.Token)
    (t : Shown) (i : Item) → ts ≡ token_of k ∷ q → (k ≡ BeginArray → ⊥)
    → ReadsFlat depth (token_of k ∷ q) r t i → KeepsFlat (λ v u. u ≡ with_items_of p v) depth ts r t i
keeps-no_list p depth ts q r k t i first none x =
    keeps-same (with_items_of p) depth ts q r (token_of k) t i first
    (λ v is. no-list p v (λ here. none (begins-list k (sym is ∙ here)))) x

-- a value that begins as no object
pub keeps-no_object : (p : List ℕ → Bool) (depth : ℕ) (ts q r : List Token) (k : code.Token)
    (t : Shown) (i : Item) → ts ≡ token_of k ∷ q → (k ≡ BeginObject → ⊥)
    → ReadsFlat depth (token_of k ∷ q) r t i → KeepsFlat (λ v u. u ≡ with_members p v) depth ts r t i
keeps-no_object p depth ts q r k t i first none x =
    keeps-same (with_members p) depth ts q r (token_of k) t i first
    (λ v is. no-object p v (λ here. none (begins-object k (sym is ∙ here)))) x
