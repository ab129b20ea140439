-- `==` of the parts of a query that hold no query says whether their trees are equal; and `==` of
-- lists, where that of their items does.
use Rattle.std.proofs.Common.{◌≡◌, ℕ, refl, ap, sym, ◌∙◌, rules, Bool, List, [], ◌∷◌, map, Option}
use Rattle.std.proofs.Common.{None, Some, String, string_bytes, chars, Global, Decides}
use Rattle.std.proofs.lemmas.Bool.Decides.{Decides-and, Decides-int_eq, Decides-like}
use Rattle.std.proofs.lemmas.Slice.Eq.{bytes_eq-Decides}
use Rattle.std.proofs.lemmas.Str.{IsUtf8-string_bytes, encodes-chars}
use Rattle.std.specs.Option.{option_eq}
use Rattle.std.specs.Str.{encode_utf8_all}
use Rattle.std.specs.String.{string_eq}
use Rattle.jp_decimal.proofs.Unique.{Decides-decimal, Decides-number}
use Rattle.jp_decimal.specs.contracts.number.DecimalPartialEq.TheImpl as decimals
use Rattle.jp_decimal.specs.contracts.number.NumberPartialEq.TheImpl as numbers
use denote.Enum.Bare.{same_true, true_same}
use lib.Pointwise.{pointwise}
use Rattle.jp_tree.specs.contracts.tree.LiteralPartialEq.TheImpl as literals
use Rattle.jp_tree.specs.contracts.tree.NumeralPartialEq.TheImpl as numerals
use Rattle.jp_tree.specs.contracts.tree.Op.{the_type}
use Rattle.jp_tree.specs.contracts.tree.OpPartialEq.TheImpl as ops
use Rattle.jp_tree.specs.contracts.tree.SlicePartialEq.TheImpl as slices
use Rattle.jp_tree.specs.declared.tree.Literal.{Literal}
use Rattle.jp_tree.specs.declared.tree.Literal.TheVariants.{Number, Text, True, False, Null}
use Rattle.jp_tree.specs.declared.tree.Numeral.{Numeral}
use Rattle.jp_tree.specs.declared.tree.Numeral.TheVariants.{Whole, Beyond, Fraction}
use Rattle.jp_tree.specs.declared.tree.Op.{Op}
use Rattle.jp_tree.specs.declared.tree.Slice.{Slice}
use Rattle.jp_tree.specs.Tree.{ExprTree, ArgumentTree, SegmentTree, SelectorTree}
use Rattle.jp_tree.specs.Views.{literal_of}
use Rattle.jp_tree.specs.Tree.{all_of, any_of, arguments, call, exprs, query, segment, segments}
use Rattle.jp_tree.specs.Tree.{selectors}

Decides-option : {A : Type 0} (E : A → A → Bool) → ((x y : A) → Decides (E x y) (x ≡ y))
    → (x y : Option A) → Decides (option_eq E x y) (x ≡ y)
Decides-option E each None None = (λ h. refl, λ e. refl)
Decides-option E each (Some x) (Some y) = Decides-like _ (λ e. ap Some e) (λ e. cc) (each x y)
Decides-option E each _ _ = (λ h. cc, λ e. cc)

pub Decides-numeral : (s t : Numeral) → Decides (numerals.ghosts.eq s t) (s ≡ t)
Decides-numeral (Whole m) (Whole n) =
    Decides-like _ (λ e. ap Whole e) (λ e. cc) (Decides-int_eq m n)
Decides-numeral (Beyond m) (Beyond n) =
    Decides-like _ (λ e. ap Beyond e) (λ e. cc)
    (Decides-option decimals.ghosts.eq Decides-decimal m n)
Decides-numeral (Fraction m) (Fraction n) =
    Decides-like _ (λ e. ap Fraction e) (λ e. cc)
    (Decides-option numbers.ghosts.eq Decides-number m n)
Decides-numeral _ _ = (λ h. cc, λ e. cc)

pub Decides-slice : (s t : Slice) → Decides (slices.ghosts.eq s t) (s ≡ t)
Decides-slice s t =
    Decides-like _
    (λ e. λ i. record { start = e.0 i; end = e.1.0 i; step = e.1.1 i })
    (λ e. (
      ap (λ (x : Slice). x.start) e,
      (ap (λ (x : Slice). x.end) e, ap (λ (x : Slice). x.step) e),
    ))
    (Decides-and _ _
    (Decides-option numerals.ghosts.eq Decides-numeral s.start t.start)
    (Decides-and _ _
    (Decides-option numerals.ghosts.eq Decides-numeral s.end t.end)
    (Decides-numeral s.step t.step)))

pub Decides-op : (s t : Op) → Decides (ops.ghosts.eq s t) (s ≡ t)
Decides-op s t = (same_true the_type (search rules) s t, true_same the_type s t)

pub Decides-text : (s t : String Global)
    → Decides (string_eq s t) (chars (string_bytes s) ≡ chars (string_bytes t))
Decides-text s t =
    Decides-like _ (λ e. ap chars e)
    (λ e. sym (encodes-chars (string_bytes s) (IsUtf8-string_bytes s))
    ∙ ap encode_utf8_all e
    ∙ encodes-chars (string_bytes t) (IsUtf8-string_bytes t))
    (bytes_eq-Decides (string_bytes s) (string_bytes t))

pub Decides-literal : (s t : Literal)
    → Decides (literals.ghosts.eq s t) (literal_of s ≡ literal_of t)
Decides-literal (Number m) (Number n) =
    Decides-like _ (λ e. cc) (λ e. cc) (Decides-numeral m n)
Decides-literal (Text m) (Text n) =
    Decides-like _ (λ e. cc) (λ e. cc) (Decides-text m n)
Decides-literal True True = (λ h. refl, λ e. refl)
Decides-literal False False = (λ h. refl, λ e. refl)
Decides-literal Null Null = (λ h. refl, λ e. refl)
Decides-literal _ _ = (λ h. cc, λ e. cc)

-- two lists, of which the first has a proof beside each item of what `==` says of it
pub Decides-items : {A B : Type 0} (E : A → A → Bool) (f : A → B)
    (xs : List ((x : A) × ((y : A) → Decides (E x y) (f x ≡ f y)))) (ys : List A)
    → Decides (pointwise E (map (λ k. k.0) xs) ys) (map f (map (λ k. k.0) xs) ≡ map f ys)
Decides-items E f [] [] = (λ h. refl, λ e. refl)
Decides-items E f (x ∷ xs) (y ∷ ys) =
    Decides-like _ (λ e. cc) (λ e. (cc, cc))
    (Decides-and _ _ (x.1 y) (Decides-items E f xs ys))
Decides-items E f _ _ = (λ h. cc, λ e. cc)

-- ---- what two equal trees have in common

arguments-injective : (xs ys : List ArgumentTree) → arguments xs ≡ arguments ys → xs ≡ ys
arguments-injective [] [] e = refl
arguments-injective (x ∷ xs) (y ∷ ys) e =
    let rest : xs ≡ ys = arguments-injective xs ys cc in cc
arguments-injective _ _ e = cc

pub call-injective : (m n : List ℕ) (xs ys : List ArgumentTree)
    → call m (arguments xs) ≡ call n (arguments ys) → (m ≡ n) × (xs ≡ ys)
call-injective m n xs ys e = (cc, arguments-injective xs ys cc)

exprs-injective : (xs ys : List ExprTree) → exprs xs ≡ exprs ys → xs ≡ ys
exprs-injective [] [] e = refl
exprs-injective (x ∷ xs) (y ∷ ys) e =
    let rest : xs ≡ ys = exprs-injective xs ys cc in cc
exprs-injective _ _ e = cc

pub any_of-injective : (xs ys : List ExprTree) → any_of (exprs xs) ≡ any_of (exprs ys) → xs ≡ ys
any_of-injective xs ys e = exprs-injective xs ys cc

pub all_of-injective : (xs ys : List ExprTree) → all_of (exprs xs) ≡ all_of (exprs ys) → xs ≡ ys
all_of-injective xs ys e = exprs-injective xs ys cc

selectors-injective : (xs ys : List SelectorTree) → selectors xs ≡ selectors ys → xs ≡ ys
selectors-injective [] [] e = refl
selectors-injective (x ∷ xs) (y ∷ ys) e =
    let rest : xs ≡ ys = selectors-injective xs ys cc in cc
selectors-injective _ _ e = cc

pub segment-injective : (a b : Bool) (xs ys : List SelectorTree)
    → segment a (selectors xs) ≡ segment b (selectors ys) → (a ≡ b) × (xs ≡ ys)
segment-injective a b xs ys e = (cc, selectors-injective xs ys cc)

segments-injective : (xs ys : List SegmentTree) → segments xs ≡ segments ys → xs ≡ ys
segments-injective [] [] e = refl
segments-injective (x ∷ xs) (y ∷ ys) e =
    let rest : xs ≡ ys = segments-injective xs ys cc in cc
segments-injective _ _ e = cc

pub query-injective : (a b : Bool) (xs ys : List SegmentTree)
    → query a (segments xs) ≡ query b (segments ys) → (a ≡ b) × (xs ≡ ys)
query-injective a b xs ys e = (cc, segments-injective xs ys cc)
