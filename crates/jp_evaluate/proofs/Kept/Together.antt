-- Queries that ask for members of the document itself, together with others.
use Rattle.std.proofs.Common.{◌≡◌, ℕ, Bool, true, false, ◌||◌, List, [], ◌∷◌, String, Vec, string_bytes}
use Rattle.std.proofs.Common.{if◌then◌else◌, refl, ap, inl, inr, sym, ◌∙◌}
use Rattle.std.specs.Cmp.Lexicographic.{slice_cmp}
use Rattle.std.specs.Ordering.{nat_cmp}
use Rattle.std.specs.declared.alloc.Global.{Global}
use Rattle.std.proofs.lemmas.Map.Lookups.{exact_bytes}
use Rattle.jp_document.specs.Value.{Members, Value, boolean, list, member, no_members, null}
use Rattle.jp_document.specs.Value.{object, text, whole, decimal}
use Rattle.jp_flat.specs.Asked.{is_listed, is_name, members_named, with_members}
use Rattle.jp_flat.specs.declared.asked.AskedFor.TheVariants.{OfRoot}
use Rattle.jp_reading.proofs.Conjunctions.{and-left, and-right}
use Rattle.jp_tree.specs.Tree.{QueryTree}
use Rattle.jp_evaluate.specs.Asked.{AsksNoMore}
use Rattle.jp_evaluate.specs.Nodelist.{nodelist}
use Rattle.jp_evaluate.specs.Private.Asks.{AskedOf, pass}
use Rattle.jp_evaluate.proofs.Kept.Queries.{pass-itself}
use Rattle.jp_evaluate.proofs.Nodelists.Repeats.{equal_from}

-- ---- what is left of what is left

-- the first member, which is left among more only if it passes there
first-again : (p r : List ℕ → Bool) (n : List ℕ) (v : Value) (ms : Members) (b : Bool)
    → (p n ≡ true → r n ≡ true) → r n ≡ b
    → members_named p (members_named r ms) ≡ members_named p ms
    → members_named p (if b then member n v (members_named r ms) else members_named r ms)
    ≡ members_named p (member n v ms)
first-again p r n v ms true each is more =
    ap (λ ks. if p n then member n v ks else ks) more
first-again p r n v ms false each is more = more ∙ left-out (p n) refl
  where
    left-out : (b : Bool) → p n ≡ b
        → members_named p ms ≡ (if b then member n v (members_named p ms) else members_named p ms)
    left-out true passes = let clash : r n ≡ true = each passes in absurd (cc)
    left-out false passes = refl

members-again : (p r : List ℕ → Bool) (ms : Members) → ((n : List ℕ) → p n ≡ true → r n ≡ true)
    → members_named p (members_named r ms) ≡ members_named p ms
members-again p r no_members each = refl
members-again p r (member n v ms) each =
    first-again p r n v ms (r n) (each n) refl (members-again p r ms each)

members-left : (p r : List ℕ → Bool) (v : Value) → ((n : List ℕ) → p n ≡ true → r n ≡ true)
    → with_members p (with_members r v) ≡ with_members p v
members-left p r (object ms) each = ap object (members-again p r ms each)
members-left p r null each = refl
members-left p r (boolean b) each = refl
members-left p r (whole z) each = refl
members-left p r (decimal c e) each = refl
members-left p r (text s) each = refl
members-left p r (list vs) each = refl

-- ---- names among others

-- a name that is one of those that pass does so
listed-passes : (r : List ℕ → Bool) (ns : List (String Global)) (m : List ℕ) → pass r ns ≡ true
    → is_listed ns m ≡ true → r m ≡ true
listed-passes r [] m all listed = absurd (cc)
listed-passes r (n ∷ ns) m all listed =
    by (is_name (string_bytes n) m) refl (listed-passes r ns m (and-right _ _ all))
  where
    by : (b : Bool) → is_name (string_bytes n) m ≡ b → (is_listed ns m ≡ true → r m ≡ true)
        → r m ≡ true
    by true is among =
        ap r (sym (exact_bytes (string_bytes n) m (equal_from (slice_cmp nat_cmp (string_bytes n) m) is)))
        ∙ and-left _ _ all
    by false is among = among (sym (ap (λ b. b || is_listed ns m) is) ∙ listed)

-- ---- a query

-- where the names are among others, the query asks for no more than those
pub asks-among : (q : QueryTree) (ns ms : Vec (String Global) Global)
    → AskedOf ms.items (λ p. pass p ns.items) → AsksNoMore q (OfRoot ns) → AsksNoMore q (OfRoot ms)
asks-among q ns ms among asks = λ d u kept.
    let p = is_listed ns.items in
    let r = is_listed ms.items in
    let all : pass r ns.items ≡ true = among r (pass-itself ms.items) in
    let w = with_members r d in
    let again : with_members p w ≡ with_members p d =
    members-left p r d (λ n passes. listed-passes r ns.items n all passes) in
    let same : nodelist q w ≡ nodelist q d =
    sym (asks w (with_members p w) (inr refl)) ∙ asks d (with_members p w) (inr again) in
    elim kept [
      | inl is ↦ ap (nodelist q) is
      | inr is ↦ ap (nodelist q) is ∙ same
    ]
