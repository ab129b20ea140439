-- The normalized path of a location is the canonical text of its tree, and spells it.
use Rattle.std.proofs.Common.{◌≡◌, ℕ, ◌<◌, ◌≤◌, ◌^◌, ◌&&◌, true, List, [], ◌∷◌, ◌++◌, map, pos, codes}
use Rattle.std.proofs.Common.{IsUtf8, inl, inr, refl, ap, ap₂, subst, sym, ◌∙◌, append-nil, arith}
use Rattle.std.proofs.lemmas.Bool.{and_parts, cases_lt, lt-ltb}
use Rattle.std.proofs.lemmas.Str.{chars-encodes, encodes-append, encodes-chars, scalars-chars}
use Rattle.std.specs.Fmt.{decimal}
use Rattle.std.specs.List.{flat_map}
use Rattle.std.specs.Str.{chars, encode_utf8_all}
use Rattle.jp_reading.specs.Numbers.{largest_exact}
use Rattle.jp_reading.specs.Characters as char
use lib.Utf8.{low_scalar, scalar, scalars}
use Rattle.jp_reading.specs.Forms.{Form}
use Rattle.jp_reading.specs.Texts.{Spans, Text}
use Rattle.jp_document.specs.Location.{Step, Location, named, nth}
use Rattle.jp_document.specs.Path.{index_text, path_of, quoted, step_text}
use Rattle.jp_document.specs.Spelling.{spelling}
use Rattle.jp_document.proofs.Spellings.Encoded.{Ascii, digits-ascii, encode-ascii, high-plain}
use Rattle.jp_document.proofs.Spellings.Encoded.{spelling-low}
use Rattle.jp_document.proofs.Spellings.Indexes.{decimal-index_text, digits-index_text}
use Rattle.jp_document.proofs.Spellings.Characters.{by_itself, spelling_is}
use Rattle.jp_query.specs.Grammar.{Inside, Nested, Segment, Segments, Selector, Spells, bracketed}
use Rattle.jp_query.specs.Grammar.{indexed, named as by_name}
use Rattle.jp_query.specs.Ints.{Int}
use Rattle.jp_tree.specs.Tree.{segments}
use Rattle.jp_tree.specs.declared.tree.Numeral.TheVariants.{Whole}
use Rattle.jp_canon.specs.Canon.{canon_of, segment_text, segments_text, selector_text}
use Rattle.jp_canon.proofs.Bracketed.{bracket-of}
use Rattle.jp_canon.proofs.Forms.{Has, after-blank, before-blank, both, has-as, has-component, has-word}
use Rattle.jp_canon.proofs.Names.{has-quoted}
use Rattle.jp_canon.proofs.Numbers.{has-decimal}
use Rattle.jp_canon.proofs.Written.{quoted-encode}
use Rattle.jp_evaluate.specs.Private.PathTrees.{path_tree, step_segment, step_selector}
use Rattle.jp_evaluate.proofs.Paths.PathTrees.{StepFits, StepsFit}

-- ---- the canonical text spells the tree

has-step_index : (i : ℕ) → i ≤ largest_exact → Has (Int (Whole (pos i))) (decimal i)
has-step_index i small =
    let fits : i < 2 ^ 64 = omega arith in
    subst (λ n. Has (Int n) (decimal i)) (rw (lt-ltb i (2 ^ 64) fits) refl) (has-decimal i fits)

module _ (K : Nested → Form) where
  has-selector : (k : Step) → StepFits k
      → Has (Selector K (step_selector k)) (selector_text (step_selector k))
  has-selector (named s) fits = has-as (λ r p. by_name (chars s) refl) (has-quoted (chars s))
  has-selector (nth i) fits = has-as (λ r p. indexed (Whole (pos i)) refl)
      (has-component (has-step_index i fits))

  has-segment : (k : Step) → StepFits k
      → Has (Segment K (step_segment k)) (segment_text (step_segment k))
  has-segment k fits = has-as (λ r p. bracketed (step_selector k ∷ []) refl)
      (bracket-of K (step_selector k) [] (before-blank (has-selector k fits), tt))

  has-segments : (l : Location) → StepsFit l
      → Has (Segments K (map step_segment l)) (segments_text (segments (map step_segment l)))
  has-segments [] fits = has-word []
  has-segments (k ∷ l) fits = both (after-blank (has-segment k fits.0)) (has-segments l fits.1)

canon-spells : (n : ℕ) (l : Location) → StepsFit l
    → (s : Spans) × Spells n (path_tree l) s (canon_of (path_tree l))
canon-spells n l fits =
    let found = (both (has-word (codes "$")) (has-segments (Inside n) l fits)).at 0 in
    (found.0, record { parts = map step_segment l; tree = refl; is = found.1 })

-- ---- and it is the path

-- characters and their UTF-8
abbrev Encoded : Text → List ℕ → Type 0
Encoded cs bs = (scalars cs ≡ true) × (encode_utf8_all cs ≡ bs)

scalars-append : (cs ds : Text) → scalars cs ≡ true → scalars ds ≡ true → scalars (cs ++ ds) ≡ true
scalars-append [] ds one two = two
scalars-append (c ∷ cs) ds one two =
    let parts = and_parts (scalar c) (scalars cs) one in
    rw parts.0 (scalars-append cs ds parts.1 two)

scalars-ascii : (cs : Text) → Ascii cs → scalars cs ≡ true
scalars-ascii [] all = refl
scalars-ascii (c ∷ cs) all =
    let low = all.0 in rw (low_scalar c (omega arith)) (scalars-ascii cs all.1)

encoded-append : (cs ds : Text) (xs ys : List ℕ) → Encoded cs xs → Encoded ds ys
    → Encoded (cs ++ ds) (xs ++ ys)
encoded-append cs ds xs ys one two =
    (scalars-append cs ds one.0 two.0, encodes-append cs ds ∙ ap₂ (λ x y. x ++ y) one.1 two.1)

encoded-ascii : (cs : Text) → Ascii cs → Encoded cs cs
encoded-ascii cs all = (scalars-ascii cs all, encode-ascii cs all)

encoded-mark : (c : ℕ) → c < 128 → Encoded (c ∷ []) (c ∷ [])
encoded-mark c low = encoded-ascii (c ∷ []) (low, tt)

scalars-spelling : (c : ℕ) → scalar c ≡ true → scalars (spelling char.single_quote c) ≡ true
scalars-spelling c is = elim (cases_lt c 128) [
  | inl low ↦ scalars-ascii (spelling char.single_quote c) (spelling-low c low)
  | inr high ↦
      ap scalars (spelling_is c (c ∷ []) (by_itself (high-plain c high) refl))
      ∙ ap (λ b. b && true) is
]

scalars-spellings : (cs : Text) → scalars cs ≡ true
    → scalars (flat_map (spelling char.single_quote) cs) ≡ true
scalars-spellings [] all = refl
scalars-spellings (c ∷ cs) all =
    let parts = and_parts (scalar c) (scalars cs) all in
    scalars-append (spelling char.single_quote c) (flat_map (spelling char.single_quote) cs)
    (scalars-spelling c parts.0)
    (scalars-spellings cs parts.1)

encoded-name : (s : List ℕ) → IsUtf8 s → Encoded (quoted (chars s)) (quoted s)
encoded-name s utf8 = (
  scalars-append (flat_map (spelling char.single_quote) (chars s)) (codes "'")
      (scalars-spellings (chars s) (scalars-chars s utf8)) refl,
  quoted-encode (chars s) ∙ ap quoted (encodes-chars s utf8),
)

encoded-index : (i : ℕ) → i ≤ largest_exact → Encoded (decimal i) (index_text i)
encoded-index i small =
    subst (λ t. Encoded t (index_text i)) (sym (decimal-index_text i (omega arith)))
    (encoded-ascii (index_text i) (digits-ascii (index_text i) (digits-index_text i)))

-- a bracket around one selector
encoded-bracket : (t : Text) (bs : List ℕ) → Encoded t bs
    → Encoded (codes "[" ++ ((t ++ []) ++ codes "]")) (codes "[" ++ (bs ++ codes "]"))
encoded-bracket t bs is =
    subst (λ x. Encoded (codes "[" ++ (x ++ codes "]")) (codes "[" ++ (bs ++ codes "]")))
    (sym (append-nil t))
    (encoded-append (codes "[") (t ++ codes "]") (codes "[") (bs ++ codes "]")
    (encoded-mark char.opening_bracket (omega arith))
    (encoded-append t (codes "]") bs (codes "]") is
    (encoded-mark char.closing_bracket (omega arith))))

encoded-steps : (l : Location) → StepsFit l
    → Encoded (segments_text (segments (map step_segment l))) (flat_map step_text l)
encoded-steps [] fit = (refl, refl)
encoded-steps (named s ∷ l) fit =
    encoded-append (segment_text (step_segment (named s))) _ (step_text (named s)) _
    (encoded-bracket (quoted (chars s)) (quoted s) (encoded-name s fit.0))
    (encoded-steps l fit.1)
encoded-steps (nth i ∷ l) fit =
    encoded-append (segment_text (step_segment (nth i))) _ (step_text (nth i)) _
    (encoded-bracket (decimal i) (index_text i) (encoded-index i fit.0))
    (encoded-steps l fit.1)

path-canonical : (l : Location) → StepsFit l
    → chars (path_of l) ≡ canon_of (path_tree l)
path-canonical l fit =
    let all = encoded-append (codes "$") _ (codes "$") (flat_map step_text l)
    (encoded-mark char.dollar (omega arith)) (encoded-steps l fit) in
    ap chars (sym all.1) ∙ chars-encodes (canon_of (path_tree l)) all.0

-- so the path spells the tree
pub path-spells : (n : ℕ) (l : Location) → StepsFit l
    → (s : Spans) × Spells n (path_tree l) s (chars (path_of l))
path-spells n l fit =
    let found = canon-spells n l fit in (found.0, rw (path-canonical l fit) found.1)
