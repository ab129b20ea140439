-- That a part is no longer than the whole, and so no more than a limit allows.
use Rattle.std.proofs.Common.{◌≡◌, ℕ, suc, zero, ◌+◌, ◌<◌, ◌≤◌, ◌==◌, Bool, true, false, List, [], ◌∷◌, ◌++◌}
use Rattle.std.proofs.Common.{Option, Some, None, Result, Ok, Err, IfErr, length, get_or, map, ap, subst}
use Rattle.std.proofs.Common.{sym, arith, if◌then◌else◌}
use Rattle.std.specs.Result.{IsErrAnd}
use Rattle.std.proofs.lemmas.List.{length-append}
use Rattle.std.specs.List.{flat_map, join_with_byte, list_any}
use Rattle.jp_limit.specs.OutputLimit.{Exceeds}
use Rattle.jp_limit.specs.declared.output_limit.OutputLimit.{OutputLimit}
use Rattle.jp_document.specs.Value.{Value}
use Rattle.jp_evaluate.specs.declared.evaluation_fault.EvaluationFault.{EvaluationFault}
use Rattle.jp_evaluate.specs.declared.evaluation_fault.EvaluationFault.TheVariants as evaluation
use Rattle.jp_tree.specs.Tree.{QueryTree}
use Rattle.jp_cells.specs.Columns.{cell_of, columns_text}
use Rattle.jp_cells.specs.Fields.{calls_for_quotes, field_in, field_text, in_quotes, spelling}
use Rattle.jp_cells.specs.Rows.{row_end, separator, shown}
use Rattle.jp_cells.specs.Private.Limits.{row_fault_of}
use Rattle.jp_cells.specs.Limits.{IsTooMuch}
use Rattle.jp_cells.specs.declared.fault.RowFault.{RowFault}
use Rattle.jp_cells.specs.declared.fault.RowFault.TheVariants.{NoMemory, StepsUsedUp}
use Rattle.jp_cells.specs.declared.fault.RowFault.TheVariants.{TooManyBytes, TooManyNodes}
use Rattle.jp_cells.specs.declared.style.Format.{Format}
use Rattle.jp_cells.specs.declared.style.Format.TheVariants.{Csv, Tabs}
use Rattle.jp_cells.specs.declared.style.Style.{Style}

-- what goes beyond a limit, and all that is no less
pub exceeds-more : (l : Option ℕ) (m n : ℕ) → m ≤ n → Exceeds l m → Exceeds l n
exceeds-more None m n less beyond = absurd beyond
exceeds-more (Some k) m n less beyond = omega (arith, less, beyond)

-- what is too much in a part is too much in the whole
pub too-much : (limit : OutputLimit) (nodes more bytes longer : ℕ) (fault : RowFault)
    → nodes ≤ more → bytes ≤ longer → IsTooMuch limit nodes bytes fault
    → IsTooMuch limit more longer fault
too-much limit nodes more bytes longer NoMemory few short is = tt
too-much limit nodes more bytes longer StepsUsedUp few short is = tt
too-much limit nodes more bytes longer TooManyNodes few short is =
    exceeds-more limit.nodes nodes more few is
too-much limit nodes more bytes longer TooManyBytes few short is =
    exceeds-more limit.bytes bytes longer short is

-- a character is spelled with one at least
spelled-some : (format : Format) (c : ℕ) → 1 ≤ length (spelling format c)
spelled-some Tabs c = go (c == 9) (c == 10) (c == 13) (c == 92)
  where
    go : (t n r b : Bool) → 1 ≤ length (if t then 92 ∷ 116 ∷ [] else if n then 92 ∷ 110 ∷ [] else if r
        then 92 ∷ 114 ∷ [] else if b then 92 ∷ 92 ∷ [] else c ∷ [])
    go true n r b = omega arith
    go false true r b = omega arith
    go false false true b = omega arith
    go false false false true = omega arith
    go false false false false = omega arith
spelled-some Csv c = go (c == 34)
  where
    go : (q : Bool) → 1 ≤ length (if q then 34 ∷ 34 ∷ [] else c ∷ [])
    go true = omega arith
    go false = omega arith

spelled-longer : (format : Format) (s : List ℕ) → length s ≤ length (flat_map (spelling format) s)
spelled-longer format [] = omega arith
spelled-longer format (c ∷ s) = omega (
  arith,
  spelled-some format c,
  spelled-longer format s,
  length-append (spelling format c) (flat_map (spelling format) s),
)

field_in-longer : (format : Format) (raw : Bool) (s : List ℕ) → length s ≤ length (field_in format raw s)
field_in-longer Tabs true s = spelled-longer Tabs s
field_in-longer Tabs false s = omega arith
field_in-longer Csv raw s = go (list_any calls_for_quotes s)
  where
    go : (b : Bool) → length s ≤ length (if b then in_quotes s else s)
    go true = omega (
      arith,
      spelled-longer Csv s,
      length-append (flat_map (spelling Csv) s) (34 ∷ []),
    )
    go false = omega arith

module _ {X Y Z : Type 0} (c : ℕ) (f : Z → List ℕ) (g : Y → Z) (v : X → Y) where
  joined-longer : (xs : List X) (n : ℕ) (x : X) → n < length xs
      → length (f (g (v (get_or xs n x)))) ≤ length (join_with_byte c (map f (map g (map v xs))))
  joined-longer [] n x within = absurd (omega (arith, within))
  joined-longer (y ∷ []) zero x within = omega arith
  joined-longer (y ∷ []) (suc n) x within = absurd (omega (arith, within))
  joined-longer (y ∷ z ∷ zs) zero x within = omega (
    arith,
    length-append (f (g (v y))) (c ∷ join_with_byte c (map f (map g (map v (z ∷ zs))))),
  )
  joined-longer (y ∷ z ∷ zs) (suc n) x within = omega (
    arith,
    joined-longer (z ∷ zs) n x (omega (arith, within)),
    length-append (f (g (v y))) (c ∷ join_with_byte c (map f (map g (map v (z ∷ zs))))),
  )

-- what one element gives is among what all give
pub counted-more : {X Y Z : Type 0} (f : Y → List Z) (v : X → Y) (xs : List X) (n : ℕ) (x : X)
    → n < length xs → length (f (v (get_or xs n x))) ≤ length (flat_map f (map v xs))
counted-more f v [] n x within = absurd (omega (arith, within))
counted-more f v (y ∷ ys) zero x within = omega (arith, length-append (f (v y)) (flat_map f (map v ys)))
counted-more f v (y ∷ ys) (suc n) x within = omega (
  arith,
  counted-more f v ys n x (omega (arith, within)),
  length-append (f (v y)) (flat_map f (map v ys)),
)

shown-longer : (format : Format) (cells : List ℕ) → length cells ≤ length (shown format cells)
shown-longer Tabs [] = omega arith
shown-longer Tabs (c ∷ cells) = omega arith
shown-longer Csv [] = omega arith
shown-longer Csv (c ∷ cells) = omega arith

-- a cell is no longer than the row, with what stands before it
pub cell-in_row : {X : Type 0} (style : Style) (d : Value) (v : X → QueryTree) (xs : List X) (n : ℕ) (x : X)
    (before : List ℕ) → n < length xs
    → length (cell_of style.raw d (v (get_or xs n x)))
    ≤ length (before ++ columns_text style (map v xs) d)
cell-in_row style d v xs n x before within =
    let cells = join_with_byte (separator style.format)
    (map (field_text style) (map (cell_of style.raw d) (map v xs))) in
    omega (
      arith,
      field_in-longer style.format style.raw (cell_of style.raw d (v (get_or xs n x))),
      joined-longer (separator style.format) (field_text style) (cell_of style.raw d) v xs n x within,
      shown-longer style.format cells,
      length-append (shown style.format cells) (row_end style.format),
      length-append before (columns_text style (map v xs) d),
    )

-- an evaluation's fault says nothing of what comes out
pub fault-silent : (limit : OutputLimit) (nodes bytes : ℕ) (fault : EvaluationFault)
    → IsTooMuch limit nodes bytes (row_fault_of fault)
fault-silent limit nodes bytes evaluation.NoMemory = tt
fault-silent limit nodes bytes evaluation.StepsUsedUp = tt

-- an error that is this one
pub err-known : {T E : Type 0} (r : Result T E) (e : E) (P : E → Type 0) → IsErrAnd r (λ x. x ≡ e) → P e
    → IfErr r P
err-known (Ok x) e P is holds = absurd is
err-known (Err x) e P is holds = subst P (sym is) holds

-- what stands in front of the whole is no longer than it
pub front-shorter : (front rest whole : List ℕ) → front ++ rest ≡ whole → length front ≤ length whole
front-shorter front rest whole is = omega (arith, length-append front rest, ap length is)
