-- Slices (RFC 9535 section 2.3.4.1).
use Rattle.std.specs.Prelude.{◌≡◌, ℕ, pos, Option, Some, None, [], codes}
use Rattle.jp_tree.specs.declared.tree.Numeral.{Numeral}
use Rattle.jp_tree.specs.declared.tree.Numeral.TheVariants.{Whole}
use Rattle.jp_tree.specs.declared.tree.Slice.{Slice}
use Rattle.jp_reading.specs.Texts.{Text, Spans}
use Rattle.jp_reading.specs.Forms.{Form, word, ◌⌢◌, Blank, Component, Omitted}
use Rattle.jp_query.specs.Ints.{Int}

-- start S, or end S: a bound and the blanks after it, or neither
pub data Bound (x : Option Numeral) (s : Spans) (o : ℕ) (t : Text) : Type 0 where
  no_bound : x ≡ None → word [] s o t → Bound x s o t
  bound : (i : Numeral) → x ≡ Some i → (Component (Int i) ⌢ Blank) s o t → Bound x s o t

-- ":" [S step], or nothing: an omitted step is 1
pub data SliceStep (x : Numeral) (s : Spans) (o : ℕ) (t : Text) : Type 0 where
  no_step : x ≡ Whole (pos 1) → Omitted s o t → SliceStep x s o t
  empty_step : x ≡ Whole (pos 1) → (word (codes ":") ⌢ Omitted) s o t → SliceStep x s o t
  given_step : (word (codes ":") ⌢ Blank ⌢ Component (Int x)) s o t → SliceStep x s o t

-- slice-selector: [start S] ":" S [end S] [":" [S step]]
abbrev pub Sliced : Slice → Form
Sliced x = Bound x.start ⌢ word (codes ":") ⌢ Blank ⌢ Bound x.end ⌢ SliceStep x.step
