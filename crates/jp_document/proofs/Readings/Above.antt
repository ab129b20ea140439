-- The steps to later parts of a list or an object are above those to earlier ones: for the first
-- fraction of a reading.
use Rattle.std.proofs.Common.{◌≡◌, ℕ, suc, ◌<◌, List, [], ◌∷◌, Option, Some, String, Global}
use Rattle.std.proofs.Common.{Ordering, Less, Equal, Greater, is_eq, string_bytes, string_cmp}
use Rattle.std.proofs.Common.{cond, refl, sym, ap, ◌∙◌, arith}
use Rattle.std.specs.BTreeMap.{is_at}
use Rattle.std.specs.Cmp.{nat_cmp_is}
use Rattle.std.specs.List.{AllByRecursion}
use Rattle.std.specs.Map.{lookup, keys_of}
use Rattle.std.specs.Ordering.{ordering_reverse}
use Rattle.std.proofs.lemmas.Cmp.{nat_list_cmp_total}
use Rattle.serde_json.specs.Data as parsed
use Rattle.serde_json.specs.Data.{Data}
use Rattle.serde_json.specs.View.{members_view}
use Rattle.serde_json.specs.declared.value.Value.{Value as Reading}
use Rattle.jp_document.specs.Document.{data_items_from, data_members}
use Rattle.jp_document.specs.Location.{Step, named, nth, step_cmp}
use Rattle.jp_document.proofs.Descent.Steps.{step_exact}
use Rattle.jp_document.proofs.Members.ByName.{bytes_cmp}
use Rattle.jp_document.proofs.Readings.Fractions.{IsAbove}
use Rattle.jp_document.proofs.Readings.Ranges.{members_read}

above_by : (q k n : Step) (d e : Data) (rest : Option Data) (o : Ordering) → step_cmp q n ≡ o
    → cond (is_eq o) (Some d) rest ≡ Some e → step_cmp n k ≡ Greater
    → (rest ≡ Some e → step_cmp q k ≡ Greater) → step_cmp q k ≡ Greater
above_by q k n d e rest Less at is here later = later is
above_by q k n d e rest Equal at is here later = ap (λ j. step_cmp j k) (step_exact q n at) ∙ here
above_by q k n d e rest Greater at is here later = later is

above_in_items : (i n : ℕ) (ds : parsed.Items) (q : Step) (e : Data) → i < n
    → lookup (is_at (step_cmp q)) (data_items_from n ds) ≡ Some e → step_cmp q (nth i) ≡ Greater
above_in_items i n parsed.no_items q e below is = cc
above_in_items i n (parsed.item d ds) q e below is =
    above_by q (nth i) (nth n) d e _ (step_cmp q (nth n)) refl is
    (sym (nat_cmp_is n i Greater below)) (above_in_items i (suc n) ds q e (omega arith))

pub IsAbove-items : (i : ℕ) (ds : parsed.Items) → IsAbove (nth i) (data_items_from (suc i) ds)
IsAbove-items i ds = record { above = λ q e is. above_in_items i (suc i) ds q e (omega arith) is }

-- the name is below each of these
abbrev IsBelowNames : List ℕ → parsed.Members → Type 0
IsBelowNames n ms = AllByRecursion (λ m. bytes_cmp n m ≡ Less) (keys_of (members_read ms))

above_in_members : (n : List ℕ) (ms : parsed.Members) (q : Step) (e : Data) → IsBelowNames n ms
    → lookup (is_at (step_cmp q)) (data_members ms) ≡ Some e → step_cmp q (named n) ≡ Greater
above_in_members n parsed.no_members q e below is = absurd (cc)
above_in_members n (parsed.member m d ms) q e below is =
    above_by q (named n) (named m) d e _ (step_cmp q (named m)) refl is
    (nat_list_cmp_total.antisymm m n ∙ ap ordering_reverse below.0)
    (above_in_members n ms q e below.1)

pub IsAbove-members : (n : List ℕ) (ms : parsed.Members) → IsBelowNames n ms
    → IsAbove (named n) (data_members ms)
IsAbove-members n ms below = record { above = λ q e is. above_in_members n ms q e below is }

below_view : (k : String Global) (es : List (String Global × Reading))
    → AllByRecursion (λ y. string_cmp k y ≡ Less) (keys_of es)
    → IsBelowNames (string_bytes k) (members_view es)
below_view k [] below = tt
below_view k (m ∷ es) below = (below.0, below_view k es below.1)

pub IsAbove-view : (k : String Global) (es : List (String Global × Reading))
    → AllByRecursion (λ y. string_cmp k y ≡ Less) (keys_of es)
    → IsAbove (named (string_bytes k)) (data_members (members_view es))
IsAbove-view k es below = IsAbove-members (string_bytes k) (members_view es) (below_view k es below)
