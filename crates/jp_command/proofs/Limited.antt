-- Where lines have too many bytes.
use Rattle.std.proofs.Common.{◌≡◌, ◌<◌, ◌≤◌, ◌+◌, ◌-◌, ◌^◌, ◌++◌, ◌∷◌, ◌∙◌, ℕ, List, Option, ap, arith, length}
use Rattle.std.proofs.Common.{length-append, min, option_map, subst, sym, true, Err, IfErr, Ok, Result}
use Rattle.std.specs.List.{flat_map}
use Rattle.std.specs.Result.{IsErrAnd}
use Rattle.jp_document.specs.Node.{Node}
use Rattle.jp_limit.specs.OutputLimit.{most_of_limit}
use Rattle.jp_limit.specs.declared.output_limit.OutputLimit.{OutputLimit}
use Rattle.jp_limit.proofs.Limits.{exceeds-behind}
use Rattle.jp_command.specs.Private.Firsts.{is_more}
use Rattle.jp_command.specs.Selecting.{IsBeyond, first_nodes}
use Rattle.jp_command.specs.declared.selection_fault.SelectionFault.{SelectionFault}
use Rattle.jp_command.specs.declared.selection_fault.SelectionFault.TheVariants.{TooManyBytes}
use Rattle.jp_command.proofs.Firsts.{first_more}

-- the lines so far and that of the next node are no more than all
pub line-fits : (behind : Node → List ℕ) (o : Option ℕ) (n : Node) (ns rest : List Node)
    (lines old total after : List ℕ) → is_more o ≡ true → ns ≡ n ∷ rest
    → lines ++ flat_map behind (first_nodes o ns) ≡ old ++ total → after ≡ lines ++ behind n
    → length after ≤ length old + length total
line-fits behind o n ns rest lines old total after more is all now =
    let left = flat_map behind (first_nodes (option_map (λ k. k - 1) o) rest) in
    let these : flat_map behind (first_nodes o ns) ≡ behind n ++ left =
    ap (λ ms. flat_map behind (first_nodes o ms)) is ∙ ap (flat_map behind) (first_more o n rest more) in
    omega (
      arith,
      simp length-append at (ap length all),
      simp length-append at (ap length these),
      simp length-append at (ap length now),
    )

-- a text that ends behind where it may has too many bytes
pub too-long : (limit : OutputLimit) (most from end size nodes bytes : ℕ) (f : SelectionFault)
    → most ≡ most_of_limit limit.bytes → end ≡ min (from + most) (2 ^ 64 - 1)
    → (f ≡ TooManyBytes) × (end < size) × (size < 2 ^ 64) → size ≤ from + bytes
    → IsBeyond limit nodes bytes f
too-long limit most from end size nodes bytes f is at beyond less =
    subst (IsBeyond limit nodes bytes) (sym beyond.0)
    (exceeds-behind limit.bytes most from size bytes end is at beyond.1 beyond.2 less)

pub err-is : {X E : Type 0} (r : Result X E) (e : E) (P : E → Type 0) → IsErrAnd r (λ f. f ≡ e) → P e
    → IfErr r P
err-is (Ok x) e P is p = tt
err-is (Err f) e P is p = subst P (sym is) p
