-- The first nodes, one after another.
use Rattle.std.proofs.Common.{◌≡◌, ◌<◌, ℕ, zero, suc, ◌-◌, Bool, List, ◌∷◌, Option, Some, None, true, false}
use Rattle.std.proofs.Common.{ap, arith, drop, option_map, refl, sym, take}
use Rattle.jp_document.specs.Node.{Node}
use Rattle.jp_document.specs.Value.{Value}
use Rattle.jp_document.specs.declared.location.OwnedStep.{OwnedStep}
use Rattle.jp_command.specs.NodeTask.{nodes_taken}
use Rattle.jp_command.specs.Found.{found_nodes}
use Rattle.jp_command.specs.Private.Firsts.{is_more}
use Rattle.jp_command.specs.Selecting.{first_nodes}

pub first_more : (o : Option ℕ) (n : Node) (ns : List Node) → is_more o ≡ true
    → first_nodes o (n ∷ ns) ≡ n ∷ first_nodes (option_map (λ k. k - 1) o) ns
first_more None n ns more = refl
first_more (Some zero) n ns more = absurd (cc)
first_more (Some (suc k)) n ns more =
    let less : suc k - 1 ≡ k = omega arith in ap (λ j. n ∷ take j ns) (sym less)

-- where more are to be passed over, the first node is one of them
pub drop_more : (k : ℕ) (n : Node) (ns : List Node) → 0 < k → drop k (n ∷ ns) ≡ drop (k - 1) ns
drop_more k n ns more =
    let next : k ≡ suc (k - 1) = omega arith in ap (λ j. drop j (n ∷ ns)) next

-- of no more than one node the first are all
pub first-found : {V : Type 0} (b : Bool) (m : V → Value) (ks : List OwnedStep) (found : Option V)
    → nodes_taken b (found_nodes m ks found) ≡ found_nodes m ks found
first-found false m ks found = refl
first-found true m ks None = refl
first-found true m ks (Some v) = refl
