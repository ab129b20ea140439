-- Steps are in a total order, in which those alone that are the same are equal: for entries that
-- rise, and for the first fraction of a reading.
use Rattle.std.proofs.Common.{◌≡◌, Less, Equal, refl, ap}
use Rattle.std.specs.Cmp.{IsTotalOrder}
use Rattle.std.specs.Ordering.{ordering_reverse}
use Rattle.std.proofs.lemmas.Cmp.{nat_cmp_total, nat_list_cmp_total, tied_itself}
use Rattle.std.proofs.lemmas.Map.Lookups.{exact_bytes, exact_unsigned}
use Rattle.jp_document.specs.Location.{Step, named, nth, step_cmp}

antisymm : (x y : Step) → step_cmp x y ≡ ordering_reverse (step_cmp y x)
antisymm (named s) (named t) = nat_list_cmp_total.antisymm s t
antisymm (named s) (nth j) = refl
antisymm (nth i) (named t) = refl
antisymm (nth i) (nth j) = nat_cmp_total.antisymm i j

trans : (x y z : Step) → step_cmp x y ≡ Less → step_cmp y z ≡ Less → step_cmp x z ≡ Less
trans (named s) (named t) (named u) a b = nat_list_cmp_total.trans s t u a b
trans (named s) (named t) (nth k) a b = refl
trans (named s) (nth j) (named u) a b = cc
trans (named s) (nth j) (nth k) a b = refl
trans (nth i) (named t) z a b = cc
trans (nth i) (nth j) (named u) a b = cc
trans (nth i) (nth j) (nth k) a b = nat_cmp_total.trans i j k a b

congr : (x y z : Step) → step_cmp x y ≡ Equal → step_cmp x z ≡ step_cmp y z
congr (named s) (named t) (named u) a = nat_list_cmp_total.congr s t u a
congr (named s) (named t) (nth k) a = refl
congr (named s) (nth j) z a = cc
congr (nth i) (named t) z a = cc
congr (nth i) (nth j) (named u) a = refl
congr (nth i) (nth j) (nth k) a = nat_cmp_total.congr i j k a

pub step_cmp_total : IsTotalOrder step_cmp
step_cmp_total = record { antisymm = antisymm; trans = trans; congr = congr }

pub step_same : (k : Step) → step_cmp k k ≡ Equal
step_same = tied_itself step_cmp_total

pub step_exact : (j k : Step) → step_cmp j k ≡ Equal → j ≡ k
step_exact (named s) (named t) is = ap named (exact_bytes s t is)
step_exact (named s) (nth j) is = cc
step_exact (nth i) (named t) is = cc
step_exact (nth i) (nth j) is = ap nth (exact_unsigned i j is)
