use Rattle.std.proofs.Common.{◌≡◌, Bool, true, false, List, ℕ, ap, length, nat_eq, refl}
use Rattle.std.proofs.lemmas.Bool.{ne_eqb}
use Rattle.jp_flat.specs.Asked.{is_name}
use Rattle.jp_flat.proofs.FoundInside.{is_same}
use Rattle.jp_flat.proofs.picking.is_name.Goals as goal

-- texts of two lengths are not the same
apart-by-length : (n m : List ℕ) → (length n ≡ length m → ⊥)
    → nat_eq (length n) (length m) ≡ is_name n m
apart-by-length n m apart = by (is_name n m) refl
  where
    by : (b : Bool) → is_name n m ≡ b → nat_eq (length n) (length m) ≡ b
    by false is = ne_eqb (length n) (length m) apart
    by true is = absurd (apart (ap length (is_same n m is)))

pub returns-else-name-bytes : goal.returns-else-name-bytes
returns-else-name-bytes c = apart-by-length c.args.name.now c.args.bytes.now c.if-name-bytes.false
