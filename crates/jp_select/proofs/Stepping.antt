-- Steps are taken one after another.
use Rattle.std.proofs.Common.{ℕ, refl, ◌∙◌, arith}
use Rattle.jp_select.specs.Steps.{Counts, Takes}
use Rattle.jp_select.specs.declared.steps.Steps.{Steps}

pub takes_none : (s : Steps) → Takes s s
takes_none s = record { fewer = omega arith; same = refl }

pub takes_then : {a b c : Steps} → Takes a b → Takes b c → Takes a c
takes_then p q =
    let first = p.fewer in
    let second = q.fewer in
    record { fewer = omega arith; same = q.same ∙ p.same }

-- what was counted after some steps were taken
pub counts_after : {n : ℕ} {a b c : Steps} → Takes a b → Counts n b c → Counts n a c
counts_after p q = record {
  many = λ limited.
      let first = p.fewer in
      let second = q.many (p.same ∙ limited) in
      omega arith;
}
