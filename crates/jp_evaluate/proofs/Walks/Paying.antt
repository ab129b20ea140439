-- Steps that were to be made are made one after another.
use Rattle.std.proofs.Common.{◌≡◌, ℕ, suc, ◌+◌, ◌≤◌, ◌∙◌, arith}
use Rattle.jp_select.specs.Steps.{Counts, Takes}
use Rattle.jp_select.specs.declared.steps.Steps.{Steps}
use Rattle.jp_evaluate.specs.Private.Due.{Pays}

pub pays-none : {n : ℕ} (s : Steps) → Pays n n s s
pays-none s = record { paid = λ limited. omega arith }

-- steps that were made for something else
pub pays-none-more : {n : ℕ} {a b : Steps} → Takes a b → Pays n n a b
pays-none-more takes = record {
  paid = λ limited. let fewer = takes.fewer in omega arith;
}

pub pays-then : {k l m : ℕ} {a b c : Steps} → Takes a b → Pays k l a b → Pays l m b c → Pays k m a c
pays-then takes p q = record {
  paid = λ limited.
      let first = p.paid limited in
      let second = q.paid (takes.same ∙ limited) in
      omega arith;
}

-- all but so many were counted
pub pays-counts : {k l n : ℕ} {a b : Steps} → k ≤ n + l → Counts n a b → Pays k l a b
pays-counts less counts = record {
  paid = λ limited. let counted = counts.many limited in omega arith;
}

-- what differs by as much
pub pays-as : {i j k l : ℕ} {a b : Steps} → i + l ≡ k + j → Pays k l a b → Pays i j a b
pays-as same p = record {
  paid = λ limited. let paid = p.paid limited in omega arith;
}

-- with others that are left
pub pays-beside : {i j k l : ℕ} (n : ℕ) {a b : Steps} → i ≤ k + n → l + n ≤ j → Pays k l a b → Pays i j a b
pays-beside n more fewer p = record {
  paid = λ limited. let paid = p.paid limited in omega arith;
}

-- a step is made for an offer, and of what that takes at most one is not left
pub pays-offer : {a b c e : ℕ} {s t u v w : Steps} → Takes s t → Pays a b s t → Takes t u → Counts 1 t u
    → Takes u v → Pays b c u v → Takes v w → c ≤ suc e → Pays a e s w
pays-offer first due second one third offered last less = record {
  paid = λ limited.
      let at = first.same ∙ limited in
      let before = due.paid limited in
      let step = one.many at in
      let offer = offered.paid (second.same ∙ at) in
      let after = last.fewer in
      omega arith;
}

-- all were made
pub counts-paid : {n : ℕ} {a b : Steps} → Pays n 0 a b → Counts n a b
counts-paid p = record {
  many = λ limited. let paid = p.paid limited in omega arith;
}
