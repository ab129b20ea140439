use Rattle.std.proofs.Common.{◌≡◌, ◌+◌, ◌-◌, ◌++◌, ◌∷◌, [], ◌∙◌, ap, arith, drop, length}
use Rattle.std.proofs.Common.{length-drop, rules, subst, sym, take, take_all}
use Rattle.std.proofs.lemmas.List.{take_more}
use Rattle.jp_flat.specs.Flat.{shown}
use Rattle.jp_flat.specs.Private.Keys.{members_in}
use Rattle.jp_flat.specs.Private.Sorting.{IsSameByName}
use Rattle.jp_flat.specs.declared.key.Keyed.{Keyed}
use Rattle.jp_flat.proofs.ByKeys.{AreAppended, one_appended, run_sorted, same_trans}
use Rattle.jp_flat.proofs.sorting.+sort_by_keys.Goals as goal
use Rattle.jp_flat.proofs.sorting.+sort_by_keys.Goals.{then-again-gt0+then-ends_run+in_ok-sort_by_keys, else-again-gt0}

pub loop-index-preserved : goal.loop-index-preserved
loop-index-preserved t c =
    let s = shown c.args.tables.now in
    let base = c.args.base in
    let before = c.args.members.now.items in
    let ks = c.in_ok-sorted.sorted.items in
    let l = c.loop-index in
    let k : Keyed = c.index.result.now in
    let after = c.push.new.self.items in
    let grown : take (l.index + 1) ks ≡ take l.index ks ++ k ∷ [] =
    take_more ks l.index k (omega arith) ∙ ap (λ x. take l.index ks ++ x ∷ []) (search rules) in
    let pushed : after ≡ l.members.items ++ k.member ∷ [] = search rules in
    let one : AreAppended s base l.first (take (l.index + 1) ks) before after =
    subst (λ js. AreAppended s base l.first js before after) (sym grown)
    (subst (AreAppended s base l.first (take l.index ks ++ k ∷ []) before) (sym pushed)
    (one_appended s base l.first (take l.index ks) k before l.members.items l.invariant)) in
    elim c.if-again-gt0.branch [
      | then-again-gt0+then-ends_run+in_ok-sort_by_keys w ↦
          let sorted = w.sort_by_keys.new.members.items in
          let done = w.in_ok-sort_by_keys.ensures in
          let end : w.len-first.result ≡ length sorted = search rules in
          rw (w.members-is, w.first-is)
          (subst (λ n. AreAppended s base n (take (l.index + 1) ks) before sorted) (sym end)
          (run_sorted s base l.first (take (l.index + 1) ks) before after sorted one done.front
          done.same done.long))
      | else-again-gt0 w ↦ rw (w.members-is, w.first-is) one
    ]

pub returns-clause-same : goal.returns-clause-same
returns-clause-same t c =
    let s = shown c.args.tables.now in
    let base = c.args.base in
    let xs = c.args.members.now.items in
    let ks = c.in_ok-sorted.sorted.items in
    let zs = c.deref.result.now in
    let same : zs ≡ xs = search rules in
    let these : take (length zs - base) (drop base zs) ≡ drop base xs =
    take_all _ (drop base zs) (omega (arith, length-drop base zs)) ∙ ap (drop base) same in
    let moved : IsSameByName s (drop base xs) (members_in ks) =
    subst (λ ys. IsSameByName s ys (members_in ks)) these c.in_ok-sorted.ensures in
    let l = c.loop-index in
    let all : take l.index ks ≡ ks = take_all l.index ks (omega arith) in
    same_trans s (drop base xs) (members_in ks) (drop base l.members.items) moved
    (subst (λ js. IsSameByName s (members_in js) (drop base l.members.items)) all
    l.invariant.same)
