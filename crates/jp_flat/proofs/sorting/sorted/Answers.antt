use Rattle.std.proofs.Common.{is_lt, nat_cmp, rules}
use Rattle.std.proofs.lemmas.Fn.{always_returns_same}
use Rattle.std.proofs.lemmas.List.Sorted.{ranks_by}
use Rattle.jp_flat.specs.Flat.{shown}
use Rattle.jp_flat.specs.Private.Keys.{keyed_cmp}
use Rattle.jp_flat.proofs.ByKeys.{keyed_cmp-total, sorted_same, ties_by_key, ties_by_order}
use Rattle.jp_flat.proofs.sorting.sorted.Goals as goal

pub returns : goal.returns
returns c =
    let t = shown c.args.tables.now in
    let sort = c.sort_by.ensures in
    sorted_same t c.shared_length.result c.args.members.now c.in_ok-found.found.items
    c.sort_by.new.self.items (λ a b. is_lt (keyed_cmp t a b)) (ties_by_order t) (search rules)
    sort.permutation
    (sort.stable (λ a b. is_lt (keyed_cmp t a b)) (ranks_by (keyed_cmp-total t) (λ k. k))
    (always_returns_same _ _ _ (λ a r f k. search rules)))

pub returns-then-again-gt0 : goal.returns-then-again-gt0
returns-then-again-gt0 c =
    let t = shown c.args.tables.now in
    let sort = c.sort_by_key.ensures in
    sorted_same t c.shared_length.result c.args.members.now c.in_ok-found.found.items
    c.sort_by_key.new.self.items (λ a b. is_lt (nat_cmp a.key b.key)) (ties_by_key t) (search rules)
    sort.permutation
    (sort.stable (λ k. k.key) (always_returns_same _ _ _ (λ a r f k. search rules)))
