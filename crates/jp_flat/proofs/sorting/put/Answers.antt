use Rattle.std.proofs.Common.{◌≡◌, subst, sym, rules}
use Rattle.std.specs.List.{insert}
use Rattle.std.proofs.Math.ListN.{set}
use Rattle.jp_flat.specs.Flat.{shown}
use Rattle.jp_flat.specs.Private.Sorting.{Puts}
use Rattle.jp_flat.proofs.Putting.{put-hit, put-missed}
use Rattle.jp_flat.proofs.sorting.put.Goals as goal

pub returns-in-Ok : goal.returns-in-Ok
returns-in-Ok c =
    let t = shown c.args.tables.now in
    let q = c.in_ok-name.name.now in
    let i = c.in-Ok.index in
    let m = c.args.member in
    subst (λ xs. Puts t m xs (set xs i m)) c.deref.ensures.value
    (put-hit t m q c.deref.result.now i (sym c.in_ok-name.ensures) c.in-Ok.ensures.within
    c.in-Ok.ensures.index)

pub returns-in_ok-put_at-in-Err : goal.returns-in_ok-put_at-in-Err
returns-in_ok-put_at-in-Err c =
    let t = shown c.args.tables.now in
    let q = c.in_ok-name.name.now in
    let i = c.in-Err.index in
    let m = c.args.member in
    let inserted : c.put_at.new.found.items ≡ insert c.args.found.now.items i m = search rules in
    subst (Puts t m c.args.found.now.items) (sym inserted)
    (subst (λ xs. Puts t m xs (insert xs i m)) c.deref.ensures.value
    (put-missed t m q c.deref.result.now i (sym c.in_ok-name.ensures)
    c.in-Err.ensures.index))
