use Rattle.std.proofs.Common.{arith}
use Rattle.jp_flat.proofs.Fronts.{front_by}
use Rattle.jp_flat.proofs.key.front_by_bytes.Goals as goal

pub returns : goal.returns
returns c =
    let xs = c.args.name.now in
    let a = front_by 7 0 xs in
    let b = front_by 6 1 xs in
    let d = front_by 5 2 xs in
    let e = front_by 4 3 xs in
    let f = front_by 3 4 xs in
    let g = front_by 2 5 xs in
    let h = front_by 1 6 xs in
    let i = front_by 0 7 xs in
    omega (
      arith,
      a,
      b,
      d,
      e,
      f,
      g,
      h,
      i,
      c.byte_at.ensures,
      c.byte_at-2.ensures,
      c.byte_at-3.ensures,
      c.byte_at-4.ensures,
      c.byte_at-5.ensures,
      c.byte_at-6.ensures,
      c.byte_at-7.ensures,
      c.byte_at-8.ensures,
    )
