use Rattle.std.proofs.Common.{◌≡◌, ◌<◌, ◌∷◌, ◌++◌, length, get_or, drop}
use Rattle.std.proofs.Common.{string_bytes, ap, sym, ◌∙◌, subst, arith, rules}
use Rattle.std.proofs.lemmas.Str.{IsCharBoundary-after_ascii}
use Rattle.std.specs.List.{flat_map}
use Rattle.std.specs.Str.{IsUtf8}
use Rattle.jp_cells.specs.Fields.{spelling}
use Rattle.jp_document.proofs.Writing.Runs.{moved, cut_at, first_and_rest, ascii_after}
use Rattle.jp_document.proofs.Writing.Runs.{IsUtf8-after}
use Rattle.jp_cells.proofs.field.push_spelled.Goals as goal

pub split_at-requires-in-runs : goal.split_at-requires-in-runs
split_at-requires-in-runs c =
    let marked = c.split_at.result.1.now in
    let same = c.as_bytes-in-runs.ensures.value in
    let utf8 : IsUtf8 marked = subst IsUtf8 same c.as_bytes-in-runs.ensures.utf8 in
    let some : 0 < length marked = omega (arith, c.in-Some.ensures.item.3.0, ap length same) in
    let all = c.as_bytes.ensures.value in
    let ascii : get_or marked 0 0 < 128 =
    ascii_after c.as_bytes.result.now marked c.plain_len.result
    (c.split_at.ensures.back ∙ ap (drop c.plain_len.result) (sym all)) some
    c.plain_len.ensures.ascii in
    IsCharBoundary-after_ascii marked 0 utf8 some ascii

pub runs-preserved : goal.runs-preserved
runs-preserved c =
    let run = c.split_at.result.0.now in
    let marked = c.split_at.result.1.now in
    let first = c.in-Some.first.now in
    let f = spelling c.args.format in
    let all = c.as_bytes.ensures.value in
    let same = c.as_bytes-in-runs.ensures.value in
    let utf8 : IsUtf8 marked = subst IsUtf8 same c.as_bytes-in-runs.ensures.utf8 in
    let some : 0 < length marked = omega (arith, c.in-Some.ensures.item.3.0, ap length same) in
    let ascii : get_or marked 0 0 < 128 =
    ascii_after c.as_bytes.result.now marked c.plain_len.result
    (c.split_at.ensures.back ∙ ap (drop c.plain_len.result) (sym all)) some
    c.plain_len.ensures.ascii in
    let is = c.in-Some.ensures.item.4 (omega arith) 0 ∙ ap (λ xs. get_or xs 0 0) same in
    let tail = c.split_at-in-runs.ensures.back in
    let cut =
    cut_at f c.as_bytes.result.now c.runs.rest.now run marked c.plain_len.result first all
    c.split_at.ensures.front c.split_at.ensures.back c.plain_len.ensures.plain
    (first_and_rest marked first some is) in
    let moved_on : c.runs.rest.now ≡ run ++ first ∷ c.split_at-in-runs.result.1.now =
    cut.0 ∙ ap (λ xs. run ++ first ∷ xs) (sym tail) in
    let wrote : string_bytes c.push_marked.new.row ≡ (string_bytes c.runs.row ++ run) ++ f first =
    search rules in
    record {
      utf8 = IsUtf8-after marked _ utf8 some ascii tail;
      whole =
          moved f (string_bytes c.args.row.now) (string_bytes c.runs.row) _ run c.runs.rest.now _
          (flat_map f c.args.text.now) first moved_on cut.1 wrote c.runs.invariant.whole;
    }
