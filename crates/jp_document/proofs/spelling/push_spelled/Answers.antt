use Rattle.std.proofs.Common.{◌≡◌, ◌<◌, ◌∷◌, ◌++◌, length, get_or, drop}
use Rattle.std.proofs.Common.{string_bytes, ap, sym, ◌∙◌, subst, append_assoc, arith, rules}
use Rattle.std.proofs.lemmas.Str.{IsCharBoundary-after_ascii}
use Rattle.std.specs.List.{flat_map}
use Rattle.std.specs.Str.{IsUtf8}
use Rattle.jp_document.specs.Spelling.{spelling}
use Rattle.jp_decimal.proofs.Begun.{after, all-of}
use Rattle.jp_document.proofs.Writing.Appended.{on}
use Rattle.jp_document.proofs.Writing.Runs.{moved, moving, cut_at, first_and_rest, ascii_after}
use Rattle.jp_document.proofs.Writing.Runs.{IsUtf8-after}
use Rattle.jp_document.proofs.spelling.push_spelled.Goals as goal

pub split_at-requires-in-runs : goal.split_at-requires-in-runs
split_at-requires-in-runs c =
    let marked = c.split_at.result.1.now in
    let same = c.as_bytes-in-runs.ensures.value in
    let utf8 : IsUtf8 marked = subst IsUtf8 same c.as_bytes-in-runs.ensures.utf8 in
    let some : 0 < length marked = omega (arith, c.in-Some.ensures.item.3.0, ap length same) in
    let all = c.as_bytes.ensures.value in
    let ascii : get_or marked 0 0 < 128 =
    ascii_after c.as_bytes.result.now marked c.plain_len.result
    (c.split_at.ensures.back ∙ ap (drop c.plain_len.result) (sym all)) some
    c.plain_len.ensures.ascii in
    IsCharBoundary-after_ascii marked 0 utf8 some ascii

pub runs-preserved : goal.runs-preserved
runs-preserved c =
    let run = c.split_at.result.0.now in
    let marked = c.split_at.result.1.now in
    let first = c.in-Some.first.now in
    let f = spelling c.args.quote in
    let all = c.as_bytes.ensures.value in
    let same = c.as_bytes-in-runs.ensures.value in
    let utf8 : IsUtf8 marked = subst IsUtf8 same c.as_bytes-in-runs.ensures.utf8 in
    let some : 0 < length marked = omega (arith, c.in-Some.ensures.item.3.0, ap length same) in
    let ascii : get_or marked 0 0 < 128 =
    ascii_after c.as_bytes.result.now marked c.plain_len.result
    (c.split_at.ensures.back ∙ ap (drop c.plain_len.result) (sym all)) some
    c.plain_len.ensures.ascii in
    let is = c.in-Some.ensures.item.4 (omega arith) 0 ∙ ap (λ xs. get_or xs 0 0) same in
    let tail = c.split_at-in-runs.ensures.back in
    let cut =
    cut_at f c.as_bytes.result.now c.runs.rest.now run marked c.plain_len.result first all
    c.split_at.ensures.front c.split_at.ensures.back c.plain_len.ensures.plain
    (first_and_rest marked first some is) in
    let moved_on : c.runs.rest.now ≡ run ++ first ∷ c.split_at-in-runs.result.1.now =
    cut.0 ∙ ap (λ xs. run ++ first ∷ xs) (sym tail) in
    let wrote : string_bytes c.push_marked.new.out ≡ (string_bytes c.runs.out ++ run) ++ f first =
    search rules in
    record {
      utf8 = IsUtf8-after marked _ utf8 some ascii tail;
      whole =
          moved f (string_bytes c.args.out.now) (string_bytes c.runs.out) _ run c.runs.rest.now _
          (flat_map f c.args.text.now) first moved_on cut.1 wrote c.runs.invariant.whole;
      kept =
          on _ _ (string_bytes c.runs.out) (run ++ f first) (flat_map f (drop 1 marked)) _
          c.runs.invariant.kept
          (moving f (string_bytes c.args.out.now) (string_bytes c.runs.out) run c.runs.rest.now
          (drop 1 marked) (flat_map f c.args.text.now) first cut.0 cut.1 c.runs.invariant.whole)
          (all-of _ _ _ (wrote ∙ append_assoc (string_bytes c.runs.out) run (f first)));
    }

pub returns-in_err-push_marked-clause-kept : goal.returns-in_err-push_marked-clause-kept
returns-in_err-push_marked-clause-kept c =
    let run = c.split_at.result.0.now in
    let marked = c.split_at.result.1.now in
    let first = c.in-Some.first.now in
    let f = spelling c.args.quote in
    let same = c.as_bytes-in-runs.ensures.value in
    let some : 0 < length marked = omega (arith, c.in-Some.ensures.item.3.0, ap length same) in
    let is = c.in-Some.ensures.item.4 (omega arith) 0 ∙ ap (λ xs. get_or xs 0 0) same in
    let cut =
    cut_at f c.as_bytes.result.now c.runs.rest.now run marked c.plain_len.result first
    c.as_bytes.ensures.value c.split_at.ensures.front c.split_at.ensures.back
    c.plain_len.ensures.plain (first_and_rest marked first some is) in
    let wrote : string_bytes c.push_str.new.self ≡ string_bytes c.runs.out ++ run =
    search rules in
    on _ _ (string_bytes c.runs.out) (run ++ f first) (flat_map f (drop 1 marked)) _
    c.runs.invariant.kept
    (moving f (string_bytes c.args.out.now) (string_bytes c.runs.out) run c.runs.rest.now
    (drop 1 marked) (flat_map f c.args.text.now) first cut.0 cut.1 c.runs.invariant.whole)
    (after _ run (f first) _ _ wrote c.in_err-push_marked.ensures.kept)
