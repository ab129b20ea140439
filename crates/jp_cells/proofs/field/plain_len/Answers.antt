use Rattle.std.proofs.Common.{◌≡◌, ◌<◌, ◌≤◌, length, take, get_or, subst, arith}
use Rattle.std.specs.List.{flat_map, position_or_len}
use Rattle.jp_cells.specs.Fields.{spelling}
use Rattle.jp_cells.specs.Private.Marks.{is_marked}
use Rattle.jp_cells.proofs.Marks.{first_ascii, first_or_length, first_within, plain_front}
use Rattle.jp_cells.proofs.field.plain_len.Goals as goal

pub returns : goal.returns
returns c =
    let f = c.args.format in
    let xs = c.args.text.now in
    let within = first_within (is_marked f) xs in
    let is : position_or_len (is_marked f) xs ≡ c.unwrap_or.result =
    grind (arith, first_or_length (is_marked f) xs within) in
    record {
      within = subst (λ n. n ≤ length xs) is within;
      plain = subst (λ n. flat_map (spelling f) (take n xs) ≡ take n xs) is (plain_front f xs);
      ascii = subst (λ n. n < length xs → get_or xs n 0 < 128) is (first_ascii f xs);
    }
