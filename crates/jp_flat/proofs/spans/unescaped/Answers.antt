use Rattle.std.proofs.Common.{◌≡◌, ◌-◌, length, drop, string_bytes, ◌∙◌, arith, rules}
use Rattle.jp_flat.proofs.Undone.{appended, end-past-first}
use Rattle.jp_flat.proofs.spans.unescaped.Goals as goal

pub returns-clause-spanned : goal.returns-clause-spanned
returns-clause-spanned c =
    let d = c.args.tables.now.text.now in
    let q = c.args.quoted.now in
    let text = c.in_ok-text.text.now in
    let before = string_bytes c.args.tables.now.spare in
    let after = string_bytes c.push_content.new.out in
    let quote : c.in_ok-quote.quote ≡ length d - length q = omega (arith, c.in_ok-quote.ensures) in
    let same : text ≡ drop 1 q = c.in_ok-text.ensures.cases.0 ∙ end-past-first d q _ quote c.requires in
    let long : c.len-old.result ≡ length before = search rules in
    record {
      text = drop c.len-old.result after;
      says = appended text q before after c.len-old.result same long c.in_ok-push_content.ensures;
      there = c.in_ok-span.ensures;
    }
