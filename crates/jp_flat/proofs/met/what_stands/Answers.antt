use Rattle.std.proofs.Common.{◌≡◌, ◌∙◌, false, arith, drop, get_or, inl, inr, refl, sym}
use Rattle.std.proofs.lemmas.List.{drop_all}
use Rattle.json.specs.Word.{is_space}
use Rattle.jp_flat.proofs.Halts.{begins, closes, ends, goes-on, head-at, opening-at}
use Rattle.jp_flat.proofs.Punctuated.{end_array_at, end_object_at}
use Rattle.jp_flat.proofs.met.what_stands.Goals as goal
use Rattle.jp_flat.proofs.met.what_stands.Goals.{then-byte-eq125-via-else-byte-eq125+then-byte-eq93, then-byte-eq125-via-then-byte-eq125}

pub returns-then-from-bytes : goal.returns-then-from-bytes
returns-then-from-bytes c =
    let d = c.args.bytes.now in
    let from = c.args.from in
    rw (c.fault_unless.ensures, c.may_close.ensures)
    (ends from.expected (drop from.at d) (drop_all from.at d c.if-from-bytes.true))

pub returns-then-byte-eq125 : goal.returns-then-byte-eq125
returns-then-byte-eq125 c =
    let d = c.args.bytes.now in
    let from = c.args.from in
    let within = c.if-from-bytes.false in
    elim c.then-byte-eq125.branch [
      | then-byte-eq125-via-then-byte-eq125 w ↦
          rw (c.fault_unless-then-byte-eq125.ensures, c.may_close-then-byte-eq125.ensures)
          (closes from.expected (drop from.at d) _ _ (end_object_at d from.at within (grind arith)) (inl refl))
      | then-byte-eq125-via-else-byte-eq125+then-byte-eq93 w ↦
          rw (c.fault_unless-then-byte-eq125.ensures, c.may_close-then-byte-eq125.ensures)
          (closes from.expected (drop from.at d) _ _ (end_array_at d from.at within (grind arith)) (inr refl))
    ]

pub returns-then-may_begin : goal.returns-then-may_begin
returns-then-may_begin c =
    let d = c.args.bytes.now in
    let from = c.args.from in
    let no : is_space (get_or d from.at 0) ≡ false = grind arith in
    let opening = opening-at d from.at c.if-from-bytes.false no c.if-byte-eq125.false c.if-byte-eq93.false in
    begins (drop from.at d) opening from.expected c.begun.result
    (sym c.may_begin.ensures ∙ c.if-may_begin.true) c.begun.ensures

pub returns : goal.returns
returns c =
    let d = c.args.bytes.now in
    let from = c.args.from in
    let no : is_space (get_or d from.at 0) ≡ false = grind arith in
    let opening = opening-at d from.at c.if-from-bytes.false no c.if-byte-eq125.false c.if-byte-eq93.false in
    let first = head-at d from.at c.if-from-bytes.false in
    rw c.fault_unless-2.ensures
    (goes-on (drop from.at d) opening from.expected _ (sym c.may_begin.ensures ∙ c.if-may_begin.false)
    (λ comma h. let byte = sym first ∙ h in grind (arith, comma, byte)))
