use Rattle.std.proofs.Common.{◌≡◌, ◌<◌, ◌++◌, ◌∷◌, ◌∙◌, [], append_assoc, arith, cond}
use Rattle.std.proofs.Common.{OnOk, drop, eqb, length, rules, string_bytes, subst, sym, ◌+◌}
use Rattle.std.proofs.lemmas.Option.{slice_get_within}
use Rattle.std.specs.List.{join_with_byte}
use Rattle.jp_reading.specs.Characters as char
use Rattle.jp_decimal.specs.Appended.{IsBegun}
use Rattle.jp_document.specs.Location.{entries, step_of}
use Rattle.jp_document.specs.Text.{text_of}
use Rattle.jp_decimal.proofs.Begun.{after, all-of, first}
use Rattle.jp_document.proofs.Writing.Appended.{between}
use Rattle.jp_lent.specs.Lending.{step_with}
use Rattle.jp_lent.specs.Private.Printing.{name_text, part_text, part_texts}
use Rattle.jp_lent.proofs.Parts.{joined_more, list-printed, next_part, no_part, nothing_more}
use Rattle.jp_lent.proofs.Parts.{object-printed, part_more}
use Rattle.jp_lent.proofs.Weights.{inside-far-less, part-far-within}
use Rattle.jp_lent.proofs.printing.+printing.Goals as goal

-- ---- a part

pub push_part-returns-in_err-push_name-clause-kept :
    goal.push_part-returns-in_err-push_name-clause-kept
push_part-returns-in_err-push_name-clause-kept g t c =
    first _ (name_text (step_of c.args.part.0)) (text_of (g.V.Lent.meaning c.args.part.1)) _
    c.in_err-push_name.ensures.kept

pub push_part-returns-clause-kept : goal.push_part-returns-clause-kept
push_part-returns-clause-kept g t c =
    after _ (name_text (step_of c.args.part.0)) (text_of (g.V.Lent.meaning c.args.part.1)) _ _
    c.in_ok-push_name.ensures.ok c.push_value.ensures.kept

-- ---- parts

pub push_parts-returns-in_err-push_comma-clause-kept :
    goal.push_parts-returns-in_err-push_comma-clause-kept
push_parts-returns-in_err-push_comma-clause-kept g t c =
    let es = entries (g.V.Lent.meaning c.args.value) in
    let e = step_with g.V.Lent.meaning c.in-Some.part in
    part_more _ _ (string_bytes c.loop-part.out) (part_text e) _ _ _ c.loop-part.position
    (next_part es c.loop-part.position e c.in-Some.ensures.entry) c.loop-part.invariant.kept
    c.loop-part.invariant.whole (first _ _ (part_text e) _ c.in_err-push_comma.ensures.kept)

pub push_parts-push_part-requires : goal.push_parts-push_part-requires
push_parts-push_part-requires g t c κs within = (
  part-far-within (g.V.Lent.meaning c.args.value) c.loop-part.position t
      (step_with g.V.Lent.meaning c.in-Some.part) c.in-Some.ensures.entry c.decreases,
  within,
)

pub push_parts-returns-in_err-push_part-clause-kept :
    goal.push_parts-returns-in_err-push_part-clause-kept
push_parts-returns-in_err-push_part-clause-kept g t c =
    let es = entries (g.V.Lent.meaning c.args.value) in
    let e = step_with g.V.Lent.meaning c.in-Some.part in
    part_more _ _ (string_bytes c.loop-part.out) (part_text e) _ _ _ c.loop-part.position
    (next_part es c.loop-part.position e c.in-Some.ensures.entry) c.loop-part.invariant.kept
    c.loop-part.invariant.whole
    (after _ _ (part_text e) _ _ c.in_ok-push_comma.ensures.ok c.in_err-push_part.ensures.kept)

pub push_parts-loop-part-smaller : goal.push_parts-loop-part-smaller
push_parts-loop-part-smaller g t c =
    let es = entries (g.V.Lent.meaning c.args.value) in
    let within : c.loop-part.position < length es =
    slice_get_within es c.loop-part.position (step_with g.V.Lent.meaning c.in-Some.part)
    (sym c.in-Some.ensures.entry) in
    omega arith

pub push_parts-loop-part-preserved : goal.push_parts-loop-part-preserved
push_parts-loop-part-preserved g t c =
    let es = entries (g.V.Lent.meaning c.args.value) in
    let i = c.loop-part.position in
    let e = step_with g.V.Lent.meaning c.in-Some.part in
    let now = string_bytes c.loop-part.out in
    let comma = cond (eqb i 0) [] (char.comma ∷ []) in
    let next = next_part es i e c.in-Some.ensures.entry in
    let wrote : string_bytes c.push_part.new.out ≡ (now ++ comma) ++ part_text e = search rules in
    record {
      whole =
          joined_more now _ (part_text e) _ _ (part_texts (drop (i + 1) es)) i next wrote
          c.loop-part.invariant.whole;
      kept =
          part_more _ _ now (part_text e) _ _ _ i next c.loop-part.invariant.kept
          c.loop-part.invariant.whole
          (all-of _ _ _ (wrote ∙ append_assoc now comma (part_text e)));
    }

pub push_parts-returns-clause-ok : goal.push_parts-returns-clause-ok
push_parts-returns-clause-ok g t c =
    let es = entries (g.V.Lent.meaning c.args.value) in
    nothing_more (string_bytes c.loop-part.out) (string_bytes c.args.out.now)
    (join_with_byte char.comma (part_texts es)) c.loop-part.position _
    (no_part es c.loop-part.position c.in_default.ensures.entry) c.loop-part.invariant.whole

-- ---- parts between marks

pub push_enclosed-returns-in_err-push_parts-clause-kept :
    goal.push_enclosed-returns-in_err-push_parts-clause-kept
push_enclosed-returns-in_err-push_parts-clause-kept g t c =
    let parts = join_with_byte char.comma (part_texts (entries (g.V.Lent.meaning c.args.value))) in
    after _ (c.args.opening ∷ []) (parts ++ c.args.closing ∷ []) _ _ c.in_ok-push_mark.ensures.ok
    (first _ parts (c.args.closing ∷ []) _ c.in_err-push_parts.ensures.kept)

pub push_enclosed-returns-clause-kept : goal.push_enclosed-returns-clause-kept
push_enclosed-returns-clause-kept g t c =
    let parts = join_with_byte char.comma (part_texts (entries (g.V.Lent.meaning c.args.value))) in
    between _ parts _ _ _ c.args.opening c.args.closing c.in_ok-push_mark.ensures.ok
    c.in_ok-push_parts.ensures.ok c.push_mark-2.ensures.kept

-- ---- values

pub push_copy-push_enclosed-requires : goal.push_copy-push_enclosed-requires
push_copy-push_enclosed-requires g t c κs within =
    let less = inside-far-less (g.V.Lent.meaning c.args.value) in
    (omega arith, (within, (omega arith, omega arith)))

pub push_value-returns-in-List-clause-ok : goal.push_value-returns-in-List-clause-ok
push_value-returns-in-List-clause-ok g t c =
    let v = g.V.Lent.meaning c.args.value in
    subst (λ x. OnOk c.push_copy.result
    (string_bytes c.push_copy.new.out ≡ string_bytes c.args.out.now ++ x))
    (list-printed v c.in-List.ensures) c.push_copy.ensures.ok

pub push_value-returns-in-List-clause-kept : goal.push_value-returns-in-List-clause-kept
push_value-returns-in-List-clause-kept g t c =
    let v = g.V.Lent.meaning c.args.value in
    subst (λ x. IsBegun (string_bytes c.args.out.now) x (string_bytes c.push_copy.new.out))
    (list-printed v c.in-List.ensures) c.push_copy.ensures.kept

pub push_value-returns-in-Members-clause-ok : goal.push_value-returns-in-Members-clause-ok
push_value-returns-in-Members-clause-ok g t c =
    let v = g.V.Lent.meaning c.args.value in
    subst (λ x. OnOk c.push_copy-in-Members.result
    (string_bytes c.push_copy-in-Members.new.out ≡ string_bytes c.args.out.now ++ x))
    (object-printed v c.in-Members.ensures) c.push_copy-in-Members.ensures.ok

pub push_value-returns-in-Members-clause-kept : goal.push_value-returns-in-Members-clause-kept
push_value-returns-in-Members-clause-kept g t c =
    let v = g.V.Lent.meaning c.args.value in
    subst (λ x. IsBegun (string_bytes c.args.out.now) x
    (string_bytes c.push_copy-in-Members.new.out))
    (object-printed v c.in-Members.ensures) c.push_copy-in-Members.ensures.kept
