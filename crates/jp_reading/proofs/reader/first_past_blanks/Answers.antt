use Rattle.std.proofs.Common.{sym, ◌∙◌}
use Rattle.jp_reading.proofs.Texts.Chars.{first_past-end, first_past-blank, first_past-other}
use Rattle.jp_reading.proofs.reader.first_past_blanks.Goals as goal

pub returns-then-not-is_blank : goal.returns-then-not-is_blank
returns-then-not-is_blank c =
    sym (first_past-other _ _ c.in-Some.first c.in-Some.ensures.parts.0
    (sym c.is_blank.ensures ∙ c.if-not-is_blank.true))
    ∙ c.blanks.invariant.1

pub blanks-preserved : goal.blanks-preserved
blanks-preserved c = (
  c.in-Some.ensures.text,
  first_past-blank _ _ c.in-Some.first c.in-Some.ensures.parts.0
      (sym c.is_blank.ensures ∙ c.if-not-is_blank.false)
      ∙ c.blanks.invariant.1,
)

pub returns : goal.returns
returns c = sym (first_past-end _ c.in_default.ensures.parts) ∙ c.blanks.invariant.1
