use Rattle.std.proofs.Common.{inl, inr, refl}
use Rattle.jp_json.proofs.Misreadings.{told-so, read-place, front-place, unexpected-cause, too_deep-cause, unfinished-cause}
use Rattle.jp_json.proofs.Misreadings.{whole-cause, encoding-cause, not-utf8}
use Rattle.jp_json.proofs.misreading.not_json.Goals as goal

pub returns-in-Unexpected : goal.returns-in-Unexpected
returns-in-Unexpected c =
    told-so c.args.numbers _ _ _ _ _
    (read-place _ _ c.in_ok-reading.reading c.utf8_front-is_utf8.ensures.text c.utf8_front-is_utf8.ensures.utf8
    c.in_ok-reading.ensures)
    c.utf8_front-is_utf8.ensures.text c.told.ensures.offset c.told.ensures.reason
    c.told.ensures.line c.told.ensures.column c.told.ensures.sentence
    (unexpected-cause c.args.numbers _ _ c.in_ok-reading.reading _ c.told.result.path c.requires c.utf8_front-is_utf8.ensures.text
    c.in_ok-reading.ensures
    c.in-Unexpected.is
    _ c.wrong_reason-reason.ensures c.stop_reason.ensures)

pub returns-in-TooDeep : goal.returns-in-TooDeep
returns-in-TooDeep c =
    told-so c.args.numbers _ _ _ _ _
    (read-place _ _ c.in_ok-reading.reading c.utf8_front-is_utf8.ensures.text c.utf8_front-is_utf8.ensures.utf8
    c.in_ok-reading.ensures)
    c.utf8_front-is_utf8.ensures.text c.told-in-TooDeep.ensures.offset
    c.told-in-TooDeep.ensures.reason
    c.told-in-TooDeep.ensures.line c.told-in-TooDeep.ensures.column c.told-in-TooDeep.ensures.sentence
    (too_deep-cause c.args.numbers _ _ c.in_ok-reading.reading c.told-in-TooDeep.result.path c.requires c.utf8_front-is_utf8.ensures.text
    c.in_ok-reading.ensures
    c.in-TooDeep.is)

pub returns-in-Unfinished : goal.returns-in-Unfinished
returns-in-Unfinished c =
    told-so c.args.numbers _ _ _ _ _
    (read-place _ _ c.in_ok-reading.reading c.utf8_front-is_utf8.ensures.text c.utf8_front-is_utf8.ensures.utf8
    c.in_ok-reading.ensures)
    c.utf8_front-is_utf8.ensures.text c.told-in-Unfinished.ensures.offset
    c.told-in-Unfinished.ensures.reason
    c.told-in-Unfinished.ensures.line c.told-in-Unfinished.ensures.column c.told-in-Unfinished.ensures.sentence
    (unfinished-cause c.args.numbers _ _ c.in_ok-reading.reading _ c.told-in-Unfinished.result.path c.requires c.utf8_front-is_utf8.ensures.text
    (c.utf8_front-is_utf8.ensures.whole.0 c.if-is_utf8.true)
    c.in_ok-reading.ensures
    c.in-Unfinished.is
    c.stop_reason-in-Unfinished.ensures)

pub returns-in_ok-offset-in-Whole : goal.returns-in_ok-offset-in-Whole
returns-in_ok-offset-in-Whole c =
    told-so c.args.numbers _ _ _ _ _
    (c.in_ok-offset-in-Whole.ensures.place (c.utf8_front-is_utf8.ensures.whole.0 c.if-is_utf8-2.true))
    c.utf8_front-is_utf8.ensures.text c.told-in-Whole.ensures.offset
    c.told-in-Whole.ensures.reason
    c.told-in-Whole.ensures.line c.told-in-Whole.ensures.column c.told-in-Whole.ensures.sentence
    (whole-cause c.args.numbers _ _ c.in_ok-reading.reading _ c.told-in-Whole.result.path c.requires c.utf8_front-is_utf8.ensures.text
    (c.utf8_front-is_utf8.ensures.whole.0 c.if-is_utf8-2.true)
    c.in_ok-reading.ensures
    c.in-Whole.is
    _
    c.in_ok-offset-in-Whole.ensures.blamed)

pub returns-in-Unfinished-2 : goal.returns-in-Unfinished-2
returns-in-Unfinished-2 c =
    told-so c.args.numbers _ _ _ _ _
    (front-place _ _ c.utf8_front-is_utf8.ensures.text c.utf8_front-is_utf8.ensures.utf8)
    c.utf8_front-is_utf8.ensures.text c.told-in-Unfinished-2.ensures.offset
    c.told-in-Unfinished-2.ensures.reason
    c.told-in-Unfinished-2.ensures.line c.told-in-Unfinished-2.ensures.column c.told-in-Unfinished-2.ensures.sentence
    (encoding-cause c.args.numbers _ _ c.in_ok-reading.reading _ _ c.told-in-Unfinished-2.result.path c.requires
    c.utf8_front-is_utf8.ensures.text
    (not-utf8 _ _ c.utf8_front-is_utf8.ensures.whole.1 c.if-is_utf8.false)
    c.in_ok-reading.ensures
    (inl c.in-Unfinished-2.is)
    refl
    c.encoding_reason.ensures)

pub returns-in-Whole-2 : goal.returns-in-Whole-2
returns-in-Whole-2 c =
    told-so c.args.numbers _ _ _ _ _
    (front-place _ _ c.utf8_front-is_utf8.ensures.text c.utf8_front-is_utf8.ensures.utf8)
    c.utf8_front-is_utf8.ensures.text c.told-in-Whole-2.ensures.offset
    c.told-in-Whole-2.ensures.reason
    c.told-in-Whole-2.ensures.line c.told-in-Whole-2.ensures.column c.told-in-Whole-2.ensures.sentence
    (encoding-cause c.args.numbers _ _ c.in_ok-reading.reading _ _ c.told-in-Whole-2.result.path c.requires
    c.utf8_front-is_utf8.ensures.text
    (not-utf8 _ _ c.utf8_front-is_utf8.ensures.whole.1 c.if-is_utf8-2.false)
    c.in_ok-reading.ensures
    (inr c.in-Whole-2.is)
    refl
    c.encoding_reason-in-Whole-2.ensures)
