use Rattle.std.proofs.Common.{rules}
use Rattle.jp_command.proofs.Told.{tells-document, tells-refusal}
use Rattle.jp_command.proofs.line.tell.Goals as goal

pub returns-in-Query : goal.returns-in-Query
returns-in-Query g c =
    tells-refusal _ _ c.args.asked.now.is_explaining c.args.asked.now.profile
    c.args.asked.now.query.now c.args.bytes.now c.in-Query.refusal c.args.fault.now (search rules)
    c.if-asked.true c.report_refusal.ensures

pub returns-in-Document : goal.returns-in-Document
returns-in-Document g c =
    tells-document _ _ c.args.asked.now.is_explaining c.args.asked.now.profile
    c.args.asked.now.query.now c.args.bytes.now c.in-Document.field-0 c.args.fault.now (search rules)
    c.if-asked-2.true c.report_misreading.ensures
