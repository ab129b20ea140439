use Rattle.std.proofs.Common.{Some, subst, sym}
use Rattle.jp_c.specs.Asking.{IsAskDocumentOutcome, IsAskOutcome}
use Rattle.jp_c.specs.Limit.{Within}
use Rattle.jp_c.specs.Private.Askers.{Asks, IsAskedOutcome}
use Rattle.jp_c.specs.declared.kept.Kept.TheVariants as kept
use Rattle.jp_c.proofs.asking.asked_of.Goals as goal

pub returns-in-Bytes : goal.returns-in-Bytes
returns-in-Bytes c =
    let w = c.args.wanted in
    let told = c.asked_of_bytes in
    let new = Some (kept.Query told.new.asker) in
    subst (λ g. Asks (λ k. Within w.limit (IsAskedOutcome w.form w.from w.count g k)) (Some c.args.kept.now) new
    told.result.0 told.result.1)
    (sym c.in-Bytes.is)
    (subst (λ old. Asks (λ k. Within w.limit (IsAskOutcome w.form w.from w.count k c.in-Bytes.document.now))
    (Some old) new told.result.0 told.result.1)
    (sym c.in-Query.is) told.ensures)

pub returns-in-Document : goal.returns-in-Document
returns-in-Document c =
    let w = c.args.wanted in
    let told = c.asked_of_document in
    let new = Some (kept.Query told.new.asker) in
    let there = Some (kept.Document c.in-Document.document.now) in
    subst (λ g. Asks (λ k. Within w.limit (IsAskedOutcome w.form w.from w.count g k)) (Some c.args.kept.now) new
    told.result.0 told.result.1)
    (sym c.in-Document.is)
    (subst (λ old. Asks (λ k. Within w.limit (IsAskDocumentOutcome w.form w.from w.count k there)) (Some old) new
    told.result.0 told.result.1)
    (sym c.in-Query.is) told.ensures)
