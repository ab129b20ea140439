use Rattle.std.proofs.Common.{string_bytes}
use Rattle.jp_tree.specs.Views.{query_of}
use Rattle.jp_c.specs.Limit.{output_within}
use Rattle.jp_c.proofs.LentAnswers.{read-refused, read_answer}
use Rattle.jp_c.proofs.kept.Asker.ask.Goals as goal

pub returns-in-Ok-clause-answer : goal.returns-in-Ok-clause-answer
returns-in-Ok-clause-answer c =
    let a = c.args in
    let q = query_of a.self.now.query.query in
    read_answer a.from a.count a.form a.self.now.query.profile q a.document.now (output_within a.limit) c.in-Ok.read
    c.in_ok-check_size.ensures.fits c.in-Ok.ensures.ok c.ask_read-asked.result
    (string_bytes c.ask_read-asked.new.memory.text)
    (rw c.query-checked.ensures at c.ask_read-asked.ensures.answer)
    (rw c.query-checked.ensures at c.ask_read-asked.ensures.within)

pub returns-in-Ok-clause-fault : goal.returns-in-Ok-clause-fault
returns-in-Ok-clause-fault c =
    let a = c.args in
    let q = query_of a.self.now.query.query in
    read-refused a.from a.count a.form a.self.now.query.profile q a.document.now (output_within a.limit) c.in-Ok.read
    c.in_ok-check_size.ensures.fits c.in-Ok.ensures.ok c.ask_read-asked.result
    (rw c.query-checked.ensures at c.ask_read-asked.ensures.fault)
