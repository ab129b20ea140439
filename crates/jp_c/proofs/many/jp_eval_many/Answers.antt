use Rattle.std.proofs.Common.{◌≡◌, ℕ, List, Some, rules, string_bytes, subst, sym}
use Rattle.std.specs.List.{slice_get}
use Rattle.jp_c.specs.Calls.{IsEvalOutcome}
use Rattle.jp_c.specs.Limit.{Within}
use Rattle.jp_c.specs.Many.{AnswersEach, query_asked}
use Rattle.jp_c.specs.Outcome.{filled}
use Rattle.jp_c.specs.Private.Subjects.{IsReadToServe}
use Rattle.jp_c.specs.declared.limit.Limit.{Limit}
use Rattle.jp_c.proofs.many.jp_eval_many.Goals as goal

pub answer_each-texts-requires-clause-read : goal.answer_each-texts-requires-clause-read
answer_each-texts-requires-clause-read c = λ i q r asked read.
    let query = query_asked c.args.queries.now q in
    subst (λ p. IsReadToServe p c.read-subject.result.plan.now.portion query r)
    (sym c.read-subject.ensures.profile)
    (subst (λ t. IsReadToServe c.args.profile t.portion query r) (sym c.read-subject.ensures.plan)
    (c.read_each-reads.ensures i q r asked
    (subst (λ rs. slice_get rs i ≡ Some r) c.deref.ensures.value read)))

pub returns : goal.returns
returns c =
    let read = c.read-subject in
    let texts = string_bytes c.answer_each-texts.result in
    let each = λ (limit : Limit) (form : ℕ) (profile : ℕ) (document : List ℕ). AnswersEach
    (λ query. Within limit (IsEvalOutcome form profile query document)) c.args.queries.now
    c.args.questions.now c.answer_each-texts.new.questions texts
    in
    record {
      texts = texts;
      each = subst (λ limit. each limit c.args.form c.args.profile c.args.document.now)
          read.ensures.limit
          (subst (λ form. each read.result.limit form c.args.profile c.args.document.now)
          read.ensures.form
          (subst (λ profile. each read.result.limit read.result.form profile c.args.document.now)
          read.ensures.profile
          (subst (λ document. each read.result.limit read.result.form read.result.profile document)
          read.ensures.document c.answer_each-texts.ensures)));
      fills = subst (λ t. c.fill.new.out ≡ filled t c.args.out.now) c.as_bytes.ensures.value
          c.fill.ensures;
      counts = search rules;
    }
