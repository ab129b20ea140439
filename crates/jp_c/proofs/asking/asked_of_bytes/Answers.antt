use Rattle.std.proofs.Common.{◌∙◌, Some, ap, length, refl, subst}
use Rattle.jp_check.specs.Numbers.{numbers}
use Rattle.jp_tree.specs.Views.{query_of}
use Rattle.jp_c.specs.Asking.{IsAskedOf, text}
use Rattle.jp_c.specs.Private.Placing.{IsPlaced}
use Rattle.jp_c.specs.declared.kept.Kept.TheVariants as kept
use Rattle.jp_c.proofs.LentAnswers.{told_of_bytes}
use Rattle.jp_c.proofs.asking.asked_of_bytes.Goals as goal

pub returns : goal.returns
returns c =
    let a = c.args in
    let w = a.wanted in
    let old = Some (kept.Query a.asker.now) in
    let q = query_of a.asker.now.query.query in
    let p = a.asker.now.query.profile in
    let o = c.placed.result.outcome in
    let steps = c.placed.result.steps in
    let is : IsAskedOf w.form old a.form p q = record {
      form_is = c.requires;
      profile_is = refl;
      query_is = refl;
    } in
    let placed = subst (λ x. IsPlaced (numbers x) a.document.now c.answered-answered.result.0.outcome o)
    c.profile-profile.ensures c.placed.ensures.outcome in
    let told = told_of_bytes w.limit w.form w.from w.count old a.form p q a.document.now is steps
    c.ask-answer.new.self.memory.text c.ask-answer.result c.answered-answered.result.0.outcome o
    c.answered-answered.result.0.steps c.answered-answered.ensures.outcome
    c.ask-answer.ensures.answer c.ask-answer.ensures.fault c.answered-answered.ensures.makes
    c.placed.ensures.steps placed in
    let same = c.tell.ensures.query ∙ c.answered-answered.ensures.query ∙ c.ask-answer.ensures.query in
    record {
      answers = record {
        o = o;
        made = steps;
        is = told;
        reports = c.tell.ensures.report;
        answers = ap (λ r. r.status) c.tell.ensures.report;
        lends = text c.tell.new.self.memory.text refl c.tell.ensures.text c.tell.ensures.lends.start
            (c.tell.ensures.lends.length ∙ ap length c.tell.ensures.text);
      };
      query = ap (λ x. Some (query_of x.query)) same;
      profile = ap (λ x. Some x.profile) same;
      document = refl;
      numbers = refl;
    }
