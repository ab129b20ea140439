use Rattle.std.proofs.Common.{◌∙◌, Some, ap, length, refl, sym}
use Rattle.jp_check.specs.Numbers.{numbers}
use Rattle.jp_flat.specs.FlatValue.{lent_flat}
use Rattle.jp_tree.specs.Views.{query_of}
use Rattle.jp_c.specs.Asking.{IsAskedOf, IsKeptFor, nothing, text}
use Rattle.jp_c.specs.Limit.{output_within}
use Rattle.jp_c.specs.declared.kept.Kept.TheVariants as kept
use Rattle.jp_c.specs.declared.outcome.Outcome.TheVariants.{OtherNumbers}
use Rattle.jp_c.proofs.LentAnswers.{told_of_document}
use Rattle.jp_c.proofs.asking.asked_of_document.Goals as goal

pub returns-then-not-are_same : goal.returns-then-not-are_same
returns-then-not-are_same c =
    let a = c.args in
    let is : IsAskedOf a.wanted.form (Some (kept.Query a.asker.now)) a.form a.asker.now.query.profile
    (query_of a.asker.now.query.query) = record {
      form_is = c.requires;
      profile_is = refl;
      query_is = refl;
    } in
    let others = c.are_same.ensures.others c.if-not-are_same.true in
    record {
      answers = record {
        o = OtherNumbers;
        made = 0;
        is = (
          (
            a.form,
            a.asker.now.query.profile,
            query_of a.asker.now.query.query,
            a.document.now.numbers,
            is,
            refl,
            λ same. others (c.numbers.ensures ∙ ap numbers c.profile.ensures ∙ same),
          ),
          refl,
        );
        reports = c.other_numbers.ensures.report;
        answers = ap (λ r. r.status) c.other_numbers.ensures.report;
        lends = nothing refl c.other_numbers.ensures.nothing;
      };
      query = refl;
      profile = refl;
      document = refl;
      numbers = refl;
    }

pub returns : goal.returns
returns c =
    let a = c.args in
    let w = a.wanted in
    let old = Some (kept.Query a.asker.now) in
    let there = Some (kept.Document a.document.now) in
    let q = query_of a.asker.now.query.query in
    let p = a.asker.now.query.profile in
    let d = lent_flat c.value.result in
    let o = c.answered-answered.result.0.outcome in
    let is : IsAskedOf w.form old a.form p q = record {
      form_is = c.requires;
      profile_is = refl;
      query_is = refl;
    } in
    let held : IsKeptFor p there d = record {
      document_is = ap Some (sym c.value.ensures);
      numbers_are = ap Some
          (sym (c.are_same.ensures.same c.if-not-are_same.false) ∙ c.numbers.ensures ∙ ap numbers c.profile.ensures);
    } in
    let told = told_of_document (output_within w.limit) w.form w.from w.count old there a.form p q
    c.ask_value-answer.new.self.memory.text c.ask_value-answer.result o d is held c.answered-answered.ensures.outcome
    c.ask_value-answer.ensures.answer c.ask_value-answer.ensures.within c.ask_value-answer.ensures.fault in
    let same = c.tell.ensures.query ∙ c.answered-answered.ensures.query ∙ c.ask_value-answer.ensures.query in
    record {
      answers = record {
        o = o;
        made = c.answered-answered.result.0.steps;
        is = (told, c.answered-answered.ensures.makes);
        reports = c.tell.ensures.report;
        answers = ap (λ r. r.status) c.tell.ensures.report;
        lends = text c.tell.new.self.memory.text refl c.tell.ensures.text c.tell.ensures.lends.start
            (c.tell.ensures.lends.length ∙ ap length c.tell.ensures.text);
      };
      query = ap (λ x. Some (query_of x.query)) same;
      profile = ap (λ x. Some x.profile) same;
      document = refl;
      numbers = refl;
    }
