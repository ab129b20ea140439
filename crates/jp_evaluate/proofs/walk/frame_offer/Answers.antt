use Rattle.std.proofs.Common.{◌≡◌, ◌<◌, ◌+◌, ℕ, [], ◌∷◌, Some, drop, length, ap, ap₂, sym, ◌∙◌, arith, refl}
use Rattle.std.specs.List.{slice_get}
use Rattle.std.proofs.lemmas.Option.{slice_get_within}
use Rattle.jp_select.proofs.Stepping.{takes_then}
use Rattle.jp_evaluate.specs.Private.Walk.{LeadsNowhere, choices_from, frame_choices, offered}
use Rattle.jp_evaluate.specs.Private.Walk.{segments_left, turn_of, turns}
use Rattle.jp_evaluate.specs.declared.walk.Offer.{Offer}
use Rattle.jp_evaluate.specs.declared.walk.Reached.{Reached}
use Rattle.jp_evaluate.proofs.Walks.Advances.{frame-skips, frame-chooses}
use Rattle.jp_evaluate.proofs.Walks.Choices.{turn_next, turns_end}
use Rattle.jp_evaluate.proofs.Walks.Choices.{fewer-on}
use Rattle.jp_evaluate.proofs.Walks.Paying.{pays-beside, pays-counts, pays-then}
use Rattle.jp_evaluate.proofs.Walks.Skipping.{skips-same, skips-then}
use Rattle.jp_evaluate.proofs.walk.frame_offer.Goals as goal

pub loop-turn-preserved : goal.loop-turn-preserved
loop-turn-preserved g c =
    let m = g.V.Lent.meaning in
    let f = c.loop-turn.frame in
    let h = c.pass_leaves.new.frame in
    let all = c.args.segments.now in
    let turn = c.in-Some.turn in
    let fc = frame_choices m all in
    let ts = turns (segments_left all h.reached.done) in
    let p = c.in_ok-pass_leaves.ensures in
    let at = sym c.in-Some.ensures.gives in
    let there : slice_get ts h.turn ≡ Some (turn_of all turn) =
    ap₂ (λ (r : Reached g.row.V.Denot) (i : ℕ). slice_get (turns (segments_left all r.done)) i)
    p.reached p.turn ∙ at in
    let more = choices_from (m h.reached.value) (drop (h.turn + 1) ts) 0 in
    let next : fc h ≡ more =
    sym (turn_next (m h.reached.value) ts h.turn h.next (turn_of all turn) there
    (sym c.in_default-choice.ensures.entry)) in
    record {
      reached = p.reached ∙ c.loop-turn.invariant.reached;
      same =
          skips-same LeadsNowhere (fc c.args.frame.now) (fc h) more
          (skips-then LeadsNowhere (fc c.args.frame.now) (fc f) (fc h) c.loop-turn.invariant.same
          (frame-skips m all f h turn p.reached p.turn at c.in-Some.ensures.there p.others p.leaves)) next;
      paid =
          let left = ap length next in
          let on = fewer-on m all f h p.reached p.turn in
          pays-then c.loop-turn.invariant.taken c.loop-turn.invariant.paid (pays-counts (omega arith) p.counts);
      taken = takes_then c.loop-turn.invariant.taken p.takes;
    }

pub loop-turn-smaller : goal.loop-turn-smaller
loop-turn-smaller g c =
    let f = c.loop-turn.frame in
    let all = c.args.segments.now in
    let within : f.turn < length (turns (segments_left all f.reached.done)) =
    slice_get_within (turns (segments_left all f.reached.done)) f.turn (turn_of all c.in-Some.turn)
    (sym c.in-Some.ensures.gives) in
    let same =
    ap (λ (r : Reached g.row.V.Denot). length (turns (segments_left all r.done))) c.pass_leaves.ensures.reached in
    let turn = c.pass_leaves.ensures.turn in
    omega arith

pub returns-in-Some-choice-clause-gives : goal.returns-in-Some-choice-clause-gives
returns-in-Some-choice-clause-gives g c =
    let m = g.V.Lent.meaning in
    let f = c.loop-turn.frame in
    let h = c.pass_leaves.new.frame in
    let all = c.args.segments.now in
    let turn = c.in-Some.turn in
    let fc = frame_choices m all in
    let p = c.in_ok-pass_leaves.ensures in
    let at = sym c.in-Some.ensures.gives in
    let there = ap₂ (λ (r : Reached g.row.V.Denot) (i : ℕ). slice_get (turns (segments_left all r.done)) i)
    p.reached p.turn ∙ at in
    let k = c.in-Some-choice.choice in
    let o : Offer g.row.V.Denot =
    record { reached = record { done = turn.done; step = Some k.0; value = k.1 }; test = c.test.result } in
    let rest = fc (record { reached = h.reached; turn = h.turn; next = h.next + 1 }) in
    skips-same LeadsNowhere (fc c.args.frame.now) (fc h) (offered m all o ∷ rest)
    (skips-then LeadsNowhere (fc c.args.frame.now) (fc f) (fc h) c.loop-turn.invariant.same
    (frame-skips m all f h turn p.reached p.turn at c.in-Some.ensures.there p.others p.leaves))
    (frame-chooses m all h turn k o refl there (sym c.in-Some-choice.ensures.entry) c.test.ensures.test)

pub returns-in-Some-choice-clause-pays : goal.returns-in-Some-choice-clause-pays
returns-in-Some-choice-clause-pays g c =
    let m = g.V.Lent.meaning in
    let f = c.loop-turn.frame in
    let h = c.pass_leaves.new.frame in
    let all = c.args.segments.now in
    let turn = c.in-Some.turn in
    let p = c.in_ok-pass_leaves.ensures in
    let at = sym c.in-Some.ensures.gives in
    let there = ap₂ (λ (r : Reached g.row.V.Denot) (i : ℕ). slice_get (turns (segments_left all r.done)) i)
    p.reached p.turn ∙ at in
    let k = c.in-Some-choice.choice in
    let o : Offer g.row.V.Denot =
    record { reached = record { done = turn.done; step = Some k.0; value = k.1 }; test = c.test.result } in
    let left = ap length
    (frame-chooses m all h turn k o refl there (sym c.in-Some-choice.ensures.entry) c.test.ensures.test) in
    let on = fewer-on m all f h p.reached p.turn in
    pays-then c.loop-turn.invariant.taken c.loop-turn.invariant.paid (pays-counts (omega arith) p.counts)

pub returns-clause-gives : goal.returns-clause-gives
returns-clause-gives g c =
    let m = g.V.Lent.meaning in
    let f = c.loop-turn.frame in
    let all = c.args.segments.now in
    skips-same LeadsNowhere (frame_choices m all c.args.frame.now) (frame_choices m all f) [] c.loop-turn.invariant.same
    (turns_end (m f.reached.value) (turns (segments_left all f.reached.done)) f.turn f.next
    (sym c.in_default.ensures.gives))

pub returns-clause-pays : goal.returns-clause-pays
returns-clause-pays g c =
    let m = g.V.Lent.meaning in
    let f = c.loop-turn.frame in
    let all = c.args.segments.now in
    let none = ap length
    (turns_end (m f.reached.value) (turns (segments_left all f.reached.done)) f.turn f.next
    (sym c.in_default.ensures.gives)) in
    pays-beside 0 (omega arith) (omega arith) c.loop-turn.invariant.paid
