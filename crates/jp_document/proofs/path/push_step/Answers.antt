use Rattle.std.proofs.Common.{◌≡◌, ℕ, List, [], ◌∷◌, ◌++◌, string_bytes, ap, sym, subst, rules}
use Rattle.jp_reading.specs.Characters as char
use Rattle.jp_decimal.specs.Appended.{IsBegun}
use Rattle.jp_document.specs.Location.{step_of}
use Rattle.jp_document.specs.Path.{index_text, quoted, step_text}
use Rattle.jp_decimal.proofs.Begun.{after, first}
use Rattle.jp_document.proofs.Writing.Appended.{between}
use Rattle.jp_document.proofs.path.push_step.Goals as goal
use Rattle.jp_document.proofs.path.push_step.Goals.{in-Name+in_ok-push_quote-in-Name}
use Rattle.jp_document.proofs.path.push_step.Goals.{in-Index+in_ok-push_index-in-Index}

pub returns-in_err-push_quote-in-Name-clause-kept :
    goal.returns-in_err-push_quote-in-Name-clause-kept
returns-in_err-push_quote-in-Name-clause-kept c =
    let name = quoted c.in-Name.name.now in
    let before = string_bytes c.args.out.now in
    let opened : string_bytes c.push.new.self ≡ before ++ char.opening_bracket ∷ [] =
    search rules in
    subst (λ t. IsBegun before t (string_bytes c.push_quote.new.out))
    (ap (λ s. step_text (step_of s)) (sym c.in-Name.is))
    (after _ (char.opening_bracket ∷ []) (name ++ char.closing_bracket ∷ []) _ _ opened
    (first _ name (char.closing_bracket ∷ []) _ c.in_err-push_quote-in-Name.ensures.kept))

pub returns-clause-kept : goal.returns-clause-kept
returns-clause-kept c =
    let before = string_bytes c.args.out.now in
    let opened : string_bytes c.push.new.self ≡ before ++ char.opening_bracket ∷ [] =
    search rules in
    let closed : IsBegun (string_bytes c.match-step.out) (char.closing_bracket ∷ [])
    (string_bytes c.push-2.new.self) = search rules in
    let P : List ℕ → Type 0 = λ t. IsBegun before t (string_bytes c.push-2.new.self) in
    elim c.match-step.branch [
      | in-Name+in_ok-push_quote-in-Name w ↦
          let written : string_bytes c.match-step.out ≡ string_bytes c.push.new.self
          ++ quoted w.in-Name.name.now = search rules in
          subst P (ap (λ s. step_text (step_of s)) (sym w.in-Name.is))
          (between _ (quoted w.in-Name.name.now) _ _ _ char.opening_bracket char.closing_bracket
          opened written closed)
      | in-Index+in_ok-push_index-in-Index w ↦
          let written : string_bytes c.match-step.out ≡ string_bytes c.push.new.self
          ++ index_text w.in-Index.index = search rules in
          subst P (ap (λ s. step_text (step_of s)) (sym w.in-Index.is))
          (between _ (index_text w.in-Index.index) _ _ _ char.opening_bracket char.closing_bracket
          opened written closed)
    ]
