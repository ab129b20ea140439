-- A text to which a part of another is appended, one piece after the other.
use Rattle.std.proofs.Common.{◌≡◌, ℕ, List, [], ◌∷◌, ◌++◌, sym, ap, ◌∙◌, append_assoc}
use Rattle.std.proofs.lemmas.List.{append_cancel_left}
use Rattle.jp_decimal.specs.Appended.{IsBegun}
use Rattle.jp_decimal.proofs.Begun.{after}

-- a part, and then a part of the piece that comes next
pub on : (before whole reached piece more now : List ℕ) → IsBegun before whole reached
    → reached ++ (piece ++ more) ≡ before ++ whole → IsBegun reached piece now
    → IsBegun before whole now
on before whole reached piece more now p next q =
    let cut : p.done ++ (piece ++ more) ≡ whole =
    append_cancel_left before (p.done ++ (piece ++ more)) whole
    (sym (append_assoc before p.done (piece ++ more))
    ∙ ap (λ x. x ++ (piece ++ more)) (sym p.appended) ∙ next) in
    record {
      done = p.done ++ q.done;
      rest = q.rest ++ more;
      begun = sym cut
          ∙ ap (λ x. p.done ++ (x ++ more)) q.begun
          ∙ ap (λ x. p.done ++ x) (append_assoc q.done q.rest more)
          ∙ sym (append_assoc p.done q.done (q.rest ++ more));
      appended = q.appended ∙ ap (λ x. x ++ q.done) p.appended
          ∙ append_assoc before p.done q.done;
    }

-- a mark, a piece, and a mark or nothing
pub between : (before piece opened written now : List ℕ) (left right : ℕ)
    → opened ≡ before ++ left ∷ [] → written ≡ opened ++ piece
    → IsBegun written (right ∷ []) now
    → IsBegun before (left ∷ (piece ++ right ∷ [])) now
between before piece opened written now left right e f p =
    after before (left ∷ []) (piece ++ right ∷ []) opened now e
    (after opened piece (right ∷ []) written now f p)
