-- A text to which a part of another is appended, one piece behind the other.
use Rattle.std.proofs.Common.{◌≡◌, ℕ, List, [], ◌++◌, refl, sym, ap, ◌∙◌, append_assoc, append-nil}
use Rattle.jp_decimal.specs.Appended.{IsBegun}

pub nothing : (before whole now : List ℕ) → now ≡ before → IsBegun before whole now
nothing before whole now is = record { done = []; rest = whole; begun = refl; appended = is ∙ sym (append-nil before) }

pub all-of : (before whole now : List ℕ) → now ≡ before ++ whole → IsBegun before whole now
all-of before whole now is = record { done = whole; rest = []; begun = sym (append-nil whole); appended = is }

-- a part of the first piece
pub first : (before piece more now : List ℕ) → IsBegun before piece now → IsBegun before (piece ++ more) now
first before piece more now p = record {
  done = p.done;
  rest = p.rest ++ more;
  begun = ap (λ x. x ++ more) p.begun ∙ append_assoc p.done p.rest more;
  appended = p.appended;
}

-- the first piece, and a part of the rest
pub after : (before piece more reached now : List ℕ) → reached ≡ before ++ piece → IsBegun reached more now
    → IsBegun before (piece ++ more) now
after before piece more reached now wrote p = record {
  done = piece ++ p.done;
  rest = p.rest;
  begun = ap (λ x. piece ++ x) p.begun ∙ sym (append_assoc piece p.done p.rest);
  appended = p.appended ∙ ap (λ x. x ++ p.done) wrote ∙ append_assoc before piece p.done;
}
