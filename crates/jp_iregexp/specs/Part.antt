-- That some part of a text is in a language: for matchers, matches and the laws of membership.
use Rattle.std.specs.Prelude.{◌≡◌, ℕ, List, ◌++◌}

-- some part of a text is in a language: what comes before it, the part and what comes after it are
-- the text, and each may be empty (RFC 9535 section 2.4.7)
pub record HasPart (L : List ℕ → Type 0) (text : List ℕ) : Type 0 where
  pub before : List ℕ
  pub part : List ℕ
  pub after : List ℕ
  pub is : text ≡ before ++ (part ++ after)
  pub holds : L part
