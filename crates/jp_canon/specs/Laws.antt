-- Laws of canonical texts.
use Rattle.std.specs.Prelude.{◌≡◌, ◌↔◌, ℕ}
use Rattle.jp_reading.specs.Texts.{Text, Spans}
use Rattle.jp_query.specs.Grammar.{Spells}
use Rattle.jp_tree.specs.Tree.{QueryTree}
use Rattle.jp_check.specs.declared.profile.Profile.{Profile}
use Rattle.jp_check.specs.Accepted.{IsAccepted, IsAcceptedAs}
use Rattle.jp_canon.specs.Canon.{canon_of}

-- the canonical text of a tree spells that tree, within any number of levels within which some
-- text spells it
abbrev pub CanonSpells : Type 0
CanonSpells =
    (n : ℕ) (q : QueryTree) (s : Spans) (text : Text) → Spells n q s text
    → (u : Spans) × Spells n q u (canon_of q)

-- so that of a tree that is accepted in a profile is accepted in it as that tree
abbrev pub CanonIsAccepted : Type 0
CanonIsAccepted =
    (profile : Profile) (q : QueryTree) → IsAccepted profile q
    → IsAcceptedAs profile (canon_of q) q

-- trees that are accepted, each in some profile, have one canonical text exactly if they are equal
abbrev pub CanonTellsApart : Type 0
CanonTellsApart =
    (profile other : Profile) (q u : QueryTree) → IsAccepted profile q → IsAccepted other u
    → (canon_of q ≡ canon_of u) ↔ (q ≡ u)
