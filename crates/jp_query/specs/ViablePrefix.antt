-- Viable prefixes: beginnings of texts that spell a query (RFC 9535 section 2.1.1), or the expression
-- of a filter (section 2.3.5.1).
use Rattle.std.specs.Prelude.{◌≡◌, ◌⊎◌, ℕ, suc, [], ◌∷◌, ◌++◌}
use Rattle.jp_reading.specs.Texts.{Text, Spans, bytes}
use Rattle.jp_query.specs.Grammar.{Spells, SpellsFilter}
use Rattle.jp_query.specs.Spelled.{Spelling, SpellsNone}

-- of texts that spell trees in one way or the other
module _ {A : Type 0} (Spelt : Spelling A) where
  -- some text that begins with this one spells a tree
  abbrev pub Begins : ℕ → Text → Type 0
  Begins n prefix = (more : Text) × (x : A) × (s : Spans) × Spelt n x s (prefix ++ more)

  -- no text that begins with this one spells a tree
  abbrev pub BeginsNone : ℕ → Text → Type 0
  BeginsNone n prefix = Begins n prefix → ⊥

  -- that byte is the end of the longest viable prefix of the text: what is before it is viable, and
  -- through the character there it is not
  pub record EndsAt (n : ℕ) (text : Text) (place : ℕ) : Type 0 where
    pub before : Text
    pub unexpected : ℕ
    pub after : Text
    pub parts : text ≡ before ++ unexpected ∷ after
    pub place_is : bytes before ≡ place
    pub is_viable : Begins n before
    pub is_not_viable : BeginsNone n (before ++ unexpected ∷ [])

  -- the character there goes on to no tree, nor does it with one level more
  pub record UnexpectedAt (n : ℕ) (text : Text) (place : ℕ) : Type 0 where
    pub end : EndsAt n text place
    pub none_deeper : BeginsNone (suc n) (end.before ++ end.unexpected ∷ [])

  -- the character there goes on to no tree, but does with one level more
  pub record TooDeepAt (n : ℕ) (text : Text) (place : ℕ) : Type 0 where
    pub end : EndsAt n text place
    pub deeper : Begins (suc n) (end.before ++ end.unexpected ∷ [])

  -- that byte is the end of the text, which is a viable prefix and spells no tree
  pub record UnfinishedAt (n : ℕ) (text : Text) (place : ℕ) : Type 0 where
    pub place_is : bytes text ≡ place
    pub is_viable : Begins n text
    pub nothing : SpellsNone Spelt n text

  -- the text spells nothing, and that byte is the place of its refusal: its first character that goes
  -- on to no tree, or its end
  abbrev pub StuckAt : ℕ → Text → ℕ → Type 0
  StuckAt n text place = UnfinishedAt n text place ⊎ UnexpectedAt n text place

-- the same of queries
abbrev pub IsViablePrefix : ℕ → Text → Type 0
IsViablePrefix = Begins Spells

abbrev pub IsNoViablePrefix : ℕ → Text → Type 0
IsNoViablePrefix = BeginsNone Spells

abbrev pub EndsViablePrefix : ℕ → Text → ℕ → Type 0
EndsViablePrefix = EndsAt Spells

abbrev pub IsTooDeepAt : ℕ → Text → ℕ → Type 0
IsTooDeepAt = TooDeepAt Spells

abbrev pub IsSyntaxAt : ℕ → Text → ℕ → Type 0
IsSyntaxAt = StuckAt Spells

-- and of the expressions of filters
abbrev pub IsFilterTooDeepAt : ℕ → Text → ℕ → Type 0
IsFilterTooDeepAt = TooDeepAt SpellsFilter

abbrev pub IsFilterSyntaxAt : ℕ → Text → ℕ → Type 0
IsFilterSyntaxAt = StuckAt SpellsFilter
