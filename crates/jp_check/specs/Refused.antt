-- How texts are refused in a profile.
use Rattle.std.specs.Prelude.{◌≡◌, ℕ, List}
use Rattle.jp_reading.specs.Texts.{Text, Spans}
use Rattle.jp_query.specs.declared.refusal.Refusal.{Refusal}
use Rattle.jp_query.specs.declared.refusal.RefusalKind.{RefusalKind}
use Rattle.jp_query.specs.declared.refusal.RefusalKind.TheVariants.{Syntax, TooDeep}
use Rattle.jp_query.specs.declared.refusal.RefusalKind.TheVariants.{NoMemory, TextTooLong}
use Rattle.jp_query.specs.ViablePrefix.{StuckAt, TooDeepAt}
use Rattle.jp_query.specs.Grammar.{Spells, SpellsFilter}
use Rattle.jp_query.specs.Levels.{level_limit, filter_level_limit}
use Rattle.jp_query.specs.Components.{QueryComponent, components_of, expr_components}
use Rattle.jp_query.specs.Spelled.{Spelling}
use Rattle.jp_check.specs.declared.profile.Profile.{Profile}
use Rattle.jp_check.specs.First.{IsFirstFault}

-- of texts that spell trees in one way or the other, within so many levels, and the trees' components
module _ {A : Type 0} (Spelt : Spelling A) (limit : ℕ) (components : A → List QueryComponent) where
  -- the text spells a tree within the limit of levels, and this is the first fault of its components
  pub record Faulty (profile : Profile) (text : Text) (fault : Refusal) : Type 0 where
    pub tree : A
    pub spans : Spans
    pub spelled : Spelt limit tree spans text
    pub first : IsFirstFault profile (components tree) spans fault

  -- what a refusal of that kind, at that place, says of the text; out of memory says nothing of it
  abbrev pub Says : Profile → Text → RefusalKind → ℕ → Type 0
  Says profile text NoMemory place = place ≡ 0
  Says profile text Syntax place = StuckAt Spelt limit text place
  Says profile text TooDeep place = TooDeepAt Spelt limit text place
  Says profile text TextTooLong place = ⊥
  Says profile text kind place = Faulty profile text (record { kind = kind; place = place })

-- the text spells a query, and this is the first fault of its components
abbrev pub IsFaulty : Profile → Text → Refusal → Type 0
IsFaulty = Faulty Spells level_limit components_of

-- what a refusal of that kind, at that place, says of the text of a query
abbrev pub RefusalSays : Profile → Text → RefusalKind → ℕ → Type 0
RefusalSays = Says Spells level_limit components_of

-- the text is refused so
abbrev pub IsRefused : Profile → Text → Refusal → Type 0
IsRefused profile text refusal = RefusalSays profile text refusal.kind refusal.place

-- the text is refused for what it is, and not for running out of memory
abbrev pub IsRefusedForItself : Profile → Text → Refusal → Type 0
IsRefusedForItself profile text refusal =
    IsRefused profile text refusal × ¬ (refusal.kind ≡ NoMemory)

-- the text of a filter's expression is refused so
abbrev pub IsFilterRefused : Profile → Text → Refusal → Type 0
IsFilterRefused profile text refusal =
    Says SpellsFilter filter_level_limit expr_components profile text refusal.kind refusal.place
