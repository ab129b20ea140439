-- What an attempt at a mend has come to.
use Rattle.std.specs.Prelude.{string_bytes}
use Rattle.std.specs.Str.{chars}
use Rattle.jp_check.specs.declared.profile.Profile.{Profile}
use Rattle.jp_explain.specs.declared.suggestion.Attempt.{Attempt}
use Rattle.jp_explain.specs.declared.suggestion.Attempt.TheVariants.{Query, Refused, Nothing}
use Rattle.jp_explain.specs.Suggestion.{IsSuggested}

-- what is answered as a query is one that can be printed
abbrev pub IsSound : Profile → Attempt → Type 0
IsSound profile (Query query) = IsSuggested profile (chars (string_bytes query))
IsSound profile (Refused text refusal) = Unit {0}
IsSound profile Nothing = Unit {0}
