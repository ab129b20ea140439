-- What clap's matches of the words of `jp` are.
use Rattle.std.proofs.Common.{◌∙◌, ap, codes, Option, Some, option_map, ◌≡◌, true, List, [], Result}
use Rattle.std.proofs.Common.{Ok, Err, IfOk, IfErr, refl, subst, sym, Bool, false, None}
use Rattle.clap.specs.Words.{App, FailsBy, Kinds, HasKind, HasMatchesOf, Text, fault_of, is_simple}
use Rattle.clap.specs.Words.{first_of, first_value, is_simple_and_free, rows_of, subcommand_of}
use Rattle.clap.specs.Words.{subcommand_rows_of}
use Rattle.clap.specs.declared.error.Error.{Error}
use Rattle.clap.specs.declared.parser.matches.ArgMatches.{ArgMatches}
use Rattle.clap.specs.declared.parser.matches.Found.{Found}
use Rattle.clap.specs.Matches.{ReadsOne, one_text}
use Rattle.clap.proofs.WalkLemmas.{first_value-rows, one_text-rows}
use Rattle.std.specs.Prelude.{option_and_then}
use Rattle.std.specs.Option.{option_map_or, unwrap_or}
use Rattle.std.specs.Str.{bytes_eq}
use Rattle.std.specs.Str.Parse.{ParsesBool}
use Rattle.std.proofs.lemmas.Slice.Eq.{bytes_eq-Decides}
use Rattle.clap.proofs.OnLiterals.{clap_on_literals}
use Rattle.jp_command.specs.CommandLine.{is_set, jp, query_app}

pub jp_is_free : is_simple_and_free jp ≡ true
unfolding clap_on_literals jp query_app
jp_is_free = refl

pub jp_is_simple : is_simple jp ≡ true
unfolding clap_on_literals jp query_app
jp_is_simple = refl

-- of a command whose shape is `app`
module _ (app a : App) (words : List Text) (same : a ≡ app) where
  -- a parse fails by the faults of `app`
  pub fails_as : {X : Type 0} (parse : Result X Error) → is_simple_and_free app ≡ true
      → (is_simple_and_free a ≡ true → FailsBy (fault_of a words) parse)
      → FailsBy (fault_of app words) parse
  fails_as parse free fails =
      let P : App → Type 0 = λ b. is_simple_and_free b ≡ true → FailsBy (fault_of b words) parse in
      subst P same fails free

  -- its matches are those of `app`
  pub matches_as : (m : ArgMatches) → is_simple app ≡ true → HasMatchesOf a words m
      → subcommand_rows_of m ≡ subcommand_of app words
  matches_as m simple has =
      let P : App → Type 0 = λ b. HasMatchesOf b words m in
      (subst P same has simple).1

pub fails_on_ok : {X : Type 0} (kinds : Kinds) (parse : Result X Error)
    → FailsBy kinds parse → IfOk parse (λ _. kinds ≡ [])
fails_on_ok kinds (Ok x) fails = fails
fails_on_ok kinds (Err e) fails = tt

pub fails_on_err : {X : Type 0} (kinds : Kinds) (parse : Result X Error)
    → FailsBy kinds parse → IfErr parse (HasKind kinds)
fails_on_err kinds (Ok x) fails = tt
fails_on_err kinds (Err e) fails = fails

-- what is made of the query that the matches hold and of what a subcommand's name stands for
module _ {X Y : Type 0} (make : X → Text → Y) (found : Found) where
  pub with_query : (x : X) (called : Option X) (query : Option Text) → Some x ≡ called
      → query ≡ first_value found (codes "QUERY")
      → option_map (make x) query ≡ option_and_then
      (λ y. option_map (make y) (first_of (codes "QUERY") (rows_of found))) called
  with_query x called query is held =
      let P : Option X → Type 0 =
      λ o. option_map (make x) query ≡ option_and_then
      (λ y. option_map (make y) (first_of (codes "QUERY") (rows_of found))) o in
      subst P is (ap (option_map (make x)) (held ∙ first_value-rows found (codes "QUERY")))

-- whether a flag is set, by its text
abbrev set_by : Option Text → Bool
set_by text = option_map_or (bytes_eq (codes "true")) text false

not-true : (b : Bool) → (b ≡ true → ⊥) → b ≡ false
not-true true other = absurd (other refl)
not-true false other = refl

set-of_text : (E : Type 0) (t : Text) (value : Option Bool)
    → ReadsOne (ParsesBool {E = E}) t value → unwrap_or value false ≡ set_by (Some t)
set-of_text E t (Some true) is = sym (ap (λ s. set_by (Some s)) is)
set-of_text E t (Some false) is = sym (ap (λ s. set_by (Some s)) is)
set-of_text E t None is =
    sym (not-true _ (λ same. is.1.0 (sym ((bytes_eq-Decides (codes "true") t).0 same))))

-- what `get_one` reads of a flag in the matches
pub flag-read : (E : Type 0) (found : Found) (name : Text) (value : Option Bool)
    → (one_text found name ≡ None → value ≡ None)
    → ((t : Text) → one_text found name ≡ Some t → ReadsOne (ParsesBool {E = E}) t value)
    → unwrap_or value false ≡ is_set name (rows_of found)
flag-read E found name value none some =
    go (one_text found name) refl ∙ ap set_by (one_text-rows found name)
  where
    go : (text : Option Text) → one_text found name ≡ text
        → unwrap_or value false ≡ set_by text
    go None is = ap (λ v. unwrap_or v false) (none is)
    go (Some t) is = set-of_text E t value (some t is)
