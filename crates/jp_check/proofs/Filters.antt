-- How the expressions of filters are refused: as the parser refuses them, or with a first fault, and
-- then they are not accepted.
use Rattle.std.proofs.Common.{◌≡◌, ◌⊎◌, inl, inr, Result, Ok, Err, IfErr}
use Rattle.jp_reading.specs.Texts.{Text, Spans}
use Rattle.jp_query.specs.declared.refusal.Refusal.{Refusal}
use Rattle.jp_query.specs.declared.refusal.RefusalKind.TheVariants.{NoMemory}
use Rattle.jp_query.specs.Components.{expr_components}
use Rattle.jp_query.specs.Grammar.{SpellsFilter}
use Rattle.jp_query.specs.Levels.{filter_level_limit}
use Rattle.jp_query.specs.Spelled.{SpellsNoFilter}
use Rattle.jp_query.proofs.Unique.{one-spelt}
use Rattle.jp_query.proofs.WholeRules.{filters}
use Rattle.jp_tree.specs.Tree.{ExprTree}
use Rattle.jp_check.specs.Accepted.{IsFilterNotAccepted}
use Rattle.jp_check.specs.declared.profile.Profile.{Profile}
use Rattle.jp_check.specs.First.{IsFirstFault}
use Rattle.jp_check.specs.Refused.{IsFilterRefused}
use Rattle.jp_check.proofs.Alone.{faulty-refused, faultless-faulty}

-- what spells no expression is accepted as none
pub unspelt-result : {T : Type 0} (profile : Profile) (text : Text) (result : Result T Refusal)
    → IfErr result (λ r. (r.kind ≡ NoMemory) ⊎ SpellsNoFilter filter_level_limit text)
    → IfErr result (λ r. (r.kind ≡ NoMemory) ⊎ IsFilterNotAccepted profile text)
unspelt-result profile text (Ok x) h = tt
unspelt-result profile text (Err r) (inl e) = inl e
unspelt-result profile text (Err r) (inr none) = inr (λ e a. none e a.spans a.spelled)

-- and nor is what has a first fault, which is how it is refused
module _ (profile : Profile) (text : Text) (e : ExprTree) (spans : Spans) (r : Refusal)
    (spelled : SpellsFilter filter_level_limit e spans text)
    (first : IsFirstFault profile (expr_components e) spans r) where
  pub faulty-refused_filter : IsFilterRefused profile text r
  faulty-refused_filter =
      faulty-refused SpellsFilter filter_level_limit expr_components profile text r.kind r.place
      (record { tree = e; spans = spans; spelled = spelled; first = first })

  pub faulty-not_accepted : (r.kind ≡ NoMemory) ⊎ IsFilterNotAccepted profile text
  faulty-not_accepted =
      inr (λ x a. faultless-faulty SpellsFilter filter_level_limit expr_components
      (one-spelt filters filter_level_limit) profile text x a.spans r a.spelled a.faultless
      (record { tree = e; spans = spans; spelled = spelled; first = first }))
