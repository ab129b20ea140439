-- The outcomes that each call may have.
use Rattle.std.specs.Prelude.{◌≡◌, ◌⊎◌, ℕ, List, [], Some, None, string_bytes}
use Rattle.jp_check.specs.Numbers.{numbers}
use Rattle.jp_check.specs.declared.profile.Profile.{Profile}
use Rattle.jp_command.specs.declared.form.Form.{Form}
use Rattle.jp_limit.specs.declared.output_limit.OutputLimit.{OutputLimit}
use Rattle.jp_tree.specs.Tree.{QueryTree}
use Rattle.jsonpath.specs.declared.fault.FindFault.TheVariants.{Document, DocumentTooLarge, NoMemory}
use Rattle.jsonpath.specs.declared.fault.FindFault.TheVariants.{Query, StepsUsedUp, TooManyBytes}
use Rattle.jsonpath.specs.declared.fault.FindFault.TheVariants.{TooManyNodes}
use Rattle.jsonpath.specs.Size.{Fits, IsTooLarge}
use Rattle.jsonpath.specs.declared.fault.FindFault.{FindFault}
use Rattle.jp_c.specs.Asked.{IsAnswer, IsAcceptedInBytes, IsCanonOf, IsNoAnswer, IsQueryFault}
use Rattle.jp_c.specs.Explained.{Explains}
use Rattle.jp_c.specs.Misread.{ExplainsDocument, IsMisreadAt, nowhere}
use Rattle.jp_c.specs.Names.{IsKindName}
use Rattle.jp_c.specs.Numbers.{document_part_of, form_of, part_of, profile_of}
use Rattle.jp_c.specs.declared.explained.Part.{Part}
use Rattle.jp_c.specs.declared.misread.DocumentPart.{DocumentPart}
use Rattle.jp_c.specs.declared.misread.Place.{Place}
use Rattle.jp_c.specs.declared.outcome.Outcome as outcome
use Rattle.jp_c.specs.declared.outcome.Outcome.TheVariants.{Text, Usage, Fault, Misread, OtherNumbers}

-- a fault that is told without a place in the document: any but that of bytes that are none
abbrev pub IsPlaceless : FindFault → Type 0
IsPlaceless (Document f) = ⊥
IsPlaceless (Query r) = Unit {0}
IsPlaceless DocumentTooLarge = Unit {0}
IsPlaceless NoMemory = Unit {0}
IsPlaceless StepsUsedUp = Unit {0}
IsPlaceless TooManyNodes = Unit {0}
IsPlaceless TooManyBytes = Unit {0}

-- of `jp_eval`: the lines of the nodelist, or why there are none, and of bytes that are no document also
-- where
abbrev pub IsEvalOutcome : ℕ → ℕ → List ℕ → List ℕ → OutputLimit → outcome.Outcome → Type 0
IsEvalOutcome form profile query document most (Text text) =
    (f : Form) × (p : Profile) × (form_of form ≡ Some f) × (profile_of profile ≡ Some p)
    × IsAnswer most p f query document (string_bytes text)
IsEvalOutcome form profile query document most Usage =
    (form_of form ≡ None) ⊎ (profile_of profile ≡ None)
IsEvalOutcome form profile query document most (Fault fault) =
    (f : Form) × (p : Profile) × (form_of form ≡ Some f) × (profile_of profile ≡ Some p)
    × IsNoAnswer most p f query document fault × IsPlaceless fault
IsEvalOutcome form profile query document most (Misread fault place) =
    (f : Form) × (p : Profile) × (form_of form ≡ Some f) × (profile_of profile ≡ Some p)
    × IsNoAnswer most p f query document (Document fault) × IsMisreadAt (numbers p) document place
IsEvalOutcome form profile query document most OtherNumbers = ⊥

-- of `jp_canon`: the canonical text, or why there is none
abbrev pub IsCanonOutcome : ℕ → List ℕ → outcome.Outcome → Type 0
IsCanonOutcome profile query (Text text) =
    (p : Profile) × (profile_of profile ≡ Some p) × IsCanonOf p query (string_bytes text)
IsCanonOutcome profile query (Misread fault place) = ⊥
IsCanonOutcome profile query OtherNumbers = ⊥
IsCanonOutcome profile query Usage = profile_of profile ≡ None
IsCanonOutcome profile query (Fault fault) =
    (p : Profile) × (profile_of profile ≡ Some p) × IsQueryFault p query fault

-- of `jp_check`: no text, and the query is accepted; or why it is not
abbrev pub IsCheckOutcome : ℕ → List ℕ → outcome.Outcome → Type 0
IsCheckOutcome profile query (Text text) =
    (p : Profile) × (q : QueryTree) × (profile_of profile ≡ Some p) × IsAcceptedInBytes p query q
    × (string_bytes text ≡ [])
IsCheckOutcome profile query (Misread fault place) = ⊥
IsCheckOutcome profile query OtherNumbers = ⊥
IsCheckOutcome profile query Usage = profile_of profile ≡ None
IsCheckOutcome profile query (Fault fault) =
    (p : Profile) × (profile_of profile ≡ Some p) × IsQueryFault p query fault

-- of `jp_explain`: that part of why the query is refused; or memory ran out
abbrev pub IsExplainOutcome : ℕ → ℕ → List ℕ → outcome.Outcome → Type 0
IsExplainOutcome profile part query (Text text) =
    (p : Profile) × (t : Part) × (profile_of profile ≡ Some p) × (part_of part ≡ Some t)
    × Explains p t query (string_bytes text)
IsExplainOutcome profile part query (Misread fault place) = ⊥
IsExplainOutcome profile part query OtherNumbers = ⊥
IsExplainOutcome profile part query Usage =
    (profile_of profile ≡ None) ⊎ (part_of part ≡ None)
IsExplainOutcome profile part query (Fault fault) =
    (p : Profile) × (t : Part) × (profile_of profile ≡ Some p) × (part_of part ≡ Some t)
    × (fault ≡ NoMemory)

-- of `jp_kind_name`: the name of the kind beside the status; or there is no such kind; or memory ran
-- out
abbrev pub IsNameOutcome : ℕ → ℕ → outcome.Outcome → Type 0
IsNameOutcome status kind (Text text) = IsKindName status kind (string_bytes text)
IsNameOutcome status kind (Misread fault place) = ⊥
IsNameOutcome status kind OtherNumbers = ⊥
IsNameOutcome status kind Usage = (name : List ℕ) → ¬ IsKindName status kind name
IsNameOutcome status kind (Fault fault) =
    ((name : List ℕ) × IsKindName status kind name) × (fault ≡ NoMemory)

-- of `jp_explain_document`: that part of why the bytes are no document with the numbers of the profile, and where; or
-- no profile or no part has that number; or they are too many; or memory ran out
abbrev pub IsMisreadOutcome : ℕ → ℕ → List ℕ → outcome.Outcome → Place → Type 0
IsMisreadOutcome profile part document (Text text) place =
    (p : Profile) × (t : DocumentPart) × (profile_of profile ≡ Some p) × (document_part_of part ≡ Some t)
    × Fits document × ExplainsDocument (numbers p) t document (string_bytes text) place
IsMisreadOutcome profile part document Usage place =
    ((profile_of profile ≡ None) ⊎ (document_part_of part ≡ None)) × (place ≡ nowhere)
IsMisreadOutcome profile part document (Fault fault) place =
    (p : Profile) × (t : DocumentPart) × (profile_of profile ≡ Some p) × (document_part_of part ≡ Some t)
    × (place ≡ nowhere) × ((fault ≡ NoMemory) ⊎ ((fault ≡ DocumentTooLarge) × IsTooLarge document))
IsMisreadOutcome profile part document (Misread fault place) told = ⊥
IsMisreadOutcome profile part document OtherNumbers place = ⊥
