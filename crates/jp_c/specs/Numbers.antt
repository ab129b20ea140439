-- The numbers of forms, of profiles, and of the parts of explanations.
use Rattle.std.specs.Prelude.{ℕ, ◌==◌, if◌then◌else◌, Option, Some, None}
use Rattle.jp_check.specs.declared.profile.Profile.{Profile}
use Rattle.jp_check.specs.declared.profile.Profile.TheVariants.{Standard, Extended, Decimal}
use Rattle.jp_check.specs.declared.profile.Profile.TheVariants.{ExtendedDecimal}
use Rattle.jp_command.specs.declared.form.Form.{Form}
use Rattle.jp_command.specs.Lines.{both, paths, values}
use Rattle.jp_c.specs.declared.explained.Part.{Part}
use Rattle.jp_c.specs.declared.explained.Part.TheVariants.{Whole, Sentence, Suggestion}
use Rattle.jp_c.specs.declared.misread.DocumentPart.{DocumentPart}
use Rattle.jp_c.specs.declared.misread.DocumentPart.TheVariants as document

-- the form of a number, if there is one
abbrev pub form_of : ℕ → Option Form
form_of n =
    if n == 0 then Some values else if n == 1 then Some paths else if n == 2 then Some both else None

-- the profile of a number, if there is one
abbrev pub profile_of : ℕ → Option Profile
profile_of n =
    if n == 0 then Some Standard else if n == 1 then Some Extended
    else if n == 2 then Some Decimal else if n == 3 then Some ExtendedDecimal else None

-- the part of a query's explanation of a number, if there is one
abbrev pub part_of : ℕ → Option Part
part_of n =
    if n == 0 then Some Whole else if n == 1 then Some Sentence else if n == 2 then Some Suggestion
    else None

-- the part of a document's explanation of a number, if there is one
abbrev pub document_part_of : ℕ → Option DocumentPart
document_part_of n =
    if n == 0 then Some document.Line else if n == 1 then Some document.Sentence
    else if n == 2 then Some document.Reason else None
