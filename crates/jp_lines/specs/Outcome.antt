-- What the lines of an input come to: a document with what is written of it, nothing, or a defect.
use Rattle.std.specs.Prelude.{◌≡◌, ◌≢◌, ◌⊎◌, ℕ, suc, ◌+◌, ◌-◌, ◌^◌, ◌<◌, ◌≤◌, Bool, true, false}
use Rattle.std.specs.Prelude.{List}
use Rattle.std.specs.Prelude.{[], ◌∷◌, ◌++◌, Option, Some, None, length, codes, if◌then◌else◌}
use Rattle.std.specs.Prelude.{string_bytes, take}
use Rattle.std.specs.Fmt.{decimal}
use Rattle.std.specs.List.{flat_map}
use Rattle.jp_document.specs.Exact.{IsDocumentIn}
use Rattle.jp_document.specs.Faults.{document_fault_text}
use Rattle.jp_document.specs.Value.{Value}
use Rattle.jp_document.specs.declared.fault.DocumentFault.{DocumentFault}
use Rattle.jp_document.specs.declared.fault.DocumentFault.TheVariants.{NoMemory}
use Rattle.jp_exact.specs.Defects.{IsDocumentFaultIn}
use Rattle.jp_check.specs.Numbers.{numbers}
use Rattle.jp_check.specs.declared.profile.Profile.{Profile}
use Rattle.jp_command.specs.Limits.{document_limit}
use Rattle.jp_limit.specs.OutputLimit.{Exceeds, StaysWithin}
use Rattle.jp_json.specs.Misreading.{IsMisreading}
use Rattle.jp_json.specs.Told.{misreading_text}
use Rattle.jp_json.specs.declared.misreading.Misreading.{Misreading}
use Rattle.jp_json.specs.declared.reason.JsonReason.{JsonReason}
use Rattle.jp_json.specs.declared.reason.JsonReason.TheVariants.{AfterValue, EndInArray, EndInObject, Gzip}
use Rattle.jp_json.specs.declared.reason.JsonReason.TheVariants.{HasFraction, NegativeZero, OutOfRange}
use Rattle.jp_json.specs.declared.reason.JsonReason.TheVariants.{RecordSeparator, Utf16}
use Rattle.jp_lines.specs.Lines.{is_blank_line}
use Rattle.jp_lines.specs.Task.{Task, mark_behind_number, selected_in, written_for}
use Rattle.jp_lines.specs.declared.defect.Defect.{Defect}
use Rattle.jp_lines.specs.declared.defect.Defect.TheVariants.{Document, StepsUsedUp, TooLarge}
use Rattle.jp_lines.specs.declared.defect.Defect.TheVariants.{TooManyBytes, TooManyNodes}
use Rattle.jp_lines.specs.declared.defect.RefusedLine.{RefusedLine}
use Rattle.jp_lines.specs.declared.options.Options.{Options}
use Rattle.jp_lines.specs.declared.tally.Tally.{Tally}

-- ---- texts

-- what is said of a defect
abbrev pub defect_text : Defect → List ℕ
defect_text (Document fault) = codes "document refused: " ++ document_fault_text fault
defect_text TooLarge = codes "document refused: DocumentTooLarge"
defect_text (StepsUsedUp made) = codes "document refused: StepsUsedUp"
defect_text TooManyNodes = codes "document refused: TooManyNodes"
defect_text TooManyBytes = codes "document refused: TooManyBytes"

-- what is said of a line that is refused
abbrev pub refused_text : RefusedLine → List ℕ
refused_text r = codes "line " ++ decimal r.number ++ codes ": " ++ defect_text r.defect

-- the number of an input's line and a mark, where numbers are asked for
abbrev pub lead_of : ℕ → Bool → ℕ → List ℕ
lead_of mark numbered number = if numbered then decimal number ++ mark ∷ [] else []

-- ---- outcomes

pub data LineOutcome : Type 0 where
  -- it holds no document
  Blank : LineOutcome
  -- how many nodes are selected in its document, or whether it is kept, and what is written
  Answered : ℕ → List ℕ → LineOutcome
  Refused : RefusedLine → LineOutcome

-- what is written of a line
abbrev pub written_of : LineOutcome → List ℕ
written_of (Answered count output) = output
written_of _ = []

-- what is written of all, one after the other
abbrev pub written_of_all : List LineOutcome → List ℕ
written_of_all xs = flat_map written_of xs

-- what is told of a refusal behind what the reports of an input begin with: its line, and behind that
-- what explains it
abbrev pub told_of : List ℕ → RefusedLine → List ℕ
told_of lead r = lead ++ (refused_text r ++ (codes "\n" ++ string_bytes r.explanation))

abbrev pub refusal_in : LineOutcome → List RefusedLine
refusal_in (Refused r) = r ∷ []
refusal_in _ = []

-- the refusals among outcomes
abbrev pub refusals : List LineOutcome → List RefusedLine
refusals xs = flat_map refusal_in xs

-- all of these refusals, or the first so many
abbrev pub first_of_them : Option ℕ → List RefusedLine → List RefusedLine
first_of_them None rs = rs
first_of_them (Some most) rs = take most rs

-- how many may be told still, where so many are refused before
abbrev pub left_after : ℕ → Option ℕ → Option ℕ
left_after refused None = None
left_after refused (Some most) = Some (most - refused)

-- what is told of all, of which so many are told at most
abbrev pub told_of_all : List ℕ → Option ℕ → List LineOutcome → List ℕ
told_of_all lead most xs = flat_map (told_of lead) (first_of_them most (refusals xs))

-- what one outcome counts: a document that is answered, with what is selected in it, or a refusal
abbrev pub tally_in : LineOutcome → Tally
tally_in Blank = record { documents = 0; refused = 0; selected = 0 }
tally_in (Answered count output) = record { documents = 1; refused = 0; selected = count }
tally_in (Refused r) = record { documents = 0; refused = 1; selected = 0 }

-- two tallies as one
abbrev pub plus : Tally → Tally → Tally
plus a b = record {
  documents = a.documents + b.documents;
  refused = a.refused + b.refused;
  selected = a.selected + b.selected;
}

-- some number of it does not fit 64 bits
abbrev pub Overflows : Tally → Type 0
Overflows tally =
    (2 ^ 64 ≤ tally.documents) ⊎ (2 ^ 64 ≤ tally.refused) ⊎ (2 ^ 64 ≤ tally.selected)

-- what outcomes count
abbrev pub tally_of : List LineOutcome → Tally
tally_of [] = record { documents = 0; refused = 0; selected = 0 }
tally_of (x ∷ xs) = plus (tally_in x) (tally_of xs)

-- What is said more of a line that is misread, where it has a number that is not whole or beyond 64 bits, or
-- shows another form than one document a line: several documents on a line, one that goes over several lines,
-- JSON text sequences (RFC 7464), what is compressed, or UTF-16.
abbrev pub hint_of : JsonReason → List ℕ
hint_of AfterValue = codes " Each line holds one document."
hint_of EndInArray = codes " A document ends with its line: jp eval --decimals '$' writes it on one."
hint_of EndInObject = codes " A document ends with its line: jp eval --decimals '$' writes it on one."
hint_of HasFraction = codes " Without --whole jp-lines takes numbers of up to 38 digits exactly."
hint_of NegativeZero = codes " Without --whole jp-lines takes numbers of up to 38 digits exactly."
hint_of OutOfRange = codes " Without --whole jp-lines takes numbers of up to 38 digits exactly."
hint_of RecordSeparator = codes " tr -d '\\036' takes it away."
hint_of Gzip = codes " gzip -dc writes what it holds."
hint_of Utf16 = codes " iconv -f UTF-16 -t UTF-8 writes it so."
hint_of _ = []

-- the text says how the line is misread in that profile, at the input's line of that number, and a newline
-- ends it
pub record IsMisreadAs (profile : Profile) (number : ℕ) (line text : List ℕ) : Type 0 where
  pub m : Misreading
  pub misread : IsMisreading (numbers profile) line m
  pub is : text ≡ misreading_text (record m { line = number }) ++ (hint_of m.reason ++ codes "\n")

-- what is told behind a defect of the line: of one that is no document, where that is asked for, how it
-- is misread, unless memory ran out for it; and else nothing
abbrev pub IsToldBehind : Options → ℕ → List ℕ → Defect → List ℕ → Type 0
IsToldBehind options number line (Document fault) text =
    (text ≡ []) ⊎ ((options.explaining ≡ true) × IsMisreadAs options.profile number line text)
IsToldBehind options number line _ text = text ≡ []

-- the refusal of the line of that number for the defect
pub record IsRefusal (options : Options) (number : ℕ) (line : List ℕ) (defect : Defect)
    (r : RefusedLine) : Type 0 where
  pub number_is : r.number ≡ number
  pub defect_is : r.defect ≡ defect
  pub behind : IsToldBehind options number line defect (string_bytes r.explanation)

-- how a run goes over its lines, each of which is to be a document with the numbers of the profile, and what it
-- does with each document
module _ (options : Options) (task : Task) where
  -- what is to be written of the document d, which stands in the line of that number
  abbrev pub output_for : ℕ → List ℕ → Value → List ℕ
  output_for number line d =
      written_for task (lead_of (mark_behind_number task) options.numbered number) line d

  -- the line of that number has this defect
  pub data IsDefective (number : ℕ) (line : List ℕ) : Defect → Type 0 where
    no_document : (fault : DocumentFault) → length line ≤ document_limit
        → is_blank_line line ≡ false → IsDocumentFaultIn (numbers options.profile) line fault
        → fault ≢ NoMemory → IsDefective number line (Document fault)
    too_large : document_limit < length line → IsDefective number line TooLarge
    -- only where there is a limit: as many steps as it says were made over the document
    steps_used_up : (d : Value) (made : ℕ) → length line ≤ document_limit
        → is_blank_line line ≡ false → IsDocumentIn (numbers options.profile) line d
        → options.limit ≡ Some made → IsDefective number line (StepsUsedUp made)
    -- more nodes are selected in the document than may come out of one
    too_many_nodes : (d : Value) → length line ≤ document_limit → is_blank_line line ≡ false
        → IsDocumentIn (numbers options.profile) line d
        → Exceeds options.output_limit.nodes (selected_in task d) → IsDefective number line TooManyNodes
    -- more bytes are to be written of the document than may come out of one
    too_many_bytes : (d : Value) → length line ≤ document_limit → is_blank_line line ≡ false
        → IsDocumentIn (numbers options.profile) line d
        → Exceeds options.output_limit.bytes (length (output_for number line d))
        → IsDefective number line TooManyBytes

  -- the line of that number comes to this
  pub data ComesTo (number : ℕ) (line : List ℕ) : LineOutcome → Type 0 where
    blank : length line ≤ document_limit → is_blank_line line ≡ true
        → ComesTo number line Blank
    -- no more nodes are selected in the document, and no more bytes to be written, than may come out
    document : (d : Value) → length line ≤ document_limit → is_blank_line line ≡ false
        → IsDocumentIn (numbers options.profile) line d
        → StaysWithin options.output_limit (selected_in task d) (length (output_for number line d))
        → ComesTo number line (Answered (selected_in task d) (output_for number line d))
    defective : (defect : Defect) (r : RefusedLine) → IsDefective number line defect
        → IsRefusal options number line defect r → ComesTo number line (Refused r)

  -- the lines, numbered from there on, come to these, each to one
  pub data ComeTo : ℕ → List (List ℕ) → List LineOutcome → Type 0 where
    none : (number : ℕ) → ComeTo number [] []
    one_more : (number : ℕ) (line : List ℕ) (lines : List (List ℕ)) (x : LineOutcome)
        (xs : List LineOutcome) → ComesTo number line x → ComeTo (suc number) lines xs
        → ComeTo number (line ∷ lines) (x ∷ xs)
