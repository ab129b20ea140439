-- Where bytes that are no document go wrong, and what is told of them.
use Rattle.std.specs.Prelude.{◌≡◌, ℕ, List, [], ◌++◌, codes}
use Rattle.jp_decimal.specs.declared.numbers.Numbers.{Numbers}
use Rattle.jp_document.specs.Exact.{IsDocumentIn}
use Rattle.jp_document.specs.Value.{Value}
use Rattle.jp_json.specs.Misreading.{IsMisreading}
use Rattle.jp_json.specs.Names.{name_of}
use Rattle.jp_json.specs.Told.{misreading_text}
use Rattle.jp_json.specs.declared.misreading.Misreading.{Misreading}
use Rattle.jp_c.specs.declared.misread.DocumentPart.{DocumentPart}
use Rattle.jp_c.specs.declared.misread.DocumentPart.TheVariants.{Line, Sentence, Reason}
use Rattle.jp_c.specs.declared.misread.Place.{Place}

-- the bytes are no document with such numbers, by a reason that is told at this byte
abbrev pub IsMisreadAt : Numbers → List ℕ → ℕ → Type 0
IsMisreadAt n bytes place = (m : Misreading) × IsMisreading n bytes m × (place ≡ m.offset)

-- no place
abbrev pub nowhere : Place
nowhere = record { offset = 0; line = 0; column = 0 }

-- the place of a misreading
abbrev pub place_of_misreading : Misreading → Place
place_of_misreading m = record { offset = m.offset; line = m.line; column = m.column }

-- the text of that part: the line with its end, the sentence, or the reason's name
abbrev pub part_text : DocumentPart → Misreading → List ℕ
part_text Line m = misreading_text m ++ codes "\n"
part_text Sentence m = m.sentence.now
part_text Reason m = name_of m.reason

-- the bytes, which are to be a document with such numbers, are misread so, and what is told is that part of the
-- misreading, and its place
pub record TellsMisreading (n : Numbers) (part : DocumentPart) (bytes told : List ℕ) (place : Place) : Type 0 where
  pub m : Misreading
  pub is : IsMisreading n bytes m
  pub text : told ≡ part_text part m
  pub at : place ≡ place_of_misreading m

-- why the bytes are no document with such numbers is told, and where; or they are one, and nothing is told
pub data ExplainsDocument (n : Numbers) (part : DocumentPart) (bytes told : List ℕ) (place : Place) : Type 0 where
  misread : TellsMisreading n part bytes told place → ExplainsDocument n part bytes told place
  document : (v : Value) → IsDocumentIn n bytes v → told ≡ [] → place ≡ nowhere
      → ExplainsDocument n part bytes told place
