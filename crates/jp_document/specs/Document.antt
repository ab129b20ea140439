-- Which bytes are a document, and why others are none.
use Rattle.std.specs.Prelude.{◌≡◌, ◌≢◌, ℕ, suc, pos, false, Float, List, [], ◌∷◌, Option}
use Rattle.std.specs.Prelude.{Some, None, option_map, option_and_then, string_bytes, IsUtf8}
use Rattle.std.specs.BTreeMap.{is_at}
use Rattle.std.specs.Map.{lookup}
use Rattle.std.specs.declared.cmp.Ordering.TheVariants.{Less}
use Rattle.serde_json.specs.Data as parsed
use Rattle.serde_json.specs.Data.{Data, unsigned, negative, float}
use Rattle.serde_json.specs.Read.{read}
use Rattle.jp_document.specs.Location.{Step, named, nth, step_cmp, Location, location_cmp}
use Rattle.jp_document.specs.Path.{path_of}
use Rattle.jp_document.specs.Value.{Value, null, boolean, whole, text, list, object}
use Rattle.jp_document.specs.Value.{Items, no_items, item, Members, no_members, member}
use Rattle.jp_document.specs.Value.{everywhere, list_fits, IsDocumentValue}
use Rattle.jp_document.specs.declared.fault.DocumentFault.{DocumentFault}
use Rattle.jp_document.specs.declared.fault.DocumentFault.TheVariants.{NotJson, NotWhole}
use Rattle.jp_document.specs.declared.fault.DocumentFault.TheVariants.{ListTooLong, NoMemory}
use Rattle.jp_document.specs.declared.fault.DocumentFault.TheVariants.{NumberRange}

-- the bytes are UTF-8, and `serde_json` reads d from them
pub record IsReading (bytes : List ℕ) (d : Data) : Type 0 where
  pub utf8 : IsUtf8 bytes
  pub reading : read bytes ≡ Some d

-- the value of a reading that holds every number as i64 or u64, None of one that does not
abbrev mutual
  pub value_of_data : Data → Option Value
  value_of_data parsed.null = Some null
  value_of_data (parsed.boolean b) = Some (boolean b)
  value_of_data (parsed.number (unsigned n)) = Some (whole (pos n))
  value_of_data (parsed.number (negative z)) = Some (whole z)
  value_of_data (parsed.number (float x)) = None
  value_of_data (parsed.string s) = Some (text s)
  value_of_data (parsed.array ds) = option_map list (items_of_data ds)
  value_of_data (parsed.object ms) = option_map object (members_of_data ms)

  pub items_of_data : parsed.Items → Option Items
  items_of_data parsed.no_items = Some no_items
  items_of_data (parsed.item d ds) =
      option_and_then (λ v. option_map (item v) (items_of_data ds)) (value_of_data d)

  pub members_of_data : parsed.Members → Option Members
  members_of_data parsed.no_members = Some no_members
  members_of_data (parsed.member n d ms) =
      option_and_then (λ v. option_map (member n v) (members_of_data ms)) (value_of_data d)

-- the bytes are a document, whose value is v
pub record IsDocument (bytes : List ℕ) (v : Value) : Type 0 where
  pub reading : Data
  pub reads : IsReading bytes reading
  pub holds : value_of_data reading ≡ Some v
  pub valid : IsDocumentValue v

-- ---- the first number that is not whole

abbrev pub data_items_from : ℕ → parsed.Items → List (Step × Data)
data_items_from i parsed.no_items = []
data_items_from i (parsed.item d ds) = (nth i, d) ∷ data_items_from (suc i) ds

abbrev pub data_members : parsed.Members → List (Step × Data)
data_members parsed.no_members = []
data_members (parsed.member n d ms) = (named n, d) ∷ data_members ms

-- what a reading holds one step inside, each at its step
abbrev pub data_entries : Data → List (Step × Data)
data_entries (parsed.array ds) = data_items_from 0 ds
data_entries (parsed.object ms) = data_members ms
data_entries _ = []

-- what stands at a location in a reading, if anything does
abbrev pub data_at : Data → Location → Option Data
data_at d [] = Some d
data_at d (k ∷ l) = option_and_then (λ e. data_at e l) (lookup (is_at (step_cmp k)) (data_entries d))

-- at l stands a number that is held neither as i64 nor as u64
abbrev pub IsFraction : Data → Location → Type 0
IsFraction d l = (x : Float) × (data_at d l ≡ Some (parsed.number (float x)))

-- at l stands the first such number in document order
pub record IsFirstFraction (d : Data) (l : Location) : Type 0 where
  pub there : IsFraction d l
  pub least : (m : Location) → IsFraction d m → location_cmp m l ≢ Less

-- the bytes have a reading, and the path is that of the first number in it that is not whole
pub record HasFraction (bytes path : List ℕ) : Type 0 where
  pub reading : Data
  pub reads : IsReading bytes reading
  pub location : Location
  pub first : IsFirstFraction reading location
  pub spelled : path ≡ path_of location

-- the bytes have a reading with whole numbers alone, and some list in it is too long
pub record HasLongList (bytes : List ℕ) : Type 0 where
  pub reading : Data
  pub value : Value
  pub reads : IsReading bytes reading
  pub holds : value_of_data reading ≡ Some value
  pub too_long : everywhere list_fits value ≡ false

-- ---- what is wrong with bytes

-- What is wrong with bytes that are no document: no reading, a first number that is not whole,
-- at this path, or a list that is too long.
pub data Defect : Type 0 where
  not_json : Defect
  not_whole : List ℕ → Defect
  list_too_long : Defect

-- the bytes are no document, by that defect
abbrev pub HasDefect : List ℕ → Defect → Type 0
HasDefect bytes not_json = (d : Data) → IsReading bytes d → ⊥
HasDefect bytes (not_whole path) = HasFraction bytes path
HasDefect bytes list_too_long = HasLongList bytes

-- why the bytes are no document; running out of memory says nothing of them, and no whole number is
-- out of range
abbrev pub IsDocumentFault : List ℕ → DocumentFault → Type 0
IsDocumentFault bytes NotJson = HasDefect bytes not_json
IsDocumentFault bytes (NotWhole path) = HasDefect bytes (not_whole (string_bytes path))
IsDocumentFault bytes ListTooLong = HasDefect bytes list_too_long
IsDocumentFault bytes NoMemory = Unit {0}
IsDocumentFault bytes (NumberRange path) = ⊥
