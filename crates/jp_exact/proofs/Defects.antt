-- Bytes are one exact document, or have one defect: for the law `exact_or_defect`.
use Rattle.std.proofs.Common.{◌≡◌, ◌≢◌, ◌⊎◌, inl, inr, ℕ, Bool, true, false, List, [], ◌∷◌, Option}
use Rattle.std.proofs.Common.{map, reverse, Some, None, Ordering, Less, Equal, Greater, refl, sym, ap, subst, ◌∙◌}
use Rattle.std.specs.Ordering.{ordering_reverse, ordering_then}
use Rattle.std.specs.Str.{is_utf8}
use Rattle.std.proofs.lemmas.Cmp.{lists_total}
use Rattle.std.proofs.lemmas.Bool.{true≢false}
use Rattle.std.proofs.lemmas.Option.{none-some, same_Some}
use Rattle.std.proofs.lemmas.Str.{IsUtf8-from_is_utf8, is_utf8-from_IsUtf8}
use Rattle.json.specs.Json as json
use Rattle.jp_document.specs.Exact.{IsExactDocument}
use Rattle.jp_document.specs.Location.{Step, Location, owned_step, step_cmp, location_cmp}
use Rattle.jp_document.specs.NumberTexts.{exact_number}
use Rattle.jp_document.specs.OfJson.{json_in, value_of_json}
use Rattle.jp_document.specs.Path.{path_of}
use Rattle.jp_document.specs.Value.{NamesRise, Value, everywhere, list_fits}
use Rattle.jp_document.proofs.Descent.Steps.{step_cmp_total, step_exact}
use Rattle.jp_document.proofs.Readings.Holdings.{fits-allowed}
use Rattle.jp_document.proofs.Utf8.Parsed.{text_of_texts}
use Rattle.jp_exact.specs.Defects.{ExactDefect, HasExactDefect, HasExactValue, HasUnheldNumber}
use Rattle.jp_exact.specs.Defects.{IsFirstUnheld, ReadsAsJson, is_held, list_too_long, not_json}
use Rattle.jp_exact.specs.Defects.{number_range}
use Rattle.jp_exact.specs.Defects.{IsExactFault}
use Rattle.jp_exact.specs.Laws.{ExactOrDefect}
use Rattle.jp_exact.specs.Private.RangeFault.{IsRangeFaultAt, IsRangeFaultOf}
use Rattle.jp_document.specs.declared.fault.DocumentFault.{DocumentFault}
use Rattle.jp_document.specs.declared.fault.DocumentFault.TheVariants.{NumberRange}
use Rattle.jp_exact.specs.declared.range_fault.RangeFault.{RangeFault}
use Rattle.jp_exact.specs.declared.range_fault.RangeFault.TheVariants.{OutOfRange}
use Rattle.jp_exact.specs.Private.ExactValue.{value_in}
use Rattle.jp_exact.proofs.ExactValues.{value_in-is}
use Rattle.jp_exact.proofs.OutOfRange.{first-of, none-out_of_range}
use Rattle.jp_exact.proofs.Validity.{allowed-from, held-allowed, is_sound, value-rises}
use Rattle.jp_exact.proofs.Validity.{value-sound}

-- ---- the value of a text

pub value_of_text-is : (bytes : List ℕ) (j : json.Json) → ReadsAsJson bytes j
    → HasExactValue bytes (value_in j)
value_of_text-is bytes j text = record { parsed = j; text = text; holds = value_in-is j }

value-is : (bytes : List ℕ) (v : Value) (x : HasExactValue bytes v) → value_in x.parsed ≡ v
value-is bytes v x = same_Some (value_in x.parsed) v (sym (value_in-is x.parsed) ∙ x.holds)

rises : (bytes : List ℕ) (v : Value) → HasExactValue bytes v → NamesRise v
rises bytes v x = subst NamesRise (value-is bytes v x) (value-rises x.parsed)

-- a value whose numbers can be held and whose lists are short is a document's
pub document-by : (bytes : List ℕ) (v : Value) → HasExactValue bytes v
    → everywhere is_held v ≡ true → everywhere list_fits v ≡ true → IsExactDocument bytes v
document-by bytes v x held short = record {
  utf8 = x.text.utf8;
  parsed = x.parsed;
  reads = x.text.reads;
  holds = x.holds;
  valid =
      allowed-from v (rises bytes v x)
      (subst (λ w. everywhere is_sound w ≡ true) (value-is bytes v x)
      (value-sound x.parsed (text_of_texts bytes x.parsed x.text.utf8 x.text.reads))) held short;
}

pub exact_value-of : (bytes : List ℕ) (j : json.Json) (v : Value) → ReadsAsJson bytes j
    → v ≡ value_in j → HasExactValue bytes v
exact_value-of bytes j v text is =
    subst (HasExactValue bytes) (sym is) (value_of_text-is bytes j text)

value-from : (bytes : List ℕ) (v : Value) → IsExactDocument bytes v → HasExactValue bytes v
value-from bytes v x = record {
  parsed = x.parsed;
  text = record { utf8 = x.utf8; reads = x.reads };
  holds = x.holds;
}

-- the fault of a text whose first number out of range stands there
pub fault-from : (bytes : List ℕ) (j : json.Json) (fault : RangeFault) (told : DocumentFault)
    → ReadsAsJson bytes j → IsRangeFaultOf (value_in j) fault → IsRangeFaultAt fault told
    → IsExactFault bytes told
fault-from bytes j (OutOfRange steps) (NumberRange path) text first at = record {
  value = value_in j;
  reads = value_of_text-is bytes j text;
  location = reverse (map owned_step steps.items);
  first = first;
  spelled = at;
}
fault-from bytes j (OutOfRange steps) DocumentFault.NoMemory text first at = tt
fault-from bytes j (OutOfRange steps) DocumentFault.NotJson text first at = absurd at
fault-from bytes j (OutOfRange steps) DocumentFault.ListTooLong text first at = absurd at
fault-from bytes j (OutOfRange steps) (DocumentFault.NotWhole path) text first at = absurd at
fault-from bytes j RangeFault.NoMemory told text first at =
    subst (IsExactFault bytes) (sym at) tt

-- ---- one of them

same-text : (bytes : List ℕ) (i j : json.Json) → ReadsAsJson bytes i → ReadsAsJson bytes j → i ≡ j
same-text bytes i j one two = same_Some i j (sym one.reads ∙ two.reads)

same-value : (bytes : List ℕ) (v w : Value) → HasExactValue bytes v → HasExactValue bytes w → v ≡ w
same-value bytes v w one two =
    same_Some v w
    (sym one.holds
    ∙ ap (value_of_json exact_number) (same-text bytes one.parsed two.parsed one.text two.text)
    ∙ two.holds)

first-step-exact : (k j : Step) (l m : Location) (o : Ordering) → step_cmp k j ≡ o
    → (location_cmp l m ≡ Equal → l ≡ m) → ordering_then o (location_cmp l m) ≡ Equal → k ∷ l ≡ j ∷ m
first-step-exact k j l m Less at rest is = absurd (cc)
first-step-exact k j l m Equal at rest is =
    ap (λ x. x ∷ l) (step_exact k j at) ∙ ap (λ x. j ∷ x) (rest is)
first-step-exact k j l m Greater at rest is = absurd (cc)

location-exact : (l m : Location) → location_cmp l m ≡ Equal → l ≡ m
location-exact [] [] is = refl
location-exact [] (j ∷ m) is = absurd (cc)
location-exact (k ∷ l) [] is = absurd (cc)
location-exact (k ∷ l) (j ∷ m) is =
    first-step-exact k j l m (step_cmp k j) refl (location-exact l m) is

neither-less : (o p : Ordering) → o ≡ ordering_reverse p → o ≢ Less → p ≢ Less → o ≡ Equal
neither-less Less p is one two = absurd (one refl)
neither-less Equal p is one two = refl
neither-less Greater Less is one two = absurd (two refl)
neither-less Greater Equal is one two = absurd (cc)
neither-less Greater Greater is one two = absurd (cc)

one-first : (v : Value) (l m : Location) → IsFirstUnheld v l → IsFirstUnheld v m → l ≡ m
one-first v l m one two =
    let order = lists_total step_cmp_total in
    location-exact l m
    (neither-less (location_cmp l m) (location_cmp m l) (order.antisymm l m)
    (two.least l one.there) (one.least m two.there))

one-path : (bytes path other : List ℕ) → HasUnheldNumber bytes path → HasUnheldNumber bytes other
    → path ≡ other
one-path bytes path other x y =
    let same = same-value bytes y.value x.value y.reads x.reads in
    x.spelled
    ∙ ap path_of
    (one-first x.value x.location y.location x.first
    (subst (λ v. IsFirstUnheld v y.location) same y.first)) ∙ sym y.spelled

-- a value with a number out of range is not held everywhere
range-or-held : (bytes path : List ℕ) (v : Value) → HasUnheldNumber bytes path → HasExactValue bytes v
    → everywhere is_held v ≡ true → ⊥
range-or-held bytes path v x reads held =
    none-out_of_range x.value x.location
    (ap (everywhere is_held) (same-value bytes x.value v x.reads reads) ∙ held) x.first.there

one-defect : (bytes : List ℕ) (x y : ExactDefect) → HasExactDefect bytes x → HasExactDefect bytes y
    → x ≡ y
one-defect bytes not_json not_json one two = refl
one-defect bytes not_json (number_range path) one two =
    absurd (one two.reads.parsed two.reads.text)
one-defect bytes not_json list_too_long one two = absurd (one two.reads.parsed two.reads.text)
one-defect bytes (number_range path) not_json one two =
    absurd (two one.reads.parsed one.reads.text)
one-defect bytes (number_range path) (number_range other) one two =
    ap number_range (one-path bytes path other one two)
one-defect bytes (number_range path) list_too_long one two =
    absurd (range-or-held bytes path two.value one two.reads two.held)
one-defect bytes list_too_long not_json one two = absurd (two one.reads.parsed one.reads.text)
one-defect bytes list_too_long (number_range path) one two =
    absurd (range-or-held bytes path one.value two one.reads one.held)
one-defect bytes list_too_long list_too_long one two = refl

-- ---- some of them

abbrev Answered : List ℕ → Type 0
Answered bytes = ((v : Value) × IsExactDocument bytes v) ⊎ ((x : ExactDefect) × HasExactDefect bytes x)

value-or-long-list : (bytes : List ℕ) (v : Value) (short : Bool) → HasExactValue bytes v
    → everywhere is_held v ≡ true → everywhere list_fits v ≡ short → Answered bytes
value-or-long-list bytes v true reads held lists = inl (v, document-by bytes v reads held lists)
value-or-long-list bytes v false reads held lists =
    inr (list_too_long, record { value = v; reads = reads; held = held; too_long = lists })

value-or-range : (bytes : List ℕ) (v : Value) (held : Bool) → HasExactValue bytes v
    → everywhere is_held v ≡ held → Answered bytes
value-or-range bytes v true reads is =
    value-or-long-list bytes v (everywhere list_fits v) reads is refl
value-or-range bytes v false reads is =
    let l = first-of v (rises bytes v reads) is in
    inr (
      number_range (path_of l.0),
      record { value = v; reads = reads; location = l.0; first = l.1; spelled = refl },
    )

value-or-defect : (bytes : List ℕ) (utf8 : Bool) (o : Option json.Json) → is_utf8 bytes ≡ utf8
    → json_in bytes ≡ o → Answered bytes
value-or-defect bytes false o text is =
    inr (
      not_json,
      λ j reads. true≢false (sym (is_utf8-from_IsUtf8 bytes reads.utf8) ∙ text),
    )
value-or-defect bytes true None text is =
    inr (not_json, λ j reads. none-some j (sym is ∙ reads.reads))
value-or-defect bytes true (Some j) text is =
    let reads =
    value_of_text-is bytes j (record { utf8 = IsUtf8-from_is_utf8 bytes text; reads = is }) in
    value-or-range bytes (value_in j) (everywhere is_held (value_in j)) reads refl

no-defect-beside-value : (bytes : List ℕ) (v : Value) (x : ExactDefect) → IsExactDocument bytes v
    → HasExactDefect bytes x → ⊥
no-defect-beside-value bytes v not_json document defect =
    defect document.parsed (record { utf8 = document.utf8; reads = document.reads })
no-defect-beside-value bytes v (number_range path) document defect =
    range-or-held bytes path v defect (value-from bytes v document) (held-allowed v document.valid)
no-defect-beside-value bytes v list_too_long document defect =
    let same = same-value bytes v defect.value (value-from bytes v document) defect.reads in
    true≢false
    (sym (fits-allowed v document.valid) ∙ ap (everywhere list_fits) same ∙ defect.too_long)

pub exact-or-defect : ExactOrDefect
exact-or-defect bytes = record {
  answered = value-or-defect bytes (is_utf8 bytes) (json_in bytes) refl refl;
  one_value =
      λ v w one two. same-value bytes v w (value-from bytes v one) (value-from bytes w two);
  one_defect = one-defect bytes;
  not_both = no-defect-beside-value bytes;
}
