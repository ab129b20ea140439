-- Bytes are one document, or have one defect: for the law `document_or_defect`.
use Rattle.std.proofs.Common.{◌≡◌, ◌≢◌, ◌⊎◌, inl, inr, ℕ, Bool, true, false, List, [], ◌∷◌, Option}
use Rattle.std.proofs.Common.{Some, None, Ordering, Less, Equal, Greater, refl, sym, ap, subst, ◌∙◌}
use Rattle.std.specs.Ordering.{ordering_reverse, ordering_then}
use Rattle.std.specs.Str.{is_utf8}
use Rattle.std.proofs.lemmas.Cmp.{lists_total}
use Rattle.std.proofs.lemmas.Bool.{true≢false}
use Rattle.std.proofs.lemmas.Option.{same_Some}
use Rattle.std.proofs.lemmas.Str.{IsUtf8-from_is_utf8, is_utf8-from_IsUtf8}
use Rattle.serde_json.specs.Data.{Data}
use Rattle.serde_json.specs.Read.{read}
use Rattle.jp_document.specs.Document.{Defect, HasDefect, HasFraction, IsDocument, IsFirstFraction}
use Rattle.jp_document.specs.Document.{IsReading, list_too_long, not_json, not_whole, value_of_data}
use Rattle.jp_document.specs.Laws.{DocumentOrDefect}
use Rattle.jp_document.specs.Location.{Step, Location, step_cmp, location_cmp}
use Rattle.jp_document.specs.Path.{path_of}
use Rattle.jp_document.specs.Value.{IsDocumentValue, Value, everywhere, list_fits}
use Rattle.jp_document.proofs.Descent.Steps.{step_exact}
use Rattle.jp_document.proofs.Readings.Fractions.{no_fraction}
use Rattle.jp_document.proofs.Descent.Steps.{step_cmp_total}
use Rattle.jp_document.proofs.Readings.Ranges.{reading_fits}
use Rattle.jp_document.proofs.Readings.Holdings.{first_of, fits-allowed, value_allowed}

-- ---- one of them

same_reading : (bytes : List ℕ) (d e : Data) → IsReading bytes d → IsReading bytes e → d ≡ e
same_reading bytes d e one two = same_Some d e (sym one.reading ∙ two.reading)

first_step_exact : (k j : Step) (l m : Location) (o : Ordering) → step_cmp k j ≡ o
    → (location_cmp l m ≡ Equal → l ≡ m) → ordering_then o (location_cmp l m) ≡ Equal → k ∷ l ≡ j ∷ m
first_step_exact k j l m Less at rest is = absurd (cc)
first_step_exact k j l m Equal at rest is =
    ap (λ x. x ∷ l) (step_exact k j at) ∙ ap (λ x. j ∷ x) (rest is)
first_step_exact k j l m Greater at rest is = absurd (cc)

location_exact : (l m : Location) → location_cmp l m ≡ Equal → l ≡ m
location_exact [] [] is = refl
location_exact [] (j ∷ m) is = absurd (cc)
location_exact (k ∷ l) [] is = absurd (cc)
location_exact (k ∷ l) (j ∷ m) is =
    first_step_exact k j l m (step_cmp k j) refl (location_exact l m) is

neither_less : (o p : Ordering) → o ≡ ordering_reverse p → o ≢ Less → p ≢ Less → o ≡ Equal
neither_less Less p is one two = absurd (one refl)
neither_less Equal p is one two = refl
neither_less Greater Less is one two = absurd (two refl)
neither_less Greater Equal is one two = absurd (cc)
neither_less Greater Greater is one two = absurd (cc)

one_first : (d : Data) (l m : Location) → IsFirstFraction d l → IsFirstFraction d m → l ≡ m
one_first d l m one two =
    let order = lists_total step_cmp_total in
    location_exact l m
    (neither_less (location_cmp l m) (location_cmp m l) (order.antisymm l m)
    (two.least l one.there) (one.least m two.there))

fraction_or_value : (bytes path : List ℕ) (d : Data) (v : Value) → HasFraction bytes path
    → IsReading bytes d → value_of_data d ≡ Some v → ⊥
fraction_or_value bytes path d v x reads is =
    let same = same_reading bytes d x.reading reads x.reads in
    no_fraction x.reading v x.location x.first.there.0 (ap value_of_data (sym same) ∙ is)
    x.first.there.1

one_path : (bytes path other : List ℕ) → HasFraction bytes path → HasFraction bytes other
    → path ≡ other
one_path bytes path other x y =
    let same = same_reading bytes y.reading x.reading y.reads x.reads in
    x.spelled
    ∙ ap path_of
    (one_first x.reading x.location y.location x.first
    (subst (λ d. IsFirstFraction d y.location) same y.first)) ∙ sym y.spelled

one_defect : (bytes : List ℕ) (x y : Defect) → HasDefect bytes x → HasDefect bytes y → x ≡ y
one_defect bytes not_json not_json one two = refl
one_defect bytes not_json (not_whole path) one two = absurd (one two.reading two.reads)
one_defect bytes not_json list_too_long one two = absurd (one two.reading two.reads)
one_defect bytes (not_whole path) not_json one two = absurd (two one.reading one.reads)
one_defect bytes (not_whole path) (not_whole other) one two =
    ap not_whole (one_path bytes path other one two)
one_defect bytes (not_whole path) list_too_long one two =
    absurd (fraction_or_value bytes path two.reading two.value one two.reads two.holds)
one_defect bytes list_too_long not_json one two = absurd (two one.reading one.reads)
one_defect bytes list_too_long (not_whole path) one two =
    absurd (fraction_or_value bytes path one.reading one.value two one.reads one.holds)
one_defect bytes list_too_long list_too_long one two = refl

same_value : (bytes : List ℕ) (d e : Data) (v w : Value) → IsReading bytes d → IsReading bytes e
    → value_of_data d ≡ Some v → value_of_data e ≡ Some w → v ≡ w
same_value bytes d e v w one two here there =
    same_Some v w (sym here ∙ ap value_of_data (same_reading bytes d e one two) ∙ there)

-- ---- some of them

-- a reading with whole numbers alone and short lists is a document
pub document_by : (bytes : List ℕ) (d : Data) (v : Value) → IsReading bytes d
    → value_of_data d ≡ Some v → everywhere list_fits v ≡ true → IsDocument bytes v
document_by bytes d v reads is short = record {
  reading = d;
  reads = reads;
  holds = is;
  valid = value_allowed d v (reading_fits bytes d reads) is short;
}

value_or_long_list : (bytes : List ℕ) (d : Data) (v : Value) (short : Bool) → IsReading bytes d
    → value_of_data d ≡ Some v → everywhere list_fits v ≡ short
    → ((w : Value) × IsDocument bytes w) ⊎ ((x : Defect) × HasDefect bytes x)
value_or_long_list bytes d v true reads is lists =
    inl (v, document_by bytes d v reads is lists)
value_or_long_list bytes d v false reads is lists =
    inr (
      list_too_long,
      record {
        reading = d;
        value = v;
        reads = reads;
        holds = is;
        too_long = lists;
      },
    )

value_or_fraction : (bytes : List ℕ) (d : Data) (o : Option Value) → IsReading bytes d
    → value_of_data d ≡ o → ((w : Value) × IsDocument bytes w) ⊎ ((x : Defect) × HasDefect bytes x)
value_or_fraction bytes d None reads is =
    let l = first_of d (reading_fits bytes d reads) is in
    inr (
      not_whole (path_of l.0),
      record {
        reading = d;
        reads = reads;
        location = l.0;
        first = l.1;
        spelled = refl;
      },
    )
value_or_fraction bytes d (Some v) reads is =
    value_or_long_list bytes d v (everywhere list_fits v) reads is refl

value_or_defect : (bytes : List ℕ) (utf8 : Bool) (o : Option Data) → is_utf8 bytes ≡ utf8
    → read bytes ≡ o → ((w : Value) × IsDocument bytes w) ⊎ ((x : Defect) × HasDefect bytes x)
value_or_defect bytes false o text is =
    inr (
      not_json,
      λ d reads. absurd
          (let yes : is_utf8 bytes ≡ true = is_utf8-from_IsUtf8 bytes reads.utf8 in cc),
    )
value_or_defect bytes true None text is =
    inr (not_json, λ d reads. absurd (let there = reads.reading in cc))
value_or_defect bytes true (Some d) text is =
    value_or_fraction bytes d (value_of_data d) (record {
      utf8 = IsUtf8-from_is_utf8 bytes text;
      reading = is;
    }) refl

long_or_short : (v w : Value) → v ≡ w → IsDocumentValue v → everywhere list_fits w ≡ false → ⊥
long_or_short v w same valid long =
    true≢false (sym (fits-allowed v valid) ∙ ap (everywhere list_fits) same ∙ long)

no_defect_beside_value : (bytes : List ℕ) (v : Value) (x : Defect) → IsDocument bytes v
    → HasDefect bytes x → ⊥
no_defect_beside_value bytes v not_json document defect = defect document.reading document.reads
no_defect_beside_value bytes v (not_whole path) document defect =
    fraction_or_value bytes path document.reading v defect document.reads document.holds
no_defect_beside_value bytes v list_too_long document defect =
    long_or_short v defect.value
    (same_value bytes document.reading defect.reading v defect.value document.reads defect.reads
    document.holds defect.holds) document.valid defect.too_long

pub document_or_defect : DocumentOrDefect
document_or_defect bytes = record {
  answered = value_or_defect bytes (is_utf8 bytes) (read bytes) refl refl;
  one_value =
      λ v w one two. same_value bytes one.reading two.reading v w one.reads two.reads one.holds
      two.holds;
  one_defect = one_defect bytes;
  not_both = no_defect_beside_value bytes;
}
