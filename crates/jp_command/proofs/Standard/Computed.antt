-- What the text of a query gives over the text of a document, computed: each result is proved to be
-- the one that the definitions give.
use Rattle.std.proofs.Common.{◌≡◌, ℕ, Bool, true, false, if◌then◌else◌, List, Option, Some, None}
use Rattle.std.proofs.Common.{option_and_then, option_map, refl, sym, subst}
use Rattle.std.specs.Float.Numeral.{scan_numeral}
use Rattle.std.specs.Fmt.{digits}
use Rattle.std.specs.Str.{chars, is_utf8}
use Rattle.std.proofs.lemmas.Str.{IsUtf8-from_is_utf8}
use lib.Utf8.{encode}
use Rattle.fast_float.specs.Text.{scan}
use Rattle.json.specs.Json as json
use Rattle.json.specs.Lex.{lex, punctuate}
use Rattle.json.specs.Text.{code_unit, content, short_escape}
use Rattle.json.specs.Word as json_word
use Rattle.serde_json.specs.Data.{Data}
use Rattle.serde_json.specs.Read as parsed
use Rattle.jp_reading.specs.Texts.{Text, Spans, is_blank}
use Rattle.jp_reading.specs.Outcome.{State, Outcome, took, stuck, deep, past_blanks, loop}
use Rattle.jp_reading.specs.Numbers.{is_digit}
use Rattle.jp_reading.specs.NumberReading.{digits_at}
use Rattle.jp_reading.proofs.States.Again.{start}
use Rattle.jp_document.specs.Document.{IsDocument, value_of_data}
use Rattle.jp_document.specs.Path.{index_text}
use Rattle.jp_document.specs.Spelling.{spelling}
use Rattle.jp_document.specs.Value.{Value, everywhere, is_allowed}
use Rattle.jp_iregexp.specs.Characters.{is_plain}
use Rattle.jp_iregexp.specs.Class.{class_holds, element_holds}
use Rattle.jp_iregexp.specs.MatchTests.{has_match, is_match}
use Rattle.jp_iregexp.specs.Membership.{has_word, is_word}
use Rattle.jp_iregexp.specs.PatternOf.{pattern_of}
use Rattle.jp_iregexp.specs.Private.Reading as pattern
use Rattle.jp_tree.specs.Tree.{QueryTree}
use Rattle.jp_query.specs.Grammar.{Spells}
use Rattle.jp_query.specs.Components.{components_of}
use Rattle.jp_query.specs.Levels.{level_limit}
use Rattle.jp_query.specs.Strings.{is_hexdig, is_d, is_not_d, is_0_to_7, is_8_to_b, is_c_to_f}
use Rattle.jp_query.specs.Private.Reading.{query_at}
use Rattle.jp_query.specs.Private.Rules as rule
use Rattle.jp_query.specs.declared.refusal.Refusal.{Refusal}
use Rattle.jp_query.proofs.ComponentSpans.{spans-of_components}
use Rattle.jp_query.proofs.Soundness.Whole.{read-spells}
use Rattle.jp_check.specs.Accepted.{IsAcceptedAs}
use Rattle.jp_check.specs.Refused.{IsFaulty}
use Rattle.jp_check.specs.Private.Inspection.{past_components}
use Rattle.jp_check.specs.declared.profile.Profile.TheVariants.{Standard}
use Rattle.jp_check.proofs.Least.{found, found-fault}
use Rattle.jp_command.specs.Lines.{both, output_of}

-- ---- what rows say

-- In `Standard` the text is accepted as a query, the bytes are a document, and over it the query
-- gives these lines: for each node its normalized path, a tab and its value.
pub record Selects (document text lines : List ℕ) : Type 0 where
  pub query : QueryTree
  pub value : Value
  pub asked : IsAcceptedAs Standard text query
  pub read : IsDocument document value
  pub written : output_of both query value ≡ lines

-- the text is accepted as a query
abbrev pub Accepts : List ℕ → Type 0
Accepts text = (q : QueryTree) × IsAcceptedAs Standard text q

-- the text spells a query, of which this is the first fault
abbrev pub IsRefused : List ℕ → Refusal → Type 0
IsRefused = IsFaulty Standard

-- ---- queries

unfoldable pub reading : Text → Outcome QueryTree
unfolding query_at rule.shorthand rule.unit_after rule.unit rule.surrogates_after rule.hexchar
    rule.escape rule.string_character rule.characters rule.quoted rule.size rule.unsigned rule.int
    rule.bound rule.later_step rule.step rule.slice_from rule.digits rule.int_digits rule.decimals
    rule.power scan_numeral
    rule.exponent rule.mantissa rule.number rule.plain_literal rule.operator rule.number_selector
    rule.selector rule.entry rule.entries rule.bracket rule.member rule.selection rule.segment
    rule.segments rule.query rule.identifier rule.query_within rule.word rule.side_within rule.side
    rule.comparison_with rule.closed rule.subject rule.test_expr rule.negated rule.negation_on
    rule.basic rule.joint rule.conjunction rule.expression rule.argument_start rule.argument
    rule.next_argument rule.some_arguments rule.after_parenthesis rule.any_call rule.named_call
    rule.inside_expression is_hexdig is_d is_not_d is_0_to_7 is_8_to_b is_c_to_f is_digit digits_at
    past_blanks loop is_blank
reading text = query_at level_limit (start text)

spelled : (text : Text) (q : QueryTree) (p : State) → reading text ≡ took q p
    → Spells level_limit q p.found text
unfolding reading
spelled text q p e = read-spells level_limit text q p e

-- the first fault of a query's items, if one has a fault
abbrev first_fault : QueryTree → Spans → Option Refusal
first_fault q s =
    (past_components (components_of q) (record { profile = Standard; spans = s; first = None })).first

abbrev if_faultless : QueryTree → Option Refusal → Option QueryTree
if_faultless q None = Some q
if_faultless q (Some r) = None

abbrev tree_of : Outcome QueryTree → Option QueryTree
tree_of (took q p) = if_faultless q (first_fault q p.found)
tree_of (stuck p) = None
tree_of (deep p) = None

abbrev fault_of : Outcome QueryTree → Option Refusal
fault_of (took q p) = first_fault q p.found
fault_of (stuck p) = None
fault_of (deep p) = None

-- the tree as which a text is accepted
unfoldable pub tree : Text → Option QueryTree
unfolding reading
tree text = tree_of (reading text)

-- the first fault of the query that a text spells
unfoldable pub fault : Text → Option Refusal
unfolding reading
fault text = fault_of (reading text)

faultless-accepted : (text : Text) (q x : QueryTree) (p : State) (o : Option Refusal)
    → reading text ≡ took q p → o ≡ first_fault q p.found → if_faultless q o ≡ Some x
    → IsAcceptedAs Standard text x
faultless-accepted text q x p (Some r) e f h = absurd (cc)
faultless-accepted text q x p None e f h =
    let spells = spelled text q p e in
    let same : q ≡ x = cc in
    subst (λ y. IsAcceptedAs Standard text y) same
    (record {
      spans = p.found;
      spelled = spells;
      faultless = found Standard text (components_of q) p.found None
          (spans-of_components level_limit q p.found text spells).each f;
    })

taken-accepted : (text : Text) (x : QueryTree) (o : Outcome QueryTree) → reading text ≡ o
    → tree_of o ≡ Some x → IsAcceptedAs Standard text x
taken-accepted text x (took q p) e h = faultless-accepted text q x p (first_fault q p.found) e refl h
taken-accepted text x (stuck p) e h = absurd (cc)
taken-accepted text x (deep p) e h = absurd (cc)

tree-accepted : (text : Text) (x : QueryTree) → tree text ≡ Some x → IsAcceptedAs Standard text x
unfolding tree
tree-accepted text x h = taken-accepted text x (reading text) refl h

taken-faulty : (text : Text) (r : Refusal) (o : Outcome QueryTree) → reading text ≡ o
    → fault_of o ≡ Some r → IsFaulty Standard text r
taken-faulty text r (took q p) e h = record {
  tree = q;
  spans = p.found;
  spelled = spelled text q p e;
  first = found-fault Standard (components_of q) p.found r (sym h);
}
taken-faulty text r (stuck p) e h = absurd (cc)
taken-faulty text r (deep p) e h = absurd (cc)

-- ---- documents

unfoldable pub read_data : List ℕ → Option Data
unfolding parsed.number_of json.value lex punctuate content code_unit short_escape json_word.word
    json_word.after_number scan
read_data bytes = parsed.read bytes

abbrev if_allowed : Value → Option Value
if_allowed v = if everywhere is_allowed v then Some v else None

-- the value of the document that the bytes are
unfoldable pub value : List ℕ → Option Value
unfolding read_data is_utf8 chars encode
value bytes =
    if is_utf8 bytes then option_and_then if_allowed (option_and_then value_of_data (read_data bytes))
    else None

value-document : (bytes : List ℕ) (v : Value) → value bytes ≡ Some v → IsDocument bytes v
unfolding value
value-document bytes v h = of_utf8 (is_utf8 bytes) refl h
  where
    of_allowed : (d : Data) (w : Value) (b : Bool) → is_utf8 bytes ≡ true → read_data bytes ≡ Some d
        → value_of_data d ≡ Some w → everywhere is_allowed w ≡ b
        → (if b then Some w else None) ≡ Some v → IsDocument bytes v
    of_allowed d w true u r o a g =
        let same : w ≡ v = cc in
        subst (λ y. IsDocument bytes y) same
        (record {
          reading = d;
          reads = record { utf8 = IsUtf8-from_is_utf8 bytes u; reading = r };
          holds = o;
          valid = a;
        })
    of_allowed d w false u r o a g = absurd (cc)

    of_value : (d : Data) (o : Option Value) → is_utf8 bytes ≡ true → read_data bytes ≡ Some d
        → value_of_data d ≡ o → option_and_then if_allowed o ≡ Some v → IsDocument bytes v
    of_value d (Some w) u r o g = of_allowed d w (everywhere is_allowed w) u r o refl g
    of_value d None u r o g = absurd (cc)

    of_data : (o : Option Data) → is_utf8 bytes ≡ true → read_data bytes ≡ o
        → option_and_then if_allowed (option_and_then value_of_data o) ≡ Some v
        → IsDocument bytes v
    of_data (Some d) u r g = of_value d (value_of_data d) u r refl g
    of_data None u r g = absurd (cc)

    of_utf8 : (b : Bool) → is_utf8 bytes ≡ b
        → (if b then option_and_then if_allowed (option_and_then value_of_data (read_data bytes)) else None)
        ≡ Some v → IsDocument bytes v
    of_utf8 true u g = of_data (read_data bytes) u refl g
    of_utf8 false u g = absurd (cc)

-- ---- both

-- the lines that a query gives over a document
unfoldable pub answer : List ℕ → List ℕ → Option (List ℕ)
unfolding tree value index_text spelling digits is_match has_match is_word has_word class_holds
    element_holds pattern_of pattern.pattern_at pattern.branches_at pattern.branch_at pattern.piece_at
    pattern.atom_at pattern.class_at pattern.all_elements_at pattern.element_at pattern.character_at
    pattern.range_at is_plain
answer document text =
    option_and_then (λ q. option_map (output_of both q) (value document)) (tree text)

answered : (document text lines : List ℕ) (q : QueryTree) (o : Option Value) → tree text ≡ Some q
    → value document ≡ o → option_map (output_of both q) o ≡ Some lines
    → Selects document text lines
answered document text lines q None e r h = absurd (cc)
answered document text lines q (Some v) e r h = record {
  query = q;
  value = v;
  asked = tree-accepted text q e;
  read = value-document document v r;
  written = cc;
}

treed : (document text lines : List ℕ) (o : Option QueryTree) → tree text ≡ o
    → option_and_then (λ q. option_map (output_of both q) (value document)) o ≡ Some lines
    → Selects document text lines
treed document text lines None e h = absurd (cc)
treed document text lines (Some q) e h =
    answered document text lines q (value document) e refl h

pub row : {document text lines : List ℕ} → answer document text ≡ Some lines
    → Selects document text lines
unfolding answer
row {document = document} {text = text} {lines = lines} h =
    treed document text lines (tree text) refl h

pub accepted : {text : List ℕ} {q : QueryTree} → tree text ≡ Some q → Accepts text
accepted {text = text} {q = q} h = (q, tree-accepted text q h)

pub refused : {text : List ℕ} {r : Refusal} → fault text ≡ Some r → IsRefused text r
unfolding fault
refused {text = text} {r = r} h = taken-faulty text r (reading text) refl h
