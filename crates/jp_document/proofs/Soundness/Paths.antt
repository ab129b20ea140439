-- What the rule of paths takes, up to the end of the text, is the path of the steps that it took:
-- for what `read_path` answers.
use Rattle.std.proofs.Common.{◌≡◌, ℕ, suc, min, eqb, Bool, true, false, cond, List, []}
use Rattle.std.proofs.Common.{◌∷◌, ◌++◌, length, map, refl, sym, ap, ◌∙◌, arith}
use Rattle.std.proofs.lemmas.Bool.{eqb-true}
use Rattle.std.proofs.lemmas.Bool.Decides.{nat_tests}
use Rattle.std.proofs.lemmas.List.{nil_from_length}
use Rattle.std.proofs.lemmas.Str.{encodes-append}
use Rattle.std.specs.List.{flat_map}
use Rattle.std.specs.Str.{encode_utf8_all}
use Rattle.jp_reading.specs.Characters as char
use Rattle.jp_reading.specs.Texts.{Text, Spans}
use Rattle.jp_reading.specs.Forms.{◌⌢◌, word, Each}
use Rattle.jp_reading.specs.Numbers.{is_digit, value_from}
use Rattle.jp_reading.specs.Outcome.{State, Outcome, took, stuck, deep, ◌>>=◌, is_end}
use Rattle.jp_reading.specs.RuleReading.{nothing}
use Rattle.jp_reading.proofs.States.Again.{start, whole-reads}
use Rattle.jp_reading.proofs.States.Between.{Reads, Within}
use Rattle.jp_reading.proofs.Texts.Digits.{capped-is_min}
use Rattle.jp_reading.proofs.Forms.Joining.{joined-both}
use Rattle.jp_reading.proofs.Rules.Form.{left, right, none_inside}
use Rattle.jp_reading.proofs.Rules.Soundness.{IsSound, shut, sound}
use Rattle.jp_reading.proofs.Texts.Runs.{each-run}
use Rattle.jp_document.specs.Location.{Step, nth, Location}
use Rattle.jp_document.specs.Path.{index_text, step_text, path_of}
use Rattle.jp_document.specs.Private.PathReading.{read_rule, path_at}
use Rattle.jp_document.specs.Private.PathRules.{nesting}
use Rattle.jp_reading.specs.Numbers.{is_leading_digit, largest_exact}
use Rattle.jp_document.specs.Private.PathRules as rule
use Rattle.jp_document.proofs.Paths.Conditions.{path-alive}
use Rattle.jp_document.proofs.Spellings.Encoded.{encode-ascii, digits-ascii}
use Rattle.jp_document.proofs.Spellings.Indexes.{index_text-value, index_text-zero}
use Rattle.jp_document.proofs.Paths.LargeIndexes.{capped_step}
use Rattle.jp_document.proofs.Soundness.Names.{form_of, enclosed, enclosed-is, name-within}

-- ---- steps

-- the text of an index that is read so
record Indexed (n : ℕ) (s : Spans) (o : ℕ) (t : Text) : Type 0 where
  index : ℕ
  read : min index (suc largest_exact) ≡ n
  is : encode_utf8_all t ≡ index_text index

leading-is : (d : ℕ) → is_leading_digit d ≡ true → (is_digit d ≡ true)
    × (eqb d char.digit_zero ≡ false)
unfolding is_digit
leading-is d h = (grind (arith, nat_tests), grind (arith, nat_tests))

index-within : (n : ℕ) → Within (form_of rule.index n) (Indexed n)
unfolding rule.index rule.size
index-within n s o t (left h) =
    let text : t ≡ char.digit_zero ∷ [] = rw (h.is, h.one.is, h.two.is.is) refl in
    record {
      index = 0;
      read = sym h.two.same;
      is = ap encode_utf8_all text ∙ encode-ascii (char.digit_zero ∷ []) (omega arith, tt)
          ∙ index_text-zero;
    }
index-within n s o t (right h) =
    let d = h.part in
    let ds = h.is.two.part in
    let run = each-run is_digit ds h.is.second_spans _ h.is.second h.is.two.is in
    let first = leading-is d h.is.one.passes in
    let text : t ≡ d ∷ ds = rw (h.is.is, h.is.one.is, run.is) refl in
    record {
      index = value_from 0 (d ∷ ds);
      read = sym (h.is.two.same ∙ capped-is_min (suc largest_exact) 0 (d ∷ ds) (omega arith));
      is =
          ap encode_utf8_all text ∙ encode-ascii (d ∷ ds) (digits-ascii (d ∷ ds) (first.0, run.all))
          ∙ sym (index_text-value d ds (first.0, run.all) first.1);
    }

-- the text of a step between brackets that is read so
record Stepped (k : Step) (s : Spans) (o : ℕ) (t : Text) : Type 0 where
  key : Step
  read : capped_step key ≡ k
  is : encode_utf8_all t ≡ step_text key

key-within : (k : Step) → Within
    (word (char.opening_bracket ∷ []) ⌢ form_of rule.normal_selector k ⌢ word (char.closing_bracket ∷ []))
    (Stepped k)
unfolding rule.normal_selector
key-within k s o t h = way _ h.two.one
  where
    bracketed : (w : List ℕ) → encode_utf8_all h.two.first ≡ w
        → encode_utf8_all t ≡ char.opening_bracket ∷ (w ++ char.closing_bracket ∷ [])
    bracketed w e =
        (enclosed char.opening_bracket char.closing_bracket (λ s o u. u ≡ h.two.first) w
        (omega arith) (omega arith)
        (λ s o u same. record { is = ap encode_utf8_all same ∙ e }) s o t
        (joined-both (word (char.opening_bracket ∷ [])) (word (char.opening_bracket ∷ [])) _ _ s o t
        h h.one
        (joined-both (form_of rule.normal_selector k) (λ s o u. u ≡ h.two.first)
        (word (char.closing_bracket ∷ []))
        (word (char.closing_bracket ∷ [])) h.second_spans _ h.second h.two refl h.two.two))).is

    way : (i : ℕ) → form_of rule.normal_selector k h.two.first_spans i h.two.first → Stepped k s o t
    way i (left g) = record {
      key = k;
      read = ap capped_step g.same ∙ sym g.same;
      is = bracketed _ (name-within g.part h.two.first_spans _ h.two.first g.is).is
          ∙ ap step_text (sym g.same);
    }
    way i (right g) =
        let i = index-within g.part h.two.first_spans _ h.two.first g.is in
        record {
          key = nth i.index;
          read = ap nth i.read ∙ sym g.same;
          is = bracketed (index_text i.index) i.is;
        }

step-within : (k : Step) → Within (form_of rule.step k) (Stepped k)
unfolding rule.step
step-within k s o t h = key-within k s o t
    (enclosed-is (form_of rule.normal_selector) char.opening_bracket char.closing_bracket k s o t h)

-- ---- whole paths

-- the location whose path it is, and that it is read so
record IsPathTo (l : Location) (w : List ℕ) : Type 0 where
  location : Location
  read : map capped_step location ≡ l
  is : w ≡ flat_map step_text location

located : (l : Location) (s : Spans) (o : ℕ) (t : Text) → Each (λ k. form_of rule.step k) l s o t
    → IsPathTo l (encode_utf8_all t)
located [] s o t h = record { location = []; read = refl; is = ap encode_utf8_all h.is }
located (k ∷ l) s o t h =
    let one = step-within k h.first_spans o h.first h.one in
    let rest = located l h.second_spans _ h.second h.two in
    record {
      location = one.key ∷ rest.location;
      read = ap (λ j. j ∷ map capped_step rest.location) one.read ∙ ap (λ m. k ∷ m) rest.read;
      is = ap encode_utf8_all h.is ∙ encodes-append h.first h.second
          ∙ ap (λ x. x ++ encode_utf8_all h.second) one.is
          ∙ ap (λ x. step_text one.key ++ x) rest.is;
    }

-- what is taken ends with the text
ended : (p : State) (o : Outcome Location) → IsSound (form_of rule.path) (form_of rule.path) p o
    → (l : Location) (q : State)
    → (o >>= λ m r. cond (is_end r) (took m r) (stuck r)) ≡ took l q
    → Reads (form_of rule.path l) p q × (q.rest ≡ [])
ended p (took m r) h l q e = way (is_end r) refl e
  where
    way : (b : Bool) → is_end r ≡ b → cond b (took m r) (stuck r) ≡ took l q
        → Reads (form_of rule.path l) p q × (q.rest ≡ [])
    way true end same =
        let is : m ≡ l = cc in
        let at : r ≡ q = cc in
        rw (← is, ← at) (h.is, nil_from_length r.rest (eqb-true (length r.rest) 0 end))
    way false end same = cc
ended p (stuck r) h l q e = cc
ended p (deep r) h l q e = cc

pub path-sound : (t : Text) (q : State) (l : Location) → path_at (start t) ≡ took l q
    → (m : Location) × (map capped_step m ≡ l) × (encode_utf8_all t ≡ path_of m)
unfolding path_at rule.path rule.steps
path-sound t q l e =
    let judged = sound (none_inside nesting) (none_inside nesting) (λ o x s n u g. g)
    (nothing nesting) (λ o p on. shut refl) rule.path path-alive (start t) in
    let read = ended (start t) (read_rule rule.path (start t)) judged l q e in
    let h = whole-reads (form_of rule.path l) t q read.0 read.1 in
    let steps = located l h.second_spans _ h.second h.two in (
      steps.location,
      steps.read,
      ap encode_utf8_all h.is ∙ encodes-append h.first h.second
          ∙ ap (λ x. x ++ encode_utf8_all h.second)
          (ap encode_utf8_all h.one.is ∙ encode-ascii (char.dollar ∷ []) (omega arith, tt))
          ∙ ap (λ x. char.dollar ∷ x) steps.is,
    )
