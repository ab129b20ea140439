-- The path of each list of steps is read, to its end: for what `read_path` refuses.
use Rattle.std.proofs.Common.{◌≡◌, ℕ, suc, ◌<◌, min, true, List, [], ◌∷◌, ◌++◌, length, map}
use Rattle.std.proofs.Common.{refl, sym, ap, ◌∙◌, append_assoc, length-append, arith}
use Rattle.std.proofs.lemmas.Bool.Decides.{nat_tests}
use Rattle.std.proofs.lemmas.Str.{length-encode, len_utf8_bounds}
use Rattle.std.specs.Char.{encode_utf8}
use Rattle.std.specs.List.{flat_map}
use Rattle.std.specs.Str.{encode_utf8_all}
use Rattle.jp_reading.specs.Characters as char
use Rattle.jp_reading.specs.Texts.{Text}
use Rattle.jp_reading.specs.Forms.{Each}
use Rattle.jp_reading.specs.Numbers.{is_digit, value_from}
use Rattle.jp_reading.specs.Outcome.{State, took, past_blanks}
use Rattle.jp_reading.specs.RuleReading.{nothing}
use Rattle.jp_reading.proofs.States.Again.{start, finish}
use Rattle.jp_reading.proofs.Texts.Digits.{capped-is_min}
use Rattle.jp_reading.proofs.Forms.HasForm.{HasForm, has-word, has-one, both, has-as}
use Rattle.jp_reading.proofs.Forms.HasForm.{has-same, has-each_passing, reads-all}
use Rattle.jp_reading.proofs.Rules.Completeness.{done, no_inner}
use Rattle.jp_reading.proofs.Rules.Follow.{at_end}
use Rattle.jp_reading.proofs.Rules.Form.{left, right, none_inside}
use Rattle.jp_document.specs.Location.{Step, named, nth, Location}
use Rattle.jp_document.specs.Path.{index_text, step_text, path_of}
use Rattle.jp_document.specs.Private.PathReading.{path_at}
use Rattle.jp_document.specs.Private.PathRules.{nesting}
use Rattle.jp_reading.specs.Numbers.{is_leading_digit, largest_exact}
use Rattle.jp_document.specs.Private.PathRules as rule
use Rattle.jp_document.proofs.Paths.Conditions.{none_starts, none_closes, path-alive, path-apart}
use Rattle.jp_document.proofs.Completeness.Names.{Begins, enclosed-has, name-begins}
use Rattle.jp_document.proofs.Spellings.Encoded.{prefix-ascii, first-ascii, digits-ascii}
use Rattle.jp_document.proofs.Spellings.Indexes.{value_from-index_text, digits-index_text}
use Rattle.jp_document.proofs.Spellings.Indexes.{Begun, zero_text, other_text, begun}
use Rattle.jp_document.proofs.Paths.LargeIndexes.{capped_step}
use Rattle.jp_document.proofs.Paths.Differ.{step-named, step-nth}
use Rattle.jp_document.proofs.Soundness.Names.{form_of}

-- ---- steps

is_leading_digit-above_zero : (d : ℕ) → is_digit d ≡ true → char.digit_zero < d → is_leading_digit d
    ≡ true
unfolding is_digit
is_leading_digit-above_zero d digit above = grind (arith, nat_tests)

index-has : (n : ℕ) (w : Text) → Begun n w → w ≡ index_text n
    → HasForm (form_of rule.index (min n (suc largest_exact))) w
unfolding rule.index rule.size
index-has n w (zero_text z is) text =
    has-same (sym is) (has-as (λ s o h. left h)
    (both (has-word (char.digit_zero ∷ [])) (has-as (λ s o h. record { same = omega arith; is = h })
    (has-word []))))
index-has n w (other_text d ds is digit all above) text =
    let value : min n (suc largest_exact) ≡ _ =
    sym (capped-is_min (suc largest_exact) 0 (d ∷ ds) (omega arith)
    ∙ ap (λ (m : ℕ). min m (suc largest_exact))
    (ap (value_from 0) (sym is ∙ text) ∙ value_from-index_text n)) in
    has-same (sym is) (has-as (λ s o h. right (record { part = d; is = h }))
    (both (has-one is_leading_digit d (is_leading_digit-above_zero d digit above))
    (has-as (λ s o h. record { part = ds; same = value; is = h })
    (has-each_passing is_digit ds all))))

key-begins : (k : Step) (t : Text) (w : List ℕ) → encode_utf8_all t ≡ step_text k ++ w
    → Begins (form_of rule.step (capped_step k)) t w
unfolding rule.step rule.normal_selector
key-begins (named s) t w h =
    let bracket = first-ascii char.opening_bracket t _ (omega arith) (h ∙ step-named s w) in
    let name = name-begins s bracket.0 (char.closing_bracket ∷ w) bracket.2 in
    let end = first-ascii char.closing_bracket name.rest w (omega arith) name.leaves in
    record {
      text = char.opening_bracket ∷ (name.text ++ char.closing_bracket ∷ []);
      rest = end.0;
      is = bracket.1 ∙ ap (λ x. char.opening_bracket ∷ x)
          (name.is ∙ ap (λ x. name.text ++ x) end.1
          ∙ sym (append_assoc name.text (char.closing_bracket ∷ []) end.0));
      has = enclosed-has (form_of rule.normal_selector) char.opening_bracket char.closing_bracket (named s)
          name.text
          (has-as (λ s o g. left (record { part = _; same = refl; is = g })) name.has);
      leaves = end.2;
    }
key-begins (nth n) t w h =
    let bracket = first-ascii char.opening_bracket t _ (omega arith) (h ∙ step-nth n w) in
    let index = prefix-ascii (index_text n) bracket.0 (char.closing_bracket ∷ w)
    (digits-ascii (index_text n) (digits-index_text n)) bracket.2 in
    let end = first-ascii char.closing_bracket index.0 w (omega arith) index.2 in
    record {
      text = char.opening_bracket ∷ (index_text n ++ char.closing_bracket ∷ []);
      rest = end.0;
      is = bracket.1 ∙ ap (λ x. char.opening_bracket ∷ x)
          (index.1 ∙ ap (λ x. index_text n ++ x) end.1
          ∙ sym (append_assoc (index_text n) (char.closing_bracket ∷ []) end.0));
      has = enclosed-has (form_of rule.normal_selector) char.opening_bracket char.closing_bracket
          (nth (min n (suc largest_exact))) (index_text n)
          (has-as (λ s o g. right (record { part = _; same = refl; is = g }))
          (index-has n (index_text n) (begun n) refl));
      leaves = end.2;
    }

-- ---- whole paths

no_text : (t : Text) → [] ≡ encode_utf8_all t → t ≡ []
no_text [] h = refl
no_text (c ∷ t) h =
    let longer = length-append (encode_utf8 c) (encode_utf8_all t) in
    absurd (omega (arith, ap length h, longer, length-encode c, (len_utf8_bounds c).0))

steps-has : (l : Location) (t : Text) → encode_utf8_all t ≡ flat_map step_text l
    → HasForm (Each (form_of rule.step) (map capped_step l)) t
steps-has [] t h = has-same (sym (no_text t (sym h))) (has-word [])
steps-has (k ∷ l) t h =
    let one = key-begins k t (flat_map step_text l) h in
    has-same (sym one.is) (both one.has (steps-has l one.rest one.leaves))

path-has : (t : Text) (l : Location) → encode_utf8_all t ≡ path_of l
    → HasForm (form_of rule.path (map capped_step l)) t
unfolding rule.path rule.steps
path-has t l h =
    let dollar = first-ascii char.dollar t (flat_map step_text l) (omega arith) h in
    has-same (sym dollar.1) (both (has-word (char.dollar ∷ [])) (steps-has l dollar.0 dollar.2))

-- the path of each list of steps is read
pub path-complete : (t : Text) (l : Location) → encode_utf8_all t ≡ path_of l
    → (q : State) × (path_at (start t) ≡ took (map capped_step l) q)
unfolding path_at past_blanks
path-complete t l h =
    let has = path-has t l h in
    let read = done (none_inside nesting) none_starts none_closes (nothing nesting)
    (no_inner nesting none_starts (λ o c h. absurd o)) rule.path path-alive at_end path-apart
    (map capped_step l) (start t) (finish t (has.at 0).0) (reads-all has)
    (record { near = refl; far = refl }) in
    (finish t (has.at 0).0, rw read.reads refl)
