-- Two locations have one path exactly if they are equal, since no step's text begins another's: for
-- the law `paths_differ`.
use Rattle.std.proofs.Common.{◌≡◌, ℕ, ◌/◌, ◌%◌, ◌<◌, true, false, List, [], ◌∷◌, ◌++◌}
use Rattle.std.proofs.Common.{get_or, Some, refl, sym, ap, ◌∙◌, append_assoc, arith}
use Rattle.std.specs.List.{flat_map}
use Rattle.jp_reading.specs.Characters as char
use Rattle.jp_reading.specs.Forms.{AllPassing}
use Rattle.jp_reading.specs.Numbers.{is_digit, value_from}
use Rattle.jp_document.specs.Laws.{PathsDiffer, NodesDiffer}
use Rattle.jp_document.specs.Location.{Step, named, nth, Location, value_at}
use Rattle.jp_document.specs.Node.{Node}
use Rattle.jp_document.specs.Value.{Value}
use Rattle.jp_document.specs.Path.{index_text, step_text, path_of}
use Rattle.jp_document.specs.Private.PathRules.{is_plain, is_letter, meant, hex_value}
use Rattle.jp_document.specs.Spelling.{spelling, control, hex_digit}
use Rattle.jp_document.proofs.Spellings.Indexes.{value_from-index_text, digits-index_text}
use Rattle.jp_document.proofs.Spellings.Indexes.{Begun, zero_text, other_text, begun}
use Rattle.jp_document.proofs.Spellings.Characters.{Spelled, by_letter, by_number}
use Rattle.jp_document.proofs.Spellings.Characters.{by_itself, spelled, hex_digit_is}

-- the prefix and the rest of two equal texts
abbrev Same : {A : Type 0} → A → A → List ℕ → List ℕ → Type 0
Same a b x y = (a ≡ b) × (x ≡ y)

hex-same : (m n : ℕ) → m < 16 → n < 16 → hex_digit m ≡ hex_digit n → m ≡ n
hex-same m n a b e = sym (hex_digit_is m a).1 ∙ ap hex_value e ∙ (hex_digit_is n b).1

-- what follows two equal prefixes, with the prefixes as they are spelled
spelled-same : {v w a b : List ℕ} (x y : List ℕ) → v ≡ a → w ≡ b → v ++ x ≡ w ++ y
    → a ++ x ≡ b ++ y
spelled-same x y is was h = ap (λ t. t ++ x) (sym is) ∙ h ∙ ap (λ t. t ++ y) was

plain-no_slash : (c : ℕ) (x y : List ℕ) → is_plain c ≡ true → char.backslash ∷ x ≡ c ∷ y → ⊥
unfolding is_plain
plain-no_slash c x y plain same =
    let slash : c ≡ char.backslash = cc in
    let no : true ≡ false = sym plain ∙ ap is_plain slash in
    cc

letter-no_u : (e : ℕ) (x y : List ℕ) → is_letter e ≡ true → char.backslash ∷ e ∷ x
    ≡ char.backslash ∷ char.letter_u ∷ y → ⊥
unfolding is_letter
letter-no_u e x y letter same =
    let u : e ≡ char.letter_u = cc in
    let no : true ≡ false = sym letter ∙ ap is_letter u in
    cc

-- no character's spelling begins another's
cancel : (c d : ℕ) (v w x y : List ℕ) → Spelled c v → Spelled d w → v ++ x ≡ w ++ y → Same c d x y
cancel c d v w x y (by_letter e l m is) (by_letter f k n was) h =
    let same : char.backslash ∷ e ∷ x ≡ char.backslash ∷ f ∷ y = spelled-same x y is was h in
    let letters : e ≡ f = cc in
    (m ∙ ap meant letters ∙ sym n, cc)
cancel c d v w x y (by_letter e l m is) (by_number low o was) h =
    absurd (letter-no_u e x _ l (spelled-same x y is was h))
cancel c d v w x y (by_letter e l m is) (by_itself p was) h =
    absurd (plain-no_slash d _ y p (spelled-same x y is was h))
cancel c d v w x y (by_number low o is) (by_letter f k n was) h =
    absurd (letter-no_u f y _ k (sym (spelled-same x y is was h)))
cancel c d v w x y (by_number low o is) (by_number below p was) h =
    let same : control c ++ x ≡ control d ++ y = spelled-same x y is was h in
    let high : hex_digit (c / 16) ≡ hex_digit (d / 16) = ap (λ t. get_or t 4 0) same in
    let last : hex_digit (c % 16) ≡ hex_digit (d % 16) = ap (λ t. get_or t 5 0) same in
    let e = hex-same (c / 16) (d / 16) (omega arith) (omega arith) high in
    let f = hex-same (c % 16) (d % 16) (omega arith) (omega arith) last in
    (omega arith, cc)
cancel c d v w x y (by_number low o is) (by_itself p was) h =
    absurd (plain-no_slash d _ y p (spelled-same x y is was h))
cancel c d v w x y (by_itself p is) (by_letter f k n was) h =
    absurd (plain-no_slash c _ x p (sym (spelled-same x y is was h)))
cancel c d v w x y (by_itself p is) (by_number below q was) h =
    absurd (plain-no_slash c _ x p (sym (spelled-same x y is was h)))
cancel c d v w x y (by_itself p is) (by_itself q was) h =
    let same : c ∷ x ≡ d ∷ y = spelled-same x y is was h in
    (cc, cc)

-- none begins with the quote
no_quote : (c : ℕ) (w x y : List ℕ) → Spelled c w → char.single_quote ∷ x ≡ w ++ y → ⊥
unfolding is_plain
no_quote c w x y (by_letter e l m is) h =
    let at : ◌≡◌ {A = ℕ} char.single_quote char.backslash = ap (λ t. get_or t 0 0)
    (h ∙ ap (λ t. t ++ y) is) in omega arith
no_quote c w x y (by_number low o is) h =
    let at : ◌≡◌ {A = ℕ} char.single_quote char.backslash = ap (λ t. get_or t 0 0)
    (h ∙ ap (λ t. t ++ y) is) in omega arith
no_quote c w x y (by_itself p is) h =
    let at : c ≡ char.single_quote = sym (ap (λ t. get_or t 0 0) (h ∙ ap (λ t. t ++ y) is)) in
    let no : true ≡ false = sym p ∙ ap is_plain at in
    cc

-- the characters of names, up to the quote
names-cancel : (s t x y : List ℕ)
    → flat_map (spelling char.single_quote) s ++ char.single_quote ∷ x
    ≡ flat_map (spelling char.single_quote) t ++ char.single_quote ∷ y → Same s t x y
names-cancel [] [] x y h = (refl, cc)
names-cancel [] (d ∷ t) x y h =
    absurd (no_quote d (spelling char.single_quote d) x _ (spelled d)
    (h ∙ append_assoc (spelling char.single_quote d) _ _))
names-cancel (c ∷ s) [] x y h =
    absurd (no_quote c (spelling char.single_quote c) y _ (spelled c)
    (sym h ∙ append_assoc (spelling char.single_quote c) _ _))
names-cancel (c ∷ s) (d ∷ t) x y h =
    let one =
    cancel c d (spelling char.single_quote c) (spelling char.single_quote d)
    (flat_map (spelling char.single_quote) s ++ char.single_quote ∷ x)
    (flat_map (spelling char.single_quote) t ++ char.single_quote ∷ y) (spelled c) (spelled d)
    (sym (append_assoc (spelling char.single_quote c) _ _) ∙ h
    ∙ append_assoc (spelling char.single_quote d) _ _) in
    let more = names-cancel s t x y one.1 in
    (ap (λ n. n ∷ s) one.0 ∙ ap (λ n. d ∷ n) more.0, more.1)

-- digits, up to a character that is none
digits-cancel : (c : ℕ) (v w x y : List ℕ) → is_digit c ≡ false → AllPassing is_digit v
    → AllPassing is_digit w → v ++ c ∷ x ≡ w ++ c ∷ y → Same v w x y
digits-cancel c [] [] x y off a b h = (refl, cc)
digits-cancel c [] (e ∷ w) x y off a b h =
    let at : c ≡ e = cc in let no : true ≡ false = sym b.0 ∙ ap is_digit (sym at) ∙ off in cc
digits-cancel c (d ∷ v) [] x y off a b h =
    let at : d ≡ c = cc in let no : true ≡ false = sym a.0 ∙ ap is_digit at ∙ off in cc
digits-cancel c (d ∷ v) (e ∷ w) x y off a b h =
    let at : d ≡ e = cc in
    let more =
    digits-cancel c v w x y off a.1 b.1 (let rest : v ++ c ∷ x ≡ w ++ c ∷ y = cc in rest) in
    (ap (λ n. n ∷ v) at ∙ ap (λ n. e ∷ n) more.0, more.1)

bracket : is_digit char.closing_bracket ≡ false
unfolding is_digit
bracket = refl

-- an index's text begins with no quote
no_index : (i : ℕ) (w x y : List ℕ) → Begun i w → char.single_quote ∷ x ≡ w ++ y → ⊥
no_index i w x y (zero_text z is) h =
    let at : ◌≡◌ {A = ℕ} char.single_quote char.digit_zero = ap (λ t. get_or t 0 0)
    (h ∙ ap (λ t. t ++ y) is) in omega arith
no_index i w x y (other_text d ds is digit all above) h =
    let at : char.single_quote ≡ d = ap (λ t. get_or t 0 0) (h ∙ ap (λ t. t ++ y) is) in omega arith

-- a step and what follows
pub step-named : (s x : List ℕ)
    → step_text (named s) ++ x ≡ char.opening_bracket ∷ char.single_quote ∷
    (flat_map (spelling char.single_quote) s ++ char.single_quote ∷ char.closing_bracket ∷ x)
step-named s x =
    ap (λ t. char.opening_bracket ∷ char.single_quote ∷ t)
    (append_assoc (flat_map (spelling char.single_quote) s ++ char.single_quote ∷ [])
    (char.closing_bracket ∷ []) x
    ∙ append_assoc (flat_map (spelling char.single_quote) s) (char.single_quote ∷ [])
    (char.closing_bracket ∷ x))

pub step-nth : (i : ℕ) (x : List ℕ) → step_text (nth i) ++ x
    ≡ char.opening_bracket ∷ (index_text i ++ char.closing_bracket ∷ x)
step-nth i x = ap (λ t. char.opening_bracket ∷ t)
    (append_assoc (index_text i) (char.closing_bracket ∷ []) x)

-- no step's text begins another's
steps-cancel : (k j : Step) (x y : List ℕ) → step_text k ++ x ≡ step_text j ++ y → Same k j x y
steps-cancel (named s) (named t) x y h =
    let same : char.opening_bracket ∷ char.single_quote ∷
    (flat_map (spelling char.single_quote) s ++ char.single_quote ∷ char.closing_bracket ∷ x) ≡
    char.opening_bracket ∷ char.single_quote ∷
    (flat_map (spelling char.single_quote) t ++ char.single_quote ∷ char.closing_bracket ∷ y) =
    sym (step-named s x) ∙ h ∙ step-named t y in
    let inner : flat_map (spelling char.single_quote) s
    ++ char.single_quote ∷ char.closing_bracket ∷ x ≡ flat_map (spelling char.single_quote) t
    ++ char.single_quote ∷ char.closing_bracket ∷ y =
    cc in
    let both = names-cancel s t (char.closing_bracket ∷ x) (char.closing_bracket ∷ y) inner in
    let after : char.closing_bracket ∷ x ≡ char.closing_bracket ∷ y = both.1 in
    (ap named both.0, cc)
steps-cancel (named s) (nth j) x y h =
    let same : char.opening_bracket ∷ char.single_quote ∷
    (flat_map (spelling char.single_quote) s ++ char.single_quote ∷ char.closing_bracket ∷ x)
    ≡ char.opening_bracket ∷ (index_text j ++ char.closing_bracket ∷ y) =
    sym (step-named s x) ∙ h ∙ step-nth j y in
    let inner : char.single_quote ∷
    (flat_map (spelling char.single_quote) s ++ char.single_quote ∷ char.closing_bracket ∷ x)
    ≡ index_text j ++ char.closing_bracket ∷ y = cc in
    absurd (no_index j (index_text j) _ (char.closing_bracket ∷ y) (begun j) inner)
steps-cancel (nth i) (named t) x y h =
    let same : char.opening_bracket ∷ (index_text i ++ char.closing_bracket ∷ x)
    ≡ char.opening_bracket ∷ char.single_quote ∷
    (flat_map (spelling char.single_quote) t ++ char.single_quote ∷ char.closing_bracket ∷ y) =
    sym (step-nth i x) ∙ h ∙ step-named t y in
    let inner : char.single_quote ∷
    (flat_map (spelling char.single_quote) t ++ char.single_quote ∷ char.closing_bracket ∷ y)
    ≡ index_text i ++ char.closing_bracket ∷ x = cc in
    absurd (no_index i (index_text i) _ (char.closing_bracket ∷ x) (begun i) inner)
steps-cancel (nth i) (nth j) x y h =
    let same : char.opening_bracket ∷ (index_text i ++ char.closing_bracket ∷ x)
    ≡ char.opening_bracket ∷ (index_text j ++ char.closing_bracket ∷ y) =
    sym (step-nth i x) ∙ h ∙ step-nth j y in
    let inner : index_text i ++ char.closing_bracket ∷ x ≡ index_text j
    ++ char.closing_bracket ∷ y = cc in
    let both =
    digits-cancel char.closing_bracket (index_text i) (index_text j) x y bracket
    (digits-index_text i)
    (digits-index_text j) inner in (
      ap nth (sym (value_from-index_text i) ∙ ap (value_from 0) both.0 ∙ value_from-index_text j),
      both.1,
    )

-- a step's text is not empty
no_step : (k : Step) (x : List ℕ) → [] ≡ step_text k ++ x → ⊥
no_step (named s) x h =
    let e : [] ≡ char.opening_bracket ∷ char.single_quote ∷
    (flat_map (spelling char.single_quote) s ++ char.single_quote ∷ char.closing_bracket ∷ x) =
    h ∙ step-named s x in cc
no_step (nth i) x h = let e : []
    ≡ char.opening_bracket ∷ (index_text i ++ char.closing_bracket ∷ x) = h ∙ step-nth i x in cc

texts-cancel : (l m : Location) → flat_map step_text l ≡ flat_map step_text m → l ≡ m
texts-cancel [] [] h = refl
texts-cancel [] (j ∷ m) h = absurd (no_step j _ h)
texts-cancel (k ∷ l) [] h = absurd (no_step k _ (sym h))
texts-cancel (k ∷ l) (j ∷ m) h =
    let both = steps-cancel k j (flat_map step_text l) (flat_map step_text m) h in
    ap (λ n. n ∷ l) both.0 ∙ ap (λ n. j ∷ n) (texts-cancel l m both.1)

pub paths-differ : PathsDiffer
paths-differ l m = (
  (λ h. texts-cancel l m (let e : flat_map step_text l ≡ flat_map step_text m = cc in e)),
  (λ e. ap path_of e),
)

same_node : (n m : Node) → n.location ≡ m.location → n.value ≡ m.value → n ≡ m
same_node n m location value =
    ap (λ (l : Location). record { location = l; value = n.value }) location
    ∙ ap (λ (v : Value). record { location = m.location; value = v }) value

-- at one location stands one value
pub nodes-differ : NodesDiffer
nodes-differ d n m stands stays = (
  (λ h.
      let same : n.location ≡ m.location = (paths-differ n.location m.location).0 h in
      let value : Some n.value ≡ Some m.value =
      sym stands.there ∙ ap (value_at d) same ∙ stays.there in
      let alike : n.value ≡ m.value = cc in
      same_node n m same alike),
  (λ e. ap (λ (t : Node). path_of t.location) e),
)
