-- What has the form of a value is read as that value, where each way of the rule is told from the
-- others.
use Rattle.std.proofs.Common.{◌≡◌, ℕ, ◌+◌, Bool, true, false, if◌then◌else◌, List, [], ◌∷◌}
use Rattle.std.proofs.Common.{◌++◌, Some, refl, sym, ap, ◌∙◌, subst, arith}
use Rattle.std.proofs.lemmas.Bool.Decides.{nat_tests}
use Rattle.jp_reading.specs.Texts.{Text, bytes, is_blank}
use Rattle.jp_reading.specs.Forms.{Form, ◌⌢◌, word, Blank, AllPassing, Each, Omitted}
use Rattle.jp_reading.specs.Outcome.{State, Outcome, took, ◌>>=◌, head, past, after_blank}
use Rattle.jp_reading.specs.Texts.{first_of}
use Rattle.jp_reading.specs.Outcome.{passes, is, is_at, each, omit}
use Rattle.jp_reading.specs.Views.{outcome_map}
use Rattle.jp_reading.specs.Rule.{Look, here, beyond, Nesting, Lead, the, blanks, Rule, value}
use Rattle.jp_reading.specs.Rule.{character, after, seq, made, look, upon, nested, component_where}
use Rattle.jp_reading.specs.Rule.{omitted, some, relaxed, loose, until, flat}
use Rattle.jp_reading.specs.RuleReading.{InnerReader, nothing, next, led, spanned_if, spanned, read}
use Rattle.jp_reading.proofs.States.Between.{Reads, reads-is, state-same}
use Rattle.jp_reading.proofs.Texts.Chars.{after_blank-same}
use Rattle.jp_reading.proofs.Forms.Levels.{Only, Then}
use Rattle.jp_reading.proofs.States.Progress.{Progress}
use Rattle.jp_reading.proofs.States.Loops.{each-on, each-off}
use Rattle.jp_reading.proofs.States.Again.{split, reads-none, one-first, again-take_if}
use Rattle.jp_reading.proofs.States.Again.{again-expect}
use Rattle.jp_reading.proofs.States.Again.{again-skip, again-round, at-word, past-word, component-inside}
use Rattle.jp_reading.proofs.Rules.Progress.{goes}
use Rattle.jp_reading.proofs.Rules.Form.{Either, left, right, ComponentIf, Inside, none_inside}
use Rattle.jp_reading.proofs.Rules.Form.{text_of}
use Rattle.jp_reading.proofs.Rules.Form.{form, Alive, least}
use Rattle.jp_reading.proofs.Rules.Classes.{Class}
use Rattle.jp_reading.proofs.Rules.Ranges.{Range, single, single-covers, within}
use Rattle.jp_reading.proofs.Rules.Follow.{Next, allows, Follow, Meets, any, beginning}
use Rattle.jp_reading.proofs.Rules.Follow.{either_of, blank_ranges, blanked, leading, begins}
use Rattle.jp_reading.proofs.Rules.Follow.{Under, is_under, implies, excludes, at, ends, Apart}
use Rattle.jp_reading.proofs.Rules.Follow.{all-allowed, covered, next-left, next-right}
use Rattle.jp_reading.proofs.Rules.Follow.{implied, excluded, under-computed}

-- the rule took the value, and its text begins as the tests say
pub record Done {A : Type 0} (B : Follow) (o : Outcome A) (x : A) (p q : State) : Type 0 where
  pub reads : o ≡ took x q
  pub begins : Meets B p

-- what stands one level further in is read, and begins with a character of its opening
pub record InnerIsComplete (N : Nesting) (F : Inside N) (starts : N.Opening → List Range)
    (closes : N.Opening → Follow) (inner : InnerReader N) : Type 0 where
  pub covers : (o : N.Opening) (c : ℕ) → N.opens o c ≡ true → within (starts o) c ≡ true
  pub progress : (o : N.Opening) → Progress (inner o)
  pub again : (o : N.Opening) (x : N.Inner o) (p q : State) → Reads (F o x) p q → Meets (closes o) q
      → inner o p ≡ took x q
  pub first : (o : N.Opening) (x : N.Inner o) (p q : State) → Reads (F o x) p q
      → passes (N.opens o) (head p) ≡ true

-- ---- what comes next

meets-under : (J K : Follow) (p : State) → Under J K → Meets J p → Meets K p
meets-under J K p h m = record {
  near = h.near (head p) m.near;
  far = h.far (after_blank p) m.far;
}

meets-left : (J K : Follow) (p : State) → Meets J p → Meets (either_of J K) p
meets-left J K p m = record {
  near = next-left J.near K.near (head p) m.near;
  far = next-left J.far K.far (after_blank p) m.far;
}

meets-right : (J K : Follow) (p : State) → Meets K p → Meets (either_of J K) p
meets-right J K p m = record {
  near = next-right J.near K.near (head p) m.near;
  far = next-right J.far K.far (after_blank p) m.far;
}

-- what comes next hangs on the text alone
meets-same : (K : Follow) (p q : State) → p.rest ≡ q.rest → Meets K p → Meets K q
meets-same K p q e m = record {
  near = rw e at m.near;
  far = subst (λ o. allows K.far o ≡ true) (after_blank-same p q e) m.far;
}

-- a character of the ranges is next
meets-beginning : (ok : ℕ → Bool) (rs : List Range)
    → ((c : ℕ) → ok c ≡ true → within rs c ≡ true) → (p : State) → passes ok (head p) ≡ true
    → Meets (beginning rs) p
meets-beginning ok rs f p h = record {
  near = covered ok rs f (head p) h;
  far = all-allowed (after_blank p);
}

blank-covers : (c : ℕ) → is_blank c ≡ true → within blank_ranges c ≡ true
unfolding is_blank
blank-covers c h = grind (arith, nat_tests)

-- the test of the character that is looked at, of what comes next there
at-next : (m : Look) (K : Follow) (p : State) → Meets K p → allows (at m K) (next m p) ≡ true
at-next here K p h = h.near
at-next beyond K p h = h.far

if-on : {A : Type 0} (b : Bool) (o v w : A) → b ≡ true → o ≡ w → (if b then o else v) ≡ w
if-on b o v w e h = rw e h

if-off : {A : Type 0} (b : Bool) (o v w : A) → b ≡ false → v ≡ w → (if b then o else v) ≡ w
if-off b o v w e h = rw e h

-- ---- steps

blank-near : (K : Follow) (p q : State) → Reads Blank p q → allows K.near (head q) ≡ true
    → allows (blanked K).near (head p) ≡ true
blank-near K p q h e = rw h.way.rest (along h.text h.is.blank)
  where
    blank : Next
    blank = record { end = false; ranges = blank_ranges }

    along : (t : Text) → AllPassing is_blank t
        → allows (blanked K).near (first_of (t ++ q.rest)) ≡ true
    along [] all = next-right blank K.near (first_of q.rest) e
    along (c ∷ t) all = next-left blank K.near (Some c) (blank-covers c all.0)

done-led : {A : Type 0} {m : Look} {t : Bool} (s : Lead m t) (K : Follow)
    (k : State → Outcome A) (x : A) (p middle q : State)
    → ends s K ≡ true → Reads (text_of s) p middle → Done K (k middle) x middle q
    → Done (leading s K) (led s k p) x p q
done-led (the c) K k x p middle q told h d = record {
  reads = rw (again-expect c p middle h) d.reads;
  begins = meets-beginning (is c) (single c) (single-covers c) p (at-word c [] p middle h);
}
done-led blanks K k x p middle q told h d =
    let skipped =
    again-skip p middle h
    (excluded K.near blank_ranges is_blank blank-covers told (head middle) d.begins.near) in
    record {
      reads = rw skipped d.reads;
      begins = record {
        near = blank-near K p middle h d.begins.near;
        far = rw skipped d.begins.near;
      };
    }

omitted-state : (p q : State) → Reads Omitted p q → omit p ≡ q
omitted-state p q h =
    state-same (omit p) q (sym (h.way.at ∙ ap (λ t. p.at + bytes t) h.is.is ∙ omega arith))
    (h.way.rest ∙ ap (λ t. t ++ q.rest) h.is.is)
    (sym (h.way.found ∙ ap (λ s. p.found ++ s) h.is.spans))

-- what is within a component, or is no component of its own, and that its span makes the component
record Within_component (is_component : Bool) (P : Form) (p q : State) : Type 0 where
  middle : State
  reads : Reads P p middle
  rest : middle.rest ≡ q.rest
  spans : spanned_if is_component p middle ≡ q

within_component : (is_component : Bool) (P : Form) (p q : State) → Reads (ComponentIf is_component P) p q
    → Within_component is_component P p q
within_component true P p q h =
    let i = component-inside P p q h in record {
      middle = i.middle;
      reads = i.reads;
      rest = i.rest;
      spans = i.spanned;
    }
within_component false P p q h = record { middle = q; reads = h; rest = refl; spans = refl }

-- ---- loops

done-each : {A : Type 0} (F : A → Form) (m : Look) (ok : ℕ → Bool) (class : Class ok)
    (first some_follow K : Follow) (rule : State → Outcome A) → Progress rule
    → is_under first (either_of some_follow K) ≡ true
    → implies (at m first) class.inner ≡ true → excludes (at m K) class.outer ≡ true
    → ((x : A) (p q : State) → Reads (F x) p q → Meets (either_of some_follow K) q
    → Done first (rule p) x p q)
    → (xs : List A) (p q : State) → Reads (Each F xs) p q → Meets K q
    → Done (either_of some_follow K) (each (λ r. passes ok (next m r)) rule p) xs p q
done-each F m ok class first I K rule moves again on off one [] p q h follow =
    let same = reads-none p q h in
    rw same (record {
      reads = each-off (λ r. passes ok (next m r)) rule q
          (excluded (at m K) class.outer ok class.covers off (next m q) (at-next m K q follow));
      begins = meets-right I K q follow;
    })
done-each F m ok class first I K rule moves again on off one (x ∷ xs) p q h follow =
    let parts = split (F x) (Each F xs) p q h in
    let rest = done-each F m ok class first I K rule moves again on off one xs parts.middle q
    parts.two follow in
    let d = one x p parts.middle parts.one rest.begins in
    let begins = λ (r : State). passes ok (next m r) in
    record {
      reads = each-on begins rule moves p
          (implied (at m first) class.inner ok class.filled on (next m p) (at-next m first p
          d.begins))
          ∙ again-round x xs p parts.middle q (rule p) (each begins rule) d.reads rest.reads;
      begins = meets-under first (either_of I K) p (under-computed first (either_of I K) again)
          d.begins;
    }

-- ---- rules

pub no_inner : (N : Nesting) (starts : N.Opening → List Range)
    → ((o : N.Opening) (c : ℕ) → N.opens o c ≡ true → within (starts o) c ≡ true)
    → InnerIsComplete N (none_inside N) starts (λ o. any) (nothing N)
no_inner N starts covers = record {
  covers = covers;
  progress = λ o p. tt;
  again = λ o x p q h follow. absurd h.is;
  first = λ o x p q h. absurd h.is;
}

pub done : {N : Nesting} {u : Bool} {a b : Look} {A : Type 0} (F : Inside N)
    (starts : N.Opening → List Range) (closes : N.Opening → Follow) (inner : InnerReader N)
    → InnerIsComplete N F starts closes inner → (r : Rule N u a b A) (w : Alive r) (K : Follow)
    → Apart starts closes r w K
    → (x : A) (p q : State) → Reads (form F r x) p q → Meets K q
    → Done (begins starts r w K) (read inner r p) x p q
done F starts closes inner known (value y) w K apart x p q h follow =
    let same = reads-none p q (reads-is (Only y (word []) x) (word []) p q h h.is.is) in
    rw (same, h.is.same) (record { reads = refl; begins = follow })
done F starts closes inner known (character ok) w K apart x p q h follow = record {
  reads = again-take_if ok x p q h;
  begins = meets-beginning ok w.outer w.covers p
      (ap (passes ok) (one-first ok x p q h) ∙ h.is.passes);
}
done F starts closes inner known (after s r) w K apart x p q h follow =
    let parts = split (text_of s) (form F r x) p q h in
    done-led s (begins starts r w K) (λ m. read inner r m) x p parts.middle q apart.0 parts.one
    (done F starts closes inner known r w K apart.1 x parts.middle q parts.two follow)
done F starts closes inner known (seq r k) w K apart x p q h follow =
    let y = h.is.part in
    let parts = split (form F r y) (form F (k y) x) p q
    (reads-is (form F (seq r k) x) (form F r y ⌢ form F (k y) x) p q h h.is.is) in
    let two = done F starts closes inner known (k y) (w.1 y) K (apart.2 y) x parts.middle q
    parts.two follow in
    let J = begins starts (k (least r w.0)) (w.1 (least r w.0)) K in
    let one = done F starts closes inner known r w.0 J apart.0 y p parts.middle parts.one
    (meets-under (begins starts (k y) (w.1 y) K) J parts.middle (apart.1 y) two.begins) in
    record { reads = rw one.reads two.reads; begins = one.begins }
done F starts closes inner known (made f r) w K apart x p q h follow =
    let d = done F starts closes inner known r w K apart h.is.part p q
    (reads-is (form F (made f r) x) (form F r h.is.part) p q h h.is.is) follow in
    record { reads = ap (outcome_map f) d.reads ∙ ap (λ y. took y q) (sym h.is.same); begins = d.begins }
done F starts closes inner known (look m ok r s) w K apart x p q h follow =
    way h.is (λ g. done F starts closes inner known r w.1 K apart.2 x p q g follow)
    (λ g. done F starts closes inner known s w.2 K apart.3 x p q g follow)
  where
    way : Either (form F r x) (form F s x) h.spans p.at h.text
        → (Reads (form F r x) p q → Done (begins starts r w.1 K) (read inner r p) x p q)
        → (Reads (form F s x) p q → Done (begins starts s w.2 K) (read inner s p) x p q)
        → Done (begins starts (look m ok r s) w K) (read inner (look m ok r s) p) x p q
    way (left g) one two =
        let d = one (reads-is (form F (look m ok r s) x) (form F r x) p q h g) in
        record {
          reads = if-on (passes ok (next m p)) (read inner r p) (read inner s p) (took x q)
              (implied (at m (begins starts r w.1 K)) w.0.inner ok w.0.filled apart.0 (next m p)
              (at-next m (begins starts r w.1 K) p d.begins)) d.reads;
          begins = meets-left (begins starts r w.1 K) (begins starts s w.2 K) p d.begins;
        }
    way (right g) one two =
        let d = two (reads-is (form F (look m ok r s) x) (form F s x) p q h g) in
        record {
          reads = if-off (passes ok (next m p)) (read inner r p) (read inner s p) (took x q)
              (excluded (at m (begins starts s w.2 K)) w.0.outer ok w.0.covers apart.1 (next m p)
              (at-next m (begins starts s w.2 K) p d.begins)) d.reads;
          begins = meets-right (begins starts r w.1 K) (begins starts s w.2 K) p d.begins;
        }
done F starts closes inner known (upon c r s) w K apart x p q h follow =
    way h.is (λ m g. done F starts closes inner known r w.0 K apart.1 x m q g follow)
    (λ g. done F starts closes inner known s w.1 K apart.2 x p q g follow)
  where
    way : Either (word (c ∷ []) ⌢ form F r x) (form F s x) h.spans p.at h.text
        → ((m : State) → Reads (form F r x) m q
        → Done (begins starts r w.0 K) (read inner r m) x m q)
        → (Reads (form F s x) p q → Done (begins starts s w.1 K) (read inner s p) x p q)
        → Done (begins starts (upon c r s) w K) (read inner (upon c r s) p) x p q
    way (left g) one two =
        let parts = split (word (c ∷ [])) (form F r x) p q
        (reads-is (form F (upon c r s) x) (word (c ∷ []) ⌢ form F r x) p q h g) in
        let on = at-word c [] p parts.middle parts.one in
        record {
          reads = if-on (is_at c p) (read inner r (past p)) (read inner s p) (took x q) on
              (ap (read inner r) (past-word c p parts.middle parts.one)
              ∙ (one parts.middle parts.two).reads);
          begins = meets-left (beginning (single c)) (begins starts s w.1 K) p
              (meets-beginning (is c) (single c) (single-covers c) p on);
        }
    way (right g) one two =
        let d = two (reads-is (form F (upon c r s) x) (form F s x) p q h g) in
        record {
          reads = if-off (is_at c p) (read inner r (past p)) (read inner s p) (took x q)
              (excluded (begins starts s w.1 K).near (single c) (is c) (single-covers c) apart.0
              (head p) d.begins.near) d.reads;
          begins = meets-right (beginning (single c)) (begins starts s w.1 K) p d.begins;
        }
done {N} F starts closes inner known (nested o k s) w K apart x p q h follow =
    way h.is (λ y m g. done F starts closes inner known (k y) (w.0 y) K (apart.2 y) x m q g follow)
    (λ g. done F starts closes inner known s w.1 K apart.3 x p q g follow)
  where
    way : Either (Then (λ y. F o y) (λ y z. form F (k y) z) x) (form F s x) h.spans p.at h.text
        → ((y : N.Inner o) (m : State) → Reads (form F (k y) x) m q
        → Done (begins starts (k y) (w.0 y) K) (read inner (k y) m) x m q)
        → (Reads (form F s x) p q → Done (begins starts s w.1 K) (read inner s p) x p q)
        → Done (begins starts (nested o k s) w K) (read inner (nested o k s) p) x p q
    way (left g) one two =
        let y = g.part in
        let parts = split (F o y) (form F (k y) x) p q
        (reads-is (form F (nested o k s) x) (F o y ⌢ form F (k y) x) p q h g.is) in
        let d = one y parts.middle parts.two in
        let on = known.first o y p parts.middle parts.one in
        let entered = known.again o y p parts.middle parts.one
        (meets-under (begins starts (k y) (w.0 y) K) (closes o) parts.middle
        (under-computed (begins starts (k y) (w.0 y) K) (closes o) (apart.1 y)) d.begins) in
        record {
          reads = if-on (passes (N.opens o) (head p)) (inner o p >>= λ z n. read inner (k z) n)
              (read inner s p) (took x q) on (rw entered d.reads);
          begins = meets-left (beginning (starts o)) (begins starts s w.1 K) p
              (meets-beginning (N.opens o) (starts o) (known.covers o) p on);
        }
    way (right g) one two =
        let d = two (reads-is (form F (nested o k s) x) (form F s x) p q h g) in
        record {
          reads = if-off (passes (N.opens o) (head p)) (inner o p >>= λ z n. read inner (k z) n)
              (read inner s p) (took x q)
              (excluded (begins starts s w.1 K).near (starts o) (N.opens o) (known.covers o) apart.0
              (head p) d.begins.near) d.reads;
          begins = meets-right (beginning (starts o)) (begins starts s w.1 K) p d.begins;
        }
done F starts closes inner known (component_where ok r) w K apart x p q h follow =
    let i = within_component (ok x) (form F r x) p q h in
    let d = done F starts closes inner known r w K apart x p i.middle i.reads
    (meets-same K q i.middle (sym i.rest) follow) in
    record { reads = ap (spanned ok p) d.reads ∙ ap (took x) i.spans; begins = d.begins }
done F starts closes inner known (omitted y) w K apart x p q h follow =
    let same = omitted-state p q (reads-is (Only y Omitted x) Omitted p q h h.is.is) in
    record {
      reads = rw h.is.same (ap (took y) same);
      begins = meets-same K q p (ap (λ (s : State). s.rest) (sym same)) follow;
    }
done F starts closes inner known (some m ok r) w K apart x p q h follow =
    let all = either_of (begins starts r w.1 any) K in
    done-each (λ y. form F r y) m ok w.0 (begins starts r w.1 all) (begins starts r w.1 any) K
    (λ m. read inner r m) (λ m. goes inner known.progress r m) apart.0 apart.1 apart.2
    (λ y m n g f. done F starts closes inner known r w.1 all apart.3 y m n g f) x p q h follow
done F starts closes inner known (relaxed r) w K apart x p q h follow =
    done F starts closes inner known r w K apart x p q h follow
done F starts closes inner known (loose r) w K apart x p q h follow =
    done F starts closes inner known r w K apart x p q h follow
done F starts closes inner known (until ok r) w K apart x p q h follow =
    let J = blanked (beginning w.0.inner) in
    done F starts closes inner known r w.1 J apart.1 x p q h
    (meets-under K J q (under-computed K J apart.0) follow)
done {N} F starts closes inner known (flat r) w K apart x p q h follow =
    done (none_inside N) starts (λ o. any) (nothing N) (no_inner N starts known.covers) r w K apart
    x p q h follow
