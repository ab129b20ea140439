-- Going over one input after another: what one came to, and what the run has come to with it.
use Rattle.std.proofs.Common.{◌≡◌, inl, inr, ℕ, ◌+◌, ◌<◌, ◌≤◌, Bool, true, false, ◌||◌, List, [], ◌∷◌, ◌++◌}
use Rattle.std.proofs.Common.{length, map, take, drop, get_or, Option, Result, Ok, Err, ap, refl, subst, sym, ◌∙◌, suc, drop-cons, arith}
use Rattle.std.proofs.lemmas.List.{get_or-map, length-map, take-append-drop}
use Rattle.std.specs.Prelude.{⊤, IfErr}
use Rattle.std.specs.Result.{IsErrAnd}
use Rattle.jp_cells.proofs.Joining.{one-more}
use Rattle.jp_command.specs.declared.fault.Fault.{Fault}
use Rattle.jp_command.specs.declared.fault.Fault.TheVariants as fault
use Rattle.jp_lines.specs.Inputs.{GoesOverInput, HaltsAmong, HaltsAt, LeavesUnread, PassesInputs}
use Rattle.jp_lines.specs.Inputs.{RunsOut, lead_of_lines, name_before}
use Rattle.jp_lines.specs.Inputs.{none, one_more, uncounted, unfinished, unopened as left_unopened}
use Rattle.jp_lines.specs.Inputs.{untold}
use Rattle.jp_lines.specs.Outcome.{Overflows, plus, tally_of}
use Rattle.jp_lines.specs.Private.Opening.{HaltsNext, IsAtStart, PassesNext, PassesOne, StopsLeaving, cut_of, opened, unopened}
use Rattle.jp_lines.specs.Run.{GoesOver}
use Rattle.jp_lines.specs.Task.{Task}
use Rattle.jp_lines.specs.declared.defect.RefusedLine.{RefusedLine}
use Rattle.jp_lines.specs.declared.halt.Halt.{Halt}
use Rattle.jp_lines.specs.declared.halt.Halt.TheVariants as halt
use Rattle.jp_lines.specs.declared.halt.Passed.{Passed}
use Rattle.jp_lines.specs.declared.halt.Unread.{Unread}
use Rattle.jp_lines.specs.declared.halt.Unread.TheVariants as unread
use Rattle.jp_lines.specs.declared.inputs.Unopened.{Unopened}
use Rattle.jp_lines.specs.declared.opening.Cut.{Cut}
use Rattle.jp_lines.specs.declared.opening.Cut.TheVariants as cut
use Rattle.jp_lines.specs.declared.options.Options.{Options}
use Rattle.jp_lines.specs.declared.stop.Stop.{Stop}
use Rattle.jp_lines.specs.declared.stop.Stop.TheVariants as stop
use Rattle.jp_lines.specs.declared.tally.Tally.{Tally}

-- what the reports of lines begin with where several inputs are named
pub lead-several : {X : Type 0} (x : X → List ℕ) (named : List X) (name : List ℕ)
    → 1 < length named → lead_of_lines (map x named) name ≡ name_before name
lead-several x [] name several = absurd (omega arith)
lead-several x (only ∷ []) name several = absurd (omega arith)
lead-several x (first ∷ (second ∷ more)) name several = refl

-- and where at most one is
pub lead-alone : {X : Type 0} (x : X → List ℕ) (named : List X) (name : List ℕ)
    → length named ≤ 1 → lead_of_lines (map x named) name ≡ []
lead-alone x [] name alone = refl
lead-alone x (only ∷ []) name alone = refl
lead-alone x (first ∷ (second ∷ more)) name alone = absurd (omega arith)

-- how going over an input ended, by how it was cut off
uncut : Result ⊤ Cut → Result ⊤ Stop
uncut (Ok done) = Ok done
uncut (Err (cut.Line r)) = Err (stop.Line r)
uncut (Err (cut.Input (unread.Unopened why))) = Ok tt
uncut (Err (cut.Input unread.Failed)) = Err (stop.Run fault.Read)
uncut (Err (cut.Fault other)) = Err (stop.Run other)

uncut-fault : (f : Fault) → uncut (cut_of (Err (stop.Run f))) ≡ Err (stop.Run f)
unfolding uncut
uncut-fault fault.Read = refl
uncut-fault fault.Write = refl
uncut-fault fault.NoMemory = refl
uncut-fault fault.DocumentTooLarge = refl
uncut-fault (fault.Document d) = refl
uncut-fault (fault.Query r) = refl

uncut-cut : (end : Result ⊤ Stop) → uncut (cut_of end) ≡ end
unfolding uncut
uncut-cut (Ok done) = refl
uncut-cut (Err (stop.Line r)) = refl
uncut-cut (Err (stop.Run f)) = uncut-fault f

module _ (options : Options) (named : List (List ℕ)) {I R W E : Type 0}
    (opens : I → List ℕ → Result R Unopened → I → Type 0) (remaining : R → Option (List ℕ))
    (has_failed : R → Bool) (read_gives : R → Option (List ℕ) → R → Type 0)
    (contents : W → Option (List ℕ)) (writes_failed : W → Bool) (reports : E → Option (List ℕ))
    (reports_failed : E → Bool) (task : Task) (counted : Tally) (most : Option ℕ) (name : List ℕ)
    (a b : I) (o p : W) (u v : E) (tally : Tally) where
  abbrev Over : Result ⊤ Stop → Type 0
  Over end = GoesOverInput options named opens remaining has_failed read_gives contents writes_failed
      reports reports_failed task most name a b o p u v tally end

  abbrev Leaves : Unread → Type 0
  Leaves why = LeavesUnread options named opens remaining has_failed read_gives contents
      writes_failed reports reports_failed task most name a b o p u v tally why

  abbrev Halts : Halt → Type 0
  Halts why = HaltsAt options named opens remaining has_failed read_gives contents writes_failed
      reports reports_failed task counted most name a b o p u v tally why

  abbrev One : Result ⊤ Cut → Type 0
  One given = PassesOne (record options { reports = most }) opens remaining has_failed read_gives
      contents writes_failed reports reports_failed task name a b o p u v (lead_of_lines named name)
      tally given

  abbrev Goes : R → R → Result ⊤ Stop → Type 0
  Goes i j end = GoesOver (record options { reports = most }) (lead_of_lines named name) remaining
      has_failed read_gives contents writes_failed reports reports_failed task i j o p u v tally end

  over : (i j : R) (end : Result ⊤ Stop) (given : Result ⊤ Cut) → opens a name (Ok i) b
      → Goes i j end → given ≡ cut_of end → Over (uncut given)
  over i j end given at goes is = record {
    i = i;
    j = j;
    opened = at;
    goes = subst (λ e. Goes i j e) (sym (ap uncut is ∙ uncut-cut end)) goes;
  }

  -- it was gone over to its end
  pub one-whole : (done : ⊤) → One (Ok done) → Over (Ok tt)
  unfolding uncut
  one-whole done (opened i j end at goes is) = over i j end (Ok done) at goes is
  one-whole done (unopened why at same quiet counts is) = cc

  -- up to a line that is refused
  pub one-line : (r : RefusedLine) → One (Err (cut.Line r)) → Over (Err (stop.Line r))
  unfolding uncut
  one-line r (opened i j end at goes is) = over i j end (Err (cut.Line r)) at goes is
  one-line r (unopened why at same quiet counts is) = cc

  unread-as : (why : Unread) (other : Unopened)
      → ◌≡◌ {A = Result ⊤ Cut} (Err (cut.Input why)) (Err (cut.Input (unread.Unopened other)))
      → Leaves (unread.Unopened other) → Leaves why
  unread-as why other is leaves = let same : unread.Unopened other ≡ why = cc in subst Leaves same leaves

  cut-no_open : (end : Result ⊤ Stop) (why : Unopened)
      → Err (cut.Input (unread.Unopened why)) ≡ cut_of end → end ≡ Ok tt
  unfolding uncut
  cut-no_open end why is = sym (uncut-cut end) ∙ ap uncut (sym is)

  unopened-not : (end : Result ⊤ Stop) (why : Unopened)
      → Err (cut.Input (unread.Unopened why)) ≡ cut_of end → ⊥
  unopened-not end why is =
      let ended : Err (cut.Input (unread.Unopened why)) ≡ cut_of (Ok tt) =
      subst (λ e. Err (cut.Input (unread.Unopened why)) ≡ cut_of e) (cut-no_open end why is) is in
      cc

  -- or not to its end
  pub one-unread : (why : Unread) → One (Err (cut.Input why)) → Leaves why
  unfolding uncut
  one-unread unread.Failed (opened i j end at goes is) =
      unfinished (over i j end (Err (cut.Input unread.Failed)) at goes is)
  one-unread (unread.Unopened why) (opened i j end at goes is) = absurd (unopened-not end why is)
  one-unread why (unopened other at same quiet counts is) =
      unread-as why other is (left_unopened other at same quiet counts)

  read-not : (end : Result ⊤ Stop) → Err (cut.Fault fault.Read) ≡ cut_of end → ⊥
  unfolding uncut
  read-not end is =
      let ended : end ≡ Err (stop.Run fault.Read) = sym (uncut-cut end) ∙ ap uncut (sym is) in
      let read : Err (cut.Fault fault.Read) ≡ cut_of (Err (stop.Run fault.Read)) =
      subst (λ e. Err (cut.Fault fault.Read) ≡ cut_of e) ended is in
      cc

  -- or a fault of the run ended it
  pub one-fault : (f : Fault) → One (Err (cut.Fault f)) → Halts (halt.Fault f)
  unfolding uncut
  one-fault fault.NoMemory (opened i j end at goes is) =
      inl (over i j end (Err (cut.Fault fault.NoMemory)) at goes is)
  one-fault fault.Write (opened i j end at goes is) =
      over i j end (Err (cut.Fault fault.Write)) at goes is
  one-fault fault.Read (opened i j end at goes is) = absurd (read-not end is)
  one-fault (fault.Query r) (opened i j end at goes is) =
      absurd ((over i j end (Err (cut.Fault (fault.Query r))) at goes is).goes)
  one-fault (fault.Document d) (opened i j end at goes is) =
      absurd ((over i j end (Err (cut.Fault (fault.Document d))) at goes is).goes)
  one-fault fault.DocumentTooLarge (opened i j end at goes is) =
      absurd ((over i j end (Err (cut.Fault fault.DocumentTooLarge)) at goes is).goes)
  one-fault f (unopened why at same quiet counts is) = cc

  abbrev Out : Tally → Type 0
  Out known = RunsOut options named opens remaining has_failed read_gives contents writes_failed
      reports reports_failed task counted most name a b o p u v known

  -- what the inputs count with it does not fit
  pub one-uncounted : (given : Result ⊤ Cut) → One given → Overflows (plus counted tally)
      → Out (tally_of [])
  one-uncounted given (opened i j end at goes is) over =
      uncounted tally end (record { i = i; j = j; opened = at; goes = goes }) over refl
  one-uncounted given (unopened why at same quiet counts is) over =
      untold (unread.Unopened why) (left_unopened why at same quiet refl)

  -- why a run ends at an input that was not read to its end
  pub halts-unread : (why : Unread) (end : Halt) → Leaves why
      → StopsLeaving options named name why end → Halts end
  halts-unread why (halt.Input lead other) leaves stops =
      (stops.0, stops.1, subst Leaves (sym stops.2) leaves)
  halts-unread why (halt.Fault fault.NoMemory) leaves stops = inr (untold why leaves)
  halts-unread why (halt.Fault fault.Write) leaves stops = absurd stops
  halts-unread why (halt.Fault fault.Read) leaves stops = absurd stops
  halts-unread why (halt.Fault (fault.Query r)) leaves stops = absurd stops
  halts-unread why (halt.Fault (fault.Document d)) leaves stops = absurd stops
  halts-unread why (halt.Fault fault.DocumentTooLarge) leaves stops = absurd stops
  halts-unread why (halt.Line lead r) leaves stops = absurd stops

  -- what one came to where so many reports are left, and its reports begin so
  pub one-as : (left : Option ℕ) (lead : List ℕ) (given : Result ⊤ Cut) → left ≡ most
      → lead ≡ lead_of_lines named name
      → PassesOne (record options { reports = left }) opens remaining has_failed read_gives contents
      writes_failed reports reports_failed task name a b o p u v lead tally given → One given
  one-as left lead given counts leads one =
      subst (λ most. PassesOne (record options { reports = most }) opens remaining has_failed
      read_gives contents writes_failed reports reports_failed task name a b o p u v
      (lead_of_lines named name) tally given) counts
      (subst (λ lead. PassesOne (record options { reports = left }) opens remaining has_failed
      read_gives contents writes_failed reports reports_failed task name a b o p u v lead tally given)
      leads one)

pub or-false : (b : Bool) → b || false ≡ b
or-false true = refl
or-false false = refl

pub or-true : (b : Bool) → b || true ≡ true
or-true true = refl
or-true false = refl

-- what a failure with this error promises
pub err-then : {T E : Type 0} (r : Result T E) (e : E) (P : E → Type 0) → IsErrAnd r (λ x. x ≡ e) → P e
    → IfErr r P
err-then (Ok x) e P is holds = absurd is
err-then (Err x) e P is holds = subst P (sym is) holds

module _ (options : Options) (named : List (List ℕ)) {I R W E : Type 0}
    (opens : I → List ℕ → Result R Unopened → I → Type 0) (remaining : R → Option (List ℕ))
    (has_failed : R → Bool) (read_gives : R → Option (List ℕ) → R → Type 0)
    (contents : W → Option (List ℕ)) (writes_failed : W → Bool) (reports : E → Option (List ℕ))
    (reports_failed : E → Bool) (task : Task) (a : I) (o : W) (u : E) where
  abbrev None : Tally → Bool → Type 0
  None = PassesInputs options named opens remaining has_failed read_gives contents writes_failed
      reports reports_failed task a o u [] a o u

  -- no input yet
  pub passes-none : (start : Passed) → IsAtStart start → None start.tally start.unread
  passes-none start is =
      subst (λ tally. None tally start.unread) (sym is.tally)
      (subst (None (tally_of [])) (sym is.unread) none)

-- `x` says what the name of an input in a list of them is
module _ (options : Options) (named : List (List ℕ)) {I R W E : Type 0}
    (opens : I → List ℕ → Result R Unopened → I → Type 0) (remaining : R → Option (List ℕ))
    (has_failed : R → Bool) (read_gives : R → Option (List ℕ) → R → Type 0)
    (contents : W → Option (List ℕ)) (writes_failed : W → Bool) (reports : E → Option (List ℕ))
    (reports_failed : E → Bool) (task : Task) (a : I) (o : W) (u : E) {X : Type 0} (x : X → List ℕ)
    (xs : List X) (n : ℕ) (d : X) (within : n < length xs) (b c : I) (p q : W) (v w : E)
    (old new : Passed) where
  abbrev Passes : List (List ℕ) → I → W → E → Tally → Bool → Type 0
  Passes = PassesInputs options named opens remaining has_failed read_gives contents writes_failed
      reports reports_failed task a o u

  module _ (so_far : Passes (take n (map x xs)) b p v old.tally old.unread) where
    -- the run went on after one input more
    pub passes-more : PassesNext options opens remaining has_failed read_gives contents writes_failed
        reports reports_failed task (x (get_or xs n d)) b c p q v w named old new
        → Passes (take (n + 1) (map x xs)) c q w new.tally new.unread
    passes-more next =
        subst (λ names. Passes names c q w new.tally new.unread) (sym (one-more x xs n d within))
        (subst (λ tally. Passes (take n (map x xs) ++ x (get_or xs n d) ∷ []) c q w tally new.unread)
        (sym next.tally)
        (subst (λ flag. Passes (take n (map x xs) ++ x (get_or xs n d) ∷ []) c q w
        (plus old.tally next.more) flag) (sym next.unread)
        (one_more (take n (map x xs)) (x (get_or xs n d)) b c p q v w old.tally next.more old.unread
        next.this so_far next.passes)))

    -- the run ended at it
    pub halts-among : (why : Halt)
        → HaltsNext options opens remaining has_failed read_gives contents writes_failed reports
        reports_failed task (x (get_or xs n d)) b c p q v w named old new why
        → HaltsAmong options named opens remaining has_failed read_gives contents writes_failed reports
        reports_failed task (map x xs) a c o q u w new why
    halts-among why next =
        let inside : n < length (map x xs) = simp length-map within in
        record {
          before = take n (map x xs);
          name = x (get_or xs n d);
          after = drop (suc n) (map x xs);
          split =
              sym (take-append-drop n (map x xs))
              ∙ ap (λ ys. take n (map x xs) ++ ys)
              (drop-cons (map x xs) n [] inside
              ∙ ap (λ y. y ∷ drop (suc n) (map x xs)) (get_or-map x xs n d [] within));
          c = b;
          q = p;
          w = v;
          tally = old.tally;
          goes = subst (Passes (take n (map x xs)) b p v old.tally) (sym next.unread) so_far;
          more = next.more;
          halts = next.halts;
          counts = next.tally;
        }
