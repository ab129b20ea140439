-- How far a run is in its input, as more bytes come.
use Rattle.std.proofs.Common.{◌≡◌, inr, ℕ, ◌<◌, Bool, true, false, List, [], ◌∷◌, ◌++◌}
use Rattle.std.proofs.Common.{length, Option, subst, refl, sym, ◌∙◌, ap, arith, string_bytes}
use Rattle.std.proofs.lemmas.List.Folds.{list_all-append}
use Rattle.std.specs.Prelude.{⊤}
use Rattle.jp_command.specs.Limits.{document_limit}
use Rattle.jp_command.specs.declared.fault.Fault.TheVariants as fault
use Rattle.jp_lines.specs.Lines.{lines_of_input, newline}
use Rattle.jp_lines.specs.Outcome.{Refused, ComesTo, defective, refusals, tally_of, too_large}
use Rattle.jp_lines.specs.Private.Passing.{EndsLine, Keeps, Passes, PassesOn, Standing}
use Rattle.jp_lines.specs.Private.Passing.{StopsEnding, StopsPassing, StopsWithin, is_in_line, kept_of}
use Rattle.jp_lines.specs.Private.Passing.{standing}
use Rattle.jp_lines.specs.Task.{Task}
use Rattle.jp_lines.specs.declared.defect.Defect.TheVariants.{TooLarge}
use Rattle.jp_lines.specs.declared.defect.RefusedLine.{RefusedLine}
use Rattle.jp_lines.specs.declared.options.Options.{Options}
use Rattle.jp_lines.specs.declared.passing.Progress.{Progress}
use Rattle.jp_lines.specs.declared.stop.Stop.{Stop}
use Rattle.jp_lines.specs.declared.stop.Stop.TheVariants as stop
use Rattle.jp_lines.specs.declared.tally.Tally.{Tally}
use Rattle.jp_lines.proofs.Going.{passes-end, passes-kept, passes-lines, passes-more, passes-none}
use Rattle.jp_lines.proofs.Going.{within-after, within-longer, within-over}
use Rattle.jp_lines.proofs.Outcomes.{kept-many}
use Rattle.jp_lines.proofs.Splitting.{lines-ended, lines-in_line, lines-some, lines-whole}
use Rattle.jp_lines.proofs.Tallies.{none_where}

module _ (options : Options) (lead : List ℕ) {W E : Type 0} (contents : W → Option (List ℕ))
    (writes_failed : W → Bool) (reports : E → Option (List ℕ)) (reports_failed : E → Bool)
    (task : Task) where
  abbrev On : List ℕ → Progress → Progress → List ℕ → W → W → E → E → Type 0
  On = PassesOn options lead contents writes_failed reports reports_failed task

  abbrev Within : ℕ → List (List ℕ) → Type 0 → ℕ → Tally → Tally → W → W → E → E → Stop → Type 0
  Within = StopsWithin options lead contents writes_failed reports reports_failed task

  -- the lines that ended and the one that has begun
  pub passes-all : (bytes : List ℕ) (s t : Standing) (o p : W) (u v : E)
      → (passes : Passes options lead contents writes_failed reports reports_failed task bytes s t o p u v)
      → is_in_line t.line ≡ true
      → lines_of_input (s.line ++ bytes) ≡ passes.lines ++ t.line ∷ []
  passes-all bytes s t o p u v passes in_line =
      ap lines_of_input passes.is
      ∙ lines-ended passes.lines t.line passes.whole
      ∙ ap (λ l. passes.lines ++ l) (lines-whole t.line in_line)

  pub on-none : (a : Progress) (line : List ℕ) (o : W) (u : E) → Keeps a line
      → On [] a a line o o u u
  on-none a line o u keeps = record {
    next = line;
    keeps = keeps;
    passes = passes-none options lead contents writes_failed reports reports_failed task
        (standing a line) o u;
  }

  -- bytes that end no line are kept
  pub on-kept : (taken piece : List ℕ) (a b c : Progress) (line : List ℕ) (o p : W) (u v : E)
      → On taken a b line o p u v → is_in_line piece ≡ true → c.number ≡ b.number
      → c.tally ≡ b.tally
      → ((begun : List ℕ) → b.line.items ≡ kept_of begun → c.line.items ≡ kept_of (begun ++ piece))
      → On (taken ++ piece) a c line o p u v
  on-kept taken piece a b c line o p u v on in_line number tally kept = record {
    next = on.next ++ piece;
    keeps = (list_all-append _ on.next piece ∙ rw (on.keeps.0, in_line) refl, kept on.next on.keeps.1);
    passes = passes-more options lead contents writes_failed reports reports_failed task taken piece _ _ _
        _ _ _ _ _ _ on.passes
        (passes-kept options lead contents writes_failed reports reports_failed task piece
        (standing b on.next) (standing c (on.next ++ piece)) p v number tally refl);
  }

  -- a newline ends the line
  pub on-ended : (taken : List ℕ) (a b c : Progress) (line : List ℕ) (o p r : W) (u v w : E)
      → (on : On taken a b line o p u v)
      → EndsLine options lead contents writes_failed reports reports_failed task b c on.next p r v w
      → On (taken ++ newline ∷ []) a c line o r u w
  on-ended taken a b c line o p r u v w on ends = record {
    next = [];
    keeps = ends.keeps;
    passes = passes-more options lead contents writes_failed reports reports_failed task taken
        (newline ∷ []) _ _ _ _ _ _ _ _ _ on.passes
        (passes-end options lead contents writes_failed reports reports_failed task
        (standing b on.next) (standing c []) p r v w on.keeps.0 refl ends.over);
  }

  -- there is no memory to keep what comes
  pub on-stops_keeping : (taken rest : List ℕ) (a b : Progress) (line : List ℕ) (o p : W) (u v : E)
      → On taken a b line o p u v
      → StopsPassing options lead contents writes_failed reports reports_failed task (taken ++ rest) a b
      line o p u v (stop.Run fault.NoMemory)
  on-stops_keeping taken rest a b line o p u v on =
      subst
      (λ all. Within a.number all (false ≡ true) 0 a.tally b.tally o p u v (stop.Run fault.NoMemory))
      (sym (passes-lines options lead contents writes_failed reports reports_failed task taken rest _ _
      o p u v on.passes))
      (within-over options lead contents writes_failed reports reports_failed task on.passes.lines
      (lines_of_input (on.next ++ rest)) (false ≡ true) 0 (standing a line) (standing b on.next)
      o p u v (lines-some (on.next ++ rest)) (omega arith) on.passes.over)

  -- the run stops at the line that a newline ends
  pub on-stops_ending : (taken rest : List ℕ) (a b c : Progress) (line : List ℕ) (o p r : W)
      (u v w : E) (why : Stop) → (on : On taken a b line o p u v)
      → StopsEnding options lead contents writes_failed reports reports_failed task b.number on.next
      b.tally c.tally p r v w why
      → StopsPassing options lead contents writes_failed reports reports_failed task
      (taken ++ newline ∷ rest) a c line o r u w why
  on-stops_ending taken rest a b c line o p r u v w why on stops =
      subst (λ all. Within a.number all (false ≡ true) 0 a.tally c.tally o r u w why)
      (sym (passes-lines options lead contents writes_failed reports reports_failed task taken
      (newline ∷ rest) _ _ o p u v on.passes
      ∙ ap (λ l. on.passes.lines ++ l) (lines-in_line on.next rest on.keeps.0)))
      (within-after options lead contents writes_failed reports reports_failed task on.passes.lines
      (on.next ∷ lines_of_input rest) (false ≡ true) 0 0 (standing a line) (standing b on.next) c.tally
      o p r u v w why (omega arith) on.passes.over
      (within-longer options lead contents writes_failed reports reports_failed task b.number
      (on.next ∷ []) (lines_of_input rest) ⊤ (false ≡ true) 0 b.tally c.tally p r v w why
      (lines-some rest) stops))

  -- the line has more bytes than a document may have
  pub on-stops_growing : (taken : List ℕ) (a b : Progress) (line : List ℕ) (o p : W) (u v : E)
      (r : RefusedLine) → On taken a b line o p u v → document_limit < length b.line.items
      → r.number ≡ b.number → r.defect ≡ TooLarge → string_bytes r.explanation ≡ []
      → options.keep_going ≡ false
      → StopsPassing options lead contents writes_failed reports reports_failed task taken a b line
      o p u v (stop.Line r)
  on-stops_growing taken a b line o p u v r on many number defect behind stops = record {
    more = tally_of on.passes.over.outcomes;
    counts = on.passes.over.counts;
    stops = record {
      lines = on.passes.lines;
      line = on.next;
      rest = [];
      split = passes-all taken _ _ o p u v on.passes on.keeps.0;
      outcomes = on.passes.over.outcomes;
      goes = on.passes.over.goes;
      counts = refl;
      unrefused = none_where (refusals on.passes.over.outcomes) options.keep_going
          on.passes.over.goes.allowed stops;
      comes = subst
          (λ n. ComesTo options task n on.next (Refused r)) on.passes.over.number
          (defective TooLarge r (too_large (kept-many on.next (rw on.keeps.1 at many)))
          (record { number_is = number; defect_is = defect; behind = behind }));
      complete = inr (inr defect);
      answered = omega arith;
      stops = stops;
    };
  }
