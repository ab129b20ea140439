-- Of an input that is one line, a run over lines is one over a document.
use Rattle.std.proofs.Common.{◌≡◌, ℕ, suc, Bool, false, List, [], ◌∷◌, ◌++◌, Option, Some, None}
use Rattle.std.proofs.Common.{subst, refl, sym, ◌∙◌, ap}
use Rattle.std.proofs.lemmas.List.{append-nil}
use Rattle.std.specs.Io.KnownBytes.{Consumes, IsAtEnd}
use Rattle.jp_command.specs.Output.{WritesAll}
use Rattle.jp_command.specs.Run.{IsAsked, IsOutput}
use Rattle.jp_command.specs.declared.form.Form.{Form}
use Rattle.jp_evaluate.specs.Nodelist.{nodelist}
use Rattle.jp_reading.specs.Characters.{tab}
use Rattle.jp_tree.specs.Tree.{QueryTree}
use Rattle.jp_lines.specs.Laws.{OneLineIsADocument}
use Rattle.jp_lines.specs.Lines.{is_blank_line, lines_of_input}
use Rattle.jp_lines.specs.Outcome.{LineOutcome, ComesTo, ComeTo, none, one_more, blank, document}
use Rattle.jp_lines.specs.Outcome.{defective, lead_of, refusal_in, refusals}
use Rattle.jp_lines.specs.Outcome.{written_of, written_of_all}
use Rattle.jp_lines.specs.Reads.{ReadsToEnd}
use Rattle.jp_lines.specs.Task.{Select, Task, nodes_output}
use Rattle.jp_lines.specs.declared.options.Extent.TheVariants.{All}
use Rattle.jp_lines.specs.declared.options.Options.{Options}
use Rattle.jp_lines.specs.declared.options.Wanted.TheVariants.{Nodes}
use Rattle.jp_lines.proofs.Outcomes.{heads, tails}
use Rattle.jp_lines.proofs.Tallies.{none-counted}

-- what was consumed up to the end is all
consumed-all : (a b : Option (List ℕ)) (came bytes : List ℕ) → Consumes a b came → IsAtEnd b
    → a ≡ Some bytes → came ≡ bytes
consumed-all None b came bytes consumes ended is = cc
consumed-all (Some xs) None came bytes consumes ended is = absurd consumes
consumed-all (Some xs) (Some ys) came bytes consumes ended is =
    sym (append-nil came)
    ∙ ap (λ t. came ++ t) (sym ended)
    ∙ sym consumes
    ∙ some-same xs bytes is
  where
    some-same : (x y : List ℕ) → Some x ≡ Some y → x ≡ y
    some-same x y same = cc

module _ (options : Options) (task : Task) where
  come-nil : (n : ℕ) (ls : List (List ℕ)) (xs : List LineOutcome) → ComeTo options task n ls xs → ls ≡ []
      → xs ≡ []
  come-nil n ls xs (none m) is = refl
  come-nil n ls xs (one_more m l more x rest comes come) is = cc

  -- one line has one outcome
  come-single : (n : ℕ) (ls : List (List ℕ)) (xs : List LineOutcome) (line : List ℕ)
      → ComeTo options task n ls xs → ls ≡ line ∷ []
      → (x : LineOutcome) × (xs ≡ x ∷ []) × ComesTo options task n line x
  come-single n ls xs line (none m) is = cc
  come-single n ls xs line (one_more m l more x rest comes come) is = (
    x,
    ap (λ t. x ∷ t) (come-nil (suc m) more rest come (tails l line more [] is)),
    subst (λ t. ComesTo options task m t x) (heads l line more [] is) comes,
  )

module _ {R W E : Type 0} (remaining : R → Option (List ℕ)) (has_failed : R → Bool)
    (read_gives : R → Option (List ℕ) → R → Type 0) (contents : W → Option (List ℕ))
    (writes_failed : W → Bool) (reports : E → Option (List ℕ)) (reports_failed : E → Bool) where
  abbrev Output : Options → Form → List ℕ → R → R → List ℕ → Type 0
  Output options = IsOutput options.profile remaining has_failed read_gives contents writes_failed

  -- the outcome of a line that is neither blank nor refused is what a run over it writes
  outcome-is : (form : Form) (options : Options) (q : QueryTree) (text bytes : List ℕ) (i j : R)
      (x : LineOutcome) → options.numbered ≡ false → IsAsked options.profile text q
      → ReadsToEnd remaining has_failed read_gives i j bytes → is_blank_line bytes ≡ false → refusal_in x ≡ [] → ComesTo options (Select (Nodes form) All q) 1 bytes x
      → Output options form text i j (written_of x)
  outcome-is form options q text bytes i j x numbered asked reads some unrefused (blank few is) = cc
  outcome-is form options q text bytes i j x numbered asked reads some unrefused
      (document d few is doc within) = record {
        q = q;
        bytes = bytes;
        d = d;
        asked = asked;
        reads = record {
          came = reads.came;
          ended = reads.ended;
          few = few;
          works = reads.works;
          between = reads.between;
          calls = reads.calls;
          last = reads.last;
        };
        document = doc;
        is = ap (λ b. nodes_output (Nodes form) (lead_of tab b 1) (nodelist q d)) numbered;
      }
  outcome-is form options q text bytes i j x numbered asked reads some unrefused
      (defective d r has of) = cc

  pub one_line : OneLineIsADocument remaining has_failed read_gives contents writes_failed
      reports reports_failed
  one_line form options text bytes i j o p u v tally numbered works known single some runs =
      let q = runs.asked.0 in
      let task = Select (Nodes form) All q in
      let goes = runs.goes in
      let same = consumed-all (remaining i) (remaining j) goes.bytes bytes goes.reads.came
      goes.reads.ended known in
      let come = subst (λ b. ComeTo options task 1 (lines_of_input b) goes.outcomes) same
      (subst (λ t. ComeTo options t 1 (lines_of_input goes.bytes) goes.outcomes) runs.asked.1 goes.goes.come) in
      let one = come-single options task 1 (lines_of_input bytes) goes.outcomes bytes come single in
      let none : refusals (one.0 ∷ []) ≡ [] =
      sym (ap refusals one.1)
      ∙ none-counted goes.outcomes (sym (ap (λ t. t.refused) goes.counts) ∙ works) in
      let unrefused : refusal_in one.0 ≡ [] = sym (append-nil (refusal_in one.0)) ∙ none in
      record {
        output = written_of one.0;
        is = outcome-is form options q text bytes i j one.0 numbered runs.asked.2
            (subst (ReadsToEnd remaining has_failed read_gives i j) same goes.reads) some
            unrefused one.2;
        writes = subst (WritesAll contents writes_failed o p)
            (ap written_of_all one.1 ∙ append-nil (written_of one.0)) goes.goes.writes;
      }
