-- Outcomes of lines after those of the lines before.
use Rattle.std.proofs.Common.{◌≡◌, ℕ, suc, ◌+◌, ◌<◌, ◌≤◌, List, [], ◌∷◌}
use Rattle.std.proofs.Common.{◌++◌, length, subst, arith}
use Rattle.std.proofs.lemmas.List.{length-take, take_all}
use Rattle.jp_command.specs.Limits.{document_limit}
use Rattle.jp_lines.specs.Outcome.{LineOutcome, Refused, ComesTo, ComeTo, none, one_more}
use Rattle.jp_lines.specs.Outcome.{IsDefective, IsRefusal, blank, document, no_document, defective}
use Rattle.jp_lines.specs.Outcome.{steps_used_up, too_large, too_many_bytes, too_many_nodes}
use Rattle.jp_lines.specs.Outcome.{refusal_in, refusals}
use Rattle.jp_lines.specs.Private.Passing.{kept_of}
use Rattle.jp_lines.specs.Task.{Task}
use Rattle.jp_lines.specs.declared.defect.Defect.{Defect}
use Rattle.jp_lines.specs.declared.defect.RefusedLine.{RefusedLine}
use Rattle.jp_lines.specs.declared.options.Options.{Options}
use Rattle.jp_lines.proofs.Tallies.{both-none}

-- a line that is not too large is kept whole
pub kept-all : (l : List ℕ) → length (kept_of l) ≤ document_limit → kept_of l ≡ l
kept-all l few = take_all (suc document_limit) l (omega (arith, length-take (suc document_limit) l))

pub kept-few : (l : List ℕ) → length (kept_of l) ≤ document_limit → length l ≤ document_limit
kept-few l few = omega (arith, length-take (suc document_limit) l)

pub kept-many : (l : List ℕ) → document_limit < length (kept_of l) → document_limit < length l
kept-many l many = omega (arith, length-take (suc document_limit) l)

pub heads : (k l : List ℕ) (ks ls : List (List ℕ)) → k ∷ ks ≡ l ∷ ls → k ≡ l
heads k l ks ls same = cc

pub tails : (k l : List ℕ) (ks ls : List (List ℕ)) → k ∷ ks ≡ l ∷ ls → ks ≡ ls
tails k l ks ls same = cc

module _ (options : Options) (task : Task) where
  pub come-one : (n : ℕ) (l : List ℕ) (x : LineOutcome) → ComesTo options task n l x
      → ComeTo options task n (l ∷ []) (x ∷ [])
  come-one n l x comes = one_more n l [] x [] comes (none (suc n))

  pub come-append : (n : ℕ) (ls ms : List (List ℕ)) (xs ys : List LineOutcome)
      → ComeTo options task n ls xs → ComeTo options task (n + length ls) ms ys
      → ComeTo options task n (ls ++ ms) (xs ++ ys)
  come-append n ls ms xs ys (none m) after =
      subst (λ k. ComeTo options task k ms ys) (omega arith) after
  come-append n ls ms xs ys (one_more m l more x rest comes come) after =
      one_more n l (more ++ ms) x (rest ++ ys) comes
      (come-append (suc n) more ms rest ys come
      (subst (λ k. ComeTo options task k ms ys) (omega arith) after))

  -- a refusal of a line is seen from what is kept of it
  refused-kept : (n : ℕ) (l : List ℕ) (d : Defect) (r : RefusedLine)
      → IsDefective options task n (kept_of l) d → IsRefusal options n (kept_of l) d r
      → ComesTo options task n l (Refused r)
  refused-kept n l d r (no_document fault few some is known) of =
      subst (λ t. ComesTo options task n t (Refused r)) (kept-all l few)
      (defective d r (no_document fault few some is known) of)
  refused-kept n l d r (too_large many) of =
      defective d r (too_large (kept-many l many))
      (record { number_is = of.number_is; defect_is = of.defect_is; behind = of.behind })
  refused-kept n l d r (steps_used_up doc made few some is limit) of =
      subst (λ t. ComesTo options task n t (Refused r)) (kept-all l few)
      (defective d r (steps_used_up doc made few some is limit) of)
  refused-kept n l d r (too_many_nodes doc few some is beyond) of =
      subst (λ t. ComesTo options task n t (Refused r)) (kept-all l few)
      (defective d r (too_many_nodes doc few some is beyond) of)
  refused-kept n l d r (too_many_bytes doc few some is beyond) of =
      subst (λ t. ComesTo options task n t (Refused r)) (kept-all l few)
      (defective d r (too_many_bytes doc few some is beyond) of)

  -- and so is what a line comes to
  pub comes-kept : (n : ℕ) (l : List ℕ) (x : LineOutcome) → ComesTo options task n (kept_of l) x
      → ComesTo options task n l x
  comes-kept n l x (blank few is) = subst (λ t. ComesTo options task n t x) (kept-all l few) (blank few is)
  comes-kept n l x (document d few some is within) =
      subst (λ t. ComesTo options task n t x) (kept-all l few) (document d few some is within)
  comes-kept n l x (defective d r has of) = refused-kept n l d r has of

  -- a line that is not refused is not too large
  few-one : (n : ℕ) (l : List ℕ) (x : LineOutcome) → ComesTo options task n l x → refusal_in x ≡ []
      → length l ≤ document_limit
  few-one n l x (blank few is) unrefused = few
  few-one n l x (document d few some is within) unrefused = few
  few-one n l x (defective d r has of) unrefused = cc

  -- and so the last one of lines that are not refused is not
  pub few-last : (n : ℕ) (ls : List (List ℕ)) (xs : List LineOutcome) (init : List (List ℕ))
      (last : List ℕ) → ComeTo options task n ls xs → ls ≡ init ++ last ∷ [] → refusals xs ≡ []
      → length last ≤ document_limit
  few-last n ls xs [] last (none m) is unrefused = cc
  few-last n ls xs (l ∷ init) last (none m) is unrefused = cc
  few-last n ls xs [] last (one_more m l more x rest comes come) is unrefused =
      subst (λ t. length t ≤ document_limit) (heads l last more [] is)
      (few-one m l x comes (both-none (refusal_in x) (refusals rest) unrefused).0)
  few-last n ls xs (k ∷ init) last (one_more m l more x rest comes come) is unrefused =
      few-last (suc m) more rest init last come (tails l k more (init ++ last ∷ []) is)
      (both-none (refusal_in x) (refusals rest) unrefused).1
