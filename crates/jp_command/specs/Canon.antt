-- What a run that writes a canonical text says with its answer.
use Rattle.std.specs.Prelude.{ℕ, Bool, List, ◌++◌, Option, Result, codes}
use Rattle.std.specs.Str.{encode_utf8_all}
use Rattle.jp_canon.specs.Canon.{canon_of}
use Rattle.jp_check.specs.declared.profile.Profile.{Profile}
use Rattle.jp_tree.specs.Tree.{QueryTree}
use Rattle.jp_command.specs.QueryLine.{RunsQueryLine}
use Rattle.jp_command.specs.declared.fault.Fault.{Fault}

-- the canonical text of a query in UTF-8, which a newline ends
abbrev pub canon_line : QueryTree → List ℕ
canon_line q = encode_utf8_all (canon_of q) ++ codes "\n"

-- what such a run says with its answer: o and p are the output before and after it
module _ (profile : Profile) {W : Type 0} (contents : W → Option (List ℕ))
    (has_failed : W → Bool) where
  abbrev pub RunsCanon : {X : Type 0} → List ℕ → W → W → Result X Fault → Type 0
  RunsCanon = RunsQueryLine profile canon_line contents has_failed
