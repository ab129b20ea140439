-- What is read of a whole text is the path of its steps, or the text is no path: for `read_path`.
use Rattle.std.proofs.Common.{◌≡◌, List, ℕ, false, true, refl, sym, ap, subst, ◌∙◌}
use Rattle.std.proofs.lemmas.Str.{encodes-chars}
use Rattle.std.specs.List.{list_any}
use Rattle.std.specs.Str.{IsUtf8, chars}
use Rattle.jp_reading.specs.Outcome.{State, Outcome, took}
use Rattle.jp_reading.specs.Views.{Fails}
use Rattle.jp_reading.specs.declared.reader.Stop.{Stop}
use Rattle.jp_reading.specs.declared.reader.Stop.TheVariants.{Memory, Syntax, TooDeep}
use Rattle.jp_reading.proofs.States.Again.{start}
use Rattle.jp_document.specs.Location.{Location}
use Rattle.jp_document.specs.Path.{path_of}
use Rattle.jp_document.specs.PathFault.{is_large, IsPathFaultOf, fault_of}
use Rattle.jp_document.specs.Private.PathReading.{path_at}
use Rattle.jp_document.proofs.Paths.LargeIndexes.{any_large-capped, all_small-capped}
use Rattle.jp_document.proofs.Completeness.Paths.{path-complete}
use Rattle.jp_document.proofs.Soundness.Paths.{path-sound}

-- a rule that takes a value does not stop
no_stop : (e : Stop) (o : Outcome Location) (l : Location) (q : State) → o ≡ took l q → Fails e o
    → e ≡ Memory
no_stop Memory o l q is h = refl
no_stop (Syntax n) o l q is h = elim (subst (Fails (Syntax n)) is h) [ ]
no_stop (TooDeep n) o l q is h = elim (subst (Fails (TooDeep n)) is h) [ ]

-- reading stops at no path
pub refused : (text : List ℕ) (e : Stop) → IsUtf8 text → Fails e (path_at (start (chars text)))
    → IsPathFaultOf text (fault_of e)
refused text Memory utf8 h = tt
refused text (Syntax n) utf8 h = λ l is.
    let read = path-complete (chars text) l (encodes-chars text utf8 ∙ is) in
    let same = no_stop (Syntax n) (path_at (start (chars text))) _ read.0 read.1 h in
    cc
refused text (TooDeep n) utf8 h = λ l is.
    let read = path-complete (chars text) l (encodes-chars text utf8 ∙ is) in
    let same = no_stop (TooDeep n) (path_at (start (chars text))) _ read.0 read.1 h in
    cc

-- a path with an index that is too large was read
pub too_large : (text : List ℕ) (l : Location) (q : State) → IsUtf8 text
    → path_at (start (chars text)) ≡ took l q → list_any is_large l ≡ true
    → (m : Location) × (text ≡ path_of m) × (list_any is_large m ≡ true)
too_large text l q utf8 is large =
    let read = path-sound (chars text) q l is in (
      read.0,
      sym (encodes-chars text utf8) ∙ read.2,
      sym (any_large-capped read.0) ∙ ap (list_any is_large) read.1 ∙ large,
    )

-- the path of these very steps was read
pub path_read : (text : List ℕ) (l : Location) (q : State) → IsUtf8 text
    → path_at (start (chars text)) ≡ took l q → list_any is_large l ≡ false → text ≡ path_of l
path_read text l q utf8 is small =
    let read = path-sound (chars text) q l is in
    let same =
    all_small-capped read.0
    (sym (any_large-capped read.0) ∙ ap (list_any is_large) read.1 ∙ small) in
    sym (encodes-chars text utf8) ∙ read.2 ∙ ap path_of (sym same ∙ read.1)
