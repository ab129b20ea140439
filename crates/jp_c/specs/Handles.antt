-- What handles keep, and how they are filled.
use Rattle.std.specs.Prelude.{◌≡◌, ℕ, List, [], Option, None, Some, string_bytes}
use Rattle.jp_check.specs.Numbers.{numbers}
use Rattle.jp_check.specs.declared.profile.Profile.{Profile}
use Rattle.jp_decimal.specs.declared.numbers.Numbers.{Numbers}
use Rattle.jp_document.specs.Exact.{IsDocumentIn}
use Rattle.jp_flat.specs.FlatValue.{document_in}
use Rattle.jp_document.specs.Value.{Value}
use Rattle.jp_tree.specs.Tree.{QueryTree}
use Rattle.jp_tree.specs.Views.{query_of}
use Rattle.jsonpath.specs.Size.{Fits}
use Rattle.jsonpath.specs.declared.fault.FindFault.TheVariants as find
use Rattle.jp_c.specs.Asked.{IsAcceptedInBytes, IsNoDocument}
use Rattle.jp_c.specs.Calls.{IsCheckOutcome, IsPlaceless}
use Rattle.jp_c.specs.Misread.{IsMisreadAt}
use Rattle.jp_c.specs.Numbers.{profile_of}
use Rattle.jp_c.specs.declared.handle.Handle.{Handle}
use Rattle.jp_c.specs.declared.kept.Kept.{Kept}
use Rattle.jp_c.specs.declared.kept.Kept.TheVariants as kept
use Rattle.jp_c.specs.declared.outcome.Outcome as outcome
use Rattle.jp_c.specs.declared.outcome.Outcome.TheVariants.{Text, Usage, Fault, Misread, OtherNumbers}

-- what the handle keeps, if anything
abbrev pub kept_by : Handle → Option Kept
kept_by h = h.held.value

-- the query that is kept, if one is
abbrev pub query_kept : Option Kept → Option QueryTree
query_kept (Some (kept.Query a)) = Some (query_of a.query.query)
query_kept _ = None

-- the profile that the query is accepted in that is kept, if one is
abbrev pub profile_kept : Option Kept → Option Profile
profile_kept (Some (kept.Query a)) = Some a.query.profile
profile_kept _ = None

-- the document that is kept, if one is
abbrev pub document_kept : Option Kept → Option Value
document_kept (Some (kept.Document d)) = Some (document_in d.flat)
document_kept _ = None

-- the numbers with which the document was read that is kept, if one is
abbrev pub numbers_kept : Option Kept → Option Numbers
numbers_kept (Some (kept.Document d)) = Some d.numbers
numbers_kept _ = None

-- of `jp_query_new`: the query is accepted and kept with its profile; or it is refused as `jp_check` does, and
-- nothing is kept
abbrev pub IsQueryMade : ℕ → List ℕ → outcome.Outcome → Option Kept → Type 0
IsQueryMade profile query (Text text) now =
    (p : Profile) × (q : QueryTree) × (profile_of profile ≡ Some p) × IsAcceptedInBytes p query q
    × (string_bytes text ≡ []) × (query_kept now ≡ Some q) × (profile_kept now ≡ Some p)
IsQueryMade profile query o now = IsCheckOutcome profile query o × (now ≡ None)

-- of `jp_document_new`: the bytes are a document with the numbers of the profile, which is kept with these; or no
-- profile has that number, or why the bytes are none, and where, and nothing is kept
abbrev pub IsDocumentMade : ℕ → List ℕ → outcome.Outcome → Option Kept → Type 0
IsDocumentMade profile bytes (Text text) now =
    (p : Profile) × (d : Value) × (profile_of profile ≡ Some p) × IsDocumentIn (numbers p) bytes d × Fits bytes
    × (string_bytes text ≡ []) × (document_kept now ≡ Some d) × (numbers_kept now ≡ Some (numbers p))
IsDocumentMade profile bytes Usage now = (profile_of profile ≡ None) × (now ≡ None)
IsDocumentMade profile bytes (Fault fault) now =
    (p : Profile) × (profile_of profile ≡ Some p) × IsNoDocument (numbers p) bytes fault × (now ≡ None)
    × IsPlaceless fault
IsDocumentMade profile bytes (Misread fault place) now =
    (p : Profile) × (profile_of profile ≡ Some p) × IsNoDocument (numbers p) bytes (find.Document fault)
    × (now ≡ None) × IsMisreadAt (numbers p) bytes place
IsDocumentMade profile bytes OtherNumbers now = ⊥
