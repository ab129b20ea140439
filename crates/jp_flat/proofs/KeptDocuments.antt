-- What is kept of a whole text that is a document: for `Room::read_asked`.
use Rattle.std.proofs.Common.{◌≡◌, ℕ, Bool, true, List, [], IsUtf8, inl, inr, is_some, refl, sym, ap, subst}
use Rattle.std.proofs.Common.{string_bytes, unwrap_or, ◌∙◌}
use Rattle.json.specs.Lex.{tokens}
use Rattle.jp_decimal.specs.declared.numbers.Numbers.{Numbers}
use Rattle.jp_document.specs.Value.{IsDocumentValue, Value, null}
use Rattle.jp_reading.proofs.Conjunctions.{and-both}
use Rattle.jp_flat.specs.Asked.{IsKept, IsReadFor, IsThinned, is_listed}
use Rattle.jp_flat.specs.Flat.{Shown, is_flat, meaning, shown}
use Rattle.jp_document.specs.OfJson.{most_levels}
use Rattle.jp_document.specs.Exact.{IsDocumentBy}
use Rattle.jp_document.specs.NumberTexts.{numbers_of}
use Rattle.jp_flat.specs.Private.FromTokens.{ReadsText}
use Rattle.jp_flat.specs.Private.Kept.{KeepsFlat, KeepsFlatText}
use Rattle.jp_flat.specs.declared.asked.AskedFor.{AskedFor}
use Rattle.jp_flat.specs.declared.asked.AskedFor.TheVariants.{Anywhere, OfItems, OfRoot}
use Rattle.jp_flat.specs.declared.flat.Flat.{Flat}
use Rattle.jp_flat.specs.declared.item.Item.{Item}
use Rattle.jp_flat.specs.Private.Modes.{is_exact}
use Rattle.jp_flat.proofs.Documents.{in-numbers}
use Rattle.jp_flat.proofs.Picked.{members-allowed, picked-allowed}
use Rattle.jp_flat.proofs.ReadValues.{document-by, valid-by}
use Rattle.jp_flat.proofs.Rounds.{reads-all}
use Rattle.jp_flat.proofs.Thinned.{allowed-thinned}

-- all of a value may be kept
pub kept-whole : (asked : AskedFor) (v : Value) → IsKept asked v v
kept-whole (OfRoot names) v = inl refl
kept-whole (OfItems names) v = inl refl
kept-whole (Anywhere name) v = IsThinned.all v

pub kept-text : (asked : AskedFor) (s : List ℕ) (t : Shown) (i : Item)
    → KeepsFlat (IsKept asked) most_levels (tokens s) [] t i → KeepsFlatText asked s t i
kept-text asked s t i x = record {
  value = x.value;
  kept = x.kept;
  reads = reads-all s x.value x.reads;
  short = x.short;
  keeps = x.keeps;
  means = x.means;
}

-- what is kept of a document's value may be a document's value
kept-allowed : (asked : AskedFor) (v u : Value) → IsKept asked v u → IsDocumentValue v
    → IsDocumentValue u
kept-allowed (OfRoot names) v u (inl same) valid = subst IsDocumentValue (sym same) valid
kept-allowed (OfRoot names) v u (inr is) valid =
    subst IsDocumentValue (sym is) (members-allowed (is_listed names.items) v valid)
kept-allowed (OfItems names) v u (inl same) valid = subst IsDocumentValue (sym same) valid
kept-allowed (OfItems names) v u (inr is) valid =
    subst IsDocumentValue (sym is) (picked-allowed (is_listed names.items) v valid)
kept-allowed (Anywhere name) v u is valid = allowed-thinned (string_bytes name) v u is valid

meaning-kept : (asked : AskedFor) (bytes : List ℕ) (t : Shown) (i : Item)
    (x : KeepsFlatText asked bytes t i) → meaning t i ≡ x.kept
meaning-kept asked bytes t i x = ap (λ o. unwrap_or o null) x.means

document-kept : (asked : AskedFor) (b : Bool) (bytes : List ℕ) (t : Shown) (i : Item) → t.exact ≡ b
    → IsUtf8 bytes → (x : KeepsFlatText asked bytes t i) → IsDocumentBy b bytes x.value
document-kept asked b bytes t i mode utf8 x =
    document-by b bytes x.value utf8
    (subst (λ e. ReadsText (numbers_of e) bytes x.value) mode x.reads) x.short

pub kept-sound : (asked : AskedFor) (b : Bool) (bytes : List ℕ) (t : Shown) (i : Item) → t.exact ≡ b
    → IsUtf8 bytes
    → KeepsFlatText asked bytes t i → is_flat t i ≡ true
kept-sound asked b bytes t i mode utf8 x =
    let valid = valid-by b bytes x.value (document-kept asked b bytes t i mode utf8 x) in
    and-both _ _ (ap is_some x.means)
    (subst IsDocumentValue (sym (meaning-kept asked bytes t i x))
    (kept-allowed asked x.value x.kept x.keeps valid))

pub kept-document : (asked : AskedFor) (n : Numbers) (bytes : List ℕ) (f : Flat) (t : Shown)
    → t.exact ≡ is_exact n → IsUtf8 bytes
    → shown f.tables ≡ t → KeepsFlatText asked bytes t f.root → IsReadFor n asked bytes f
kept-document asked n bytes f t mode utf8 same x = record {
  document = x.value;
  is = in-numbers n bytes x.value (document-kept asked (is_exact n) bytes t f.root mode utf8 x);
  kept =
      subst (IsKept asked x.value)
      (sym (ap (λ s. meaning s f.root) same ∙ meaning-kept asked bytes t f.root x)) x.keeps;
}
