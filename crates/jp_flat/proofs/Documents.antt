-- What is read from a whole text is a document: for `Room::read` and `Room::read_at`.
use Rattle.std.proofs.Common.{◌≡◌, ℕ, Bool, true, List, [], IsUtf8, is_some, sym, ap, subst, unwrap_or}
use Rattle.std.proofs.Common.{Option, Some, None, ◌∙◌}
use Rattle.json.specs.Lex.{tokens}
use Rattle.jp_decimal.specs.declared.numbers.Numbers.{Numbers}
use Rattle.jp_decimal.specs.declared.numbers.Numbers.TheVariants.{Whole, Decimal}
use Rattle.jp_document.specs.Location.{Location}
use Rattle.jp_document.specs.Value.{IsDocumentValue, Value, null}
use Rattle.jp_document.proofs.Descent.Nodes.{IsDocumentValue-at}
use Rattle.jp_reading.proofs.Conjunctions.{and-both}
use Rattle.jp_flat.proofs.ReadValues.{document-by, valid-by}
use Rattle.jp_flat.proofs.Rounds.{reads-all}
use Rattle.jp_flat.specs.Flat.{Shown, is_flat, meaning, shown}
use Rattle.jp_document.specs.OfJson.{most_levels}
use Rattle.jp_flat.specs.FlatValue.{IsValueAt}
use Rattle.jp_document.specs.Exact.{IsDocumentBy, IsDocumentIn}
use Rattle.jp_document.specs.NumberTexts.{numbers_of}
use Rattle.jp_flat.specs.Private.FromTokens.{ReadsText}
use Rattle.jp_flat.specs.Private.Found.{FindsAt, FindsInText}
use Rattle.jp_flat.specs.Private.Reading.{ReadsFlat, ReadsFlatText}
use Rattle.jp_flat.specs.Private.Modes.{is_exact}
use Rattle.jp_flat.specs.declared.flat.Flat.{Flat}
use Rattle.jp_flat.specs.declared.item.Item.{Item}

pub in-numbers : (n : Numbers) (bytes : List ℕ) (v : Value) → IsDocumentBy (is_exact n) bytes v
    → IsDocumentIn n bytes v
in-numbers Whole bytes v x = x
in-numbers Decimal bytes v x = x

pub flat-all : (s : List ℕ) (t : Shown) (i : Item) → ReadsFlat most_levels (tokens s) [] t i
    → ReadsFlatText s t i
flat-all s t i x = record {
  value = x.value;
  reads = reads-all s x.value x.reads;
  short = x.short;
  means = x.means;
}

pub flat-document : (b : Bool) (bytes : List ℕ) (t : Shown) (i : Item) → t.exact ≡ b → IsUtf8 bytes
    → ReadsFlatText bytes t i → IsDocumentBy b bytes (meaning t i)
flat-document b bytes t i mode utf8 x =
    let same : meaning t i ≡ x.value = ap (λ o. unwrap_or o null) x.means in
    subst (IsDocumentBy b bytes) (sym same)
    (document-by b bytes x.value utf8
    (subst (λ e. ReadsText (numbers_of e) bytes x.value) mode x.reads) x.short)

pub flat-sound : (b : Bool) (bytes : List ℕ) (t : Shown) (i : Item) → t.exact ≡ b → IsUtf8 bytes
    → ReadsFlatText bytes t i → is_flat t i ≡ true
flat-sound b bytes t i mode utf8 x =
    and-both _ _ (ap is_some x.means)
    (valid-by b bytes (meaning t i) (flat-document b bytes t i mode utf8 x))

-- ---- one value of a document

pub finds-all : (s : List ℕ) (t : Shown) (l : Location) (i : Option Item)
    → FindsAt most_levels (tokens s) [] t (Some l) i → FindsInText s t l i
finds-all s t l i x = record {
  value = x.value;
  reads = reads-all s x.value x.reads;
  short = x.short;
  found = x.found;
}

module _ (n : Numbers) (bytes : List ℕ) (t : Shown) (l : Location) (mode : t.exact ≡ is_exact n)
    (utf8 : IsUtf8 bytes)
  where
    document-found : (i : Option Item) (x : FindsInText bytes t l i)
        → IsDocumentBy (is_exact n) bytes x.value
    document-found i x =
        document-by (is_exact n) bytes x.value utf8
        (subst (λ e. ReadsText (numbers_of e) bytes x.value) mode x.reads) x.short

    meaning-found : (i : Item) (x : FindsInText bytes t l (Some i)) → meaning t i ≡ x.found.0
    meaning-found i x = ap (λ o. unwrap_or o null) x.found.2

    pub found-sound : (i : Item) → FindsInText bytes t l (Some i) → is_flat t i ≡ true
    found-sound i x =
        and-both _ _ (ap is_some x.found.2)
        (subst IsDocumentValue (sym (meaning-found i x))
        (IsDocumentValue-at x.value x.found.0 l
        (valid-by (is_exact n) bytes x.value (document-found (Some i) x)) x.found.1))

    pub value-found : (f : Flat) → FindsInText bytes t l (Some f.root) → shown f.tables ≡ t
        → IsValueAt n bytes l (Some f)
    value-found f x same = record {
      document = x.value;
      is = in-numbers n bytes x.value (document-found (Some f.root) x);
      at = x.found.1 ∙ ap Some (sym (ap (λ u. meaning u f.root) same ∙ meaning-found f.root x));
    }

    pub none-found : FindsInText bytes t l None → IsValueAt n bytes l None
    none-found x = record {
      document = x.value;
      is = in-numbers n bytes x.value (document-found None x);
      at = x.found;
    }
