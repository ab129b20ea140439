-- Whatever members are to come, they complete those that were read from tokens: for the loop of
-- `members`; and what was read of a whole text: for `Room::read`.
use Rattle.std.proofs.Common.{◌≡◌, ℕ, ◌-◌, ◌<◌, ◌≤◌, true, List, [], length, Option}
use Rattle.std.proofs.Common.{Bool, Some, None, refl, subst, sym, ◌∙◌}
use Rattle.std.specs.BTreeMap.{insert_entry}
use Rattle.json.specs.Token.{Token}
use Rattle.json.specs.Json.{read_key, members, value}
use Rattle.std.specs.Prelude.{IsUtf8}
use Rattle.jp_document.specs.OfJson.{members_of_json}
use Rattle.jp_flat.specs.Private.FromTokens.{ReadsMembers, ReadsText, ReadsValue, converted}
use Rattle.jp_document.specs.NumberTexts.{numbers_of, whole_number}
use Rattle.jp_document.specs.Document.{IsDocument}
use Rattle.jp_document.specs.Value.{Value, everywhere, everywhere_in_members}
use Rattle.jp_document.specs.Value.{members_of, names_of, names_rise, list_fits, null, boolean}
use Rattle.jp_document.specs.Value.{whole, decimal, text, list, object}
use Rattle.jp_flat.specs.Private.Bounded.{is_bounded}
use Rattle.jp_flat.proofs.AsData.{data_from_json}
use Rattle.jp_flat.proofs.Rounds.{member_round, members_over}
use Rattle.jp_flat.proofs.Inserting.{insert_rises, insert_sound}
use Rattle.jp_document.proofs.Descent.Inside.{everywhere-weaker}
use Rattle.jp_document.proofs.Members.ByName.{bytes_cmp}
use Rattle.jp_document.proofs.Readings.Defects.{document_by}

-- ---- members

-- the members so far, and the members to come
pub record MembersAhead (N : List ℕ → Option Value) (depth : ℕ) (initial : List Token) (n : ℕ)
    (ts : List Token) (found : List (List ℕ × Value)) : Type 0 where
  pub ahead : converted (λ js. members_of_json N js [])
      (members (value depth) (length initial) initial) ≡
      converted (λ js. members_of_json N js found) (members (value depth) n ts)
  pub rise : names_rise (names_of (members_of found)) ≡ true
  pub short : everywhere_in_members is_bounded (members_of found) ≡ true

pub ahead_member : {N : List ℕ → Option Value} (depth : ℕ) (initial : List Token) (n : ℕ)
    (k : List ℕ) (ts s r : List Token) (found : List (List ℕ × Value)) (v : Value) → 0 < n
    → read_key ts ≡ Some (Some k, s) → ReadsValue N depth s r v → everywhere is_bounded v ≡ true
    → MembersAhead N depth initial n ts found
    → MembersAhead N depth initial (n - 1) r (insert_entry bytes_cmp found k v)
ahead_member depth initial n k ts s r found v some key x short so = record {
  ahead = so.ahead ∙ member_round depth n found k ts s r v x some key;
  rise = insert_rises found k v so.rise;
  short = insert_sound is_bounded found k v so.short short;
}

pub ahead_members_end : {N : List ℕ → Option Value} (depth : ℕ) (initial : List Token) (n : ℕ)
    (ts r : List Token) (found : List (List ℕ × Value)) → length ts ≤ n
    → read_key ts ≡ Some (None, r) → MembersAhead N depth initial n ts found
    → ReadsMembers N depth (length initial) initial r found
ahead_members_end {N = N} depth initial n ts r found enough over so =
    record { read = so.ahead ∙ members_over N depth n found ts r enough over }

-- the same where as much is taken
pub ahead-in : (b c : Bool) (depth : ℕ) (initial : List Token) (n : ℕ) (ts : List Token)
    (found : List (List ℕ × Value)) → c ≡ b → MembersAhead (numbers_of b) depth initial n ts found
    → MembersAhead (numbers_of c) depth initial n ts found
ahead-in b c depth initial n ts found same so =
    subst (λ e. MembersAhead (numbers_of e) depth initial n ts found) (sym same) so

-- ---- documents

bounded-fits : (v : Value) → is_bounded v ≡ true → list_fits v ≡ true
bounded-fits (list vs) short = short
bounded-fits null short = refl
bounded-fits (boolean b) short = refl
bounded-fits (whole z) short = refl
bounded-fits (decimal c e) short = refl
bounded-fits (text s) short = refl
bounded-fits (object ms) short = refl

pub document_from_text : (bytes : List ℕ) (v : Value) → IsUtf8 bytes
    → ReadsText whole_number bytes v → everywhere is_bounded v ≡ true → IsDocument bytes v
document_from_text bytes v utf8 x short =
    let d = data_from_json bytes v x in
    document_by bytes d.0 v (record { utf8 = utf8; reading = d.1 }) d.2
    (everywhere-weaker is_bounded list_fits bounded-fits v short)
