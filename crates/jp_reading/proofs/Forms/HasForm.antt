-- Texts that have a form wherever they stand.
use Rattle.std.proofs.Common.{◌≡◌, ℕ, ◌+◌, Bool, true, List, [], ◌∷◌, ◌++◌, refl, subst}
use Rattle.std.specs.List.{flat_map}
use Rattle.jp_reading.specs.Forms.{AllPassing, Each, Form, One, word, ◌⌢◌}
use Rattle.jp_reading.specs.Texts.{Spans, Text, bytes}
use Rattle.jp_reading.proofs.States.Between.{Reads}
use Rattle.jp_reading.proofs.States.Again.{start, finish, reads-whole}

-- the text has the form at each byte, with some spans
pub record HasForm (P : Form) (t : Text) : Type 0 where
  pub at : (o : ℕ) → (s : Spans) × P s o t

pub has-word : (w : Text) → HasForm (word w) w
has-word w = record { at = λ o. ([], record { none = refl; is = refl }) }

pub has-one : (ok : ℕ → Bool) (c : ℕ) → ok c ≡ true → HasForm (One ok c) (c ∷ [])
has-one ok c passes = record { at = λ o. ([], record { none = refl; is = refl; passes = passes }) }

pub both : {P Q : Form} {t u : Text} → HasForm P t → HasForm Q u → HasForm (P ⌢ Q) (t ++ u)
both {t} {u} one two = record {
  at = λ o.
      let a = one.at o in
      let b = two.at (o + bytes t) in (
        a.0 ++ b.0,
        record {
          first_spans = a.0;
          second_spans = b.0;
          first = t;
          second = u;
          spans = refl;
          is = refl;
          one = a.1;
          two = b.1;
        },
      );
}

-- one form as another
pub has-as : {P Q : Form} {t : Text} → ((s : Spans) (o : ℕ) → P s o t → Q s o t) → HasForm P t
    → HasForm Q t
has-as f h = record { at = λ o. let a = h.at o in (a.0, f a.0 o a.1) }

-- a text as an equal one
pub has-same : {P : Form} {t u : Text} → t ≡ u → HasForm P t → HasForm P u
has-same {P} e h = subst (HasForm P) e h

pub has-all : {A : Type 0} (Q : A → Form) (f : A → Text) → ((x : A) → HasForm (Q x) (f x))
    → (xs : List A) → HasForm (Each Q xs) (flat_map f xs)
has-all Q f has [] = has-word []
has-all Q f has (x ∷ xs) = both (has x) (has-all Q f has xs)

pub has-each_passing : (ok : ℕ → Bool) (cs : Text) → AllPassing ok cs
    → HasForm (Each (One ok) cs) cs
has-each_passing ok [] all = has-word []
has-each_passing ok (c ∷ cs) all = both (has-one ok c all.0) (has-each_passing ok cs all.1)

-- a whole text
pub reads-all : {P : Form} {t : Text} (h : HasForm P t) → Reads P (start t) (finish t (h.at 0).0)
reads-all {P} {t} h = reads-whole P (h.at 0).0 t (h.at 0).1
