-- Which texts lead the automaton from where to where: by the forms of ABNF.
use Rattle.std.proofs.Common.{◌≡◌, ℕ, zero, suc, Bool, true, List, [], ◌∷◌, ◌++◌, inl, inr}
use Rattle.std.proofs.Common.{refl, append_assoc}
use Rattle.jp_reading.specs.Forms.{AllPassing}
use Rattle.jp_reading.specs.Texts.{Text}
use Rattle.jp_json.specs.Language.{Language, word, One, ◌⌢◌, Either, Optional, Times, Any}
use Rattle.jp_json.specs.declared.state.Level.{Level}
use Rattle.jp_json.specs.declared.state.State.{State}
use Rattle.jp_json.specs.Private.Machine.{move, on, accepts}

-- where the automaton is
pub record Config : Type 0 where
  pub spare : ℕ
  pub open_levels : List Level
  pub state : State

abbrev pub at : ℕ → List Level → State → Config
at n k s = record { spare = n; open_levels = k; state = s }

abbrev pub takes : Config → Text → Bool
takes x t = accepts x.spare x.open_levels x.state t

-- a text of the language, and then one that is accepted from the one, is accepted from the other
pub record Leads (x : Config) (P : Language) (y : Config) : Type 0 where
  pub ahead : (t r : Text) → P t → takes y r ≡ true → takes x (t ++ r) ≡ true

pub nothing : (x : Config) → Leads x (word []) x
nothing x = record { ahead = λ t r h a. rw h a }

pub then : {x y z : Config} {P Q : Language} → Leads x P y → Leads y Q z → Leads x (P ⌢ Q) z
then {x} {y} {z} {P} {Q} p q = record {
  ahead = λ t r h a.
      rw (h.is, append_assoc h.first h.second r)
      (p.ahead h.first (h.second ++ r) h.one (q.ahead h.second r h.two a));
}

pub either : {x y : Config} {P Q : Language} → Leads x P y → Leads x Q y → Leads x (Either P Q) y
either p q = record {
  ahead = λ t r h a. elim h [ inl one ↦ p.ahead t r one a | inr two ↦ q.ahead t r two a ];
}

pub either-then : {x y : Config} {P Q R : Language} → Leads x (P ⌢ R) y → Leads x (Q ⌢ R) y
    → Leads x (Either P Q ⌢ R) y
either-then {x} {y} {P} {Q} {R} p q = record {
  ahead = λ t r h a.
      elim h.one [
        | inl one ↦
            p.ahead t r (record { first = h.first; second = h.second; is = h.is; one = one; two = h.two }) a
        | inr two ↦
            q.ahead t r (record { first = h.first; second = h.second; is = h.is; one = two; two = h.two }) a
      ];
}

-- without a text from the one to the other, and on
pub onward : {x y z : Config} {P : Language} → Leads x (word []) y → Leads y P z → Leads x P z
onward p q = record { ahead = λ t r h a. p.ahead [] (t ++ r) refl (q.ahead t r h a) }

-- on, and then without a text from the one to the other
pub until : {x y z : Config} {P : Language} → Leads x P y → Leads y (word []) z → Leads x P z
until p q = record { ahead = λ t r h a. p.ahead t r h (q.ahead [] r refl a) }

pub optional-then : {x y : Config} {P R : Language} → Leads x R y → Leads x (P ⌢ R) y
    → Leads x (Optional P ⌢ R) y
optional-then {x} {y} {P} {R} without with_it = either-then (then (nothing x) without) with_it

any-times : (n : ℕ) {x : Config} {P : Language} → Leads x P x → Leads x (Times n P) x
any-times zero {x} p = nothing x
any-times (suc n) p = then p (any-times n p)

pub any : {x : Config} {P : Language} → Leads x P x → Leads x (Any P) x
any p = record { ahead = λ t r h a. (any-times h.times p).ahead t r h.is a }

pub one : {n m : ℕ} {k j : List Level} {s e : State} {ok : ℕ → Bool}
    → ((c : ℕ) → ok c ≡ true → move n k s c ≡ on m j e)
    → Leads (at n k s) (One ok) (at m j e)
one moves = record { ahead = λ t r h a. rw (h.is, moves h.character h.passes) a }

pub sign : {n m : ℕ} {k j : List Level} {s e : State} (c : ℕ) → move n k s c ≡ on m j e
    → Leads (at n k s) (word (c ∷ [])) (at m j e)
sign c moves = record { ahead = λ t r h a. rw (h, moves) a }

all-passing : {n : ℕ} {k : List Level} {s : State} {ok : ℕ → Bool}
    → ((c : ℕ) → ok c ≡ true → move n k s c ≡ on n k s) → (t r : Text) → AllPassing ok t
    → accepts n k s r ≡ true
    → accepts n k s (t ++ r) ≡ true
all-passing moves [] r h a = a
all-passing moves (c ∷ t) r h a = rw (moves c h.0) (all-passing moves t r h.1 a)

pub passing : {n : ℕ} {k : List Level} {s : State} {ok : ℕ → Bool}
    → ((c : ℕ) → ok c ≡ true → move n k s c ≡ on n k s)
    → Leads (at n k s) (AllPassing ok) (at n k s)
passing moves = record { ahead = all-passing moves }
