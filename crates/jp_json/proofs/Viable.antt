-- Where the automaton stops, the longest viable prefix ends.
use Rattle.std.proofs.Common.{◌≡◌, ℕ, zero, suc, Bool, true, false, List, [], ◌∷◌, ◌++◌, refl}
use Rattle.std.proofs.Common.{ap, sym, append-nil, ◌∙◌}
use Rattle.jp_reading.specs.Texts.{Text, is_blank}
use Rattle.jp_reading.specs.Numbers.{is_digit}
use Rattle.jp_json.specs.Grammar.{json_text}
use Rattle.jp_json.specs.ViablePrefix.{IsViablePrefix, IsNoViablePrefix}
use Rattle.jp_json.specs.declared.state.Level.{Level}
use Rattle.jp_json.specs.declared.state.Level.TheVariants.{Array, Object}
use Rattle.jp_json.specs.declared.state.Role.{Role}
use Rattle.jp_json.specs.declared.state.Role.TheVariants.{Key, Plain}
use Rattle.jp_json.specs.declared.state.Part.{Part}
use Rattle.jp_json.specs.declared.state.Part.TheVariants.{Minus, Zero, Whole, Point, Fraction}
use Rattle.jp_json.specs.declared.state.Part.TheVariants.{Exponent, Sign, Power}
use Rattle.jp_json.specs.declared.state.Letters.{Letters as Wants}
use Rattle.jp_json.specs.declared.state.Letters.TheVariants.{Rue, Ue, E, Alse, Lse, Se, Ull, Ll, L}
use Rattle.jp_json.specs.declared.state.Wanted.{Wanted}
use Rattle.jp_json.specs.declared.state.Wanted.TheVariants.{Four, Three, Two, Last}
use Rattle.jp_json.specs.declared.state.State.{State}
use Rattle.jp_json.specs.declared.state.State.TheVariants.{Value, Item, Member, Name, Colon, After}
use Rattle.jp_json.specs.declared.state.State.TheVariants.{Text as InText, Escape, Hex, Number}
use Rattle.jp_json.specs.declared.state.State.TheVariants.{Letters}
use Rattle.jp_json.specs.declared.state.Step.{Step}
use Rattle.jp_json.specs.declared.state.Step.TheVariants.{Go, Open, Close, Stuck}
use Rattle.jp_json.specs.Private.Machine.{top, Moved, on, stuck, deep, moved, move, from, walk, accepts}
use Rattle.jp_json.specs.Private.Machine.{is_final, past_text, step}
use Rattle.jp_json.proofs.Accepted.{text-accepted, ends-text}
use Rattle.jp_json.proofs.Rest.{letters}
use Rattle.jp_json.proofs.Written.{accepted-text}

-- ---- from everywhere some text is accepted

-- what closes the open levels
closers : List Level → Text
closers [] = []
closers (Array ∷ k) = 93 ∷ closers k
closers (Object ∷ k) = 125 ∷ closers k

closers-accepted : (n : ℕ) (k : List Level) → accepts n k After (closers k) ≡ true
unfolding closers is_blank
closers-accepted n [] = refl
closers-accepted n (Array ∷ k) = closers-accepted (suc n) k
closers-accepted n (Object ∷ k) = closers-accepted (suc n) k

past_role : List Level → Role → Text
past_role k Key = 58 ∷ 48 ∷ closers k
past_role k Plain = closers k

past_role-accepted : (n : ℕ) (k : List Level) (r : Role)
    → accepts n k (past_text r) (past_role k r) ≡ true
unfolding past_role is_blank
past_role-accepted n k Key = ends-text n k Zero (closers k) refl (closers-accepted n k)
past_role-accepted n k Plain = closers-accepted n k

number_ending : List Level → Part → Text
number_ending k Minus = 48 ∷ closers k
number_ending k Zero = closers k
number_ending k Whole = closers k
number_ending k Point = 48 ∷ closers k
number_ending k Fraction = closers k
number_ending k Exponent = 48 ∷ closers k
number_ending k Sign = 48 ∷ closers k
number_ending k Power = closers k

number_ending-accepted : (n : ℕ) (k : List Level) (p : Part)
    → accepts n k (Number p) (number_ending k p) ≡ true
unfolding number_ending is_digit
number_ending-accepted n k Minus = ends-text n k Zero (closers k) refl (closers-accepted n k)
number_ending-accepted n k Zero = ends-text n k Zero (closers k) refl (closers-accepted n k)
number_ending-accepted n k Whole = ends-text n k Whole (closers k) refl (closers-accepted n k)
number_ending-accepted n k Point = ends-text n k Fraction (closers k) refl (closers-accepted n k)
number_ending-accepted n k Fraction = ends-text n k Fraction (closers k) refl (closers-accepted n k)
number_ending-accepted n k Exponent = ends-text n k Power (closers k) refl (closers-accepted n k)
number_ending-accepted n k Sign = ends-text n k Power (closers k) refl (closers-accepted n k)
number_ending-accepted n k Power = ends-text n k Power (closers k) refl (closers-accepted n k)

hex_ending : List Level → Role → Wanted → Text
hex_ending k r Four = 48 ∷ 48 ∷ 48 ∷ 48 ∷ 34 ∷ past_role k r
hex_ending k r Three = 48 ∷ 48 ∷ 48 ∷ 34 ∷ past_role k r
hex_ending k r Two = 48 ∷ 48 ∷ 34 ∷ past_role k r
hex_ending k r Last = 48 ∷ 34 ∷ past_role k r

hex_ending-accepted : (n : ℕ) (k : List Level) (r : Role) (w : Wanted)
    → accepts n k (Hex r w) (hex_ending k r w) ≡ true
unfolding hex_ending is_digit
hex_ending-accepted n k r Four = past_role-accepted n k r
hex_ending-accepted n k r Three = past_role-accepted n k r
hex_ending-accepted n k r Two = past_role-accepted n k r
hex_ending-accepted n k r Last = past_role-accepted n k r

letters-accepted : (n : ℕ) (k : List Level) (w : Wants)
    → accepts n k (Letters w) (letters w ++ closers k) ≡ true
letters-accepted n k Rue = closers-accepted n k
letters-accepted n k Ue = closers-accepted n k
letters-accepted n k E = closers-accepted n k
letters-accepted n k Alse = closers-accepted n k
letters-accepted n k Lse = closers-accepted n k
letters-accepted n k Se = closers-accepted n k
letters-accepted n k Ull = closers-accepted n k
letters-accepted n k Ll = closers-accepted n k
letters-accepted n k L = closers-accepted n k

some_ending : (n : ℕ) (k : List Level) (s : State) → (u : Text) × (accepts n k s u ≡ true)
unfolding is_digit is_blank
some_ending n k Value = (48 ∷ closers k, ends-text n k Zero (closers k) refl (closers-accepted n k))
some_ending n k Item = (48 ∷ closers k, ends-text n k Zero (closers k) refl (closers-accepted n k))
some_ending n k Member = (34 ∷ 34 ∷ past_role k Key, past_role-accepted n k Key)
some_ending n k Name = (34 ∷ 34 ∷ past_role k Key, past_role-accepted n k Key)
some_ending n k Colon = (past_role k Key, past_role-accepted n k Key)
some_ending n k After = (closers k, closers-accepted n k)
some_ending n k (InText r) = (34 ∷ past_role k r, past_role-accepted n k r)
some_ending n k (Escape r) = (110 ∷ 34 ∷ past_role k r, past_role-accepted n k r)
some_ending n k (Hex r w) = (hex_ending k r w, hex_ending-accepted n k r w)
some_ending n k (Number p) = (number_ending k p, number_ending-accepted n k p)
some_ending n k (Letters w) = (letters w ++ closers k, letters-accepted n k w)

-- ---- on the way

abbrev accepted_from : Text → Moved → Bool
accepted_from u (on m j e) = accepts m j e u
accepted_from u stuck = false
accepted_from u deep = false

-- what is accepted after a text is accepted with it
walk-accepts : (t : Text) (n m : ℕ) (k j : List Level) (s e : State) (u : Text)
    → walk n k s t ≡ on m j e
    → accepts n k s (t ++ u) ≡ accepts m j e u
walk-accepts [] n m k j s e u h = ends h
  where
    ends : on n k s ≡ on m j e → accepts n k s u ≡ accepts m j e u
    ends h = ap (accepted_from u) h
walk-accepts (c ∷ t) n m k j s e u h =
    gone (move n k s c) (λ a b d g. walk-accepts t a m b j d e u g) h
  where
    gone : (y : Moved)
        → ((a : ℕ) (b : List Level) (d : State) → walk a b d t ≡ on m j e
        → accepts a b d (t ++ u) ≡ accepts m j e u)
        → from stuck deep y (λ a b d. walk a b d t) ≡ on m j e
        → from false false y (λ a b d. accepts a b d (t ++ u)) ≡ accepts m j e u
    gone (on a b d) more h = more a b d h
    gone stuck more h = cc
    gone deep more h = cc

-- where the automaton goes on after a text, that is a viable prefix
pub viable : (n m : ℕ) (j : List Level) (e : State) (t : Text) → walk n [] Value t ≡ on m j e
    → IsViablePrefix n t
viable n m j e t h =
    let last = some_ending m j e in
    (last.0, accepted-text n (t ++ last.0) (walk-accepts t n m [] j Value e last.0 h ∙ last.1))

-- with fewer levels to spare or more: a text at which the automaton is stuck is never accepted
stuck-rejects : (t : Text) (n m : ℕ) (k : List Level) (s : State) (u : Text)
    → walk n k s t ≡ stuck
    → accepts m k s (t ++ u) ≡ false
stuck-rejects [] n m k s u h = cc
stuck-rejects (c ∷ t) n m k s u h =
    gone (step (top k) s c) n m k (λ a b j e g. stuck-rejects t a b j e u g) h
  where
    gone : (x : Step) (n m : ℕ) (k : List Level)
        → ((a b : ℕ) (j : List Level) (e : State) → walk a j e t ≡ stuck
        → accepts b j e (t ++ u) ≡ false)
        → from stuck deep (moved n k x) (λ a j e. walk a j e t) ≡ stuck
        → from false false (moved m k x) (λ b j e. accepts b j e (t ++ u)) ≡ false
    gone (Go e) n m k more h = more n m k e h
    gone (Open l) zero m k more h = cc
    gone (Open l) (suc n) zero k more h = refl
    gone (Open l) (suc n) (suc m) k more h = more n m (l ∷ k) _ h
    gone Close n m [] more h = refl
    gone Close n m (l ∷ k) more h = more (suc n) (suc m) k _ h
    gone Stuck n m k more h = refl

-- where the automaton is stuck, no JSON text goes on
pub no_viable : (n : ℕ) (t : Text) → walk n [] Value t ≡ stuck → IsNoViablePrefix t
no_viable n t h m v =
    let no : true ≡ false
    = sym (text-accepted m (t ++ v.0) v.1) ∙ stuck-rejects t n m [] Value v.0 h in cc

-- a text that goes a level too deep is not accepted
deep-rejects : (t : Text) (n : ℕ) (k : List Level) (s : State) (u : Text) → walk n k s t ≡ deep
    → accepts n k s (t ++ u) ≡ false
deep-rejects [] n k s u h = cc
deep-rejects (c ∷ t) n k s u h = gone (move n k s c) (λ m j e g. deep-rejects t m j e u g) h
  where
    gone : (y : Moved)
        → ((m : ℕ) (j : List Level) (e : State) → walk m j e t ≡ deep
        → accepts m j e (t ++ u) ≡ false)
        → from stuck deep y (λ m j e. walk m j e t) ≡ deep
        → from false false y (λ m j e. accepts m j e (t ++ u)) ≡ false
    gone (on m j e) more h = more m j e h
    gone stuck more h = cc
    gone deep more h = refl

pub not_viable : (n : ℕ) (t : Text) → walk n [] Value t ≡ deep → IsViablePrefix n t → ⊥
not_viable n t h v =
    let no : true ≡ false
    = sym (text-accepted n (t ++ v.0) v.1) ∙ deep-rejects t n [] Value v.0 h in cc

-- ---- with a level more

-- with a level more the automaton goes the same way
abbrev raised : Moved → Moved
raised (on m j e) = on (suc m) j e
raised stuck = stuck
raised deep = deep

walk-raised : (t : Text) (n m : ℕ) (k j : List Level) (s e : State) → walk n k s t ≡ on m j e
    → walk (suc n) k s t ≡ on (suc m) j e
walk-raised [] n m k j s e h = up h
  where
    up : on n k s ≡ on m j e → on (suc n) k s ≡ on (suc m) j e
    up h = ap raised h
walk-raised (c ∷ t) n m k j s e h =
    gone (step (top k) s c) n k (λ a b d g. walk-raised t a m b j d e g) h
  where
    gone : (x : Step) (n : ℕ) (k : List Level)
        → ((a : ℕ) (b : List Level) (d : State) → walk a b d t ≡ on m j e
        → walk (suc a) b d t ≡ on (suc m) j e)
        → from stuck deep (moved n k x) (λ a b d. walk a b d t) ≡ on m j e
        → from stuck deep (moved (suc n) k x) (λ a b d. walk a b d t) ≡ on (suc m) j e
    gone (Go d) n k more h = more n k d h
    gone (Open l) zero k more h = cc
    gone (Open l) (suc n) k more h = more n (l ∷ k) _ h
    gone Close n [] more h = cc
    gone Close n (l ∷ k) more h = more (suc n) k _ h
    gone Stuck n k more h = cc

abbrev walked_from : Text → Moved → Moved
walked_from u (on m j e) = walk m j e u
walked_from u stuck = stuck
walked_from u deep = deep

-- one text after another
pub walk-append : (t : Text) (n m : ℕ) (k j : List Level) (s e : State) (u : Text)
    → walk n k s t ≡ on m j e
    → walk n k s (t ++ u) ≡ walk m j e u
walk-append [] n m k j s e u h = ends h
  where
    ends : on n k s ≡ on m j e → walk n k s u ≡ walk m j e u
    ends h = ap (walked_from u) h
walk-append (c ∷ t) n m k j s e u h =
    gone (move n k s c) (λ a b d g. walk-append t a m b j d e u g) h
  where
    gone : (y : Moved)
        → ((a : ℕ) (b : List Level) (d : State) → walk a b d t ≡ on m j e
        → walk a b d (t ++ u) ≡ walk m j e u)
        → from stuck deep y (λ a b d. walk a b d t) ≡ on m j e
        → from stuck deep y (λ a b d. walk a b d (t ++ u)) ≡ walk m j e u
    gone (on a b d) more h = more a b d h
    gone stuck more h = cc
    gone deep more h = cc

walk-one : (n : ℕ) (k : List Level) (s : State) (c : ℕ) → walk n k s (c ∷ []) ≡ move n k s c
walk-one n k s c = ended (move n k s c)
  where
    ended : (y : Moved) → from stuck deep y (λ m j e. walk m j e []) ≡ y
    ended (on m j e) = refl
    ended stuck = refl
    ended deep = refl

-- after a text and one character more
pub walk-more : (t : Text) (n m : ℕ) (j : List Level) (e : State) (c : ℕ)
    → walk n [] Value t ≡ on m j e
    → walk n [] Value (t ++ c ∷ []) ≡ move m j e c
walk-more t n m j e c h = walk-append t n m [] j Value e (c ∷ []) h ∙ walk-one m j e c

-- a level too deep is none with a level more
opened : (x : Step) (n : ℕ) (k : List Level) → moved n k x ≡ deep
    → (j : List Level) × (e : State) × (moved (suc n) k x ≡ on zero j e)
opened (Go e) n k h = cc
opened (Open l) zero k h = (l ∷ k, _, refl)
opened (Open l) (suc n) k h = cc
opened Close n [] h = cc
opened Close n (l ∷ k) h = cc
opened Stuck n k h = cc

pub viable_deeper : (t : Text) (n m : ℕ) (j : List Level) (e : State) (c : ℕ)
    → walk n [] Value t ≡ on m j e → move m j e c ≡ deep
    → IsViablePrefix (suc n) (t ++ c ∷ [])
viable_deeper t n m j e c h d =
    let o = opened (step (top j) e c) m j d in
    viable
    (suc n)
    zero
    o.0
    o.1
    (t ++ c ∷ [])
    (walk-more t (suc n) (suc m) j e c (walk-raised t n m [] j Value e h) ∙ o.2)

-- ---- at the end

abbrev final : Moved → Bool
final (on m j e) = is_final j e
final stuck = false
final deep = false

walk-end : (t : Text) (n m l : ℕ) (k j : List Level) (s e : State) → walk n k s t ≡ on m j e
    → is_final j e ≡ false
    → accepts l k s t ≡ false
walk-end [] n m l k j s e h f = ends h f
  where
    ends : on n k s ≡ on m j e → is_final j e ≡ false → is_final k s ≡ false
    ends h f = ap final h ∙ f
walk-end (c ∷ t) n m l k j s e h f =
    gone (step (top k) s c) n l k (λ a b i d g. walk-end t a m b i j d e g f) h
  where
    gone : (x : Step) (n l : ℕ) (k : List Level)
        → ((a b : ℕ) (i : List Level) (d : State) → walk a i d t ≡ on m j e
        → accepts b i d t ≡ false)
        → from stuck deep (moved n k x) (λ a i d. walk a i d t) ≡ on m j e
        → from false false (moved l k x) (λ b i d. accepts b i d t) ≡ false
    gone (Go d) n l k more h = more n l k d h
    gone (Open o) zero l k more h = cc
    gone (Open o) (suc n) zero k more h = refl
    gone (Open o) (suc n) (suc l) k more h = more n l (o ∷ k) _ h
    gone Close n l [] more h = cc
    gone Close n l (o ∷ k) more h = more (suc n) (suc l) k _ h
    gone Stuck n l k more h = cc

-- where a text ends and the automaton may not, it is no JSON text
pub unfinished : (n m l : ℕ) (j : List Level) (e : State) (t : Text) → walk n [] Value t ≡ on m j e
    → is_final j e ≡ false → json_text l t
    → ⊥
unfinished n m l j e t h f g =
    let no : true ≡ false = sym (text-accepted l t g) ∙ walk-end t n m l [] j Value e h f in cc

-- and where it may, it is one
pub finished : (n m : ℕ) (j : List Level) (e : State) (t : Text) → walk n [] Value t ≡ on m j e
    → is_final j e ≡ true
    → json_text n t
finished n m j e t h f =
    accepted-text
    n
    t
    (ap (λ x. accepts n [] Value x) (sym (append-nil t)) ∙ walk-accepts t n m [] j Value e [] h ∙ f)
