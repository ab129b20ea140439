-- The name of a function spells itself.
use Rattle.std.proofs.Common.{ℕ, Bool, [], ◌∷◌, refl, sym, subst}
use Rattle.jp_reading.specs.Forms.{AllPassing, Each, One}
use Rattle.jp_reading.specs.Texts.{Spans, Text}
use Rattle.jp_query.specs.Names.{FunctionName, function_name, is_function_char, is_function_first}
use Rattle.jp_canon.proofs.Forms.{Has, both, has-as, has-each_passing, has-one}

all-pass : (ok : ℕ → Bool) (cs : Text) (s : Spans) (o : ℕ) (t : Text) → Each (One ok) cs s o t
    → AllPassing ok cs
all-pass ok [] s o t h = tt
all-pass ok (c ∷ cs) s o t h = (h.one.passes, all-pass ok cs _ _ _ h.two)

pub has-function_name : (name : Text) (s : Spans) (o : ℕ) (t : Text) → FunctionName name s o t
    → Has (FunctionName name) name
has-function_name name s o t (function_name c more is h) =
    subst (λ w. Has (FunctionName w) w) (sym is)
    (has-as (λ r p. function_name c more refl)
    (both (has-one is_function_first c h.one.passes)
    (has-each_passing is_function_char more (all-pass is_function_char more _ _ _ h.two))))
