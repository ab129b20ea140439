-- A vector with nothing in it is one of each type whose values lie alike in memory.
use Rattle.std.proofs.Common.{◌≡◌, ℕ, ◌*◌, ◌-◌, ◌^◌, List, [], ◌∷◌, ◌∙◌, ap, subst}
use mathlib.Core.Bool.{Bool, true, false}
use seplogic.Ra.Ura.{Ura}
use lib.ListN.{length}
use mir.Syntax.{Ty, ty_array}
use mir.Raw.{raw}
use mir.Val.{Val}
use base.Logic.{ent, via, id⊢, mono∗, ex_e, ex_i}
use base.Fml.{Fml, Share, fsep, flt}
use base.Fraction.{full_share}
use types.Logic.{Logic, sem}
use denote.RattleType.{RattleType}
use denote.Memory.{lone, raw_all, cell_raw, part_of}
use denote.Array.{Array, each, shape}
use denote.RawPtr.{Ptr, block_ptr, null_ptr, lies_at, room_for, in_block, ◌+ₚ◌}
use denote.Sub.{lone_same, size_same}
use denote.Struct.Struct.{Struct}
use denote.Struct.Owning.{to as plainly, shape as shape_of}
use Rattle.core.specs.Allocator.{block_with_items}
use Rattle.core.specs.Mem.{type_size}
use Rattle.core.specs.declared.alloc.Allocator.{Ghosts}
use Rattle.std_alloc.specs.Box.Ownership.{box_owns}
use Rattle.std_alloc.specs.Vec.Ownership.{has_block, owns_if, vec_owns}
use Rattle.std_alloc.specs.contracts.vec.Vec as V
use Rattle.std_alloc.specs.declared.vec.Vec.{Vec}

-- the same vector, of other values
abbrev pub emptied : {X Y Z : Type 0} → (d : Vec X Z) → d.items ≡ [] → Vec Y Z
emptied d none = record { ptr = d.ptr; len = d.len; cap = d.cap; alloc = d.alloc; items = []; ok = (d.ok.0 ∙ ap length none, d.ok.1); small = d.small }

module _ {M : Type 1} {𝓤 : Ura M} (𝓛 : Logic 𝓤) (R S : RattleType) (alike : raw_all R.mir ≡ raw_all S.mir) where
  turned : {X : Type 0} (F : X → Fml) (x y : X) → x ≡ y → ent 𝓤 (sem 𝓛 (F x)) (sem 𝓛 (F y))
  turned F x y e = subst (λ z. ent 𝓤 (sem 𝓛 (F x)) (sem 𝓛 (F z))) e (id⊢ 𝓤 (sem 𝓛 (F x)))

  no_each : (us : List Val) → ent 𝓤 (sem 𝓛 (each R.Denot R.own_val [] us)) (sem 𝓛 (each S.Denot S.own_val [] us))
  no_each [] = id⊢ 𝓤 _
  no_each (u ∷ us) = id⊢ 𝓤 _

  no_array : (n : ℕ) (vs : List Val) → ent 𝓤 (sem 𝓛 ((Array R n).own_val [] vs)) (sem 𝓛 ((Array S n).own_val [] vs))
  no_array n vs = ex_e 𝓤 _ (λ us. via 𝓤 _ (mono∗ 𝓤 (id⊢ 𝓤 (sem 𝓛 (shape {X = R.Denot} n [] vs us))) (no_each us))
      (ex_i 𝓤 (λ (ws : List Val). sem 𝓛 (fsep (shape {X = S.Denot} n [] vs ws) (each S.Denot S.own_val [] ws))) us))

  none_lies : (n : ℕ) (q : Share) (p : Ptr) → ent 𝓤 (sem 𝓛 (lies_at (Array R n) q p [])) (sem 𝓛 (lies_at (Array S n) q p []))
  unfolding part_of
  none_lies n q (block_ptr b o) = ex_e 𝓤 _ (λ vs. via 𝓤 _
      (mono∗ 𝓤 (turned (λ (τ : Ty). cell_raw q (ty_array τ n ∷ []) vs b o) (raw (lone R.mir)) (raw (lone S.mir)) (lone_same R.mir S.mir alike)) (no_array n vs))
      (ex_i 𝓤 (λ (ws : List Val). sem 𝓛 (fsep (cell_raw q (raw_all (Array S n).mir) ws b o) ((Array S n).own_val [] ws))) vs))
  none_lies n q null_ptr = id⊢ 𝓤 _

  small : (c : ℕ) → ent 𝓤 (sem 𝓛 (flt (c * type_size R) (2 ^ 63))) (sem 𝓛 (flt (c * type_size S) (2 ^ 63)))
  small c = turned (λ (z : ℕ). flt (c * z) (2 ^ 63)) (type_size R) (type_size S) (size_same R.mir S.mir alike)

  holds : (t : Ty → Ptr → Fml) (n c : ℕ) (p : Ptr) (y : Bool) → ent 𝓤 (sem 𝓛 (in_block p (owns_if y (block_with_items t R p n c [])))) (sem 𝓛 (in_block p (owns_if y (block_with_items t S p n c []))))
  holds t n c null_ptr y = id⊢ 𝓤 _
  holds t n c (block_ptr b o) false = id⊢ 𝓤 _
  holds t n c (block_ptr b o) true = mono∗ 𝓤 (none_lies n full_share (block_ptr b o))
      (turned (λ (z : Ty × ℕ). fsep (room_for (ty_array z.0 (c - n)) (block_ptr b o +ₚ (n * z.1))) (t (ty_array z.0 c) (block_ptr b o))) (raw (lone R.mir), type_size R) (raw (lone S.mir), type_size S)
      (λ i. (lone_same R.mir S.mir alike i, size_same R.mir S.mir alike i)))

  module _ (Z : RattleType) (g : Ghosts Z.Denot) where
    vec_own : (d : Vec R.Denot Z.Denot) (none : d.items ≡ []) (vs : List Val) → ent 𝓤 (sem 𝓛 ((V.the_row R Z g).own_val d vs)) (sem 𝓛 ((V.the_row S Z g).own_val (emptied d none) vs))
    vec_own d none vs = via 𝓤 _
        (turned (λ (xs : List R.Denot). fsep ((Struct (shape_of (V.the_type R Z g))).own_val (plainly (V.the_type R Z g) d) vs) (vec_owns (g.dealloc_token d.alloc) R d.ptr d.len d.cap xs)) d.items [] none)
        (mono∗ 𝓤 (id⊢ 𝓤 (sem 𝓛 ((Struct (shape_of (V.the_type R Z g))).own_val (plainly (V.the_type R Z g) d) vs))) (mono∗ 𝓤 (small d.cap) (holds (g.dealloc_token d.alloc) d.len d.cap d.ptr (has_block d.cap))))

    vec_lies : (d : Vec R.Denot Z.Denot) (none : d.items ≡ []) (q : Share) (p : Ptr) → ent 𝓤 (sem 𝓛 (lies_at (V.the_row R Z g) q p d)) (sem 𝓛 (lies_at (V.the_row S Z g) q p (emptied d none)))
    unfolding part_of
    vec_lies d none q (block_ptr b o) = ex_e 𝓤 _ (λ vs. via 𝓤 _ (mono∗ 𝓤 (id⊢ 𝓤 (sem 𝓛 (cell_raw q (raw_all (V.the_row R Z g).mir) vs b o))) (vec_own d none vs))
        (ex_i 𝓤 (λ (ws : List Val). sem 𝓛 (fsep (cell_raw q (raw_all (V.the_row S Z g).mir) ws b o) ((V.the_row S Z g).own_val (emptied d none) ws))) vs))
    vec_lies d none q null_ptr = id⊢ 𝓤 _

    -- the box of an empty vector is one of the same vector, of other values
    pub box_emptied : (t : Ty → Ptr → Fml) (p : Ptr) (d : Vec R.Denot Z.Denot) (none : d.items ≡ []) → ent 𝓤 (sem 𝓛 (box_owns t (V.the_row R Z g) p d)) (sem 𝓛 (box_owns t (V.the_row S Z g) p (emptied d none)))
    box_emptied t p d none = mono∗ 𝓤 (vec_lies d none full_share p) (id⊢ 𝓤 (sem 𝓛 (t (raw (lone (V.the_row R Z g).mir)) p)))
