-- The machine values of a `Held`. Assumes `Logic`.
use Rattle.std.proofs.Common.{◌≡◌, ℕ, List, [], ◌∷◌, ◌++◌, refl, subst, sym, Option, None, Some}
use lib.Dec.{T}
use mathlib.Core.Bool.{Bool, true, false, ◌&&◌}
use seplogic.Ra.Ura.{Ura}
use mir.Syntax.{impl, tnil, dnil, ty_ptr}
use mir.Raw.{raw as bare}
use mir.Val.{Val, vptr, vstruct, of_list, has_ty}
use base.Logic.{never, fst∗}
use types.Logic.{Logic, sem}
use types.Kit.{Item, Goal, Seq, Step, step, ‵, ◌$◌, move, drop, fsplit, fjoin, fpick, fpack, rewrite, feq_i, feq_l}
use denote.RattleType.{RattleType, Valss}
use denote.Builtin.{RawPtr}
use denote.Memory.{lone}
use denote.RawPtr.{Ptr, block_ptr, null_ptr, ptr_val, in_a_block}
use denote.Steps.{nothing}
use denote.Param.{layout}
use denote.Struct.Struct.{within}
use denote.Struct.Owning.{shape}
use Rattle.core.proofs.alloc.Calls.{Al, handle_tells}
use Rattle.core.proofs.atomic.Steps.{Ptr-Good}
use Rattle.core.proofs.cell.Inside.{Good}
use Rattle.std.specs.Option.{is_some}
use Rattle.std.specs.contracts.alloc.Global as heap
use Rattle.std.specs.declared.alloc.Global.{Global}
use Rattle.std.specs.contracts.impls.GlobalAllocator.TheImpl.{ghosts}
use Rattle.std.proofs.alloc.Global.TheLaws as heap_laws
use Rattle.jp_loose.proofs.Values.{both}
use Rattle.std_alloc.specs.Box.Ownership.{box_owns}
use Rattle.jp_c.specs.declared.kept.Kept.{Kept}
use Rattle.jp_c.specs.contracts.kept.Kept as kept
use Rattle.jp_c.specs.Held.{held_at}
use Rattle.jp_c.specs.contracts.held.Held as held

abbrev pub R : RattleType
R = kept.the_row

abbrev pub Z : RattleType
Z = heap.the_row

abbrev al : Al
al = record { row = Z; laws = heap_laws.the_row_laws; g = ghosts; d = impl [] tnil dnil; drops = impl [] tnil dnil }

pub kept_there : (kept : Option Kept) → is_some kept ≡ true → (x : Kept) × (kept ≡ Some x)
kept_there (Some x) some = (x, refl)
kept_there None some = absurd (subst (λ (b : Bool). T b) (sym some) tt)

both_tt : (x y : Bool) → T x → T y → T (x && (y && true))
both_tt true true s t = tt
both_tt true false s t = absurd t
both_tt false y s t = absurd s

pub held_good : (p : Ptr) (h : Val) → Good (layout Z) h → Good (layout held.the_row) (both (ptr_val p) h)
held_good p h fits = (both_tt (has_ty ty_ptr (ptr_val p)) (has_ty (layout Z) h) (Ptr-Good p).0 fits.0, ((Ptr-Good p).1, (fits.1, tt)))

module _ {M : Type 1} {𝓤 : Ura M} {𝓛 : Logic 𝓤} {K : Type 0} {Γ : List (Item 𝓤)} {G : Goal 𝓤 𝓛.H} where
  pub held_in : K → (p : Ptr) (h : Val) (a : Global) (x : Option Kept)
      → Step K 𝓛 (‵ (held.the_row.own_val (record { at = p; alloc = a; value = x }) (both (ptr_val p) h ∷ [])) ∷ Γ) G (‵ (held_at a p x) ∷ ‵ (Z.own_val a (h ∷ [])) ∷ Γ) G
  held_in t p h a x = step (λ s. let v : Val = both (ptr_val p) h in
      nothing t $ move t (2 ∷ 0 ∷ []) $ fjoin t $ feq_i t (List Val) (ptr_val p ∷ []) (ptr_val p ∷ []) refl $ fjoin t $ feq_i t (List Val) (v ∷ []) (v ∷ []) refl $ fjoin t $
      fpack t (Valss (RawPtr ∷ Z ∷ [])) (within (shape held.the_type) (p, (((a.memory.seal, tt), tt), tt)) (v ∷ [])) (ptr_val p ∷ [], (h ∷ [], tt)) $ fjoin t $ s)

  pub held_out : K → (d : held.the_row.Denot) (vs : List Val) (x : Kept) → d.value ≡ Some x
      → ((b o : ℕ) (h : Val) → d.at ≡ block_ptr b o → vs ≡ both (vptr b o) h ∷ [] → Good (layout Z) h → Seq K 𝓛 (‵ (box_owns (ghosts.dealloc_token d.alloc) R (block_ptr b o) x) ∷ ‵ (Z.own_val d.alloc (h ∷ [])) ∷ Γ) G)
      → Seq K 𝓛 (‵ (held.the_row.own_val d vs) ∷ Γ) G
  held_out t d vs x full k =
      fsplit t $ fpick t (λ vss. fsplit t $ feq_l t (λ ev. fsplit t $ feq_l t (λ ep. fsplit t $ handle_tells al t d.alloc vss.1.0 (λ h ea fits. move t (1 ∷ []) $ drop t $ move t (1 ∷ []) $
      rewrite t 0 (λ (y : Option Kept). ‵ (held_at d.alloc d.at y)) full refl $
      in_a_block t d.at (λ p. box_owns (ghosts.dealloc_token d.alloc) R p x) (fst∗ 𝓤 (never 𝓤) (sem 𝓛 (ghosts.dealloc_token d.alloc (bare (lone R.mir)) null_ptr))) (λ b o e. k b o h e
      (subst (λ (p : Ptr). vs ≡ vstruct (of_list (ptr_val p ∷ h ∷ [])) ∷ []) e
      (subst (λ (ws : List Val). vs ≡ vstruct (of_list (ptr_val d.at ∷ (ws ++ []))) ∷ []) ea (subst (λ (ps : List Val). vs ≡ vstruct (of_list (ps ++ (vss.1.0 ++ []))) ∷ []) ep ev))) fits)))))
