-- An assignment to a local is one step, whatever it reads of the locals.
--     opd, opds, rv    the judgements of `Types/Run.antt`, where `Value.antt` computes a value: `refl` shows it
--     sets refl ok     `_i = rv;`. ok shows that the value is of the local's type: `tt` where the value is written out, `Data.antt`'s `shaped` of plain data
--     sets_last        the same as the last statement of its part
-- A right side that is an operation has no value here: its step is `bin` or `un` of `Types/Run.antt`, over `opd`.
-- What is behind a `&mut` is read and written by `Through.antt`.
use mathlib.Core.Path.{◌≡◌, refl, sym, subst, ap, ◌∙◌}
use mathlib.Core.Bool.{Bool, true, false, ◌&&◌}
use mathlib.Core.List.{List, [], ◌∷◌}
use mathlib.Core.Option.{Option, none, some, none-ne-some, some-injective}
use Prim.Native.Nat.{ℕ, zero, suc, ◌+◌, ◌^◌}
use seplogic.Ra.Ura.{Ura}
use base.Fraction.{full_share}
use lib.Dec.{T, ltb, eqb, eqb→eq}
use mir.Fields.{get_v}
use mir.Syntax.{Sym, w8, Ty, ty_int, ty_struct, ty_enum, Tys, tcons, Tyss, Step as PStep, deref, field, variant, place, Opd as Operand, copy, int, int_neg, int_big}
use mir.Syntax.{float, opd_true, opd_false, opd_unit, ptr_const, size_of, align_of, num_of, fn_addr, vtable, Rv as RValue, rv_opd, op1, op2, addr_of, aggregate, repeat, repeat_p, select, Body, seq, assign}
use mir.Val.{Val, vunit, vbool, vint, vfloat, vptr, vcode, vstruct, of_list, as_ptr, bits, has_ty}
use base.Logic.{SProp, ent, never}
use base.Fml.{Share}
use prog.Memory.{field_at, with_tag, variant_at}
use prog.Wp.{Env, Spot, Calls, Loops, next, part, seen, walk, read, spot_of}
use types.Logic.{Logic}
use types.Kit.{Item, ‵, ⋆, nth, Post, post, prop, runs, Step, step, ◌$◌}
use types.Run.{Opd, Opds, Rv, Reads, from, stop, lit, true_lit, false_lit, unit_lit, of_opd, and_then, no_more, assigns, assigns_last}
use types.Part.{Part, sub, look_in, agg}
use types.Match.{live, in_variant, look_tag}
use Rattle.walks.proofs.Frame.{Held, holds, Frame, held_at, owned, put, typed, within, into}
use Rattle.walks.proofs.Value.{on, only_if, struct, live_one, struct_type, enum_type, along, as_read, behind, type_at, opd_of, opds_of, rv_of, on_some}
use Rattle.walks.proofs.Value.{if_some, rv_good}

-- ---- what stands at the end of a place's steps
module _ {M : Type 1} {𝓤 : Ura M} (𝓛 : Logic 𝓤) (K : Type 0) (t : K) (Γ : List (Item 𝓤)) (E : Env 𝓤 𝓛.H)
    (End : (Val → SProp 𝓤) → Spot 𝓤 𝓛.H → SProp 𝓤) where
  open 𝓛 use {H}

  abbrev Gets : Spot 𝓤 H → List PStep → Option Val → Type 2
  Gets sp st none = Unit {2}
  Gets sp st (some u) = (Kt : Val → SProp 𝓤) → ent 𝓤 (⋆ 𝓛 Γ) (Kt u) → ent 𝓤 (⋆ 𝓛 Γ) (walk 𝓤 H E sp st (End Kt))

  record Sees (sp : Spot 𝓤 H) (st : List PStep) (w : Option Val) : Type 2 where
    pub go : Gets sp st w

  on_sees : {X : Type 0} {sp : Spot 𝓤 H} {st : List PStep} (o : Option X) (f : X → Option Val) → ((x : X) → o ≡ some x → Sees sp st (f x)) → Sees sp st (on o f)
  on_sees none f k = record { go = tt }
  on_sees (some x) f k = k x refl

  if_sees : {sp : Spot 𝓤 H} {st : List PStep} (c : Bool) (w : Option Val) → (c ≡ true → Sees sp st w) → Sees sp st (only_if c w)
  if_sees true w k = k refl
  if_sees false w k = record { go = tt }

  carried : {sp sp' : Spot 𝓤 H} {st st' : List PStep} (w : Option Val) → ((Kt : Val → SProp 𝓤) → ent 𝓤 (⋆ 𝓛 Γ) (walk 𝓤 H E sp st (End Kt))
      → ent 𝓤 (⋆ 𝓛 Γ) (walk 𝓤 H E sp' st' (End Kt)))
      → Sees sp st w → Sees sp' st' w
  carried none c s = record { go = tt }
  carried (some u) c s = record { go = λ Kt h. c Kt (s.go Kt h) }

  module _ (fin : Val → List PStep → Option Val) (ends : (τ : Ty) (b o : ℕ) (u : Val) (st : List PStep) → Reads K 𝓛 Γ τ b o u → Sees (τ, b, o) st (fin u st))
      (n : ℕ) (q : Share) (b : ℕ) where
    abbrev At : Ty → Val → ℕ → (Val → Item 𝓤) → Type 2
    At τ v o back = Part K 𝓛 (nth 𝓛 n Γ) q τ b o v back

    abbrev Found : List PStep → Type 2
    Found st = (τ : Ty) (v : Val) (o : ℕ) (back : Val → Item 𝓤) → At τ v o back → Sees (τ, b, o) st (along fin τ v st)

    -- the step of a field, and that of a variant
    to_field : {ν : Sym} {τs : Tys} {k o : ℕ} {f : Ty × ℕ} {st : List PStep} {w : Option Val} → field_at zero τs k ≡ some f → Sees (f.0, b, o + f.1) st w
        → Sees (ty_struct ν τs, b, o) (field k ∷ st) w
    to_field {o = o} {st = st} {w = w} e = carried w
        (λ Kt h. subst (λ (f : Option (Ty × ℕ)). ent 𝓤 (⋆ 𝓛 Γ) (part 𝓤 H f (λ σ d. walk 𝓤 H E (σ, b, o + d) st (End Kt)))) (sym e) h)

    to_variant : {ν : Sym} {τss : Tyss} {k o : ℕ} {τs : Tys} {st : List PStep} {w : Option Val} → variant_at τss k ≡ some τs
        → Sees (ty_struct ν (tcons (ty_int w8) τs), b, o) st w → Sees (ty_enum ν τss, b, o) (variant k ∷ st) w
    to_variant {ν} {o = o} {st = st} {w = w} e = carried w
        (λ Kt h. subst (λ (f : Option Tys). ent 𝓤 (⋆ 𝓛 Γ) (seen 𝓤 H (with_tag ν f) (λ σ. walk 𝓤 H E (σ, b, o) st (End Kt)))) (sym e) h)

    -- at a type and a value that turned out to be a struct's or an enum's
    turned : {τ τ' : Ty} {v v' : Val} {o : ℕ} {back : Val → Item 𝓤} {st : List PStep} {w : Option Val} → τ ≡ τ' → v ≡ v' → At τ v o back
        → (At τ' v' o back → Sees (τ', b, o) st w) → Sees (τ, b, o) st w
    turned {τ} {τ'} {v} {v'} {o} {back} {st} {w} e f p k = subst (λ (σ : Ty). Sees (σ, b, o) st w) (sym e)
        (k (subst (λ (u : Val). At τ' u o back) f (subst (λ (σ : Ty). At σ v o back) e p)))

    found : (st : List PStep) → Found st
    found [] τ v o back p = ends τ b o v [] (look_in t n p)
    found (deref σ ∷ st) τ v o back p = ends τ b o v (deref σ ∷ st) (look_in t n p)
    found (field k ∷ st) τ v o back p = on_sees (struct v) _ (λ s _. on_sees (struct_type τ) _
        (λ y _. turned y.1 s.1 p (λ p'. on_sees (field_at zero y.0.1 k) _ (λ f e.
        to_field e (found st f.0 (get_v s.0 k) (o + f.1) _ (sub t k e p'))))))
    found (variant k ∷ []) τ v o back p = record { go = tt }
    found (variant k ∷ deref σ ∷ st) τ v o back p = record { go = tt }
    found (variant k ∷ variant j ∷ st) τ v o back p = record { go = tt }
    found (variant k ∷ field zero ∷ []) τ v o back p = on_sees (struct v) _
        (λ s _. on_sees (live_one s.0) _ (λ l _. on_sees (enum_type τ) _ (λ y _. turned y.1 (s.1 ∙ ap vstruct l.1) p (λ p'.
        on_sees (variant_at y.0.1 k) _ (λ τs e. to_variant e (to_field refl (ends (ty_int w8) b (o + 0) (vint w8 l.0.0) [] (look_tag t n p'))))))))
    found (variant k ∷ field zero ∷ s ∷ st) τ v o back p = record { go = tt }
    found (variant k ∷ field (suc j) ∷ st) τ v o back p = on_sees (struct v) _
        (λ s _. on_sees (live_one s.0) _ (λ l _. on_sees (enum_type τ) _ (λ y _. turned y.1 (s.1 ∙ ap vstruct l.1) p (λ p'.
        on_sees (variant_at y.0.1 k) _ (λ τs e. if_sees (eqb l.0.0 k) _ (λ c. on_sees (field_at 1 τs j) _ (λ f d. to_variant e (to_field d
        (found st f.0 (get_v l.0.1 j) (o + f.1) _ (in_variant t k j e d
        (subst (λ (i : ℕ). At (ty_enum y.0.0 y.0.1) (live i l.0.1) o back) (eqb→eq l.0.0 k (subst T (sym c) tt)) p')))))))))))

-- ---- the judgements
module _ {M : Type 1} {𝓤 : Ura M} (𝓛 : Logic 𝓤) (K : Type 0) (t : K) (E : Env 𝓤 𝓛.H) (hs : List Held) (Δ : List (Item 𝓤)) where
  open 𝓛 use {H}

  abbrev Γ : List (Item 𝓤)
  Γ = ‵ (Frame E hs) ∷ Δ

  abbrev EndRead : (Val → SProp 𝓤) → Spot 𝓤 H → SProp 𝓤
  EndRead Kt sp = read 𝓤 H sp.0 sp.1 sp.2 Kt

  abbrev EndAddr : (Val → SProp 𝓤) → Spot 𝓤 H → SProp 𝓤
  EndAddr Kt sp = Kt (vptr sp.1 sp.2)

  ends_read : (τ : Ty) (b o : ℕ) (u : Val) (st : List PStep) → Reads K 𝓛 Γ τ b o u → Sees 𝓛 K t Γ E EndRead (τ, b, o) st (as_read u st)
  ends_read τ b o u [] r = record { go = λ Kt h. r.go Kt h }
  ends_read τ b o u (s ∷ st) r = record { go = tt }

  ends_addr : (τ : Ty) (b o : ℕ) (u : Val) (st : List PStep) → Reads K 𝓛 Γ τ b o u → Sees 𝓛 K t Γ E EndAddr (τ, b, o) st (behind u st)
  ends_addr τ b o u [] r = record { go = tt }
  ends_addr τ b o vunit (deref σ ∷ []) r = record { go = tt }
  ends_addr τ b o (vbool c) (deref σ ∷ []) r = record { go = tt }
  ends_addr τ b o (vint w n) (deref σ ∷ []) r = record { go = tt }
  ends_addr τ b o (vfloat f x) (deref σ ∷ []) r = record { go = tt }
  ends_addr τ b o (vcode c) (deref σ ∷ []) r = record { go = tt }
  ends_addr τ b o (vptr c d) (deref σ ∷ []) r = record { go = λ Kt h. r.go (λ v. as_ptr (never 𝓤) v (λ b' o'. Kt (vptr b' o'))) h }
  ends_addr τ b o (vstruct vs) (deref σ ∷ []) r = record { go = tt }
  ends_addr τ b o u (deref σ ∷ s ∷ st) r = record { go = tt }
  ends_addr τ b o u (field k ∷ st) r = record { go = tt }
  ends_addr τ b o u (variant k ∷ st) r = record { go = tt }

  -- a value that was computed, read at the end of the steps
  gets : (End : (Val → SProp 𝓤) → Spot 𝓤 H → SProp 𝓤) (sp : Spot 𝓤 H) (st : List PStep) (w : Option Val) → Sees 𝓛 K t Γ E End sp st w → (u : Val) → w
      ≡ some u
      → (Kt : Val → SProp 𝓤) → ent 𝓤 (⋆ 𝓛 Γ) (Kt u) → ent 𝓤 (⋆ 𝓛 Γ) (walk 𝓤 H E sp st (End Kt))
  gets End sp st none s u e = absurd (none-ne-some u e)
  gets End sp st (some v) s u e = λ Kt h. s.go Kt (subst (λ (z : Val). ent 𝓤 (⋆ 𝓛 Γ) (Kt z)) (sym (some-injective v u e)) h)

  module _ (End : (Val → SProp 𝓤) → Spot 𝓤 H → SProp 𝓤) (fin : Val → List PStep → Option Val)
      (ends : (τ : Ty) (b o : ℕ) (u : Val) (st : List PStep) → Reads K 𝓛 Γ τ b o u → Sees 𝓛 K t Γ E End (τ, b, o) st (fin u st)) where
    from_local : (i : ℕ) (st : List PStep) (u : Val) → on (held_at E hs i) (λ v. along fin (type_at E i) v st) ≡ some u
        → (Kt : Val → SProp 𝓤) → ent 𝓤 (⋆ 𝓛 Γ) (Kt u) → ent 𝓤 (⋆ 𝓛 Γ) (walk 𝓤 H E (spot_of 𝓤 H E i) st (End Kt))
    from_local i st u e =
        let a = on_some (held_at E hs i) (λ v. along fin (type_at E i) v st) u e in
        gets End (spot_of 𝓤 H E i) st (along fin (type_at E i) a.0 st) (found 𝓛 K t Γ E End fin ends zero full_share (spot_of 𝓤 H E i).1 st (type_at E i)
        a.0 zero _ (within t i a.1)) u a.2

module _ {M : Type 1} {𝓤 : Ura M} {𝓛 : Logic 𝓤} {K : Type 0} {E : Env 𝓤 𝓛.H} {hs : List Held} {Δ : List (Item 𝓤)} where
  open 𝓛 use {H}

  opd_at : K → (x : Operand) (v : Val) → opd_of E hs x ≡ some v → Opd K 𝓛 (‵ (Frame E hs) ∷ Δ) E x v
  opd_at t (copy (place i st)) v e = record { go = from_local 𝓛 K t E hs Δ (EndRead 𝓛 K t E hs Δ) as_read (ends_read 𝓛 K t E hs Δ) i st v e }
  opd_at t (int w n) v e =
      let c = if_some (ltb n (2 ^ bits w)) (some (vint w n)) v e in
      subst (λ (u : Val). Opd K 𝓛 (‵ (Frame E hs) ∷ Δ) E (int w n) u) (some-injective (vint w n) v c.1) (lit t c.0)
  opd_at t (int_neg w n) v e = absurd (none-ne-some v e)
  opd_at t (int_big w n) v e = absurd (none-ne-some v e)
  opd_at t (float f n) v e = absurd (none-ne-some v e)
  opd_at t opd_true v e = subst (λ (u : Val). Opd K 𝓛 (‵ (Frame E hs) ∷ Δ) E opd_true u) (some-injective (vbool true) v e) (true_lit t)
  opd_at t opd_false v e = subst (λ (u : Val). Opd K 𝓛 (‵ (Frame E hs) ∷ Δ) E opd_false u) (some-injective (vbool false) v e) (false_lit t)
  opd_at t opd_unit v e = subst (λ (u : Val). Opd K 𝓛 (‵ (Frame E hs) ∷ Δ) E opd_unit u) (some-injective vunit v e) (unit_lit t)
  opd_at t (ptr_const n) v e = absurd (none-ne-some v e)
  opd_at t (size_of τ) v e = absurd (none-ne-some v e)
  opd_at t (align_of τ) v e = absurd (none-ne-some v e)
  opd_at t (num_of w τ) v e = absurd (none-ne-some v e)
  opd_at t (fn_addr c σ) v e = absurd (none-ne-some v e)
  opd_at t (vtable τ ss) v e = absurd (none-ne-some v e)

  opds_at : K → (xs : List Operand) (vs : List Val) → opds_of E hs xs ≡ some vs → Opds K 𝓛 (‵ (Frame E hs) ∷ Δ) E xs vs
  opds_at t [] vs e = subst (λ (us : List Val). Opds K 𝓛 (‵ (Frame E hs) ∷ Δ) E [] us) (some-injective [] vs e) (no_more t)
  opds_at t (x ∷ xs) vs e =
      let a = on_some (opd_of E hs x) (λ v. on (opds_of E hs xs) (λ us. some (v ∷ us))) vs e in
      let b = on_some (opds_of E hs xs) (λ us. some (a.0 ∷ us)) vs a.2 in
      subst (λ (us : List Val). Opds K 𝓛 (‵ (Frame E hs) ∷ Δ) E (x ∷ xs) us) (some-injective (a.0 ∷ b.0) vs b.2)
      (and_then t (opd_at t x a.0 a.1) (opds_at t xs b.0 b.1))

  rv_at : K → (r : RValue) (v : Val) → rv_of E hs r ≡ some v → Rv K 𝓛 (‵ (Frame E hs) ∷ Δ) E r v
  rv_at t (rv_opd x) v e = of_opd t (opd_at t x v e)
  rv_at t (op1 o x) v e = absurd (none-ne-some v e)
  rv_at t (op2 o x y) v e = absurd (none-ne-some v e)
  rv_at t (addr_of (place i [])) v e = record {
    go = λ Kt h. subst (λ (u : Val). ent 𝓤 (⋆ 𝓛 (‵ (Frame E hs) ∷ Δ)) (Kt u))
        (sym (some-injective (vptr (spot_of 𝓤 H E i).1 zero) v e)) h;
  }
  rv_at t (addr_of (place i (s ∷ st))) v e = record {
    go = from_local 𝓛 K t E hs Δ (EndAddr 𝓛 K t E hs Δ) behind (ends_addr 𝓛 K t E hs Δ) i
        (s ∷ st) v e;
  }
  rv_at t (aggregate xs) v e =
      let a = on_some (opds_of E hs xs) (λ vs. some (vstruct (of_list vs))) v e in
      subst (λ (u : Val). Rv K 𝓛 (‵ (Frame E hs) ∷ Δ) E (aggregate xs) u) (some-injective (vstruct (of_list a.0)) v a.2)
      (agg t (opds_at t xs a.0 a.1))
  rv_at t (repeat x n) v e = absurd (none-ne-some v e)
  rv_at t (repeat_p x n) v e = absurd (none-ne-some v e)
  rv_at t (select x y z) v e = absurd (none-ne-some v e)

  pub opd : K → {x : Operand} {v : Val} → opd_of E hs x ≡ some v → Opd K 𝓛 (‵ (Frame E hs) ∷ Δ) E x v
  opd t {x} {v} e = opd_at t x v e

  pub opds : K → {xs : List Operand} {vs : List Val} → opds_of E hs xs ≡ some vs → Opds K 𝓛 (‵ (Frame E hs) ∷ Δ) E xs vs
  opds t {xs} {vs} e = opds_at t xs vs e

  pub rv : K → {r : RValue} {v : Val} → rv_of E hs r ≡ some v → Rv K 𝓛 (‵ (Frame E hs) ∷ Δ) E r v
  rv t {r} {v} e = rv_at t r v e

  module _ {C : Calls 𝓤 H} {Λ : Loops 𝓤 H} {q : Post 𝓤 H} where
    pub sets : K → {i : ℕ} {r : RValue} {rest : Body} {v : Val} → rv_of E hs r ≡ some v → T (owned E hs i && has_ty (type_at E i) v)
        → Step K 𝓛 (‵ (Frame E (put i (holds v) hs)) ∷ Δ) (runs C Λ E rest q) (‵ (Frame E hs) ∷ Δ) (runs C Λ E (seq (assign (place i []) r) rest) q)
    sets t {i} {r} {rest} {v} e ok = step (λ s. typed t (λ ts. assigns t (rv t e) (from t (stop t)) (into t i ok (rv_good E hs ts r v e)) $ s))

    pub sets_last : K → {i : ℕ} {r : RValue} {v : Val} → rv_of E hs r ≡ some v → T (owned E hs i && has_ty (type_at E i) v)
        → Step K 𝓛 (‵ (Frame E (put i (holds v) hs)) ∷ Δ) (prop (post 𝓤 H q next)) (‵ (Frame E hs) ∷ Δ) (runs C Λ E (assign (place i []) r) q)
    sets_last t {i} {r} {v} e ok = step (λ s. typed t (λ ts. assigns_last t (rv t e) (from t (stop t)) (into t i ok (rv_good E hs ts r v e)) $ s))
