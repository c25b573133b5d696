-- A field of a struct of plain data behind a `&mut`, read and written: the borrow is opened and closed in one rule.
--     gets F p t x refl tt (λ is. …)           `_i = (*_j).k;` where the reference x that local j holds is the entry at p, with its token at t, counted behind
--                                              the locals. What the struct's relation says is learned
--     puts F p t x h is refl refl refl tt      `(*_j).k = rv;`: the struct behind the reference is h from then on
-- The first `refl` shows what the entries are, that local j holds the pointer, and the field's type and place;
-- the others of `puts` show the value, and that the struct with it is h.
use mathlib.Core.Path.{◌≡◌, refl, ap}
use mathlib.Core.Bool.{◌&&◌}
use mathlib.Core.List.{List, [], ◌∷◌, map}
use mathlib.Core.Option.{Option, some}
use Prim.Native.Nat.{ℕ, zero, suc}
use seplogic.Ra.Ura.{Ura}
use base.Fraction.{full_share}
use lib.Dec.{T}
use mir.Fields.{get_v, set_v}
use mir.Raw.{raws}
use mir.Syntax.{Ty, Tys, erased, deref, field, place, copy, rv_opd, Rv as RValue, Body, seq, assign}
use mir.Val.{Val, vptr, vstruct, Vals, of_list, has_ty}
use base.Fml.{Lft, Share, Fml, flft}
use prog.Memory.{field_of, field_at}
use prog.Wp.{Env, Calls, Loops}
use types.Logic.{Logic}
use types.Kit.{Item, ‵, put, Post, runs, Seq, Step, step, ◌$◌, move, drop, fsplit3, fjoin3, feq_i, rewrite}
use types.Part.{whole, sub, look_in, store_in}
use types.Run.{stop, hop, fld, from, load, of_opd, assigns}
use denote.Laws.{Is, shows}
use denote.RattleType.{RattleType, flat, mirs}
use denote.Laws.{valss}
use denote.Memory.{cell_at}
use denote.Ref.{MutBor, MutRef, at_last, mut_vals}
use denote.Steps.{opens, closes, owned, peeks}
use denote.Struct.Declared.{Declared, row, fields}
use denote.Struct.Laws as LL
use denote.Struct.Steps.{spelt}
use denote.Struct.Struct.{to_tys}
use Rattle.walks.proofs.Data.{Fielded, fits, struct}
use Rattle.walks.proofs.Entries.{given, hads, lefts, takes, lays}
use Rattle.walks.proofs.Frame.{Held, holds, Frame, held_at, owned as free, put as put', spot, typed, within, into}
use Rattle.walks.proofs.Assign.{rv}
use Rattle.walks.proofs.Value.{rv_of, part_good, rv_good}

module _ (F : Fielded) where
  abbrev D : Declared
  D = F.type

  abbrev L : LL.Laws D
  L = F.laws

  abbrev R : RattleType
  R = row D

  -- the struct's fields as the machine has them, and their types
  abbrev values : D.D → Vals
  values h = of_list (flat (fields D) (valss (fields D) (LL.spells D.parts L) (D.to h)))

  abbrev shapes : Tys
  shapes = raws (to_tys (mirs (fields D)))

  -- what the entries at p and t are, what local j holds, and where field k stands
  module _ {M : Type 1} {𝓤 : Ura M} (𝓛 : Logic 𝓤) (E : Env 𝓤 𝓛.H) (hs : List Held) (Δ : List (Item 𝓤)) (p t : ℕ) (κ : Lft) (s : Share)
      (x : MutBor D.D) (j k : ℕ) (σ : Ty) (f : Ty × ℕ) where
    abbrev pub Reached : Type 1
    Reached = ◌≡◌ {A = List Fml × Option Val × Option (Ty × ℕ) × Option (Ty × ℕ)}
        (hads 𝓛 (map given (p ∷ t ∷ [])) Δ, held_at E hs j, field_of σ k, field_at zero shapes k)
        ((MutRef erased κ R).own_val x (mut_vals x) ∷ flft κ s ∷ [], some (vptr x.ref_ptr.0 x.ref_ptr.1), some f, some f)

    -- the context with the struct at h
    abbrev pub Beyond : D.D → List (Item 𝓤)
    Beyond h = put 𝓛 t (‵ (flft κ s)) (put 𝓛 p (‵ ((MutRef erased κ R).own_val (at_last x h) (mut_vals x))) (lefts 𝓛 (map given (p ∷ t ∷ [])) Δ))

  module _ {M : Type 1} {𝓤 : Ura M} {𝓛 : Logic 𝓤} {K : Type 0} {E : Env 𝓤 𝓛.H} {hs : List Held} {Δ : List (Item 𝓤)} {C : Calls 𝓤 𝓛.H}
      {Λ : Loops 𝓤 𝓛.H} {q : Post 𝓤 𝓛.H} {rest : Body} {κ : Lft} {s : Share} {j k : ℕ} {σ : Ty} {f : Ty × ℕ} where
    pub gets : K → {i : ℕ} (p t : ℕ) (x : MutBor D.D) → Reached 𝓛 E hs Δ p t κ s x j k σ f
        → T (free E hs i && has_ty (spot 𝓛 E i).0 (get_v (values x.now) k))
        → (Is R x.now (LL.vals D L x.now) → Seq K 𝓛 (‵ (Frame E (put' i (holds (get_v (values x.now) k)) hs)) ∷ Beyond 𝓛 E hs Δ p t κ s x j k σ f
        x.now) (runs C Λ E rest q))
        → Seq K 𝓛 (‵ (Frame E hs) ∷ Δ) (runs C Λ E (seq (assign (place i []) (rv_opd (copy (place j (deref σ ∷ field k ∷ []))))) rest) q)
    gets g {i} p t x e ok go =
        let b : ℕ = x.ref_ptr.0 in
        let o : ℕ = x.ref_ptr.1 in
        let h : D.D = x.now in
        takes g (p ∷ t ∷ []) (ap (λ z. z.0) e) $ fsplit3 g $ fsplit3 g $ drop g $ opens g tt R {h = h} b o (λ vs.
        spelt g R (Is R) (shows 𝓛 R) (LL.vals D L) (LL.tells D L) full_share h vs b o $ move g (1 ∷ []) $
        peeks g R (Is R) (shows 𝓛 R) h (LL.vals D L h) (λ is.
        -- [the locals; the struct's cell; what it owns; the open borrow; obs; auth; true; the rest]
        move g (6 ∷ 1 ∷ 0 ∷ []) $
        assigns g (of_opd g (load g (from g (hop g (look_in g 0 (within g j (ap (λ z. z.1) e))) (fld g (ap (λ z. z.2) e) (stop g))))
        (look_in g 1 (sub g k (ap (λ z. z.3) e) (whole g)))))
        (from g (stop g)) (into g i ok (part_good (values h) k (fits (struct F) 𝓛 h (LL.val D L h) is).1)) $
        move g (1 ∷ 2 ∷ 3 ∷ 4 ∷ 5 ∷ []) $ closes g tt R h (LL.vals D L h) b o $ feq_i g (List Val) (mut_vals x) (mut_vals x) refl $ fjoin3 g $
        lays g (suc (suc (suc p))) $ lays g (suc (suc t)) $ move g (1 ∷ []) $ drop g $ go is))

    pub puts : K → {r : RValue} {u : Val} (p t : ℕ) (x : MutBor D.D) (h : D.D) → Is R h (LL.vals D L h) → Reached 𝓛 E hs Δ p t κ s x j k σ f → rv_of E hs r
        ≡ some u → set_v (values x.now) k u ≡ values h → T (has_ty f.0 u)
        → Step K 𝓛 (‵ (Frame E hs) ∷ Beyond 𝓛 E hs Δ p t κ s x j k σ f h) (runs C Λ E rest q) (‵ (Frame E hs) ∷ Δ)
        (runs C Λ E (seq (assign (place j (deref σ ∷ field k ∷ [])) r) rest) q)
    puts g {r} {u} p t x h is-h e has made ok = step (λ go.
        let b : ℕ = x.ref_ptr.0 in
        let o : ℕ = x.ref_ptr.1 in
        takes g (p ∷ t ∷ []) (ap (λ z. z.0) e) $ fsplit3 g $ fsplit3 g $ drop g $ opens g tt R {h = x.now} b o (λ vs.
        spelt g R (Is R) (shows 𝓛 R) (LL.vals D L) (LL.tells D L) full_share x.now vs b o $
        move g (6 ∷ []) $ typed g (λ ts.
        assigns g (rv g has) (from g (hop g (look_in g 0 (within g j (ap (λ z. z.1) e))) (fld g (ap (λ z. z.2) e) (stop g))))
        (store_in g 1 (sub g k (ap (λ z. z.3) e) (whole g)) (ok, rv_good E hs ts r u has)) $
        rewrite g 1 (λ (us : Vals). ‵ (cell_at full_share R.mir (vstruct us ∷ []) b o)) made refl $
        move g (2 ∷ []) $ drop g $ owned g R (Is R) (LL.makes D F.plain 𝓛) h (LL.vals D L h) is-h $ move g (2 ∷ 0 ∷ 3 ∷ 4 ∷ 5 ∷ []) $
        closes g tt R h (LL.vals D L h) b o $
        feq_i g (List Val) (mut_vals x) (mut_vals x) refl $ fjoin3 g $ lays g (suc (suc (suc p))) $ lays g (suc (suc t)) $ move g (1 ∷ []) $ drop g $ go)))
