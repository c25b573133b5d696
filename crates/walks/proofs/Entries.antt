-- The entries of a walk's context, in place: an entry that is used leaves a hole, and what comes of it is put where it stood, so that positions stay.
--     lays n, ends     the head is put at n, counted in the whole context, or behind all entries
--     takes π refl     the entries at π are brought to the head as one formula, `nest` of theirs, and leave holes
--     tidies n _ refl  the first n entries, written out: the `_` is filled in with what they come to. Both count behind the first entry, the locals
--     Source           where what a call is handed comes from: `given n`, the entry at n, which is given up; `copied n`, a copy of it; `made`, for nothing
--                      `copied_by n d`, a copy by the law d
--     datum D x is, span p n   plain data, which is made; copies of the n entries from p on
--     twice F          F can be had twice: it is made of facts, last values, shared borrows and invariants, as what a number owns is. It computes
--     Doubles F        the same as a law, for what a `&T` or a `&[T]` owns, which binds the machine values behind it by ∃: ref_twice κ R L x, slice_twice κ R L x,
--                      where L is R's laws of sharing, as `uint_row_laws w8`
--     hads, gones, lefts, fairs    of a list of sources: the formulas, which entries are given up, what is left, and that what is copied can be had twice
--     founds, stateds  what stands where a copy is taken by a law, and what the laws are of: that they are the same is shown with `hads`
--     restore          what a call leaves of each is put where it was given up
use mathlib.Core.Path.{◌≡◌, refl, sym, subst, ap}
use mathlib.Core.Bool.{Bool, true, false, ◌&&◌}
use mathlib.Core.List.{List, [], ◌∷◌, ◌++◌, map}
use mathlib.Core.Option.{Option, none, some}
use Prim.Native.Nat.{ℕ, zero, suc, ◌<◌}
use seplogic.Ra.Ura.{Ura}
use lib.Dec.{T}
use lib.ListN.{get_or, take}
use mir.Facts.{and_yes}
use mir.Syntax.{erased}
use base.Logic.{SProp, ent, sep, emp, guard, id⊢, via, comm∗, assoc∗, assoc', mono∗, mono_l, mono_r, fst∗, snd∗, emp∗, guard_i, ex_e}
use base.Fml.{Lft, Fml, ftrue, ffalse, feq, flt, fsep, fand, for, fwand, fex, fall, fupd, fat, froom, fdies, flft, fdead, fobs, fauth, fres, fbor, fobor, flent}
use base.Fml.{fshr_bor, fhide, fleft, fown, finv, fnamed, ftok, fkid, fme, fsent}
use types.Logic.{Logic, sem}
use types.Kit.{Item, ‵, raw, ◌⊛◌, some as ∃', given as given', later, mean, ⋆, nth, del, put, pull, unpull, fill, push, pop, ++⊢, Goal, Seq, Step, step}
use types.Kit.{◌$◌, ◌∵◌, !, qed, move, use1, split, fjoin, frame, done}
use denote.RattleType.{RattleType, RowLaws}
use denote.Shadow.{Pure, shadow, makes_shadow}
use denote.Laws.{Is}
use denote.Ref.{Bor, ShrRef, shr_vals, shr_copy}
use denote.Slice.{ShrSlice, shr_slice_vals, shr_slice_copy}
use Rattle.walks.proofs.Data.{Data}

-- ---- a context's entries
module _ {M : Type 1} {𝓤 : Ura M} where
  abbrev pub hole : Item 𝓤
  hole = ‵ ftrue

module _ {M : Type 1} {𝓤 : Ura M} (𝓛 : Logic 𝓤) where
  abbrev Cx : Type 2
  Cx = List (Item 𝓤)

  lifted : (n : ℕ) (Γ : Cx) → ent 𝓤 (⋆ 𝓛 Γ) (sep 𝓤 (mean 𝓛 (nth 𝓛 n Γ)) (⋆ 𝓛 (put 𝓛 n hole Γ)))
  lifted n Γ =
      let R : SProp 𝓤 = ⋆ 𝓛 (del 𝓛 n Γ) in
      via 𝓤 (sep 𝓤 (mean 𝓛 (nth 𝓛 n Γ)) R) (pull 𝓛 n Γ) (mono_r 𝓤 (mean 𝓛 (nth 𝓛 n Γ))
      (via 𝓤 (sep 𝓤 (emp 𝓤) R) (emp∗ 𝓤 R) (fill 𝓛 n hole Γ)))

  laid : (n : ℕ) (k : Item 𝓤) (Γ : Cx) → ent 𝓤 (sep 𝓤 (mean 𝓛 k) (⋆ 𝓛 Γ)) (⋆ 𝓛 (put 𝓛 n k Γ))
  laid n k Γ =
      let R : SProp 𝓤 = ⋆ 𝓛 (del 𝓛 n Γ) in
      via 𝓤 (sep 𝓤 (mean 𝓛 k) R) (mono_r 𝓤 (mean 𝓛 k) (via 𝓤 (sep 𝓤 (mean 𝓛 (nth 𝓛 n Γ)) R) (pull 𝓛 n Γ)
      (snd∗ 𝓤 (mean 𝓛 (nth 𝓛 n Γ)) R))) (fill 𝓛 n k Γ)

  ended : (k : Item 𝓤) (Γ : Cx) → ent 𝓤 (sep 𝓤 (mean 𝓛 k) (⋆ 𝓛 Γ)) (⋆ 𝓛 (Γ ++ k ∷ []))
  ended k Γ = via 𝓤 (sep 𝓤 (⋆ 𝓛 Γ) (mean 𝓛 k)) (comm∗ 𝓤 (mean 𝓛 k) (⋆ 𝓛 Γ)) (++⊢ 𝓛 Γ (k ∷ []))

  pub trimmed : (n : ℕ) (Γ : Cx) → ent 𝓤 (⋆ 𝓛 Γ) (⋆ 𝓛 (take n Γ))
  trimmed zero Γ = via 𝓤 (sep 𝓤 (emp 𝓤) (⋆ 𝓛 Γ)) (emp∗ 𝓤 (⋆ 𝓛 Γ)) (fst∗ 𝓤 (emp 𝓤) (⋆ 𝓛 Γ))
  trimmed (suc n) [] = id⊢ 𝓤 (emp 𝓤)
  trimmed (suc n) (i ∷ Γ) = via 𝓤 (sep 𝓤 (mean 𝓛 i) (⋆ 𝓛 Γ)) (pop 𝓛 i Γ)
      (via 𝓤 (sep 𝓤 (mean 𝓛 i) (⋆ 𝓛 (take n Γ))) (mono_r 𝓤 (mean 𝓛 i) (trimmed n Γ)) (push 𝓛 i (take n Γ)))

module _ {M : Type 1} {𝓤 : Ura M} {𝓛 : Logic 𝓤} {K : Type 0} {Γ : List (Item 𝓤)} {G : Goal 𝓤 𝓛.H} where
  pub lays : K → (n : ℕ) {k : Item 𝓤} → Step K 𝓛 (put 𝓛 n k Γ) G (k ∷ Γ) G
  lays t n {k} = step (λ s. record {
    prf = via 𝓤 (sep 𝓤 (mean 𝓛 k) (⋆ 𝓛 Γ)) (pop 𝓛 k Γ)
        (via 𝓤 (⋆ 𝓛 (put 𝓛 n k Γ)) (laid 𝓛 n k Γ) s.prf);
  })

  pub ends : K → {k : Item 𝓤} → Step K 𝓛 (Γ ++ k ∷ []) G (k ∷ Γ) G
  ends t {k} = step (λ s. record { prf = via 𝓤 (sep 𝓤 (mean 𝓛 k) (⋆ 𝓛 Γ)) (pop 𝓛 k Γ) (via 𝓤 (⋆ 𝓛 (Γ ++ k ∷ [])) (ended 𝓛 k Γ) s.prf) })

  trims : K → (n : ℕ) → Step K 𝓛 (take n Γ) G Γ G
  trims t n = step (λ s. record { prf = via 𝓤 (⋆ 𝓛 (take n Γ)) (trimmed 𝓛 n Γ) s.prf })

-- ---- what can be had twice
abbrev pub twice : Fml → Bool
twice ftrue = true
twice ffalse = false
twice (feq d x y) = true
twice (flt m n) = true
twice (fsep P Q) = twice P && twice Q
twice (fand P Q) = false
twice (for P Q) = false
twice (fwand P Q) = false
twice (fex d F) = false
twice (fall d F) = false
twice (fupd P) = false
twice (fhide P) = twice P
twice (fat q τ b o v) = false
twice (froom τ b o) = false
twice (fleft q ω τs b o) = false
twice (fdies τ b) = false
twice (flft κ q) = false
twice (fdead κ) = false
twice (fobs γ x) = false
twice (fauth γ x) = false
twice (fres γ x) = true
twice (fown R γ x) = false
twice (fbor κ P) = false
twice (fobor κ q P) = false
twice (flent κ P) = false
twice (fshr_bor κ Φ) = true
twice (finv P) = true
twice (fnamed n P) = true
twice (ftok m) = false
twice (fkid h a) = false
twice (fme h) = false
twice (fsent h) = false

module _ {M : Type 1} {𝓤 : Ura M} (𝓛 : Logic 𝓤) where
  fact_twice : (φ : Type 0) → ent 𝓤 (guard 𝓤 φ (emp 𝓤)) (sep 𝓤 (guard 𝓤 φ (emp 𝓤)) (guard 𝓤 φ (emp 𝓤)))
  fact_twice φ = ex_e 𝓤 (λ (_ : φ). emp 𝓤) (λ x. via 𝓤 (sep 𝓤 (emp 𝓤) (emp 𝓤)) (emp∗ 𝓤 (emp 𝓤)) (mono∗ 𝓤 (guard_i 𝓤 φ (emp 𝓤) x) (guard_i 𝓤 φ (emp 𝓤) x)))

  had-twice : (F : Fml) → T (twice F) → ent 𝓤 (sem 𝓛 F) (sep 𝓤 (sem 𝓛 F) (sem 𝓛 F))
  had-twice ftrue p = emp∗ 𝓤 (emp 𝓤)
  had-twice ffalse p = absurd p
  had-twice (feq d x y) p = fact_twice (x ≡ y)
  had-twice (flt m n) p = fact_twice (m < n)
  had-twice (fsep P Q) p =
      let ok = and_yes (twice P) (twice Q) p in
      qed 𝓛 (‵ P ∷ ‵ Q ∷ []) ∵ use1 𝓛 (‵ P ⊛ ‵ P) (had-twice P ok.0) $ split ! $ move ! (2 ∷ []) $ use1 𝓛 (‵ Q ⊛ ‵ Q) (had-twice Q ok.1) $ split ! $
      move ! (2 ∷ 0 ∷ []) $ fjoin ! $ frame ! $ move ! (1 ∷ 0 ∷ []) $ done !
  had-twice (fand P Q) p = absurd p
  had-twice (for P Q) p = absurd p
  had-twice (fwand P Q) p = absurd p
  had-twice (fex d F) p = absurd p
  had-twice (fall d F) p = absurd p
  had-twice (fupd P) p = absurd p
  had-twice (fhide P) p = had-twice P p
  had-twice (fat q τ b o v) p = absurd p
  had-twice (froom τ b o) p = absurd p
  had-twice (fleft q ω τs b o) p = absurd p
  had-twice (fdies τ b) p = absurd p
  had-twice (flft κ q) p = absurd p
  had-twice (fdead κ) p = absurd p
  had-twice (fobs γ x) p = absurd p
  had-twice (fauth γ x) p = absurd p
  had-twice (fres γ x) p = 𝓛.names.res_dup γ x
  had-twice (fown R γ x) p = absurd p
  had-twice (fbor κ P) p = absurd p
  had-twice (fobor κ q P) p = absurd p
  had-twice (flent κ P) p = absurd p
  had-twice (fshr_bor κ Φ) p = 𝓛.shr_bors.shr_bor_dup κ Φ
  had-twice (finv P) p = 𝓛.invs.inv_dup P
  had-twice (fnamed n P) p = 𝓛.invs.named_dup n P
  had-twice (ftok m) p = absurd p
  had-twice (fkid h a) p = absurd p
  had-twice (fme h) p = absurd p
  had-twice (fsent h) p = absurd p

-- F can be had twice, where that does not compute: what is behind a `&` is bound by ∃, one for each element of a slice
pub record Doubles (F : Fml) : Type 2 where
  pub law : (M : Type 1) (𝓤 : Ura M) (𝓛 : Logic 𝓤) → ent 𝓤 (sem 𝓛 F) (sep 𝓤 (sem 𝓛 F) (sem 𝓛 F))

abbrev pub ref_twice : (κ : Lft) (R : RattleType) → RowLaws R → (x : Bor R.Denot) → Doubles ((ShrRef erased κ R).own_val x (shr_vals x))
ref_twice κ R L x = record { law = λ M 𝓤 𝓛. (shr_copy 𝓛 erased κ R L).twice x (shr_vals x) }

abbrev pub slice_twice : (κ : Lft) (R : RattleType) → RowLaws R → (x : Bor (List R.Denot)) → Doubles ((ShrSlice erased κ R).own_val x (shr_slice_vals x))
slice_twice κ R L x = record { law = λ M 𝓤 𝓛. (shr_slice_copy 𝓛 erased κ R L).twice x (shr_slice_vals x) }

-- ---- what a call is handed
abbrev tail : List Fml → List Fml
tail [] = []
tail (F ∷ Fs) = Fs

abbrev pub nest : List Fml → Fml
nest [] = ftrue
nest (F ∷ Fs) = fsep F (nest Fs)

pub data Source : Type 2 where
  given : ℕ → Source
  copied : ℕ → Source
  copied_by : ℕ → {F : Fml} → Doubles F → Source
  made : (F : Fml) → Pure F → shadow F → Source

-- plain data at x
abbrev pub datum : {R : RattleType} (D : Data R) (x : R.Denot) → Is R x (D.val x ∷ []) → Source
datum {R} D x is = made (R.own_val x (D.val x ∷ [])) (D.pure x (D.val x ∷ [])) is

-- copies of the n entries from p on
abbrev pub span : ℕ → ℕ → List Source
span p zero = []
span p (suc n) = copied p ∷ span (suc p) n

module _ {M : Type 1} {𝓤 : Ura M} (𝓛 : Logic 𝓤) where
  abbrev formula : Item 𝓤 → Fml
  formula (‵ F) = F
  formula (raw P) = ftrue
  formula (i ⊛ j) = ftrue
  formula (∃' F) = ftrue
  formula (given' φ i) = ftrue
  formula (later i) = ftrue

  abbrev formula_at : ℕ → List (Item 𝓤) → Fml
  formula_at n Γ = formula (nth 𝓛 n Γ)

  abbrev left : Source → List (Item 𝓤) → List (Item 𝓤)
  left (given n) Γ = put 𝓛 n hole Γ
  left (copied n) Γ = Γ
  left (copied_by n d) Γ = Γ
  left (made F p s) Γ = Γ

  abbrev had : Source → List (Item 𝓤) → Fml
  had (given n) Γ = formula_at n Γ
  had (copied n) Γ = formula_at n Γ
  had (copied_by n d) Γ = formula_at n Γ
  had (made F p s) Γ = F

  abbrev gone : Source → Option ℕ
  gone (given n) = some n
  gone (copied n) = none
  gone (copied_by n d) = none
  gone (made F p s) = none

  abbrev fair : Source → List (Item 𝓤) → Bool
  fair (given n) Γ = true
  fair (copied n) Γ = twice (formula_at n Γ)
  fair (copied_by n d) Γ = true
  fair (made F p s) Γ = true

  -- what stands where a copy is taken by a law, and what the law is of
  abbrev found : Source → List (Item 𝓤) → Fml
  found (given n) Γ = ftrue
  found (copied n) Γ = ftrue
  found (copied_by n d) Γ = formula_at n Γ
  found (made F p s) Γ = ftrue

  abbrev stated : Source → Fml
  stated (given n) = ftrue
  stated (copied n) = ftrue
  stated (copied_by n {F} d) = F
  stated (made F p s) = ftrue

  -- of a list of sources: the formulas, which entries are given up, what is left, that what is copied can be had twice, and what the laws are found at and are of
  abbrev pub hads : List Source → List (Item 𝓤) → List Fml
  hads [] Γ = []
  hads (s ∷ ss) Γ = had s Γ ∷ hads ss (left s Γ)

  abbrev pub gones : List Source → List (Option ℕ)
  gones [] = []
  gones (s ∷ ss) = gone s ∷ gones ss

  abbrev pub lefts : List Source → List (Item 𝓤) → List (Item 𝓤)
  lefts [] Γ = Γ
  lefts (s ∷ ss) Γ = lefts ss (left s Γ)

  abbrev pub fairs : List Source → List (Item 𝓤) → Bool
  fairs [] Γ = true
  fairs (s ∷ ss) Γ = fair s Γ && fairs ss (left s Γ)

  abbrev pub founds : List Source → List (Item 𝓤) → List Fml
  founds [] Γ = []
  founds (s ∷ ss) Γ = found s Γ ∷ founds ss (left s Γ)

  abbrev pub stateds : List Source → List Fml
  stateds [] = []
  stateds (s ∷ ss) = stated s ∷ stateds ss

  pub all_fair : (π : List ℕ) (Γ : List (Item 𝓤)) → T (fairs (map given π) Γ)
  all_fair [] Γ = tt
  all_fair (n ∷ π) Γ = all_fair π (put 𝓛 n hole Γ)

  pub all_found : (π : List ℕ) (Γ : List (Item 𝓤)) → founds (map given π) Γ ≡ stateds (map given π)
  all_found [] Γ = refl
  all_found (n ∷ π) Γ = ap (λ (Fs : List Fml). ftrue ∷ Fs) (all_found π (put 𝓛 n hole Γ))

  abbrev put_if : Option ℕ → Fml → List (Item 𝓤) → List (Item 𝓤)
  put_if none F Γ = Γ
  put_if (some n) F Γ = put 𝓛 n (‵ F) Γ

  abbrev pub restore : List (Option ℕ) → List Fml → List (Item 𝓤) → List (Item 𝓤)
  restore [] Fs Γ = Γ
  restore (o ∷ os) [] Γ = Γ
  restore (o ∷ os) (F ∷ Fs) Γ = restore os Fs (put_if o F Γ)

  module _ where
    both : (F : Fml) (n : ℕ) (Γ : List (Item 𝓤)) → nth 𝓛 n Γ ≡ ‵ F → ent 𝓤 (sem 𝓛 F) (sep 𝓤 (sem 𝓛 F) (sem 𝓛 F)) → ent 𝓤 (⋆ 𝓛 Γ) (sep 𝓤 (sem 𝓛 F) (⋆ 𝓛 Γ))
    both F n Γ e d =
        let R : SProp 𝓤 = ⋆ 𝓛 (del 𝓛 n Γ) in
        via 𝓤 (sep 𝓤 (sem 𝓛 F) R) (subst (λ (j : Item 𝓤). ent 𝓤 (⋆ 𝓛 Γ) (sep 𝓤 (mean 𝓛 j) R)) e (pull 𝓛 n Γ))
        (via 𝓤 (sep 𝓤 (sem 𝓛 F) (sep 𝓤 (sem 𝓛 F) R)) (via 𝓤 (sep 𝓤 (sep 𝓤 (sem 𝓛 F) (sem 𝓛 F)) R) (mono_l 𝓤 R d)
        (assoc∗ 𝓤 (sem 𝓛 F) (sem 𝓛 F) R))
        (mono_r 𝓤 (sem 𝓛 F) (subst (λ (j : Item 𝓤). ent 𝓤 (sep 𝓤 (mean 𝓛 j) R) (⋆ 𝓛 Γ)) e (unpull 𝓛 n Γ))))

    -- an entry that is no formula goes
    lost : (n : ℕ) (Γ : List (Item 𝓤)) → ent 𝓤 (⋆ 𝓛 Γ) (sep 𝓤 (emp 𝓤) (⋆ 𝓛 (put 𝓛 n hole Γ)))
    lost n Γ =
        let R : SProp 𝓤 = ⋆ 𝓛 (put 𝓛 n hole Γ) in
        via 𝓤 R (via 𝓤 (sep 𝓤 (mean 𝓛 (nth 𝓛 n Γ)) R) (lifted 𝓛 n Γ) (snd∗ 𝓤 (mean 𝓛 (nth 𝓛 n Γ)) R)) (emp∗ 𝓤 R)

    taken : (n : ℕ) (Γ : List (Item 𝓤)) (i : Item 𝓤) → nth 𝓛 n Γ ≡ i → ent 𝓤 (⋆ 𝓛 Γ) (sep 𝓤 (sem 𝓛 (formula i)) (⋆ 𝓛 (put 𝓛 n hole Γ)))
    taken n Γ (‵ F) e = subst (λ (j : Item 𝓤). ent 𝓤 (⋆ 𝓛 Γ) (sep 𝓤 (mean 𝓛 j) (⋆ 𝓛 (put 𝓛 n hole Γ)))) e (lifted 𝓛 n Γ)
    taken n Γ (raw P) e = lost n Γ
    taken n Γ (i ⊛ j) e = lost n Γ
    taken n Γ (∃' F) e = lost n Γ
    taken n Γ (given' φ i) e = lost n Γ
    taken n Γ (later i) e = lost n Γ

    shared : (n : ℕ) (Γ : List (Item 𝓤)) (i : Item 𝓤) → nth 𝓛 n Γ ≡ i
        → ent 𝓤 (sem 𝓛 (formula i)) (sep 𝓤 (sem 𝓛 (formula i)) (sem 𝓛 (formula i))) → ent 𝓤 (⋆ 𝓛 Γ) (sep 𝓤 (sem 𝓛 (formula i)) (⋆ 𝓛 Γ))
    shared n Γ (‵ F) e d = both F n Γ e d
    shared n Γ (raw P) e d = emp∗ 𝓤 (⋆ 𝓛 Γ)
    shared n Γ (i ⊛ j) e d = emp∗ 𝓤 (⋆ 𝓛 Γ)
    shared n Γ (∃' F) e d = emp∗ 𝓤 (⋆ 𝓛 Γ)
    shared n Γ (given' φ i) e d = emp∗ 𝓤 (⋆ 𝓛 Γ)
    shared n Γ (later i) e d = emp∗ 𝓤 (⋆ 𝓛 Γ)

    one_had : (s : Source) (Γ : List (Item 𝓤)) → T (fair s Γ) → found s Γ ≡ stated s → ent 𝓤 (⋆ 𝓛 Γ) (sep 𝓤 (sem 𝓛 (had s Γ)) (⋆ 𝓛 (left s Γ)))
    one_had (given n) Γ ok e = taken n Γ (nth 𝓛 n Γ) refl
    one_had (copied n) Γ ok e = shared n Γ (nth 𝓛 n Γ) refl (had-twice 𝓛 (formula_at n Γ) ok)
    one_had (copied_by n {F} d) Γ ok e = shared n Γ (nth 𝓛 n Γ) refl
        (subst (λ (G : Fml). ent 𝓤 (sem 𝓛 G) (sep 𝓤 (sem 𝓛 G) (sem 𝓛 G))) (sym e) (d.law M 𝓤 𝓛))
    one_had (made F p s) Γ ok e = via 𝓤 (sep 𝓤 (emp 𝓤) (⋆ 𝓛 Γ)) (emp∗ 𝓤 (⋆ 𝓛 Γ)) (mono_l 𝓤 (⋆ 𝓛 Γ) (makes_shadow 𝓛 F p s))

    pub supplied : (ss : List Source) (Γ : List (Item 𝓤)) → T (fairs ss Γ) → founds ss Γ ≡ stateds ss → ent 𝓤 (⋆ 𝓛 Γ) (sep 𝓤 (sem 𝓛 (nest (hads ss Γ))) (⋆ 𝓛 (lefts ss Γ)))
    supplied [] Γ ok e = emp∗ 𝓤 (⋆ 𝓛 Γ)
    supplied (s ∷ ss) Γ ok e =
        let oks = and_yes (fair s Γ) (fairs ss (left s Γ)) ok in
        let F : SProp 𝓤 = sem 𝓛 (had s Γ) in
        let Fs : SProp 𝓤 = sem 𝓛 (nest (hads ss (left s Γ))) in
        let R : SProp 𝓤 = ⋆ 𝓛 (lefts ss (left s Γ)) in
        via 𝓤 (sep 𝓤 F (⋆ 𝓛 (left s Γ))) (one_had s Γ oks.0 (ap (λ (Fs : List Fml). get_or Fs 0 ftrue) e)) (via 𝓤 (sep 𝓤 F (sep 𝓤 Fs R)) (mono_r 𝓤 F (supplied ss (left s Γ) oks.1 (ap tail e)))
        (assoc' 𝓤 F Fs R))

    put_back : (o : Option ℕ) (F : Fml) (Γ : List (Item 𝓤)) → ent 𝓤 (sep 𝓤 (sem 𝓛 F) (⋆ 𝓛 Γ)) (⋆ 𝓛 (put_if o F Γ))
    put_back none F Γ = snd∗ 𝓤 (sem 𝓛 F) (⋆ 𝓛 Γ)
    put_back (some n) F Γ = laid 𝓛 n (‵ F) Γ

    pub restored : (os : List (Option ℕ)) (Fs : List Fml) (Γ : List (Item 𝓤)) → ent 𝓤 (sep 𝓤 (sem 𝓛 (nest Fs)) (⋆ 𝓛 Γ)) (⋆ 𝓛 (restore os Fs Γ))
    restored [] Fs Γ = snd∗ 𝓤 (sem 𝓛 (nest Fs)) (⋆ 𝓛 Γ)
    restored (o ∷ os) [] Γ = snd∗ 𝓤 (emp 𝓤) (⋆ 𝓛 Γ)
    restored (o ∷ os) (F ∷ Fs) Γ =
        via 𝓤 (sep 𝓤 (sem 𝓛 (nest Fs)) (sep 𝓤 (sem 𝓛 F) (⋆ 𝓛 Γ)))
        (qed 𝓛 ((‵ F ⊛ ‵ (nest Fs)) ∷ raw (⋆ 𝓛 Γ) ∷ []) ∵ split ! $ move ! (1 ∷ 0 ∷ 2 ∷ []) $ done !)
        (via 𝓤 (sep 𝓤 (sem 𝓛 (nest Fs)) (⋆ 𝓛 (put_if o F Γ))) (mono_r 𝓤 (sem 𝓛 (nest Fs)) (put_back o F Γ)) (restored os Fs (put_if o F Γ)))

module _ {M : Type 1} {𝓤 : Ura M} {𝓛 : Logic 𝓤} {K : Type 0} {i : Item 𝓤} {Δ : List (Item 𝓤)} {G : Goal 𝓤 𝓛.H} where
  -- the entries at π behind the first, at the head as one
  pub takes : K → (π : List ℕ) {Fs : List Fml} → hads 𝓛 (map given π) Δ ≡ Fs → Step K 𝓛 (‵ (nest Fs) ∷ i ∷ lefts 𝓛 (map given π) Δ) G (i ∷ Δ) G
  takes t π {Fs} e = step (λ s. record {
    prf =
        let R : SProp 𝓤 = ⋆ 𝓛 (lefts 𝓛 (map given π) Δ) in
        via 𝓤 (sep 𝓤 (mean 𝓛 i) (⋆ 𝓛 Δ)) (pop 𝓛 i Δ)
        (via 𝓤 (sep 𝓤 (sem 𝓛 (nest Fs)) (sep 𝓤 (mean 𝓛 i) R))
        (qed 𝓛 (i ∷ raw (⋆ 𝓛 Δ) ∷ []) ∵ move ! (1 ∷ []) $ use1 𝓛 (‵ (nest Fs) ⊛ raw R)
        (subst (λ (Gs : List Fml). ent 𝓤 (⋆ 𝓛 Δ) (sep 𝓤 (sem 𝓛 (nest Gs)) R)) e (supplied 𝓛 (map given π) Δ (all_fair 𝓛 π Δ) (all_found 𝓛 π Δ))) $ split ! $
        move ! (0 ∷ 2 ∷ 1 ∷ []) $ done !)
        (via 𝓤 (⋆ 𝓛 (‵ (nest Fs) ∷ i ∷ lefts 𝓛 (map given π) Δ)) (mono_r 𝓤 (sem 𝓛 (nest Fs)) (push 𝓛 i (lefts 𝓛 (map given π) Δ)))
        s.prf));
  })

-- n entries, by name
abbrev pub Items : {M : Type 1} (𝓤 : Ura M) → ℕ → Type 2
Items 𝓤 zero = Unit {2}
Items 𝓤 (suc n) = Item 𝓤 × Items 𝓤 n

abbrev pub listed : {M : Type 1} {𝓤 : Ura M} (n : ℕ) → Items 𝓤 n → List (Item 𝓤)
listed zero is = []
listed (suc n) is = is.0 ∷ listed n is.1

module _ {M : Type 1} {𝓤 : Ura M} {𝓛 : Logic 𝓤} {K : Type 0} {i : Item 𝓤} {Δ : List (Item 𝓤)} {G : Goal 𝓤 𝓛.H} where
  pub tidies : K → (n : ℕ) (is : Items 𝓤 n) → take n Δ ≡ listed n is → Step K 𝓛 (i ∷ listed n is) G (i ∷ Δ) G
  tidies t n is e = step (λ s. trims t (suc n) $ subst (λ (Γ : List (Item 𝓤)). Seq K 𝓛 (i ∷ Γ) G) (sym e) s)
