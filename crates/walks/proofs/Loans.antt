-- A `&mut` or a local that is lent for a call and comes back. While the loan stands, the lent reference and its token are where the borrow and its token were,
-- and what the lender keeps stands behind all entries. The last loan comes back first: n is the number of entries before the loan, and these are left.
-- Positions are counted behind the first entry, the locals.
--     lends_ref R p t x refl (λ loan. …)        the `&mut R` at p, which is at x, with its token at t, is lent; `lent_ref loan` is what the callee is handed
--     ref_back loan p t n y _ refl $ …          it is back, at the last value y
--     lends_slice R p t x m refl (λ loan. …)    a `&mut [R]` whose machine value counts m elements; `lent_slice loan`
--     slice_back loan p t n ys _ refl (λ same. …)      it is back, and ys is as long as the list that was lent
--     lends_local F j h is refl refl (λ loan. …)       local j, a struct of plain data that holds h; `lent_local loan b h` where b is its block.
--                                               The reference stands at n, behind it its token, then what is kept
--     local_back F loan j n h _ refl refl refl (λ is. …)      local j holds h
--     gives_up R p x refl $ …                   the `&mut R` at p is not used any more: what is left says its last value, and hands the borrow back
-- What a call leaves of a reference that was lent is `Walk.antt`'s `ref_left` or `slice_left`: what says the last value, and the borrow, whose lifetime then ends.
-- A `refl` shows what stands at the positions, and a `_` is filled in with the entries that are left.
use mathlib.Core.Path.{◌≡◌, refl, sym, ap}
use mathlib.Core.List.{List, [], ◌∷◌, ◌++◌, map}
use mathlib.Core.Option.{some}
use Prim.Native.Nat.{ℕ, zero, suc}
use seplogic.Ra.Ura.{Ura}
use base.Fraction.{full_share}
use lib.ListN.{length, take}
use mir.Syntax.{Ty, erased, Body as Code}
use mir.Val.{Val, vptr}
use base.Fml.{Lft, GName, Share, Fml, flft, flent, fat, fres}
use prog.Wp.{Env, Calls, Loops}
use types.Logic.{Logic}
use types.Kit.{Item, ‵, ◌⊛◌, some as ∃', later, given as given', put, Post, runs, Seq, Step, step, ◌$◌, move, drop, use1, use2, use3, split, pick, learn}
use types.Kit.{fsplit, fsplit3, fjoin, feq_l, rewrite, await}
use types.SemTy.{Body}
use types.Tokens.{lft_new, lft_end}
use denote.RattleType.{RattleType}
use denote.Laws.{Is, shows}
use denote.Lend as lend
use denote.Memory.{mem, lone}
use denote.Ref.{MutBor, MutRef, at_last, mut_vals}
use denote.Slice.{MutSlice, Room, slice_val}
use denote.Steps.{peeks}
use denote.Struct.Declared.{row}
use denote.Struct.Laws as LL
use Rattle.walks.proofs.Again as again
use Rattle.walks.proofs.Data.{Fielded}
use Rattle.walks.proofs.Entries.{given, hads, lefts, takes, lays, ends, Items, listed, tidies}
use Rattle.walks.proofs.Frame.{Held, holds, lent, Frame, put as put', held_at, slot_at, lent_out, lent_in, spot}
use Rattle.walks.proofs.Lent as local
use Rattle.walks.proofs.Walk.{count, ref_left, slice_left}

-- ---- a loan: the lifetime that is made for it, its name, and of a slice what the lender knows
pub record RefLoan (R : RattleType) (κ : Lft) (q : Share) (x : MutBor R.Denot) : Type 0 where
  pub lft : ℕ
  pub named : GName

pub record SliceLoan (R : RattleType) (κ : Lft) (q : Share) (x : MutBor (List R.Denot)) (m : ℕ) : Type 0 where
  pub lft : ℕ
  pub named : GName
  pub counted : length x.now ≡ m
  pub roomy : Room R (length x.now)

pub record LocalLoan : Type 0 where
  pub lft : ℕ
  pub named : GName

abbrev pub lent_ref : {R : RattleType} {κ : Lft} {q : Share} {x : MutBor R.Denot} → RefLoan R κ q x → MutBor R.Denot
lent_ref {x = x} l = record { ref_ptr = x.ref_ptr; ghost_name = l.named; now = x.now }

abbrev pub lent_slice : {R : RattleType} {κ : Lft} {q : Share} {x : MutBor (List R.Denot)} {m : ℕ} → SliceLoan R κ q x m → MutBor (List R.Denot)
lent_slice {x = x} l = record { ref_ptr = x.ref_ptr; ghost_name = l.named; now = x.now }

abbrev pub lent_local : {X : Type 0} → LocalLoan → ℕ → X → MutBor X
lent_local l b h = record { ref_ptr = (b, zero); ghost_name = l.named; now = h }

-- what the lender keeps
abbrev pub RefKept : {R : RattleType} {κ : Lft} {q : Share} {x : MutBor R.Denot} → RefLoan R κ q x → Fml
RefKept {R} {κ} {q} {x} l = lend.LentAgain R κ (l.lft ∷ []) q x.ghost_name x.ref_ptr.0 x.ref_ptr.1 l.named x.now

abbrev pub SliceKept : {R : RattleType} {κ : Lft} {q : Share} {x : MutBor (List R.Denot)} {m : ℕ} → SliceLoan R κ q x m → Fml
SliceKept {R} {κ} {q} {x} l = again.LentAgain R κ (l.lft ∷ []) q x.ghost_name x.ref_ptr.0 x.ref_ptr.1 l.named x.now

abbrev pub LocalKept : LocalLoan → (R : RattleType) → ℕ → Fml
LocalKept l R b = flent (l.lft ∷ []) (Body (mem R) b zero l.named)

abbrev alive : ℕ → Fml
alive α = flft (α ∷ []) full_share

-- what a loan's return shows: the entries that it uses, and the n entries that are left
abbrev Back : {M : Type 1} (𝓤 : Ura M) → List Fml → List Fml → (n : ℕ) → List (Item 𝓤) → Items 𝓤 n → Type 2
Back 𝓤 Fs Gs n Δ is = ◌≡◌ {A = List Fml × List (Item 𝓤)} (Fs, take n Δ) (Gs, listed n is)

-- ---- a `&mut`
module _ {M : Type 1} {𝓤 : Ura M} {𝓛 : Logic 𝓤} {K : Type 0} {i : Item 𝓤} {Δ : List (Item 𝓤)}
    {C : Calls 𝓤 𝓛.H} {Λ : Loops 𝓤 𝓛.H} {E : Env 𝓤 𝓛.H} {b : Code} {z : Post 𝓤 𝓛.H} where
  pub lends_ref : K → (R : RattleType) (p t : ℕ) {κ : Lft} {q : Share} (x : MutBor R.Denot)
      → hads 𝓛 (map given (p ∷ t ∷ [])) Δ ≡ (MutRef erased κ R).own_val x (mut_vals x) ∷ flft κ q ∷ []
      → ((l : RefLoan R κ q x)
      → Seq K 𝓛 (i ∷ put 𝓛 t (‵ (alive l.lft)) (put 𝓛 p (‵ ((MutRef erased (l.lft ∷ []) R).own_val (lent_ref l) (mut_vals x)))
      (lefts 𝓛 (map given (p ∷ t ∷ [])) Δ) ++ ‵ (RefKept l) ∷ []))
      (runs C Λ E b z)) → Seq K 𝓛 (i ∷ Δ) (runs C Λ E b z)
  lends_ref k R p t {κ} {q} x e go = takes k (p ∷ t ∷ []) e $ fsplit3 k $ lft_new k tt (λ α. move k (1 ∷ 2 ∷ []) $
      use2 𝓛 (later (∃' (λ (δ : GName). ‵ ((MutRef erased (α ∷ []) R).own_val (record { ref_ptr = x.ref_ptr; ghost_name = δ; now = x.now }) (mut_vals x))
      ⊛ ‵ (lend.LentAgain R κ (α ∷ []) q x.ghost_name x.ref_ptr.0 x.ref_ptr.1 δ x.now))))
      (lend.lends_again 𝓛 R erased κ (α ∷ []) q x.ghost_name x.ref_ptr.0 x.ref_ptr.1 erased x.now) $ await k tt $ pick k (λ δ. split k $
      -- [the reference; what is kept; the token; true; the locals; the rest]
      lays k (suc (suc (suc (suc p)))) $ ends k $ move k (1 ∷ []) $ drop k $ lays k (suc t) $ go (record { lft = α; named = δ })))

  pub ref_back : K → {R : RattleType} {κ : Lft} {q : Share} {x : MutBor R.Denot} (l : RefLoan R κ q x) (p t n : ℕ) (y : R.Denot) (is : Items 𝓤 n)
      → Back 𝓤 (hads 𝓛 (map given (t ∷ n ∷ p ∷ [])) Δ) (alive l.lft ∷ RefKept l ∷ ref_left (l.lft ∷ []) R (lent_ref l) y ∷ []) n
      (put 𝓛 t (‵ (flft κ q)) (put 𝓛 p (‵ ((MutRef erased κ R).own_val (at_last x y) (mut_vals x))) (lefts 𝓛 (map given (t ∷ n ∷ p ∷ [])) Δ))) is
      → Step K 𝓛 (i ∷ listed n is) (runs C Λ E b z) (i ∷ Δ) (runs C Λ E b z)
  ref_back k {R} {κ} {q} {x} l p t n y is e = step (λ s.
      takes k (t ∷ n ∷ p ∷ []) (ap (λ b. b.0) e) $ fsplit k $ lft_end k tt $ move k (1 ∷ []) $ fsplit3 k $ move k (1 ∷ []) $ fsplit k $ move k (1 ∷ []) $ drop k $
      move k (3 ∷ 1 ∷ 0 ∷ []) $
      use3 𝓛 (later (‵ ((MutRef erased κ R).own_val (at_last x y) (mut_vals x)) ⊛ ‵ (flft κ q)))
      (lend.comes_back 𝓛 R erased κ (l.lft ∷ []) q x.ghost_name x.ref_ptr.0 x.ref_ptr.1 l.named x.now y) $ await k tt $ split k $
      lays k (suc (suc (suc p))) $ move k (1 ∷ []) $ drop k $ lays k (suc t) $ tidies k n is (ap (λ b. b.1) e) $ s)

  pub gives_up : K → (R : RattleType) (p : ℕ) {κ : Lft} (x : MutBor R.Denot) → hads 𝓛 (map given (p ∷ [])) Δ ≡ (MutRef erased κ R).own_val x (mut_vals x) ∷ []
      → Step K 𝓛 (i ∷ put 𝓛 p (‵ (ref_left κ R x x.now)) (lefts 𝓛 (map given (p ∷ [])) Δ)) (runs C Λ E b z) (i ∷ Δ) (runs C Λ E b z)
  gives_up k R p x e = step (λ s. takes k (p ∷ []) e $ fsplit k $ fsplit3 k $ move k (1 ∷ []) $
      use1 𝓛 (‵ (fres x.ghost_name (R.coded.code x.now))) (𝓛.names.obs-res x.ghost_name (R.coded.code x.now)) $ move k (0 ∷ 2 ∷ []) $ fjoin k $
      lays k (suc (suc (suc p))) $ drop k $ drop k $ s)

  pub lends_slice : K → (R : RattleType) (p t : ℕ) {κ : Lft} {q : Share} (x : MutBor (List R.Denot)) (m : ℕ)
      → hads 𝓛 (map given (p ∷ t ∷ [])) Δ ≡ (MutSlice erased κ R).own_val x (slice_val x.ref_ptr m ∷ []) ∷ flft κ q ∷ []
      → ((l : SliceLoan R κ q x m) → Seq K 𝓛 (i ∷ put 𝓛 t (‵ (alive l.lft))
      (put 𝓛 p (‵ ((MutSlice erased (l.lft ∷ []) R).own_val (lent_slice l) (slice_val x.ref_ptr m ∷ []))) (lefts 𝓛 (map given (p ∷ t ∷ [])) Δ) ++ ‵
      (SliceKept l) ∷ []))
      (runs C Λ E b z)) → Seq K 𝓛 (i ∷ Δ) (runs C Λ E b z)
  lends_slice k R p t {κ} {q} x m e go = takes k (p ∷ t ∷ []) e $ fsplit3 k $
      peeks k (MutSlice erased κ R) (Is (MutSlice erased κ R)) (shows 𝓛 (MutSlice erased κ R)) x (slice_val x.ref_ptr m ∷ []) (λ is.
      let same : length x.now ≡ m = sym (ap count is.0.0) in
      lft_new k tt (λ α. move k (1 ∷ 2 ∷ []) $
      use2 𝓛 (later (∃' (λ (δ : GName). ‵ ((MutSlice erased (α ∷ []) R).own_val (record { ref_ptr = x.ref_ptr; ghost_name = δ; now = x.now }) (slice_val x.ref_ptr m ∷ []))
      ⊛ ‵ (again.LentAgain R κ (α ∷ []) q x.ghost_name x.ref_ptr.0 x.ref_ptr.1 δ x.now))))
      (again.lends_at R κ (α ∷ []) q x.ghost_name x.ref_ptr.0 x.ref_ptr.1 𝓛 erased erased x.now m same) $ await k tt $ pick k (λ δ. split k $
      lays k (suc (suc (suc (suc p)))) $ ends k $ move k (1 ∷ []) $ drop k $ lays k (suc t) $
      go (record { lft = α; named = δ; counted = same; roomy = is.0.1 }))))

  pub slice_back : K → {R : RattleType} {κ : Lft} {q : Share} {x : MutBor (List R.Denot)} {m : ℕ} (l : SliceLoan R κ q x m) (p t n : ℕ) (ys : List R.Denot)
      (is : Items 𝓤 n)
      → Back 𝓤 (hads 𝓛 (map given (t ∷ n ∷ p ∷ [])) Δ) (alive l.lft ∷ SliceKept l ∷ slice_left (l.lft ∷ []) R (lent_slice l) ys ∷ []) n
      (put 𝓛 t (‵ (flft κ q)) (put 𝓛 p (‵ ((MutSlice erased κ R).own_val (at_last x ys) (slice_val x.ref_ptr m ∷ [])))
      (lefts 𝓛 (map given (t ∷ n ∷ p ∷ [])) Δ))) is
      → (length ys ≡ length x.now → Seq K 𝓛 (i ∷ listed n is) (runs C Λ E b z)) → Seq K 𝓛 (i ∷ Δ) (runs C Λ E b z)
  slice_back k {R} {κ} {q} {x} {m} l p t n ys is e go =
      takes k (t ∷ n ∷ p ∷ []) (ap (λ b. b.0) e) $ fsplit k $ lft_end k tt $ move k (1 ∷ []) $ fsplit3 k $ move k (1 ∷ []) $ fsplit k $ move k (1 ∷ []) $ drop k $
      fsplit k $ move k (1 ∷ []) $ feq_l k (λ same. move k (3 ∷ 1 ∷ 0 ∷ []) $
      use3 𝓛 (later (‵ ((MutSlice erased κ R).own_val (at_last x ys) (slice_val x.ref_ptr m ∷ [])) ⊛ ‵ (flft κ q)))
      (again.back_at R κ (l.lft ∷ []) q x.ghost_name x.ref_ptr.0 x.ref_ptr.1 𝓛 erased erased x.now m l.counted l.named ys l.roomy same) $
      await k tt $ split k $
      lays k (suc (suc (suc p))) $ move k (1 ∷ []) $ drop k $ lays k (suc t) $ tidies k n is (ap (λ b. b.1) e) $ go same)

-- ---- a local
module _ (F : Fielded) {M : Type 1} {𝓤 : Ura M} {𝓛 : Logic 𝓤} {K : Type 0} {C : Calls 𝓤 𝓛.H} {Λ : Loops 𝓤 𝓛.H} {E : Env 𝓤 𝓛.H}
    {hs : List Held} {Δ : List (Item 𝓤)}
    {b : Code} {z : Post 𝓤 𝓛.H} where
  pub lends_local : K → (j : ℕ) (h : F.type.D) → Is (row F.type) h (LL.vals F.type F.laws h)
      → held_at E hs j ≡ some (LL.val F.type F.laws h) → lone (row F.type).mir ≡ (spot 𝓛 E j).0
      → ((l : LocalLoan)
      → Seq K 𝓛 (‵ (Frame E (put' j lent hs)) ∷ Δ ++ ‵ ((MutRef erased (l.lft ∷ []) (row F.type)).own_val (lent_local l (spot 𝓛 E j).1 h)
      (vptr (spot 𝓛 E j).1 zero ∷ [])) ∷ []
      ++ ‵ (alive l.lft) ∷ [] ++ ‵ (LocalKept l (row F.type) (spot 𝓛 E j).1) ∷ []) (runs C Λ E b z))
      → Seq K 𝓛 (‵ (Frame E hs) ∷ Δ) (runs C Λ E b z)
  lends_local k j h is e same go =
      let o : ℕ = (spot 𝓛 E j).1 in
      let R : RattleType = row F.type in
      let v : Val = LL.val F.type F.laws h in
      use1 𝓛 (‵ (fat full_share (spot 𝓛 E j).0 o zero v) ⊛ ‵ (Frame E (put' j lent hs))) (lent_out 𝓛 E hs j v e) $ split k $
      rewrite k 0 (λ (τ : Ty). ‵ (fat full_share τ o zero v)) (sym same) refl $ lft_new k tt (λ α. move k (1 ∷ []) $
      use1 𝓛 (later (∃' (λ (δ : GName). ‵ ((MutRef erased (α ∷ []) R).own_val (record { ref_ptr = (o, zero); ghost_name = δ; now = h }) (vptr o zero ∷ [])) ⊛ ‵
      (flent (α ∷ []) (Body (mem R) o zero δ)))))
      (local.lends F.type F.laws F.plain 𝓛 o erased (α ∷ []) h is) $
      await k tt $ pick k (λ δ. split k $ ends k $ move k (1 ∷ 0 ∷ []) $ ends k $ ends k $ go (record { lft = α; named = δ })))

  pub local_back : K → (l : LocalLoan) (j n : ℕ) (h : F.type.D) (is : Items 𝓤 n) → slot_at E hs j ≡ some lent → lone (row F.type).mir ≡ (spot 𝓛 E j).0
      → Back 𝓤 (hads 𝓛 (map given (suc n ∷ suc (suc n) ∷ n ∷ [])) Δ)
      (alive l.lft ∷ LocalKept l (row F.type) (spot 𝓛 E j).1 ∷ ref_left (l.lft ∷ []) (row F.type) (lent_local l (spot 𝓛 E j).1 h) h ∷ []) n
      (lefts 𝓛 (map given (suc n ∷ suc (suc n) ∷ n ∷ [])) Δ) is
      → (Is (row F.type) h (LL.vals F.type F.laws h) → Seq K 𝓛 (‵ (Frame E (put' j (holds (LL.val F.type F.laws h)) hs)) ∷ listed n is)
      (runs C Λ E b z))
      → Seq K 𝓛 (‵ (Frame E hs) ∷ Δ) (runs C Λ E b z)
  local_back k l j n h is e same has go =
      let o : ℕ = (spot 𝓛 E j).1 in
      let R : RattleType = row F.type in
      let v : Val = LL.val F.type F.laws h in
      takes k (suc n ∷ suc (suc n) ∷ n ∷ []) (ap (λ c. c.0) has) $ fsplit k $ lft_end k tt $ move k (1 ∷ []) $ fsplit3 k $ move k (1 ∷ []) $ fsplit k $ move k (1 ∷ []) $ drop k $
      move k (3 ∷ 1 ∷ 0 ∷ []) $
      use3 𝓛 (later (given' (Is R h (LL.vals F.type F.laws h)) (‵ (fat full_share (lone R.mir) o zero v))))
      (local.back F.type F.laws F.plain 𝓛 o (l.lft ∷ []) l.named h) $
      await k tt $ learn k (λ is-h. rewrite k 0 (λ (τ : Ty). ‵ (fat full_share τ o zero v)) same refl $ move k (0 ∷ 2 ∷ []) $
      use2 𝓛 (‵ (Frame E (put' j (holds v) hs))) (lent_in 𝓛 E hs j v e) $ move k (1 ∷ []) $ drop k $ tidies k n is (ap (λ c. c.1) has) $ go is-h)
