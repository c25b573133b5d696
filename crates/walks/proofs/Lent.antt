-- A local that holds a struct of plain data is lent as a `&mut`, and taken back: what a caller of a function with a `&mut S` needs. For any such struct.
--     lends    the local at h  ⊢ ⇛ ∃ γ. what a `&κ mut S` at h owns ∗ the lender's part
--     back     [†κ] ∗ the lender's part ∗ the last value h under γ  ⊢ ⇛ the local at h, with the struct's relation
use Prim.Native.Nat.{ℕ}
use mathlib.Core.List.{[], ◌∷◌, List}
use seplogic.Ra.Ura.{Ura}
use base.Fraction.{full_share}
use mir.Syntax.{Ty, Lifetime}
use mir.Val.{Val}
use base.Logic.{ent, sep, ex, guard}
use base.Fml.{GName, Lft, fsep, fat, fdead, flent, fres}
use types.Logic.{Logic, sem}
use types.Kit.{‵, later, ◌$◌, ◌∵◌, !, qed, by, move, keep, use1, use3, fsplit, fjoin, fpick, fpack, await, updating, now as at_once, check, done}
use types.SemTy.{Body}
use denote.RattleType.{RattleType}
use denote.Laws.{Is, shows}
use denote.Memory.{mem, part_at, part_of, cell_at, lone}
use denote.Lend.{lends_ref, ref_back, LentRef}
use denote.Steps.{owned, peeks}
use denote.Struct.Declared.{Declared, row, fields}
use denote.Struct.Laws as LL
use denote.Struct.Steps.{spelt}
use denote.Struct.Struct.{Plains}

module _ (T : Declared) (L : LL.Laws T) (pl : Plains (fields T)) {M : Type 1} {𝓤 : Ura M} (𝓛 : Logic 𝓤) (l : ℕ) where
  open 𝓛 use {H, A}

  abbrev R : RattleType
  R = row T

  abbrev τ : Ty
  τ = lone R.mir

  lie_in : (h : T.D) → Is R h (LL.vals T L h) → ent 𝓤 (H.at full_share τ l 0 (LL.val T L h)) (sem 𝓛 (part_at R full_share h l 0))
  unfolding part_of
  lie_in h is =
      qed 𝓛 (‵ (fat full_share τ l 0 (LL.val T L h)) ∷ []) ∵ use1 𝓛 (‵ (cell_at full_share R.mir (LL.vals T L h) l 0))
      (𝓛.laws.at_raw full_share τ l 0 (LL.val T L h)) $
      owned ! R (Is R) (LL.makes T pl 𝓛) h _ is $ move ! (1 ∷ 0 ∷ []) $ fjoin ! $
      fpack ! (List Val) (λ us. fsep (cell_at full_share R.mir us l 0) (R.own_val h us)) (LL.vals T L h) $ done !

  lie_out : (h : T.D) → ent 𝓤 (sem 𝓛 (part_at R full_share h l 0)) (guard 𝓤 (Is R h (LL.vals T L h)) (H.at full_share τ l 0 (LL.val T L h)))
  unfolding part_of
  lie_out h =
      qed 𝓛 (‵ (part_at R full_share h l 0) ∷ []) ∵ fpick ! (λ vs. fsplit ! $ spelt ! R (Is R) (shows 𝓛 R) (LL.vals T L) (LL.tells T L) full_share h vs l 0 $
      move ! (1 ∷ []) $ peeks ! R (Is R) (shows 𝓛 R) h (LL.vals T L h) (λ is. keep ! (1 ∷ []) $
      use1 𝓛 (‵ (fat full_share τ l 0 (LL.val T L h))) (𝓛.laws.raw_at full_share τ l 0 (LL.val T L h)) $ check ! is $ done !))

  pub lends : (ℓ : Lifetime) (κ : Lft) (h : T.D) → Is R h (LL.vals T L h)
      → ent 𝓤 (H.at full_share τ l 0 (LL.val T L h)) (H.⇛ (ex 𝓤 (LentRef 𝓛 R ℓ κ h l 0)))
  lends ℓ κ h is = qed 𝓛 (‵ (fat full_share τ l 0 (LL.val T L h)) ∷ []) ∵ use1 𝓛 (‵ (part_at R full_share h l 0)) (lie_in h is) $
      by ! (lends_ref 𝓛 R ℓ κ h l 0)

  pub back : (κ : Lft) (γ : GName) (h : T.D)
      → ent 𝓤 (sep 𝓤 (A.dead κ) (sep 𝓤 (A.lent κ (Body (mem R) l 0 γ)) (A.res γ (R.coded.code h))))
      (H.⇛ (guard 𝓤 (Is R h (LL.vals T L h)) (H.at full_share τ l 0 (LL.val T L h))))
  back κ γ h =
      qed 𝓛 (‵ (fdead κ) ∷ ‵ (flent κ (Body (mem R) l 0 γ)) ∷ ‵ (fres γ (R.coded.code h)) ∷ []) ∵ updating ! $
      use3 𝓛 (later (‵ (part_at R full_share h l 0))) (ref_back 𝓛 R κ γ h l 0) $ await ! tt $ at_once ! $ by ! (lie_out h)
