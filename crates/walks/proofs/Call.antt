-- A call in a walk, from the operands to the result in its local, as one rule.
--     Knows C f Q c    a callee: its entry in the table meets the contract that the clauses c make, and the table is monotone under a frame
--     shown 𝓛 x        that a `requires` or an `ensures` which states a fact holds, by the fact x.        all_shown 𝓛 (shown 𝓛 x) (shown 𝓛 y)      of two clauses
--     all_said 𝓛 refl  that two clauses state one fact: the pair of theirs.        all_said 𝓛 (all_said 𝓛 refl)      of three.        none_said 𝓛      of none
--     calls known π a ss Φ refl ok (λ r w. refl) D (λ r w is φ. …)
--         the callee is handed the tokens at π, for its lifetimes in order, and from the sources ss what its parameters own at the values a.
--         ok is its bounds, its ghost value, and that its `requires` holds: `(tt, tt, shown 𝓛 x)`, or `(tt, tt, id⊢ 𝓤 _)` where it has none.
--         Φ spells out what its `ensures` states of the result r and the last values w: those of the parameters that have one (`Params.antt`'s `Short`).
--         Once it has returned, the local holds r's machine value (D), the tokens are where they were, and what says a `&mut`'s last value is where that was.
--         The first `refl` shows that the sources have what the callee asks, that the operands are the values passed, and that the result fits its local.
--     calls_last       the same of the last statement of a part
--     calls_to … D r w these (λ is. …)     the walk goes on at the result r and the last values w, which are those that the `ensures` states (these)
use mathlib.Core.Path.{◌≡◌, refl, sym, ap, subst, ◌∙◌}
use mathlib.Core.Bool.{Bool, true, ◌&&◌}
use mathlib.Core.List.{List, [], ◌∷◌, map}
use mathlib.Core.Option.{Option, none, some}
use Prim.Native.Nat.{ℕ, zero, suc}
use seplogic.Ra.Ura.{Ura}
use lib.Dec.{T}
use lib.ListN.{get_or}
use mir.Facts.{and_yes, yes_and}
use mir.Syntax.{Callee, Ty, place, Opd as Operand, Body, seq, call}
use mir.Val.{Val, has_ty}
use base.Logic.{SProp, ent, sep, emp, id⊢, via, mono_r, mono∗, fst∗, snd∗, emp∗, both⊢}
use base.Fml.{Fml}
use prog.Wp.{Env, Calls, Loops, next, no_local}
use types.Logic.{Logic, sem}
use sound.WpLaws.{FmC}
use contract.Lifetimes.{Lfts, Shares, AllOutlive, toks}
use contract.Monad.{fact, fact_i, fact_use, top}
use types.Kit.{Item, ‵, raw, ◌⊛◌, some as ∃', later, ⋆, pop, push, Post, post, Goal, Soaks, prop, runs, lands, settles, Seq, Step, step, ◌$◌, ◌∵◌, ! }
use types.Kit.{qed, move, use0, use1, use2, split, join, pick, rewrite, await, done}
use types.Run.{Opds, Writes, from, stop, land, land_last}
use denote.RattleType.{RattleType, Valss, flat, owns}
use denote.Laws.{Is, shows}
use denote.Memory.{lone}
use denote.Signature.{Signature, type_at, types_at}
use denote.Steps.{only, facts, heard}
use denote.Triple.Call.{calls_at, calls_at_last}
use denote.Triple.Clauses.{Ended, Clauses, at_exit, closing}
use denote.Triple.End.{Fins, lasts_of}
use denote.Triple.Entry.{Args}
use denote.Triple.Spec.{Meets, triple_of}
use Rattle.walks.proofs.Data.{Data, fits, is_val}
use Rattle.walks.proofs.Entries.{Source, given, nest, hads, gones, lefts, fairs, all_fair, founds, stateds, all_found, restore, supplied, restored}
use Rattle.walks.proofs.Frame.{Held, holds, Frame, owned, put, spot, into}
use Rattle.walks.proofs.Assign.{opds}
use Rattle.walks.proofs.Value.{opds_of}
use Rattle.walks.proofs.Params.{lfts_of, shares_of, tokens, singles, owns_each, owns_each_lem, lasts_each, lasts_each_lem, Short, long, short, long_short}

-- ---- the callee
pub record Knows {M : Type 1} {𝓤 : Ura M} (𝓛 : Logic 𝓤) (C : Calls 𝓤 𝓛.H) (f : Callee) (Q : Ended) (c : Clauses 𝓤 Q) : Type 2 where
  pub frames : FmC 𝓤 𝓛.H 𝓛.laws C
  pub meets : Meets 𝓛 Q.signature (C f) (closing 𝓛 Q c)

pub shown : {M : Type 1} {𝓤 : Ura M} (𝓛 : Logic 𝓤) {φ : Type 0} → φ → ent 𝓤 (emp 𝓤) (fact 𝓤 φ)
shown {𝓤 = 𝓤} 𝓛 {φ} x = fact_i 𝓤 φ (emp 𝓤) x

-- of several clauses
module _ {M : Type 1} {𝓤 : Ura M} (𝓛 : Logic 𝓤) where
  pub all_shown : {P Q : SProp 𝓤} → ent 𝓤 (emp 𝓤) P → ent 𝓤 (emp 𝓤) Q → ent 𝓤 (emp 𝓤) (sep 𝓤 P Q)
  all_shown {P} {Q} p q = via 𝓤 (sep 𝓤 (emp 𝓤) (emp 𝓤)) (emp∗ 𝓤 (emp 𝓤)) (mono∗ 𝓤 p q)

  two_facts : (φ ψ : Type 0) → sep 𝓤 (fact 𝓤 φ) (fact 𝓤 ψ) ≡ fact 𝓤 (φ × ψ)
  two_facts φ ψ =
      let P : SProp 𝓤 = fact 𝓤 φ in
      let Q : SProp 𝓤 = fact 𝓤 ψ in
      both⊢ 𝓤 (fact_use 𝓤 φ (fst∗ 𝓤 P Q) (λ x. fact_use 𝓤 ψ (snd∗ 𝓤 P Q) (λ y. fact_i 𝓤 (φ × ψ) (sep 𝓤 P Q) (x, y))))
      (fact_use 𝓤 (φ × ψ) (id⊢ 𝓤 (fact 𝓤 (φ × ψ))) (λ p. via 𝓤 (emp 𝓤) (top 𝓤 (fact 𝓤 (φ × ψ))) (all_shown (shown 𝓛 p.0) (shown 𝓛 p.1))))

  pub all_said : {φ ψ : Type 0} {P : SProp 𝓤} → P ≡ fact 𝓤 ψ → sep 𝓤 (fact 𝓤 φ) P ≡ fact 𝓤 (φ × ψ)
  all_said {φ} {ψ} e = ap (sep 𝓤 (fact 𝓤 φ)) e ∙ two_facts φ ψ

  pub none_said : emp 𝓤 ≡ fact 𝓤 (Unit {0})
  none_said = both⊢ 𝓤 (shown 𝓛 tt) (top 𝓤 (fact 𝓤 (Unit {0})))

module _ {M : Type 1} {𝓤 : Ura M} (𝓛 : Logic 𝓤) where
  open 𝓛 use {H, A}

  pub tokens_are : (n : ℕ) (κs : Lfts n) (qs : Shares n) → sem 𝓛 (nest (tokens n κs qs)) ≡ toks 𝓛 n κs qs
  tokens_are zero κs qs = refl
  tokens_are (suc n) κs qs = ap (sep 𝓤 (A.lft κs.0 qs.0)) (tokens_are n κs.1 qs.1)

  -- what a callee is handed, at the tokens π of the context Δ
  module _ (Q : Ended) (π : List ℕ) (Δ : List (Item 𝓤)) where
    abbrev S : Signature
    S = Q.signature

    abbrev pub κs_at : Lfts S.lifetimes
    κs_at = lfts_of S.lifetimes (hads 𝓛 (map given π) Δ)

    abbrev pub qs_at : Shares S.lifetimes
    qs_at = shares_of S.lifetimes (hads 𝓛 (map given π) Δ)

    module _ (a : Args S κs_at) (ss : List Source) where
      abbrev pub Lasts' : Type 0
      Lasts' = Short κs_at S.params Q.kept a

      abbrev after-tokens : List (Item 𝓤)
      after-tokens = lefts 𝓛 (map given π) Δ

      -- the context once the callee has returned, at the last values w
      abbrev pub Returned : Lasts' → List (Item 𝓤)
      Returned w = restore 𝓛 (gones 𝓛 (map given π)) (tokens S.lifetimes κs_at qs_at)
          (restore 𝓛 (gones 𝓛 ss) (lasts_each κs_at S.params Q.kept a (long κs_at S.params Q.kept a w)) (lefts 𝓛 ss after-tokens))

      -- the values passed
      abbrev values : Option (List Val) → List Val
      values none = []
      values (some vs) = vs

      -- what the `refl` of a call shows: the tokens, what the parameters own, the operands, the local's type,
      -- that what is copied can be had twice, that the local is not lent, and that a law by which a copy is taken is of what stands there
      abbrev Wanted : Type 1
      Wanted = List Fml × List Fml × Option (List Val) × Ty × Bool × List Fml

      module _ (E : Env 𝓤 H) (hs : List Held) (xs : List Operand) (d : ℕ) where
        abbrev vss : Valss (types_at S.params κs_at)
        vss = singles (types_at S.params κs_at) (values (opds_of E hs xs))

        abbrev pub has : Wanted
        has = (hads 𝓛 (map given π) Δ, hads 𝓛 ss after-tokens, opds_of E hs xs, (get_or E d (no_local 𝓤 H)).0, fairs 𝓛 ss after-tokens && owned E hs d, founds 𝓛 ss after-tokens)

        abbrev pub wants : Wanted
        wants = (
          tokens S.lifetimes κs_at qs_at,
          owns_each (types_at S.params κs_at) a vss,
          some (flat (types_at S.params κs_at) vss),
          lone (type_at S.result κs_at).mir,
          true,
          stateds 𝓛 ss,
        )

module _ {M : Type 1} {𝓤 : Ura M} (𝓛 : Logic 𝓤) (K : Type 0) (t : K) (E : Env 𝓤 𝓛.H) (hs : List Held) (Δ : List (Item 𝓤))
    (Q : Ended) (c : Clauses 𝓤 Q) (π : List ℕ) (a : Args Q.signature (κs_at 𝓛 Q π Δ)) (ss : List Source)
    (xs : List Operand) (d : ℕ) (e : has 𝓛 Q π Δ a ss E hs xs d ≡ wants 𝓛 Q π Δ a ss E hs xs d)
    (bounds : AllOutlive Q.signature.lifetimes Q.signature.outlives (κs_at 𝓛 Q π Δ)) (g : (c (κs_at 𝓛 Q π Δ) a).ghost) where
  open 𝓛 use {H}

  abbrev κs : Lfts Q.signature.lifetimes
  κs = κs_at 𝓛 Q π Δ

  abbrev qs : Shares Q.signature.lifetimes
  qs = qs_at 𝓛 Q π Δ

  abbrev R : RattleType
  R = type_at Q.signature.result κs

  abbrev us : Valss (types_at Q.signature.params κs)
  us = vss 𝓛 Q π Δ a ss E hs xs d

  abbrev y : (triple_of 𝓛 Q.signature (closing 𝓛 Q c)).Ghost
  y = ((κs, qs, bounds, a, us), g)

  abbrev Δ₁ : List (Item 𝓤)
  Δ₁ = lefts 𝓛 (map given π) Δ

  abbrev Δ₂ : List (Item 𝓤)
  Δ₂ = lefts 𝓛 ss Δ₁

  abbrev Toks : SProp 𝓤
  Toks = toks 𝓛 Q.signature.lifetimes κs qs

  abbrev Owns : Fml
  Owns = owns (types_at Q.signature.params κs) a us

  abbrev Pre : SProp 𝓤
  Pre = (triple_of 𝓛 Q.signature (closing 𝓛 Q c)).pre y

  toks_out : ent 𝓤 (⋆ 𝓛 Δ) (sep 𝓤 Toks (⋆ 𝓛 Δ₁))
  toks_out = subst (λ (P : SProp 𝓤). ent 𝓤 (⋆ 𝓛 Δ) (sep 𝓤 P (⋆ 𝓛 Δ₁)))
      (ap (λ p. sem 𝓛 (nest p.0)) e ∙ tokens_are 𝓛 Q.signature.lifetimes κs qs) (supplied 𝓛 (map given π) Δ (all_fair 𝓛 π Δ) (all_found 𝓛 π Δ))

  owns_out : ent 𝓤 (⋆ 𝓛 Δ₁) (sep 𝓤 (sem 𝓛 Owns) (⋆ 𝓛 Δ₂))
  owns_out = subst (λ (F : Fml). ent 𝓤 (⋆ 𝓛 Δ₁) (sep 𝓤 (sem 𝓛 F) (⋆ 𝓛 Δ₂)))
      (ap (λ p. nest p.1) e ∙ owns_each_lem (types_at Q.signature.params κs) a us)
      (supplied 𝓛 ss Δ₁ (and_yes (fairs 𝓛 ss Δ₁) (owned E hs d) (subst T (sym (ap (λ p. p.4) e)) tt)).0 (ap (λ p. p.5) e))

  handed : ent 𝓤 (emp 𝓤) ((c κs a).requires g) → ent 𝓤 (⋆ 𝓛 (‵ (Frame E hs) ∷ Δ)) (⋆ 𝓛 (raw Pre ∷ ‵ (Frame E hs) ∷ Δ₂))
  handed may =
      via 𝓤 (sep 𝓤 (sem 𝓛 (Frame E hs)) (⋆ 𝓛 Δ)) (pop 𝓛 (‵ (Frame E hs)) Δ)
      (via 𝓤 (sep 𝓤 Pre (sep 𝓤 (sem 𝓛 (Frame E hs)) (⋆ 𝓛 Δ₂)))
      (qed 𝓛 (‵ (Frame E hs) ∷ raw (⋆ 𝓛 Δ) ∷ []) ∵ move ! (1 ∷ []) $ use1 𝓛 (raw Toks ⊛ raw (⋆ 𝓛 Δ₁)) toks_out $ split ! $ move ! (1 ∷ []) $
      use1 𝓛 (‵ Owns ⊛ raw (⋆ 𝓛 Δ₂)) owns_out $ split ! $ use0 𝓛 (raw ((c κs a).requires g)) may $
      -- [the `requires`; what is owned; the rest; the tokens; the frame]
      move ! (3 ∷ 1 ∷ 0 ∷ 4 ∷ 2 ∷ []) $ join ! $ join ! $ done !)
      (mono_r 𝓤 Pre (push 𝓛 (‵ (Frame E hs)) Δ₂)))

  hands : ent 𝓤 (emp 𝓤) ((c κs a).requires g) → {G : Goal 𝓤 H} → Step K 𝓛 (raw Pre ∷ ‵ (Frame E hs) ∷ Δ₂) G (‵ (Frame E hs) ∷ Δ) G
  hands may = step (λ s. record { prf = via 𝓤 (⋆ 𝓛 (raw Pre ∷ ‵ (Frame E hs) ∷ Δ₂)) (handed may) s.prf })

  abbrev Ws : Type 0
  Ws = Lasts' 𝓛 Q π Δ a ss

  abbrev full : Ws → Fins κs Q.signature.params Q.kept a
  full = long κs Q.signature.params Q.kept a

  abbrev LastsAt : Fins κs Q.signature.params Q.kept a → Fml
  LastsAt ws = lasts_of κs Q.signature.params Q.kept a ws

  returned : (w : Ws) → ent 𝓤 (⋆ 𝓛 (raw Toks ∷ ‵ (LastsAt (full w)) ∷ ‵ (Frame E hs) ∷ Δ₂)) (⋆ 𝓛 (‵ (Frame E hs) ∷ Returned 𝓛 Q π Δ a ss w))
  returned w =
      let os : List (Option ℕ) = gones 𝓛 ss in
      let Ls : List Fml = lasts_each κs Q.signature.params Q.kept a (full w) in
      let Δ₃ : List (Item 𝓤) = restore 𝓛 os Ls Δ₂ in
      let lasts-in : ent 𝓤 (sep 𝓤 (sem 𝓛 (LastsAt (full w))) (⋆ 𝓛 Δ₂)) (⋆ 𝓛 Δ₃) =
      subst (λ (F : Fml). ent 𝓤 (sep 𝓤 (sem 𝓛 F) (⋆ 𝓛 Δ₂)) (⋆ 𝓛 Δ₃)) (lasts_each_lem κs Q.signature.params Q.kept a (full w))
      (restored 𝓛 os Ls Δ₂) in
      let toks-in : ent 𝓤 (sep 𝓤 Toks (⋆ 𝓛 Δ₃)) (⋆ 𝓛 (Returned 𝓛 Q π Δ a ss w)) =
      subst (λ (P : SProp 𝓤). ent 𝓤 (sep 𝓤 P (⋆ 𝓛 Δ₃)) (⋆ 𝓛 (Returned 𝓛 Q π Δ a ss w))) (tokens_are 𝓛 Q.signature.lifetimes κs qs)
      (restored 𝓛 (gones 𝓛 (map given π)) (tokens Q.signature.lifetimes κs qs) Δ₃) in
      via 𝓤 (sep 𝓤 Toks (sep 𝓤 (sem 𝓛 (LastsAt (full w))) (sep 𝓤 (sem 𝓛 (Frame E hs)) (⋆ 𝓛 Δ₂))))
      (mono_r 𝓤 Toks (mono_r 𝓤 (sem 𝓛 (LastsAt (full w))) (pop 𝓛 (‵ (Frame E hs)) Δ₂)))
      (via 𝓤 (sep 𝓤 (sem 𝓛 (Frame E hs)) (⋆ 𝓛 (Returned 𝓛 Q π Δ a ss w)))
      (qed 𝓛 (raw Toks ∷ ‵ (LastsAt (full w)) ∷ ‵ (Frame E hs) ∷ raw (⋆ 𝓛 Δ₂) ∷ []) ∵ move ! (1 ∷ 3 ∷ []) $ use2 𝓛 (raw (⋆ 𝓛 Δ₃)) lasts-in $
      move ! (1 ∷ 0 ∷ []) $ use2 𝓛 (raw (⋆ 𝓛 (Returned 𝓛 Q π Δ a ss w))) toks-in $ move ! (1 ∷ 0 ∷ []) $ done !)
      (push 𝓛 (‵ (Frame E hs)) (Returned 𝓛 Q π Δ a ss w)))

  module _ (Φ : R.Denot → Ws → Type 0) (says : (r : R.Denot) (w : Ws) → (c κs a).ensures g r (at_exit Q κs a (full w)) ≡ fact 𝓤 (Φ r w)) where
    answered : (v : Val) (G : Goal 𝓤 H) → Soaks G → ((r : R.Denot) (w : Ws) → Is R r (v ∷ []) → Φ r w
        → Seq K 𝓛 (‵ (Frame E hs) ∷ Returned 𝓛 Q π Δ a ss w) G)
        → Seq K 𝓛 (raw ((triple_of 𝓛 Q.signature (closing 𝓛 Q c)).post y v) ∷ ‵ (Frame E hs) ∷ Δ₂) G
    answered v G z k =
        use1 𝓛 (later (∃' (λ (r : R.Denot). (raw Toks ⊛ ‵ (R.own_val r (v ∷ []))) ⊛ ∃'
        (λ (ws : Fins κs Q.signature.params Q.kept a). ‵ (LastsAt ws) ⊛ raw ((c κs a).ensures g r (at_exit Q κs a ws)))))) (id⊢ 𝓤 _) $ await t z $
        pick t (λ r.
        split t $ move t (1 ∷ []) $ pick t (λ ws. split t $
        subst (λ (ws' : Fins κs Q.signature.params Q.kept a). Seq K 𝓛 (‵ (LastsAt ws') ∷ raw ((c κs a).ensures g r (at_exit Q κs a ws')) ∷
        (raw Toks ⊛ ‵ (R.own_val r (v ∷ []))) ∷ ‵ (Frame E hs) ∷ Δ₂) G)
        (long_short κs Q.signature.params Q.kept a ws) (told r (short κs Q.signature.params Q.kept a ws))))
      where
        told : (r : R.Denot) (w : Ws) → Seq K 𝓛 (‵ (LastsAt (full w)) ∷ raw ((c κs a).ensures g r (at_exit Q κs a (full w))) ∷
            (raw Toks ⊛ ‵ (R.own_val r (v ∷ []))) ∷ ‵ (Frame E hs) ∷ Δ₂) G
        told r w =
            move t (1 ∷ []) $ rewrite t 0 (λ (P : SProp 𝓤). raw P) (says r w) refl $ heard t (Φ r w) (λ φ. move t (1 ∷ []) $ split t $ move t (1 ∷ []) $
            facts t R (Is R) (shows 𝓛 R) r (v ∷ [])
            (λ is. record { prf = via 𝓤 (⋆ 𝓛 (‵ (Frame E hs) ∷ Returned 𝓛 Q π Δ a ss w)) (returned w) (k r w is φ).prf }))

-- a list of operands is read with another entry in front
under : {M : Type 1} {𝓤 : Ura M} {𝓛 : Logic 𝓤} {K : Type 0} {Γ : List (Item 𝓤)} {i j : Item 𝓤} {E : Env 𝓤 𝓛.H} {xs : List Operand}
    {vs : List Val} → Opds K 𝓛 (j ∷ i ∷ Γ) E xs vs → Opds K 𝓛 (i ∷ j ∷ Γ) E xs vs
under {𝓤 = 𝓤} {𝓛 = 𝓛} {K = K} {Γ = Γ} {i = i} {j = j} os = record {
  go = λ Kt h. via 𝓤 (⋆ 𝓛 (j ∷ i ∷ Γ)) (swapped i j) (os.go Kt (via 𝓤 (⋆ 𝓛 (i ∷ j ∷ Γ)) (swapped j i) h));
}
  where
    swapped : (k l : Item 𝓤) → ent 𝓤 (⋆ 𝓛 (k ∷ l ∷ Γ)) (⋆ 𝓛 (l ∷ k ∷ Γ))
    swapped k l = qed 𝓛 (k ∷ l ∷ Γ) ∵ move ! (1 ∷ []) $ done !

-- what the caller shows of the callee's bounds, ghost value and `requires`; and that Φ is what the `ensures` states
module _ {M : Type 1} {𝓤 : Ura M} (𝓛 : Logic 𝓤) (Q : Ended) (c : Clauses 𝓤 Q) (π : List ℕ) (Δ : List (Item 𝓤))
    (a : Args Q.signature (κs_at 𝓛 Q π Δ)) (ss : List Source) where
  open 𝓛 use {H}

  abbrev pub Result : RattleType
  Result = type_at Q.signature.result (κs_at 𝓛 Q π Δ)

  abbrev pub Ready : Type 1
  Ready = AllOutlive Q.signature.lifetimes Q.signature.outlives (κs_at 𝓛 Q π Δ) × (g : (c (κs_at 𝓛 Q π Δ) a).ghost)
      × ent 𝓤 (emp 𝓤) ((c (κs_at 𝓛 Q π Δ) a).requires g)

  abbrev pub Says : Ready → (Result.Denot → Lasts' 𝓛 Q π Δ a ss → Type 0) → Type 2
  Says ok Φ = (r : Result.Denot) (w : Lasts' 𝓛 Q π Δ a ss) → (c (κs_at 𝓛 Q π Δ) a).ensures ok.1 r
      (at_exit Q (κs_at 𝓛 Q π Δ) a (long (κs_at 𝓛 Q π Δ) Q.signature.params Q.kept a w)) ≡ fact 𝓤 (Φ r w)

  -- how the walk goes on once the callee has returned
  module _ (K : Type 0) (E : Env 𝓤 H) (hs : List Held) (d : ℕ) (Φ : Result.Denot → Lasts' 𝓛 Q π Δ a ss → Type 0) (D : Data Result) where
    abbrev pub After : Goal 𝓤 H → Type 1
    After G = (r : Result.Denot) (w : Lasts' 𝓛 Q π Δ a ss) → Is Result r (D.val r ∷ []) → Φ r w
        → Seq K 𝓛 (‵ (Frame E (put d (holds (D.val r)) hs)) ∷ Returned 𝓛 Q π Δ a ss w) G

-- r's machine value is stored in its local, and is `D.val r`
stores : {M : Type 1} {𝓤 : Ura M} {𝓛 : Logic 𝓤} {K : Type 0} {E : Env 𝓤 𝓛.H} {hs : List Held} {Γ : List (Item 𝓤)} → K
    → (d : ℕ) {R : RattleType} (D : Data R)
    (r : R.Denot) (v : Val) → Is R r (v ∷ []) → (spot 𝓛 E d).0 ≡ lone R.mir → (b : Bool) → b && owned E hs d ≡ true
    → Writes K 𝓛 (‵ (Frame E hs) ∷ Γ) (spot 𝓛 E d).0 (spot 𝓛 E d).1 zero v (‵ (Frame E (put d (holds v) hs)) ∷ Γ)
stores {𝓤 = 𝓤} {𝓛 = 𝓛} {E = E} {hs = hs} t d {R} D r v is τ-is b own =
    let ok = fits D 𝓛 r v is in
    let free = (and_yes b (owned E hs d) (subst T (sym own) tt)).1 in
    into t d (yes_and (owned E hs d) (has_ty (spot 𝓛 E d).0 v) free (subst (λ (τ : Ty). T (has_ty τ v)) (sym τ-is) ok.0)) ok.1

module _ {M : Type 1} {𝓤 : Ura M} {𝓛 : Logic 𝓤} {K : Type 0} {E : Env 𝓤 𝓛.H} {hs : List Held} {Δ : List (Item 𝓤)} {C : Calls 𝓤 𝓛.H}
    {Λ : Loops 𝓤 𝓛.H} {q : Post 𝓤 𝓛.H} {f : Callee} {Q : Ended} {c : Clauses 𝓤 Q} {xs : List Operand} {d : ℕ} where
  open 𝓛 use {H}

  pub calls : K → {rest : Body} → Knows 𝓛 C f Q c → (π : List ℕ) (a : Args Q.signature (κs_at 𝓛 Q π Δ)) (ss : List Source)
      (Φ : (Result 𝓛 Q c π Δ a ss).Denot → Lasts' 𝓛 Q π Δ a ss → Type 0)
      → has 𝓛 Q π Δ a ss E hs xs d ≡ wants 𝓛 Q π Δ a ss E hs xs d → (ok : Ready 𝓛 Q c π Δ a ss) → Says 𝓛 Q c π Δ a ss ok Φ
      → (D : Data (Result 𝓛 Q c π Δ a ss))
      → After 𝓛 Q c π Δ a ss K E hs d Φ D (runs C Λ E rest q) → Seq K 𝓛 (‵ (Frame E hs) ∷ Δ) (runs C Λ E (seq (call f xs (place d [])) rest) q)
  calls t {rest} known π a ss Φ e ok says D k =
      hands 𝓛 K t E hs Δ Q c π a ss xs d e ok.0 ok.1 ok.2 $
      calls_at t known.frames (triple_of 𝓛 Q.signature (closing 𝓛 Q c)) known.meets (y 𝓛 K t E hs Δ Q c π a ss xs d e ok.0 ok.1)
      (under (opds t (ap (λ p. p.2) e))) (λ v.
      answered 𝓛 K t E hs Δ Q c π a ss xs d e ok.0 ok.1 Φ says v (lands C Λ E (place d []) v rest q) tt
      (λ r w is φ. land t (from t (stop t)) (stores t d D r v is (ap (λ p. p.3) e) (fairs 𝓛 ss (Δ₁ 𝓛 K t E hs Δ Q c π a ss xs d e ok.0 ok.1))
      (ap (λ p. p.4) e)) $
      rewrite t 0 (λ (u : Val). ‵ (Frame E (put d (holds u) hs))) (ap only (D.tells r (v ∷ []) is)) refl $ k r w (is_val D r v is) φ))

  pub calls_last : K → Knows 𝓛 C f Q c → (π : List ℕ) (a : Args Q.signature (κs_at 𝓛 Q π Δ)) (ss : List Source)
      (Φ : (Result 𝓛 Q c π Δ a ss).Denot → Lasts' 𝓛 Q π Δ a ss → Type 0)
      → has 𝓛 Q π Δ a ss E hs xs d ≡ wants 𝓛 Q π Δ a ss E hs xs d → (ok : Ready 𝓛 Q c π Δ a ss) → Says 𝓛 Q c π Δ a ss ok Φ
      → (D : Data (Result 𝓛 Q c π Δ a ss))
      → After 𝓛 Q c π Δ a ss K E hs d Φ D (prop (post 𝓤 H q next)) → Seq K 𝓛 (‵ (Frame E hs) ∷ Δ) (runs C Λ E (call f xs (place d [])) q)
  calls_last t known π a ss Φ e ok says D k =
      hands 𝓛 K t E hs Δ Q c π a ss xs d e ok.0 ok.1 ok.2 $
      calls_at_last t known.frames (triple_of 𝓛 Q.signature (closing 𝓛 Q c)) known.meets
      (y 𝓛 K t E hs Δ Q c π a ss xs d e ok.0 ok.1) (under (opds t (ap (λ p. p.2) e))) (λ v.
      answered 𝓛 K t E hs Δ Q c π a ss xs d e ok.0 ok.1 Φ says v (settles E (place d []) v q) tt
      (λ r w is φ. land_last t (from t (stop t)) (stores t d D r v is (ap (λ p. p.3) e)
      (fairs 𝓛 ss (Δ₁ 𝓛 K t E hs Δ Q c π a ss xs d e ok.0 ok.1)) (ap (λ p. p.4) e)) $
      rewrite t 0 (λ (u : Val). ‵ (Frame E (put d (holds u) hs))) (ap only (D.tells r (v ∷ []) is)) refl $ k r w (is_val D r v is) φ))

  -- the contract says which result and which last values: the walk goes on at those
  pub calls_to : K → {rest : Body} → Knows 𝓛 C f Q c → (π : List ℕ) (a : Args Q.signature (κs_at 𝓛 Q π Δ)) (ss : List Source)
      (Φ : (Result 𝓛 Q c π Δ a ss).Denot → Lasts' 𝓛 Q π Δ a ss → Type 0)
      → has 𝓛 Q π Δ a ss E hs xs d ≡ wants 𝓛 Q π Δ a ss E hs xs d → (ok : Ready 𝓛 Q c π Δ a ss) → Says 𝓛 Q c π Δ a ss ok Φ
      → (D : Data (Result 𝓛 Q c π Δ a ss))
      → (r₀ : (Result 𝓛 Q c π Δ a ss).Denot) (w₀ : Lasts' 𝓛 Q π Δ a ss)
      → ((r : (Result 𝓛 Q c π Δ a ss).Denot) (w : Lasts' 𝓛 Q π Δ a ss) → Φ r w → (r₀ ≡ r) × (w₀ ≡ w))
      → (Is (Result 𝓛 Q c π Δ a ss) r₀ (D.val r₀ ∷ []) → Seq K 𝓛 (‵ (Frame E (put d (holds (D.val r₀)) hs)) ∷ Returned 𝓛 Q π Δ a ss w₀)
      (runs C Λ E rest q))
      → Seq K 𝓛 (‵ (Frame E hs) ∷ Δ) (runs C Λ E (seq (call f xs (place d [])) rest) q)
  calls_to t {rest} known π a ss Φ e ok says D r₀ w₀ these k = calls t known π a ss Φ e ok says D (λ r w is φ.
      let R : RattleType = Result 𝓛 Q c π Δ a ss in
      let Goes : R.Denot → Lasts' 𝓛 Q π Δ a ss → Type 1 = λ r' w'. Is R r' (D.val r' ∷ [])
      → Seq K 𝓛 (‵ (Frame E (put d (holds (D.val r')) hs)) ∷ Returned 𝓛 Q π Δ a ss w') (runs C Λ E rest q) in
      subst (λ (w' : Lasts' 𝓛 Q π Δ a ss). Goes r w') (these r w φ).1 (subst (λ (r' : R.Denot). Goes r' w₀) (these r w φ).0 k) is)
