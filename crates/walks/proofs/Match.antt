-- A match in a walk, and the parts of a function's MIR that a lemma about one of its arms names.
--     matches          a match whose tag is known: the arm that has it runs. Nothing is read but the tag
--     matches_then     the same where statements follow: they are put behind the arm's own (`behind`), so that the walk goes on in one line
--     arm_at i, rest_of i    the body of arm i of a match, and what follows the first i statements
use mathlib.Core.Path.{◌≡◌, refl, sym, subst, ap, fun_ext}
use mathlib.Core.Bool.{Bool, true, false}
use mathlib.Core.List.{List, ◌∷◌}
use mathlib.Core.Option.{Option, none, some, none-ne-some, some-injective}
use Prim.Native.Nat.{ℕ, zero, suc}
use seplogic.Ra.Ura.{Ura}
use mir.Syntax.{Width, Body, Arms, Opd as Operand, skip, seq, assign, block, loop, cond, switch, exit, return, call, unreachable, call_v, lend_static, arm, default, no_default}
use mir.Val.{vint, has_key}
use base.Logic.{SProp, ent}
use prog.Wp.{Heap, Env, Out, next, exits, returns, Calls, Loops, Wp, WpArms, after_seq, branch}
use types.Logic.{Logic}
use types.Kit.{Item, ‵, ⋆, Post, post, runs, Step, step, ◌$◌}
use types.Run.{first, switches_on}
use Rattle.walks.proofs.Frame.{Held, Frame}
use Rattle.walks.proofs.Assign.{opd}
use Rattle.walks.proofs.Value.{opd_of}

-- the arm that runs at the number x
abbrev pick : Bool → Body → Option Body → Option Body
pick true b c = some b
pick false b c = c

abbrev pub chosen : ℕ → Arms → Option Body
chosen x (arm ks b arms) = pick (has_key ks x) b (chosen x arms)
chosen x (default b) = some b
chosen x no_default = none

-- b, and then c
abbrev pub behind : Body → Body → Body
behind skip c = seq skip c
behind (seq a b) c = seq a (behind b c)
behind (assign p r) c = seq (assign p r) c
behind (block b) c = seq (block b) c
behind (loop b) c = seq (loop b) c
behind (cond o a b) c = seq (cond o a b) c
behind (switch o arms) c = seq (switch o arms) c
behind (exit n) c = exit n
behind return c = return
behind (call f xs d) c = seq (call f xs d) c
behind unreachable c = unreachable
behind (call_v f σ xs d) c = seq (call_v f σ xs d) c
behind (lend_static d τ k) c = seq (lend_static d τ k) c

abbrev arm_of : ℕ → Arms → Body
arm_of zero (arm ks b rest) = b
arm_of (suc i) (arm ks b rest) = arm_of i rest
arm_of zero (default b) = b
arm_of (suc i) (default b) = b
arm_of zero no_default = skip
arm_of (suc i) no_default = skip

abbrev pub arm_at : ℕ → Body → Body
arm_at i (switch c arms) = arm_of i arms
arm_at i skip = skip
arm_at i (seq a b) = skip
arm_at i (assign p r) = skip
arm_at i (block b) = skip
arm_at i (loop b) = skip
arm_at i (cond c a b) = skip
arm_at i (exit n) = skip
arm_at i return = skip
arm_at i (call f xs d) = skip
arm_at i unreachable = skip
arm_at i (call_v f σ xs d) = skip
arm_at i (lend_static d τ k) = skip

abbrev pub rest_of : ℕ → Body → Body
rest_of zero b = b
rest_of (suc i) (seq a b) = rest_of i b
rest_of (suc i) skip = skip
rest_of (suc i) (assign p r) = skip
rest_of (suc i) (block b) = skip
rest_of (suc i) (loop b) = skip
rest_of (suc i) (cond c a b) = skip
rest_of (suc i) (switch c arms) = skip
rest_of (suc i) (exit n) = skip
rest_of (suc i) return = skip
rest_of (suc i) (call f xs d) = skip
rest_of (suc i) unreachable = skip
rest_of (suc i) (call_v f σ xs d) = skip
rest_of (suc i) (lend_static d τ k) = skip

module _ {M : Type 1} (𝓤 : Ura M) (H : Heap 𝓤) (C : Calls 𝓤 H) (Λ : Loops 𝓤 H) (E : Env 𝓤 H) where
  abbrev W : Body → (Out → SProp 𝓤) → SProp 𝓤
  W b Q = Wp 𝓤 H C Λ E b Q

  -- what follows a sequence follows its last part
  regrouped : (P R S : SProp 𝓤) (Q : Out → SProp 𝓤) → P ≡ R → (o : Out) → after_seq 𝓤 H P Q o ≡ after_seq 𝓤 H R (after_seq 𝓤 H S Q) o
  regrouped P R S Q e next = e
  regrouped P R S Q e (exits n) = refl
  regrouped P R S Q e returns = refl

  behind_same : (b c : Body) (Q : Out → SProp 𝓤) → W (behind b c) Q ≡ W (seq b c) Q
  behind_same skip c Q = refl
  behind_same (seq a b) c Q = ap (W a) (fun_ext (regrouped (W (behind b c) Q) (W b (after_seq 𝓤 H (W c Q) Q)) (W c Q) Q (behind_same b c Q)))
  behind_same (assign p r) c Q = refl
  behind_same (block b) c Q = refl
  behind_same (loop b) c Q = refl
  behind_same (cond o a b) c Q = refl
  behind_same (switch o arms) c Q = refl
  behind_same (exit n) c Q = refl
  behind_same return c Q = refl
  behind_same (call f xs d) c Q = refl
  behind_same unreachable c Q = refl
  behind_same (call_v f σ xs d) c Q = refl
  behind_same (lend_static d τ k) c Q = refl

  chosen_runs : (x : ℕ) (arms : Arms) (b : Body) (Q : Out → SProp 𝓤) → chosen x arms ≡ some b → WpArms 𝓤 H C Λ E arms x Q ≡ W b Q
  chosen_runs x (arm ks a arms) b Q e = go (has_key ks x) (chosen_runs x arms b Q) e
    where
      go : (t : Bool) → (chosen x arms ≡ some b → WpArms 𝓤 H C Λ E arms x Q ≡ W b Q) → pick t a (chosen x arms) ≡ some b
          → branch 𝓤 H t (W a Q) (WpArms 𝓤 H C Λ E arms x Q) ≡ W b Q
      go true r d = ap (λ (z : Body). W z Q) (some-injective a b d)
      go false r d = r d
  chosen_runs x (default a) b Q e = ap (λ (z : Body). W z Q) (some-injective a b e)
  chosen_runs x no_default b Q e = absurd (none-ne-some b e)

module _ {M : Type 1} {𝓤 : Ura M} {𝓛 : Logic 𝓤} {K : Type 0} {E : Env 𝓤 𝓛.H} {hs : List Held} {Δ : List (Item 𝓤)} {C : Calls 𝓤 𝓛.H}
    {Λ : Loops 𝓤 𝓛.H} {c : Operand} {arms : Arms} where
  open 𝓛 use {H}

  pub matches : K → {q : Post 𝓤 H} {w : Width} {x : ℕ} {b : Body} → opd_of E hs c ≡ some (vint w x) → chosen x arms ≡ some b
      → Step K 𝓛 (‵ (Frame E hs) ∷ Δ) (runs C Λ E b q) (‵ (Frame E hs) ∷ Δ) (runs C Λ E (switch c arms) q)
  matches t {q} {w} {x} {b} e d = step (λ s. switches_on t (opd t e) $ record {
    prf = subst (λ (P : SProp 𝓤). ent 𝓤 (⋆ 𝓛 (‵ (Frame E hs) ∷ Δ)) P) (sym (chosen_runs 𝓤 H C Λ E x arms b (post 𝓤 H q) d)) s.prf;
  })

  pub matches_then : K → {q : Post 𝓤 H} {rest : Body} {w : Width} {x : ℕ} {b : Body} → opd_of E hs c ≡ some (vint w x) → chosen x arms ≡ some b
      → Step K 𝓛 (‵ (Frame E hs) ∷ Δ) (runs C Λ E (behind b rest) q) (‵ (Frame E hs) ∷ Δ) (runs C Λ E (seq (switch c arms) rest) q)
  matches_then t {q} {rest} {w} {x} {b} e d = step (λ s. first t $ matches t e d $ record {
    prf = subst (λ (P : SProp 𝓤). ent 𝓤 (⋆ 𝓛 (‵ (Frame E hs) ∷ Δ)) P) (behind_same 𝓤 H C Λ E b rest (post 𝓤 H q)) s.prf;
  })
