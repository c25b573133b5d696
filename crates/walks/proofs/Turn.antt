-- A loop that is the last thing a function does: it is left by a return.
--     Turn ≺ I E Kf t q    what a turn that began at t may end in, where q is what is to hold after it: a return, or the next turn, at a t' below t
--     turns                a loop runs from `I t`, the whole context, if each turn does. The order ≺ is well-founded
use mathlib.Core.Path.{◌≡◌, refl}
use mathlib.Core.WellFounded.{WellFounded}
use mathlib.Core.List.{List}
use seplogic.Ra.Ura.{Ura}
use mir.Syntax.{Body, seq, block, loop}
use mir.Val.{Val}
use base.Logic.{SProp}
use prog.Wp.{Env, Tables, next, returns, at_return, after_turn}
use types.Logic.{Logic}
use types.Kit.{Item, Post, at_ret, post, prop, runs, Sq, Go, ◌$◌}
use types.Run.{first, blocks, loops, again}

pub record Turn {M : Type 1} {𝓤 : Ura M} (𝓛 : Logic 𝓤) {X : Type 0} (≺ : X → X → Type 0) (I : X → List (Item 𝓤)) (E : Env 𝓤 𝓛.H)
    (Kf : Val → SProp 𝓤) (t : X) (q : Post 𝓤 𝓛.H) : Type 2 where
  pub out : post 𝓤 𝓛.H q returns ≡ at_return 𝓤 𝓛.H E Kf returns
  pub on : (t' : X) → ≺ t' t → Sq 𝓛 (I t') (prop (post 𝓤 𝓛.H q next))

pub turns : Go {0} → {M : Type 1} {𝓤 : Ura M} {𝓛 : Logic 𝓤} (𝓣 : Tables 𝓤 𝓛.H) {X : Type 0} (≺ : X → X → Type 0) → WellFounded ≺
    → (I : X → List (Item 𝓤)) {E : Env 𝓤 𝓛.H} {b rest : Body} {Kf : Val → SProp 𝓤}
    → ((t : X) (q : Post 𝓤 𝓛.H) → Turn 𝓛 ≺ I E Kf t q → Sq 𝓛 (I t) (runs 𝓣.C 𝓣.Λ E b q)) → (t : X)
    → Sq 𝓛 (I t) (runs 𝓣.C 𝓣.Λ E (seq (block (loop b)) rest) (at_ret E Kf))
unfolding after_turn
turns k 𝓣 ≺ wf I turn t = first k $ blocks k $ loops k 𝓣 ≺ wf I (λ u. turn u _ (record { out = refl; on = λ t' lt. again k ≺ I u t' lt })) t
