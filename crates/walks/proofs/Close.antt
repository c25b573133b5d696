-- The last lines of a function's proof by hand: what it cites of its callees, and its theorem.
--     cites            a callee's theorem, at the key by which the function's MIR calls it
--     concludes        the theorem of the function's MIR (`Walk.antt`'s `proves`), at the function's own routine
-- Both are over the tables of the environment that the function is defined in.
use mathlib.Core.Path.{◌≡◌}
use seplogic.Ra.Ura.{Ura}
use mir.Syntax.{Callee, Fn}
use prog.Model.{Model}
use prog.Routine.{Routine, Env}
use prog.Wp.{WpFn, Closed}
use sound.WpLaws.{fm_of}
use types.Logic.{Logic}
use contract.Running.{Running, tables, tables_of}
use denote.Triple.Clauses.{Ended, Clauses, closing}
use denote.Triple.Spec.{Meets, triple_of}
use denote.Triple.Table.{entered, cited}
use Rattle.walks.proofs.Call.{Knows}

module _ {M : Type 1} {𝓤 : Ura M} (𝓛 : Logic 𝓤) (𝓜 : Model 𝓤 𝓛.H) (𝓡 : Running 𝓤 𝓛.H 𝓜) (γ : Env) (Q : Ended) (c : Clauses 𝓤 Q) where
  open 𝓛 use {H}

  pub cites : (k : Callee) (r : Routine) → γ k ≡ r → Meets 𝓛 Q.signature (𝓡.run r) (closing 𝓛 Q c)
      → Knows 𝓛 (tables_of 𝓤 H 𝓜 (tables 𝓤 H 𝓜 𝓡 γ)).C k Q c
  unfolding tables_of
  cites k r e m = record {
    frames = fm_of 𝓤 H 𝓛.laws (tables_of 𝓤 H 𝓜 (tables 𝓤 H 𝓜 𝓡 γ));
    meets = cited 𝓤 H (triple_of 𝓛 Q.signature (closing 𝓛 Q c)) 𝓜 𝓡 γ k r e m;
  }

  pub concludes : (k : Callee) (f : Fn) → Closed 𝓤 H (tables 𝓤 H 𝓜 𝓡 γ).C (tables 𝓤 H 𝓜 𝓡 γ).Λ k f
      → Meets 𝓛 Q.signature (WpFn 𝓤 H (tables_of 𝓤 H 𝓜 (tables 𝓤 H 𝓜 𝓡 γ)).C (tables_of 𝓤 H 𝓜 (tables 𝓤 H 𝓜 𝓡 γ)).Λ f) (closing 𝓛 Q c)
      → Meets 𝓛 Q.signature (𝓡.run (γ k)) (closing 𝓛 Q c)
  unfolding tables_of
  concludes k f closed m = entered 𝓤 H (triple_of 𝓛 Q.signature (closing 𝓛 Q c)) (tables 𝓤 H 𝓜 𝓡 γ).C (tables 𝓤 H 𝓜 𝓡 γ).Λ k f closed m
