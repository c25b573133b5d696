-- What a list gives where an index step led, whatever the state: `looked_up` of the definitions, apart from it.
use Rattle.std.specs.Prelude.{ℤ, Option, Some, None, Result, Err}
use Rattle.semantics.specs.declared.AmountList.{AmountList}
use Rattle.semantics.specs.declared.Refusal.{Refusal}
use Rattle.semantics.specs.Evaluation.{Env, amount, amounts}

abbrev pub looked : Env → AmountList → Option ℤ → Result ℤ Refusal
looked env l None = Err Refusal.IndexStep
looked env l (Some i) = amount (amounts env l) l i
