-- A lookup made apart from the state is what the definitions' move leads to.
use Rattle.std.proofs.Common.{◌≡◌, List, ℤ, None, Option, Some, refl}
use Rattle.semantics.specs.declared.AmountList.{AmountList}
use Rattle.semantics.specs.Evaluation.{Env}
use Rattle.amounts.specs.Looked.{looked}
use Rattle.stacks.specs.Run.{fetched, look_at, on_value}

pub looked-fetched : (env : Env) (l : AmountList) (vs is : List ℤ) (o : Option ℤ) → on_value vs is (looked env l o) ≡ fetched env (look_at l vs is o)
looked-fetched env l vs is None = refl
looked-fetched env l vs is (Some i) = refl
