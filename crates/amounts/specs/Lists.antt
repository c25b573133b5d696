-- The lent amount lists as the definitions have them.
use Rattle.std.specs.Prelude.{ℕ, List}
use Rattle.semantics.specs.Evaluation.{Amounts, Env}

abbrev pub amounts_of : List ℕ → List ℕ → Amounts
amounts_of numbers marks = record { numbers = numbers; marks = marks }

-- numbers and marks of the spent values, the output values, the issued amounts and the reissuance keys
abbrev pub env_of : List ℕ → List ℕ → List ℕ → List ℕ → List ℕ → List ℕ → List ℕ → List ℕ → ℕ → Env
env_of a b c d e f g h current =
    record {
      spent = amounts_of a b;
      outputs = amounts_of c d;
      issued = amounts_of e f;
      reissued = amounts_of g h;
      current = current;
    }
