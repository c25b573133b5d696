-- A transaction as the definitions have it.
use Rattle.semantics.specs.Evaluation.{Amounts, Env}
use Rattle.amounts.specs.declared.Amounts.{Amounts as Lent}
use Rattle.amounts.specs.declared.Transaction.{Transaction}

abbrev pub amounts_in : Lent → Amounts
amounts_in a = record { numbers = a.numbers.now; marks = a.marks.now }

abbrev pub env_in : Transaction → Env
env_in t =
    record {
      spent = amounts_in t.spent;
      outputs = amounts_in t.outputs;
      issued = amounts_in t.issued;
      reissued = amounts_in t.reissued;
      current = t.current;
    }
