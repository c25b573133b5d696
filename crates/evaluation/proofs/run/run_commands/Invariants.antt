-- The run goes from here where it goes from the start (`Loop`); the measure is how much is left of the code.
use Rattle.std.proofs.Common.{◌-◌, length}
use Rattle.amounts.specs.Transactions.{env_in}
use Rattle.evaluation.proofs.Loop.{Turn}
use Rattle.evaluation.proofs.run.run_commands.Given as goal

abbrev pub invariant-loop-verdict : goal.invariant-loop-verdict
invariant-loop-verdict l =
    Turn (env_in l.transaction) l.code l.witness.bytes.now l.witness.ends.now l.fn.out l.out l.operands.values l.operands.indexes l.progress l.at

abbrev pub decreases-loop-verdict : goal.decreases-loop-verdict
decreases-loop-verdict l = length l.code - l.at
