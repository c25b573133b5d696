-- Fewer operands ever wait than the bound on tokens (`few_wait`).
use Rattle.std.proofs.Common.{arith}
use Rattle.condition.proofs.Onward.{few_wait, passed_as}
use Rattle.evaluation.proofs.run_passed.Goals as goal

pub run_in-requires-else-most-lt-SOME-clause-passed : goal.run_in-requires-else-most-lt-SOME-clause-passed
run_in-requires-else-most-lt-SOME-clause-passed c =
    let p = c.requires.passed in
    let few = few_wait _ p in
    passed_as (λ s k. (omega (arith, k.0, p.known.0, few), k.1)) p
