-- The call is lent what the case has (`evaluate_lent_lem`); a name's number is that of the part.
use Rattle.condition_cases.proofs.Evaluating.{evaluate_lent_lem}
use Rattle.condition_cases.proofs.evaluate.call.Goals as goal

pub returns : goal.returns
returns c =
    let a = c.args in
    let e = evaluate_lent_lem a.body.now _ _ _ _ _ _ _ _ _ _ _ a.checks.now _ c.part.ensures c.read_numbers-spent.ensures c.part-2.ensures
    c.read_numbers-outputs.ensures c.part-3.ensures c.read_numbers-issued.ensures c.part-4.ensures c.read_numbers-reissued.ensures c.part-5.ensures
    (rw c.part-6.ensures at c.nth.ensures) c.part-7.ensures c.read_numbers-ends.ensures in
    record { value = rw e at c.covenant_evaluate.ensures.value; checks_after = rw e at c.covenant_evaluate.ensures.checks_after }
