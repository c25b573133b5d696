-- The call is lent the code of the case.
use Rattle.token_cases.proofs.write_script.call.Goals as goal

pub returns : goal.returns
returns c =
    let e = c.part.ensures in
    record { value = rw e at c.covenant_write_script.ensures.value; script_after = rw e at c.covenant_write_script.ensures.script_after }
