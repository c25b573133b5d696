-- The call is lent what the case has (`decode-lent`).
use Rattle.token_cases.proofs.Decoding.{decode-lent}
use Rattle.token_cases.proofs.decode.call.Goals as goal

pub returns : goal.returns
returns c =
    let e = decode-lent c.args.body.now _ _ _ _ c.part.ensures c.read_numbers-numbers.ensures c.read_numbers-places.ensures c.part-2.ensures in
    record { value = rw e at c.covenant_decode.ensures.value; code_after = rw e at c.covenant_decode.ensures.code_after }
