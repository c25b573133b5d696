-- The buffers are the fill throughout before the call, and what it left in them is compared (`write-compared`).
use Rattle.std.proofs.Common.{◌∙◌}
use Rattle.semantics.specs.Records.{records_of}
use Rattle.token_cases.proofs.Writing.{write-compared}
use Rattle.token_cases.proofs.write.agrees.Goals as goal

pub returns : goal.returns
returns c =
    let l = c.call-answer.new in
    let left = rw (c.filled-kinds.ensures, c.filled-numbers.ensures, c.filled-places.ensures, c.filled-keys.ensures) at c.call-answer.ensures in
    c.all_known.ensures ∙ write-compared c.args.body.now _ (records_of l.kinds l.numbers l.places l.keys) left.value left.keys_after
