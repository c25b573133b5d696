-- What the tokens are read as makes the call unambiguous, and tells conditions apart.
use Rattle.semantics.specs.Records.{records_of}
use Rattle.decoder.proofs.Call.{answer_told_apart, answer_unambiguous, lent_fits}
use Rattle.decoder.proofs.decode.Goals as goal

pub decode_sound-requires-clause-lent : goal.decode_sound-requires-clause-lent
decode_sound-requires-clause-lent c = lent_fits (records_of c.args.kinds.now c.args.numbers.now c.args.places.now c.args.keys.now) c.type_inv.keys c.type_inv.numbers

pub returns-clause-call_unambiguous : goal.returns-clause-call_unambiguous
returns-clause-call_unambiguous c =
    answer_unambiguous (records_of c.args.kinds.now c.args.numbers.now c.args.places.now c.args.keys.now) c.args.code.now (lent_fits _ c.type_inv.keys c.type_inv.numbers)
    c.decode_sound.result _ c.decode_sound.ensures

pub returns-clause-call_told_apart : goal.returns-clause-call_told_apart
returns-clause-call_told_apart c =
    answer_told_apart (records_of c.args.kinds.now c.args.numbers.now c.args.places.now c.args.keys.now) c.args.code.now (lent_fits _ c.type_inv.keys c.type_inv.numbers)
    c.decode_sound.result _ c.decode_sound.ensures
