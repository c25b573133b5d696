-- The call is made where there is room, and all that it left is compared (`decode-compared`).
use Rattle.std.proofs.Common.{◌≤◌, ◌<◌, arith, sym}
use Rattle.token_cases.proofs.Decoding.{decode-compared, decode_short}
use Rattle.token_cases.proofs.decode.agrees.Goals as goal

pub returns-then-room-gt-ROOM : goal.returns-then-room-gt-ROOM
returns-then-room-gt-ROOM c =
    let over : 9300 < c.nth-room.result = omega arith in
    sym (decode_short c.args.body.now c.part-known.result.now _ c.part-known.ensures c.nth-room.ensures over)

pub returns : goal.returns
returns c =
    let fits : c.nth-room.result ≤ 9300 = omega arith in
    let e = decode-compared c.args.body.now c.part-known.result.now c.nth-room.result c.part-known.ensures c.nth-room.ensures
    c.filled-code.result _ c.call-answer.result c.filled-code.ensures fits c.call-answer.ensures.value c.call-answer.ensures.code_after in
    rw (c.knows.ensures, c.part.ensures) (sym e)
