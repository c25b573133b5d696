-- The call is made where there is room, and all that it left is compared (`script-compared`).
use Rattle.std.proofs.Common.{◌≤◌, ◌<◌, arith, sym}
use Rattle.token_cases.proofs.ScriptWriting.{script-compared, script_short}
use Rattle.token_cases.proofs.write_script.agrees.Goals as goal

pub returns-then-room-gt-ROOM : goal.returns-then-room-gt-ROOM
returns-then-room-gt-ROOM c =
    let over : 5200 < c.nth-room.result = omega arith in
    sym (script_short c.args.body.now c.part-known.result.now _ c.part-known.ensures c.nth-room.ensures over)

pub returns : goal.returns
returns c =
    let fits : c.nth-room.result ≤ 5200 = omega arith in
    let e = script-compared c.args.body.now c.part-known.result.now c.nth-room.result c.part-known.ensures c.nth-room.ensures
    c.filled-script.result _ c.call-answer.result c.filled-script.ensures fits c.call-answer.ensures.value c.call-answer.ensures.script_after in
    rw (c.knows.ensures, c.part.ensures) (sym e)
