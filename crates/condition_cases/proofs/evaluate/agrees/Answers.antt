-- The call is made where there is room, and all that it left is compared (`evaluate_compared`).
use Rattle.std.proofs.Common.{◌≤◌, ◌<◌, arith, sym}
use Rattle.condition_cases.proofs.Evaluating.{evaluate_compared, evaluate_short}
use Rattle.condition_cases.proofs.evaluate.agrees.Goals as goal

pub returns-then-room-gt-ROOM : goal.returns-then-room-gt-ROOM
returns-then-room-gt-ROOM c =
    let over : 12288 < c.nth-room.result = omega arith in
    sym (evaluate_short c.args.body.now c.part-known.result.now _ c.part-known.ensures c.nth-room.ensures over)

pub returns : goal.returns
returns c =
    let fits : c.nth-room.result ≤ 12288 = omega arith in
    let e = evaluate_compared c.args.body.now c.part-known.result.now c.nth-room.result c.part-known.ensures c.nth-room.ensures
    c.filled-checks.result _ c.call-answer.result c.filled-checks.ensures fits c.call-answer.ensures.value c.call-answer.ensures.checks_after in
    rw (c.knows.ensures, c.nth.ensures, c.part.ensures) (sym e)
