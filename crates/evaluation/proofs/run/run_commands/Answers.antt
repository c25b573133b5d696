-- A turn is `act`, by what it answers (`loop_next`, `loop_verdict`, `loop_refused`).
use Rattle.std.proofs.Common.{◌≡◌, ◌∙◌, Err, Ok, ap, arith}
use Rattle.evaluation.proofs.Loop.{loop_next, loop_refused, loop_start, loop_verdict, turn_of}
use Rattle.evaluation.proofs.run.run_commands.Goals as goal

pub loop-verdict-init : goal.loop-verdict-init
loop-verdict-init c =
    let r = c.requires in let v = c.new in let i = c.new-2 in
    turn_of (loop_start v.result i.result c.args.progress.now (rw (v.ensures.room, i.ensures.room) r.passed) v.ensures.empty i.ensures.empty r.progress)

pub returns-in_err-verdict : goal.returns-in_err-verdict
returns-in_err-verdict c =
    let l = c.loop-verdict.invariant.loop in let f = c.act.ensures in let u = c.act.new in
    let passed : c.from_residual.result ≡ Err c.in_err-verdict.field-0.0 = grind arith in
    rw passed
    (loop_refused l c.command_of-command.result c.command_of-command.ensures c.width_of.result c.width_of.ensures u.out u.operands.values u.operands.indexes u.progress
    c.act.result f.moves f.acts c.act.auto.out _ c.in_err-verdict.was)

pub returns-in-Some : goal.returns-in-Some
returns-in-Some c =
    let l = c.loop-verdict.invariant.loop in let f = c.act.ensures in let u = c.act.new in
    loop_verdict l c.command_of-command.result c.command_of-command.ensures c.width_of.result c.width_of.ensures u.out u.operands.values u.operands.indexes u.progress
    c.act.result f.moves f.acts c.act.auto.out _ (c.in_ok-verdict.was ∙ ap Ok c.in-Some.is)

pub loop-verdict-preserved : goal.loop-verdict-preserved
loop-verdict-preserved c =
    let l = c.loop-verdict.invariant.loop in let f = c.act.ensures in let u = c.act.new in
    turn_of (loop_next l c.command_of-command.result c.command_of-command.ensures c.width_of.result c.width_of.ensures u.out u.operands.values u.operands.indexes u.progress
    c.act.result f.moves f.acts c.act.auto.out (c.in_ok-verdict.was ∙ ap Ok c.in-None.is) f.values_room f.indexes_room)
