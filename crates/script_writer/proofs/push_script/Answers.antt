-- Each command is written behind those before it (`one_pushed`).
use Rattle.std.proofs.Common.{arith, refl}
use Rattle.slices.proofs.Front.{front-room}
use Rattle.forms.proofs.Emitting.{command-operands, mark-inside}
use Rattle.script_writer.proofs.Commands.{all_counted, below_all, none_pushed, one_counted, one_pushed}
use Rattle.script_writer.proofs.push_script.Goals as goal

pub loop-at-init : goal.loop-at-init
loop-at-init c = none_pushed c.args.code.now c.args.marks.now c.args.out.now c.requires.0

pub loop-at-preserved : goal.loop-at-preserved
loop-at-preserved c =
    let e = c.push_next-taken.ensures in
    rw e.1 (one_pushed _ _ _ _ _ _ _ c.loop-at.invariant c.loop-at-test.true _ _ e.0)

pub returns : goal.returns
returns c = rw (← all_counted _ _ _ _ _ c.loop-at.invariant.counted c.loop-at-test.false) c.loop-at.invariant.front

pub bounds-marks-count : goal.bounds-marks-count
bounds-marks-count c = mark-inside c.args.code.now c.args.marks.now _ _ _ c.loop-at.invariant.counted.emitting c.loop-at-test.true

pub push_next-taken-requires : goal.push_next-taken-requires
push_next-taken-requires c =
    let more = one_counted _ _ _ _ _ c.loop-at.invariant.counted c.loop-at-test.true _ refl in (
      omega (arith, command-operands c.args.code.now c.args.marks.now _ _ _ c.loop-at.invariant.counted.emitting c.loop-at-test.true),
      front-room _ c.loop-at.invariant.front (omega (arith, below_all _ _ _ _ _ more, c.requires.1)),
    )

pub overflow_add-count : goal.overflow_add-count
overflow_add-count c = omega (arith, mark-inside c.args.code.now c.args.marks.now _ _ _ c.loop-at.invariant.counted.emitting c.loop-at-test.true, c.well_formed)
