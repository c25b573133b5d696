-- Each command is one turn of the pass (`loop_next`), or 6 turns it down (`loop_refused`).
use Rattle.std.proofs.Common.{arith, refl}
use Rattle.conversions.proofs.Pass.{loop_below, loop_found, loop_next, loop_operands, loop_ready, loop_refused, loop_start}
use Rattle.conversions.proofs.Unmarked.{found_unmarked}
use Rattle.conversions.proofs.mark.Goals as goal

pub returns-then-lookups-eq0 : goal.returns-then-lookups-eq0
returns-then-lookups-eq0 c = found_unmarked c.args.code.now c.args.marks.now _ _ c.requires.0 c.if-lookups-eq0.true c.requires.1

pub loop-at-init : goal.loop-at-init
loop-at-init c = loop_start c.args.code.now c.args.lookups c.args.waiting.now c.args.marks.now c.requires.0

pub step-requires : goal.step-requires
step-requires c = (
  loop_operands _ _ _ _ _ _ _ _ _ c.loop-at.invariant c.loop-at-test.true,
  loop_ready _ _ _ _ _ _ _ _ _ c.loop-at.invariant c.loop-at-test.true,
)

pub returns-in_default : goal.returns-in_default
returns-in_default c = (refl, loop_refused _ _ _ _ _ _ _ _ _ c.loop-at.invariant c.loop-at-test.true c.in_default.ensures)

pub bounds-marks-count : goal.bounds-marks-count
bounds-marks-count c = omega (arith, loop_below _ _ _ _ _ _ _ _ _ c.loop-at.invariant c.loop-at-test.true, c.step.auto.marks)

pub loop-at-preserved : goal.loop-at-preserved
loop-at-preserved c =
    let told = c.in-Some.ensures in
    rw told.1
    (loop_next _ _ _ _ _ _ _ _ _ c.loop-at.invariant c.loop-at-test.true told.0 _ _ _ c.step.auto.waiting c.step.auto.marks told.2)

pub returns : goal.returns
returns c = loop_found _ _ _ _ _ _ _ _ _ c.loop-at.invariant c.loop-at-test.false
