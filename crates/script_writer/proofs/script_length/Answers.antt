-- Each command is counted with those before it (`one_counted`).
use Rattle.std.proofs.Common.{arith, sym, ap, ◌∙◌, length, refl}
use Rattle.forms.proofs.Emitting.{command-operands, mark-inside}
use Rattle.script_writer.proofs.Commands.{all_counted, below_all, none_counted, one_counted}
use Rattle.script_writer.proofs.script_length.Goals as goal

pub loop-at-init : goal.loop-at-init
loop-at-init c = none_counted c.args.code.now c.args.marks.now c.requires.0

pub loop-at-preserved : goal.loop-at-preserved
loop-at-preserved c = let e = c.next_length-taken.ensures in rw (e.0, e.1) (one_counted _ _ _ _ _ c.loop-at.invariant c.loop-at-test.true _ refl)

pub returns : goal.returns
returns c = sym c.loop-at.invariant.n_is ∙ ap length (all_counted _ _ _ _ _ c.loop-at.invariant c.loop-at-test.false)

pub bounds-marks-count : goal.bounds-marks-count
bounds-marks-count c = mark-inside c.args.code.now c.args.marks.now _ _ _ c.loop-at.invariant.emitting c.loop-at-test.true

pub next_length-taken-requires : goal.next_length-taken-requires
next_length-taken-requires c = omega (arith, command-operands c.args.code.now c.args.marks.now _ _ _ c.loop-at.invariant.emitting c.loop-at-test.true)

pub overflow_add-n : goal.overflow_add-n
overflow_add-n c =
    let more = one_counted _ _ _ _ _ c.loop-at.invariant c.loop-at-test.true _ refl in
    omega (arith, below_all _ _ _ _ _ more, c.requires.1, c.next_length-taken.ensures.0)

pub overflow_add-count : goal.overflow_add-count
overflow_add-count c = omega (arith, mark-inside c.args.code.now c.args.marks.now _ _ _ c.loop-at.invariant.emitting c.loop-at-test.true, c.well_formed)
