-- Each command is written behind those before it (`one_more`).
use Rattle.std.proofs.Common.{arith}
use Rattle.forms.proofs.Emitting.{command-known, command-operands, mark-inside}
use Rattle.token_form.proofs.Storing.{all_done, none_yet, one_more, room_left}
use Rattle.token_form.proofs.write_records.Goals as goal

pub loop-at-init : goal.loop-at-init
loop-at-init c = none_yet c.args.code.now c.args.marks.now _ _ c.requires.passed.0

pub bounds-marks-count : goal.bounds-marks-count
bounds-marks-count c = mark-inside c.args.code.now c.args.marks.now _ _ _ c.loop-at.invariant.emitting c.loop-at-test.true

pub write_next-taken-requires-clause-byte_value : goal.write_next-taken-requires-clause-byte_value
write_next-taken-requires-clause-byte_value c = (
  command-known c.args.code.now c.args.marks.now _ _ _ c.loop-at.invariant.emitting c.loop-at-test.true,
  command-operands c.args.code.now c.args.marks.now _ _ _ c.loop-at.invariant.emitting c.loop-at-test.true,
  c.requires.passed.1,
  c.requires.passed.2,
)

pub write_next-taken-requires-clause-room : goal.write_next-taken-requires-clause-room
write_next-taken-requires-clause-room c = room_left _ _ _ _ _ _ _ _ c.loop-at.invariant c.loop-at-test.true c.requires.room

pub overflow_add-count : goal.overflow_add-count
overflow_add-count c = omega (arith, mark-inside c.args.code.now c.args.marks.now _ _ _ c.loop-at.invariant.emitting c.loop-at-test.true, c.well_formed)

pub loop-at-preserved : goal.loop-at-preserved
loop-at-preserved c =
    let wrote = c.write_next-taken.ensures in
    rw wrote.records_value.1
    (one_more _ _ _ _ _ _ _ _ c.loop-at.invariant c.loop-at-test.true _ _ wrote.records_value.0 wrote.stored)

pub returns : goal.returns
returns c = all_done _ _ _ _ _ _ _ _ c.loop-at.invariant c.loop-at-test.false
