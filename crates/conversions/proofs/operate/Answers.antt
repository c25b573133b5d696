-- The last commands of both operands come before this one (`ready_index`), and the operation ends an operand (`operated`).
use Rattle.std.proofs.Common.{arith, refl}
use Rattle.conversions.proofs.Waiting.{operated, ready_index}
use Rattle.conversions.proofs.operate.Goals as goal

pub bounds-marks-left : goal.bounds-marks-left
bounds-marks-left c = omega (arith, ready_index c.args.waiting.now c.args.indexes c.args.marks.now c.args.count c.args.op c.requires, c.requires.count_fits)

pub returns : goal.returns
returns c =
    rw c.converts_left.ensures
    (operated c.args.waiting.now c.args.indexes c.args.marks.now c.args.count c.args.op c.requires _ refl _ c.push.ensures)
