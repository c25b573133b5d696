-- One byte more of the row (`front-next`).
use Rattle.std.proofs.Common.{arith, length, ◌≡◌, sym}
use Rattle.std.proofs.lemmas.List.{take_all}
use Rattle.slices.proofs.Front.{front_none}
use Rattle.script.proofs.Pushes.{front-next}
use Rattle.script.proofs.push_row.Goals as goal

pub loop-i-init : goal.loop-i-init
loop-i-init c = front_none c.args.out.now

pub loop-i-preserved : goal.loop-i-preserved
loop-i-preserved c = front-next c.args.row.now c.loop-i.i c.loop-i-test.true (omega arith) c.loop-i.invariant

pub returns : goal.returns
returns c =
    let all : c.loop-i.i ≡ length c.args.row.now = omega arith in
    rw (sym all) (rw (take_all c.loop-i.i c.args.row.now (omega arith)) at c.loop-i.invariant)
