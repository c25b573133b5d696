-- A key that is noted already, and a new one.
use Rattle.std.proofs.Common.{arith}
use Rattle.keys.proofs.Noting.{noted_again, noted_new}
use Rattle.keys.proofs.note_key.Goals as goal

pub returns-then-is_some : goal.returns-then-is_some
returns-then-is_some c =
    noted_again c.args.code.now c.args.positions.now c.args.count (omega (arith, c.requires.2)) c.requires.3 c.args.width c.args.at c.if-width-ne-KEY_AND_TIME_BYTES.false
    (rw c.find_key.ensures at c.if-is_some.ensures)

pub returns : goal.returns
returns c =
    noted_new c.args.code.now c.args.positions.now c.args.count (omega (arith, c.requires.2)) c.requires.3 c.args.width c.args.at c.if-width-ne-KEY_AND_TIME_BYTES.false
    (rw c.find_key.ensures at c.if-is_some.ensures) (omega (arith, c.requires.0, c.if-width-ne-KEY_AND_TIME_BYTES.false)) c.requires.2
