-- A number that has an opcode of its own (`zero_int`, `small_int`), and one that has none (`large_int`).
use Rattle.std.proofs.Common.{arith}
use Rattle.script.proofs.Pushes.{large_int, small_int, small_length, zero_int}
use Rattle.script.proofs.push_int.Goals as goal

pub push_row-requires : goal.push_row-requires
push_row-requires c = omega (arith, c.requires, small_length c.args.n (omega arith))

pub returns-then-n-eq0 : goal.returns-then-n-eq0
returns-then-n-eq0 c = rw (c.if-n-eq0.true, zero_int) c.push_row.ensures

pub push_row-requires-then-n-le16 : goal.push_row-requires-then-n-le16
push_row-requires-then-n-le16 c = omega (arith, c.requires, small_length c.args.n (omega arith))

pub returns-then-n-le16 : goal.returns-then-n-le16
returns-then-n-le16 c = rw (small_int c.args.n (omega arith) (omega arith)) c.push_row-then-n-le16.ensures

pub push_row-requires-2 : goal.push_row-requires-2
push_row-requires-2 c = rw (large_int c.args.n _ (omega arith) c.number_width-width.ensures.0) c.requires

pub returns : goal.returns
returns c = rw (← large_int c.args.n c.number_width-width.result (omega arith) c.number_width-width.ensures.0) c.push_row-2.ensures
