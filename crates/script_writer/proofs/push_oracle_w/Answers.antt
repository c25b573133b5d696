-- An opcode, the terminal's bytes and opcodes are pushed one after another (`Front`).
use Rattle.std.proofs.Common.{◌+◌, ap, arith, length, take, drop}
use Rattle.slices.specs.Bytes.{bytes_value}
use Rattle.slices.proofs.Bytes.{part_length}
use Rattle.slices.proofs.Front.{front_rest, front-room}
use Rattle.script_writer.proofs.Pieces.{oracle-w-bytes, oracle_long}
use Rattle.script_writer.proofs.push_oracle_w.Goals as goal

pub push_row-n-requires-2 : goal.push_row-n-requires-2
push_row-n-requires-2 c =
    let key = take 32 (drop c.args.at c.args.code.now) in
    let whole = oracle_long key (bytes_value (take 8 (drop (c.args.at + 32) c.args.code.now))) (part_length c.args.code.now c.args.at 32 (omega (arith, c.requires.0))) in
    let room = front-room 2 (front_rest (rw c.oracle_w_opening.ensures at c.push_row-n.ensures) c.push_oracle-n.ensures)
    (omega (arith, (rw c.oracle_w_opening.ensures at c.push_row-n.ensures).long, c.push_oracle-n.ensures.long, whole, c.requires.1)) in
    omega (arith, room, ap length c.oracle_w_closing.ensures)

pub returns : goal.returns
returns c =
    rw (← oracle-w-bytes (take 32 (drop c.args.at c.args.code.now)) (bytes_value (take 8 (drop (c.args.at + 32) c.args.code.now))))
    (simp (c.oracle_w_opening.ensures, c.oracle_w_closing.ensures) at (front_rest (front_rest c.push_row-n.ensures c.push_oracle-n.ensures) c.push_row-n-2.ensures))
