-- Opcodes, the time, opcodes, the key and opcodes are pushed one after another (`Front`).
use Rattle.std.proofs.Common.{ap, arith, length, take, drop}
use Rattle.slices.proofs.Bytes.{part_length}
use Rattle.slices.proofs.Front.{front_rest, front-room}
use Rattle.script_writer.proofs.Pieces.{constant_long, key-bytes_long, oracle-bytes}
use Rattle.script_writer.proofs.push_oracle.Goals as goal

pub push_row-n-requires-2 : goal.push_row-n-requires-2
push_row-n-requires-2 c =
    let before = front_rest (rw c.oracle_opening.ensures at c.push_row-n.ensures) c.push_bytes8-n.ensures in
    let room = front-room 4 before
    (omega (arith, (rw c.oracle_opening.ensures at c.push_row-n.ensures).long, c.push_bytes8-n.ensures.long, constant_long c.read_le64-time.result, c.requires.1)) in
    omega (arith, room, ap length c.oracle_test.ensures)

pub push_bytes32-n-requires : goal.push_bytes32-n-requires
push_bytes32-n-requires c = (
  omega (arith, c.requires.0),
  front-room 33 (front_rest (front_rest (rw c.oracle_opening.ensures at c.push_row-n.ensures) c.push_bytes8-n.ensures) c.push_row-n-2.ensures)
      (omega (arith, (rw c.oracle_opening.ensures at c.push_row-n.ensures).long, c.push_bytes8-n.ensures.long, c.push_row-n-2.ensures.long, ap length c.oracle_test.ensures, constant_long c.read_le64-time.result, c.requires.1)),
)

pub push_row-n-requires-3 : goal.push_row-n-requires-3
push_row-n-requires-3 c =
    let key = take 32 (drop c.args.at c.args.code.now) in
    let keyed = key-bytes_long key (part_length c.args.code.now c.args.at 32 (omega (arith, c.requires.0))) in
    rw c.oracle_closing.ensures
    (front-room 2 (front_rest (front_rest (front_rest (rw c.oracle_opening.ensures at c.push_row-n.ensures) c.push_bytes8-n.ensures) c.push_row-n-2.ensures) c.push_bytes32-n.ensures)
    (omega (arith, (rw c.oracle_opening.ensures at c.push_row-n.ensures).long, c.push_bytes8-n.ensures.long, c.push_row-n-2.ensures.long, ap length c.oracle_test.ensures, c.push_bytes32-n.ensures.long, constant_long c.read_le64-time.result, keyed, c.requires.1)))

pub returns : goal.returns
returns c =
    let whole = front_rest (front_rest (front_rest (front_rest c.push_row-n.ensures c.push_bytes8-n.ensures) c.push_row-n-2.ensures) c.push_bytes32-n.ensures) c.push_row-n-3.ensures in
    rw (← c.read_le64-time.ensures.value, ← oracle-bytes (take 32 (drop c.args.at c.args.code.now)) c.read_le64-time.result)
    (simp (c.oracle_opening.ensures, c.oracle_test.ensures, c.oracle_closing.ensures) at whole)
