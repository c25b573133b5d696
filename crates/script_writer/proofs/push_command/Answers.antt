-- A command's own bytes are its piece's (`Own`), and a mark adds one behind them.
use Rattle.std.proofs.Common.{arith, ap, ◌∙◌}
use Rattle.commands.specs.declared.Cursor.{Cursor}
use Rattle.slices.proofs.Front.{front-set, front_length}
use Rattle.script_writer.proofs.Commands.{one_converted, with_converted}
use Rattle.script_writer.proofs.Own.{all_bytes, own, own_long, room}
use Rattle.script_writer.proofs.push_command.Goals as goal

pub push_piece-own-requires : goal.push_piece-own-requires
push_piece-own-requires c =
    let p = rw c.next-here.ensures at c.piece_of.ensures in
    rw c.next-here.ensures (p.inside, omega (arith, own_long c.args.code.now c.args.at c.piece_of.result p, room c.args.code.now c.args.at c.args.marked _ c.requires.1))

pub bounds-out-own : goal.bounds-out-own
bounds-out-own c =
    let p = rw c.next-here.ensures at c.piece_of.ensures in
    let written = rw (c.next-here.ensures, p.bytes) at c.push_piece-own.ensures in
    let r = room c.args.code.now c.args.at c.args.marked _ c.requires.1 in
    omega (arith, front_length written (omega (arith, written.long, r)), written.long, r, one_converted (own c.args.code.now c.args.at) _ c.if-marked.true)

pub returns-then-marked : goal.returns-then-marked
returns-then-marked c =
    let p = rw c.next-here.ensures at c.piece_of.ensures in
    let written = rw (c.next-here.ensures, p.bytes) at c.push_piece-own.ensures in
    let r = room c.args.code.now c.args.at c.args.marked _ c.requires.1 in
    let m = c.if-marked.true in (
      rw (all_bytes c.args.code.now c.args.at c.args.marked ∙ with_converted (own c.args.code.now c.args.at) _ m)
          (front-set 0xe0 written (omega (arith, written.long, r, one_converted (own c.args.code.now c.args.at) _ m))),
      ap (λ (k : Cursor). k.next) c.next-here.ensures,
    )
