-- A piece more in each turn, whose room is there.
use Rattle.std.proofs.Common.{arith}
use Rattle.productions.proofs.Noted.{fitting_fewer, rows-fewer, rows_fit}
use Rattle.emission.specs.Pieces.{records_in, spot_of}
use Rattle.emission.proofs.Emits.{emitted, emitting_next, emitting_start, room}
use Rattle.emission.proofs.emit.Goals as goal

pub loop-end-init : goal.loop-end-init
loop-end-init c = record {
  inside = omega arith;
  room = c.requires.bytes_in_bounds.0;
  emitting = emitting_start (records_in c.args.columns.now) c.args.start c.args.code.now c.args.bytes c.requires.bytes_in_bounds.1;
}

pub last_command-last-requires : goal.last_command-last-requires
last_command-last-requires c =
    let fits = rows_fit (records_in c.args.columns.now) _ _ c.requires.kinds_len_bound.0 c.requires.kinds_len_bound.1 in
    (fitting_fewer _ _ _ fits c.loop-end.invariant.inside, c.loop-end.invariant.inside, omega arith)

pub put_command-requires-clause-command_bound : goal.put_command-requires-clause-command_bound
put_command-requires-clause-command_bound c =
    let met = c.last_command-last.ensures.met _ _ _ (rows-fewer _ _ _ _ c.requires.kinds_len_bound.1 c.loop-end.invariant.inside) in (
      room (records_in c.args.columns.now) c.args.start c.args.code.now c.loop-end.end c.loop-end.at c.loop-end.code c.loop-end.invariant.emitting c.loop-end.invariant.inside c.requires.whole
          c.loop-end-test.true (spot_of c.last_command-last.result) met,
      omega (arith, c.loop-end.auto.code, c.loop-end.invariant.room),
    )

pub overflow_sub-at : goal.overflow_sub-at
overflow_sub-at c =
    let met = c.last_command-last.ensures.met _ _ _ (rows-fewer _ _ _ _ c.requires.kinds_len_bound.1 c.loop-end.invariant.inside) in
    let enough = room (records_in c.args.columns.now) c.args.start c.args.code.now c.loop-end.end c.loop-end.at c.loop-end.code c.loop-end.invariant.emitting c.loop-end.invariant.inside c.requires.whole
    c.loop-end-test.true (spot_of c.last_command-last.result) met in
    omega (arith, c.size-at.ensures)

pub loop-end-preserved : goal.loop-end-preserved
loop-end-preserved c =
    let r = records_in c.args.columns.now in
    let met = c.last_command-last.ensures.met _ _ _ (rows-fewer _ _ _ _ c.requires.kinds_len_bound.1 c.loop-end.invariant.inside) in
    let low = c.last_command-last.ensures.falls in
    record {
      inside = omega (arith, c.loop-end.invariant.inside);
      room = omega (arith, c.loop-end.invariant.room);
      emitting = rw c.size-at.ensures
          (emitting_next r c.args.start c.args.code.now c.loop-end.end c.loop-end.at c.loop-end.code c.loop-end.invariant.emitting c.loop-end.invariant.inside c.requires.whole
          c.loop-end-test.true (spot_of c.last_command-last.result) met c.loop-end.invariant.room c.put_command.new.code c.put_command.ensures);
    }

pub returns : goal.returns
returns c =
    emitted (records_in c.args.columns.now) c.args.start c.args.code.now c.loop-end.end c.loop-end.at c.loop-end.code c.loop-end.invariant.emitting c.loop-end-test.false
