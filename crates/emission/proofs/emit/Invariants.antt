-- The pieces so far are written, and those before them have just the room that is left.
use Rattle.std.proofs.Common.{length, ◌≤◌}
use Rattle.emission.specs.Pieces.{records_in}
use Rattle.emission.proofs.Emits.{Emitting}
use Rattle.emission.proofs.emit.Given as goal

abbrev pub invariant-loop-end : goal.invariant-loop-end
invariant-loop-end l = record {
  inside : l.end ≤ length l.columns.kinds.now;
  room : l.at ≤ length l.initial.code;
  emitting : Emitting (records_in l.columns) l.start l.initial.code l.end l.at l.code;
}

abbrev pub decreases-loop-end : goal.decreases-loop-end
decreases-loop-end l = l.end
