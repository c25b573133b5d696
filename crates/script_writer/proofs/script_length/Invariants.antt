-- The bytes of the commands so far are counted (`Counted`).
use Rattle.std.proofs.Common.{◌-◌, length}
use Rattle.script_writer.proofs.Commands.{Counted}
use Rattle.script_writer.proofs.script_length.Given as goal

abbrev pub invariant-loop-at : goal.invariant-loop-at
invariant-loop-at l = Counted l.code l.marks l.at l.count l.n

abbrev pub decreases-loop-at : goal.decreases-loop-at
decreases-loop-at l = length l.code - l.at
