-- The bytes of the commands so far are written (`Pushed`).
use Rattle.std.proofs.Common.{◌-◌, length}
use Rattle.script_writer.proofs.Commands.{Pushed}
use Rattle.script_writer.proofs.push_script.Given as goal

abbrev pub invariant-loop-at : goal.invariant-loop-at
invariant-loop-at l = Pushed l.code l.marks l.initial.out l.out l.at l.count l.n

abbrev pub decreases-loop-at : goal.decreases-loop-at
decreases-loop-at l = length l.code - l.at
