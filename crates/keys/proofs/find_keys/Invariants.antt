-- The keys of the commands so far are noted (`Noting`).
use Rattle.std.proofs.Common.{◌-◌, length}
use Rattle.keys.proofs.Noting.{Noting}
use Rattle.keys.proofs.find_keys.Given as goal

abbrev pub invariant-loop-at : goal.invariant-loop-at
invariant-loop-at l = Noting l.code (length l.initial.positions) l.positions l.at l.count

abbrev pub decreases-loop-at : goal.decreases-loop-at
decreases-loop-at l = length l.code - l.at
