-- The pass comes to from here what it comes to from the start (`Loop`).
use Rattle.std.proofs.Common.{◌-◌, length}
use Rattle.conversions.proofs.Pass.{Loop}
use Rattle.conversions.proofs.mark.Given as goal

abbrev pub invariant-loop-at : goal.invariant-loop-at
invariant-loop-at l = Loop l.code l.lookups (length l.initial.waiting) (length l.initial.marks) l.waiting l.marks l.at l.count l.indexes

abbrev pub decreases-loop-at : goal.decreases-loop-at
decreases-loop-at l = length l.code - l.at
