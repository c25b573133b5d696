-- What is left of the code comes to what the whole code comes to, no comparison was met, and no count has grown past the bytes passed.
use Rattle.std.proofs.Common.{length, ◌-◌, ◌≡◌, ◌≤◌}
use Rattle.summary.specs.Step.{Small}
use Rattle.condition.specs.Walk.{walked}
use Rattle.condition.proofs.Steps.{walk_from}
use Rattle.condition.proofs.walk.Given as goal

abbrev pub invariant-loop-s : goal.invariant-loop-s
invariant-loop-s l = (l.s.bytes ≤ length l.code) × (l.s.conditions ≡ 0) × Small l.s.bytes l.s × (walk_from l.code l.s.bytes l.s ≡ walked l.code)

abbrev pub decreases-loop-s : goal.decreases-loop-s
decreases-loop-s l = length l.code - l.s.bytes
