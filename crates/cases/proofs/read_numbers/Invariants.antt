-- The first i numbers stand at the front.
use Rattle.std.proofs.Common.{◌≡◌, take}
use Rattle.cases.specs.Cases.{numbers_by}
use Rattle.cases.proofs.read_numbers.Given as goal

abbrev pub invariant-loop-i : goal.invariant-loop-i
invariant-loop-i g l = take l.i l.number-items ≡ numbers_by g.T.Number.of g.T.Number.SIZE l.i l.part
