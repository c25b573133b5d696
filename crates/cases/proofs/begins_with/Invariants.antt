-- What is said from here on is what is said of the whole.
use Rattle.std.proofs.Common.{◌≡◌, ◌*◌, drop}
use Rattle.cases.specs.Known.{begins_by}
use Rattle.cases.proofs.begins_with.Given as goal

abbrev pub invariant-loop-i : goal.invariant-loop-i
invariant-loop-i g l =
    begins_by g.T.PartialEq.eq g.T.Number.of g.T.Number.SIZE l.part l.numbers
    ≡ begins_by g.T.PartialEq.eq g.T.Number.of g.T.Number.SIZE (drop (g.T.Number.SIZE * l.i) l.part) (drop l.i l.numbers)
