-- A part is what stands from its start to its end.
use Rattle.cases.specs.Cases.{part_of}
use Rattle.cases.proofs.part.Goals as goal

pub returns : goal.returns
unfolding part_of
returns c = rw (c.between.ensures, c.start.ensures, c.end.ensures)
