-- So many expressions are still to be read, as `indexes` reads them; each turn and each call is of fewer tokens.
use Rattle.readers.proofs.Onward.{indexes}
use Rattle.readers.proofs.Turns.{Loop}
use Rattle.readers.proofs.+read_index.Given as goal

abbrev pub decreases-read_index : goal.decreases-read_index
decreases-read_index l = l.last

abbrev pub invariant-loop-count : goal.invariant-loop-count
invariant-loop-count l = Loop indexes l.rows l.last l.end l.count

abbrev pub decreases-loop-count : goal.decreases-loop-count
decreases-loop-count l = l.end
