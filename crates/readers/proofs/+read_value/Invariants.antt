-- So many expressions are still to be read, as `values` reads them; each turn and each call is of fewer tokens.
use Rattle.readers.proofs.Onward.{values}
use Rattle.readers.proofs.Turns.{Loop}
use Rattle.readers.proofs.+read_value.Given as goal

abbrev pub decreases-read_value : goal.decreases-read_value
decreases-read_value l = l.last

abbrev pub invariant-loop-count : goal.invariant-loop-count
invariant-loop-count l = Loop values l.rows l.last l.end l.count

abbrev pub decreases-loop-count : goal.decreases-loop-count
decreases-loop-count l = l.end
