-- The first bytes of the row are written.
use Rattle.std.proofs.Common.{take}
use Rattle.slices.specs.Bytes.{Front}
use Rattle.script.proofs.push_row.Given as goal

abbrev pub invariant-loop-i : goal.invariant-loop-i
invariant-loop-i l = Front l.out l.initial.out (take l.i l.row) l.i
