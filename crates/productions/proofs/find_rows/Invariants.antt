-- The rows before each place so far are noted.
use Rattle.std.proofs.Common.{List, ℕ}
use Rattle.semantics.specs.Records.{records_of}
use Rattle.productions.specs.Noted.{Rows}
use Rattle.productions.proofs.find_rows.Given as goal

abbrev pub invariant-loop-i : goal.invariant-loop-i
invariant-loop-i l = (places keys : List ℕ) → Rows (records_of l.kinds l.numbers places keys) l.rows l.i
