-- The pieces so far are counted, and the first terminal and whether PriceOracle1 is among the others are known.
use Rattle.std.proofs.Common.{List, length, ℕ, ◌*◌, ◌+◌, ◌≤◌}
use Rattle.semantics.specs.Records.{records_of}
use Rattle.productions.specs.Before.{Whole}
use Rattle.productions.specs.Noted.{Rows}
use Rattle.emission.proofs.Emits.{Judging}
use Rattle.emission.proofs.judge.Given as goal

abbrev pub invariant-loop-end : goal.invariant-loop-end
invariant-loop-end l = record {
  inside : l.end ≤ length l.kinds;
  room : l.bytes + 41 * l.end ≤ 41 * length l.kinds;
  judging : (numbers places keys : List ℕ) → Rows (records_of l.kinds numbers places keys) l.rows (length l.kinds) → Whole l.kinds places keys
      → Judging (records_of l.kinds numbers places keys) l.start l.end l.bytes l.first l.later;
}

abbrev pub decreases-loop-end : goal.decreases-loop-end
decreases-loop-end l = l.end
