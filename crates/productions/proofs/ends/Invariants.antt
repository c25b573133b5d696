-- The kinds so far have fitted.
use Rattle.std.proofs.Common.{◌≡◌, ◌+◌, List, ℕ, map}
use Rattle.token_table.specs.Kinds.{number}
use Rattle.productions.specs.Before.{tokens_before}
use Rattle.productions.specs.Ending.{ends, row_at}
use Rattle.productions.proofs.Table.{backwards}
use Rattle.productions.proofs.ends.Given as goal

abbrev pub invariant-loop-i : goal.invariant-loop-i
invariant-loop-i l =
    (places keys : List ℕ) → ends (row_at l.row).marks (tokens_before l.kinds l.numbers places keys l.end)
    ≡ ends (backwards (map number l.own) l.i) (tokens_before l.kinds l.numbers places keys (l.start + l.i))
