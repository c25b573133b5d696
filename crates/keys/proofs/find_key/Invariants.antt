-- Of the keys that were passed none is the one looked for.
use Rattle.std.proofs.Common.{◌≡◌, ◌+◌}
use Rattle.semantics.specs.Write.{index_of}
use Rattle.keys.specs.Keys.{key_at, keys_at}
use Rattle.keys.proofs.Noting.{from}
use Rattle.keys.proofs.find_key.Given as goal

abbrev pub invariant-loop-j : goal.invariant-loop-j
invariant-loop-j l = l.j + from l.code l.positions (key_at l.code l.at) l.j ≡ index_of (key_at l.code l.at) (keys_at l.code l.positions)
