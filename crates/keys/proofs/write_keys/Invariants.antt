-- The keys at the first j positions are copied.
use Rattle.std.proofs.Common.{◌≡◌, take}
use Rattle.slices.specs.Bytes.{over}
use Rattle.semantics.specs.Write.{joined}
use Rattle.keys.specs.Keys.{keys_at}
use Rattle.keys.proofs.write_keys.Given as goal

abbrev pub invariant-loop-j : goal.invariant-loop-j
invariant-loop-j l = l.keys ≡ over (joined (keys_at l.code (take l.j l.positions))) l.initial.keys
