-- What is still to be compared decides.
use Rattle.std.proofs.Common.{◌≡◌}
use Rattle.semantics.specs.FromTokens.{same_bytes}
use Rattle.keys.specs.Keys.{key_at}
use Rattle.keys.proofs.Same.{alike}
use Rattle.keys.proofs.is_same_key.Given as goal

abbrev pub invariant-loop-i : goal.invariant-loop-i
invariant-loop-i l = alike l.code l.a l.b l.i ≡ same_bytes (key_at l.code l.a) (key_at l.code l.b)
