-- The operand bytes of an oracle terminal: 32 of the key, then 8 of the time.
use Prim.Native.Nat.{ℕ, ◌+◌}
use mathlib.Core.Path.{◌≡◌, ap}
use mathlib.Core.List.{List}
use lib.ListN.{take, drop}
use Rattle.slices.specs.Bytes.{bytes_value}
use Rattle.semantics.proofs.Machine.{time_at_lem}

pub time_bytes : (code : List ℕ) (at : ℕ) → bytes_value (drop 32 (take 40 (drop at code))) ≡ bytes_value (take 8 (drop (at + 32) code))
time_bytes code at = ap bytes_value (time_at_lem code at)
