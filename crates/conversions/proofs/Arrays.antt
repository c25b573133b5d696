-- Fresh arrays of a length that is enough.
use Prim.Native.Nat.{ℕ, ◌≤◌}
use mathlib.Core.Bool.{false}
use mathlib.Core.Path.{◌≡◌}
use mathlib.Core.List.{List}
use native.Mathlib.Omega.{arith}
use lib.ListN.{length, replicate, length-replicate}
use Rattle.condition.specs.Walk.{Passed}
use Rattle.condition.proofs.Onward.{passed_as}
use Rattle.conversions.specs.Marks.{Fits}

pub arrays_fit : (room : ℕ) (code : List ℕ) (tokens lookups : ℕ) → Passed code (λ s. (s.tokens ≡ tokens) × (s.lookups ≡ lookups)) → tokens ≤ room
    → Passed code (Fits lookups (length (replicate {A = ℕ} room 0)) (length (replicate room false)))
arrays_fit room code tokens lookups p h =
    rw (length-replicate {A = ℕ} room 0, length-replicate room false) (passed_as (λ s k. (k.1, omega (arith, k.0, h), omega (arith, k.0, h))) p)
