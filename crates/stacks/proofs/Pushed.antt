-- A stack that lies in an array.
use Prim.Native.Nat.{ℕ, ◌+◌, ◌<◌}
use mathlib.Core.Path.{◌≡◌, ap₂}
use mathlib.Core.List.{List, ◌∷◌}
use native.Mathlib.Numerals.{add-one}
use native.Mathlib.Omega.{arith}
use lib.IntN.{ℤ, pos}
use lib.ListN.{length, get_or, set}
use lib.Seq.{get_or-set_other, get_or-set_same}
use Rattle.slices.proofs.Stack.{stack_same}
use Rattle.stacks.specs.Stacks.{waiting}

-- an operand that is written on top
pub pushed : (operands : List ℤ) (n : ℕ) (z : ℤ) → n < length operands → waiting (set operands n z) (n + 1) ≡ z ∷ waiting operands n
pushed operands n z h =
    rw add-one
    (ap₂ ◌∷◌ (get_or-set_same operands n z (pos 0) h)
    (stack_same (λ k. get_or (set operands n z) k (pos 0)) (λ k. get_or operands k (pos 0)) n λ k l. get_or-set_other operands n k z (pos 0) λ e. omega arith))
