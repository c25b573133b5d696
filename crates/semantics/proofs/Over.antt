-- A list written over the front of a buffer.
use Rattle.slices.specs.Bytes.{over}
use Prim.Native.Nat.{ℕ, ◌≤◌}
use mathlib.Core.Path.{◌≡◌, ap, ◌∙◌}
use mathlib.Core.List.{List}
use native.Mathlib.Omega.{arith}
use lib.ListN.{length, drop, length-append, length-drop}
use lib.Seq.{drop_at}

pub length_over : (ws xs : List ℕ) → length ws ≤ length xs → length (over ws xs) ≡ length xs
length_over ws xs h = simp (length-append, length-drop) (omega arith)

-- what stands after what is written over
pub rest_of : (ws xs : List ℕ) (n : ℕ) → length ws ≡ n → drop n (over ws xs) ≡ drop n xs
rest_of ws xs n e = drop_at ws (drop (length ws) xs) n e ∙ ap (λ (m : ℕ). drop m xs) e
