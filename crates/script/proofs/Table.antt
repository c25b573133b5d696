-- The table of opcodes: its entries for kinds 4 to 35 all differ.
use Prim.Native.Nat.{ℕ}
use mathlib.Core.Bool.{Bool, true, false, ◌&&◌, ◌||◌, not}
use mathlib.Core.Path.{◌≡◌, refl}
use mathlib.Core.List.{List, [], ◌∷◌}
use lib.ListN.{length}
use lib.Dec.{eqb}
use Rattle.script.specs.Script.{opcodes, equal_verify}

abbrev pub member : ℕ → List ℕ → Bool
member x [] = false
member x (y ∷ ys) = eqb x y || member x ys

abbrev pub differ : List ℕ → Bool
differ [] = true
differ (x ∷ xs) = not (member x xs) && differ xs

-- "That its entries for kinds 4 to 35 all differ is shown by one computed test"; EQUALVERIFY differs from them too
pub opcodes-differ : (length opcodes ≡ 32) × (differ (equal_verify ∷ opcodes) ≡ true)
unfolding opcodes
opcodes-differ = (refl, refl)
