-- The first n elements of a sequence, the last one first: operands that wait in an array, tokens before a place.
use Rattle.std.specs.Prelude.{ℕ, zero, suc, List, [], ◌∷◌}

abbrev pub stack_of : {A : Type 0} → (ℕ → A) → ℕ → List A
stack_of f zero = []
stack_of f (suc n) = f n ∷ stack_of f n
