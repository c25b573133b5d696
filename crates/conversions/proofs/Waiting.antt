-- The index operands that wait, which lie in an array, and the marks at the front of one.
use Prim.Native.Nat.{ℕ, ◌+◌, ◌-◌, ◌≤◌, ◌<◌}
use mathlib.Core.Bool.{Bool}
use mathlib.Core.Path.{◌≡◌, ap₂, subst}
use mathlib.Core.List.{List, ◌∷◌}
use native.Mathlib.Numerals.{add-one}
use native.Mathlib.Omega.{arith}
use borrow.Author.Tests.{leb-true}
use lib.ListN.{length, get_or, take, set}
use lib.Seq.{get_or-set_other, get_or-set_same, length-take-le, take-set-lt}
use Rattle.slices.proofs.Stack.{stack_same, stack_two}
use Rattle.slices.specs.Bytes.{All}
use Rattle.semantics.specs.declared.Command.{Command}
use Rattle.semantics.specs.declared.IdxOp.{IdxOp}
use Rattle.conversions.specs.Marks.{Ready, converts, marking_in, settled, stack_in}

pub pushed : (a : List ℕ) (n v : ℕ) → n < length a → stack_in (set a n v) (n + 1) ≡ v ∷ stack_in a n
pushed a n v h =
    rw add-one
    (ap₂ ◌∷◌ (get_or-set_same a n v 0 h)
    (stack_same (λ k. get_or (set a n v) k 0) (λ k. get_or a k 0) n λ k l. get_or-set_other a n k v 0 λ e. omega arith))

-- an operation on two indexes
module _ (waiting : List ℕ) (indexes : ℕ) (marks : List Bool) (count : ℕ) where
  pub ready_index : (o : IdxOp) → Ready (Command.Index o) count indexes waiting marks
      → (2 ≤ indexes) × (get_or waiting (indexes - 1) 0 < count) × (get_or waiting (indexes - 2) 0 < count)
  ready_index o r =
      let h = leb-true 2 indexes r.met in
      let e = subst (λ (s : List ℕ). All (λ k. k < count) s) (stack_two (λ k. get_or waiting k 0) indexes h) r.earlier in
      (h, e.0, e.1.0)

  pub operated : (o : IdxOp) → Ready (Command.Index o) count indexes waiting marks → (left : ℕ) → left ≡ get_or waiting (indexes - 2) 0
      → (s : List ℕ) → s ≡ count ∷ stack_in waiting (indexes - 2)
      → record { waiting = s; marks = take count (set marks left (converts (Command.Index o))) } ≡ settled (marking_in waiting indexes marks count) (Command.Index o)
  operated o r left e s d =
      let q = ready_index o r in
      rw (d, e, take-set-lt count marks (get_or waiting (indexes - 2) 0) (converts (Command.Index o)) q.2, stack_two (λ k. get_or waiting k 0) indexes q.0, length-take-le count marks (omega (arith, r.count_fits)))
