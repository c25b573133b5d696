-- Code without lookups: no command is marked, and 6 does not fall on it.
use Rattle.std.proofs.Common.{Ok}
use Prim.Native.Nat.{ℕ, ◌+◌, ◌-◌}
use mathlib.Core.Bool.{Bool, true, false}
use mathlib.Core.Path.{◌≡◌, refl, sym, ap, ◌∙◌}
use mathlib.Core.List.{List, [], ◌∷◌, ◌++◌, append_assoc, append-nil}
use native.Mathlib.Omega.{arith}
use lib.ListN.{length, drop, replicate, replicate-append-replicate}
use lib.Seq.{drop_at}
use Rattle.slices.specs.Bytes.{All}
use Rattle.semantics.specs.declared.Command.{Command}
use Rattle.semantics.specs.Code.{command_of, command_row}
use Rattle.semantics.specs.Parse.{Instruction, fold, instructions}
use Rattle.semantics.specs.Token.{narrow}
use Rattle.condition.specs.Walk.{Passed}
use Rattle.condition.proofs.Lookups.{NoIndex, few_commands, no_index}
use Rattle.conversions.specs.Marks.{Fits, Found, Marking, Unmarked, mark_step, marks_of, narrow_code, narrow_step, unmarked}
use Rattle.conversions.proofs.Narrow.{binary_narrow, compare_narrow, list_narrow, unary_narrow}

-- a command that makes no index is narrow
own_narrow : (c : Command) (n : List ℕ) → NoIndex c → narrow ((command_row c).tokens n) ≡ true
own_narrow Command.Unknown n h = refl
own_narrow Command.IdxConst n h = absurd (omega (arith, h.1))
own_narrow Command.CurrIdx n h = refl
own_narrow (Command.Index o) n h = absurd (omega (arith, h.1))
own_narrow Command.Const n h = refl
own_narrow Command.CurrInputIdx n h = refl
own_narrow (Command.Lookup l) n h = list_narrow l
own_narrow (Command.Binary o) n h = binary_narrow o
own_narrow (Command.Unary o) n h = unary_narrow o
own_narrow Command.PriceOracle1 n h = refl
own_narrow Command.PriceOracle1W n h = refl
own_narrow (Command.Compare o) n h = compare_narrow o

all_narrow : (ns : List Instruction) → All (λ n. NoIndex (command_of n.byte)) ns → fold narrow_step true ns ≡ true
all_narrow [] h = refl
all_narrow (n ∷ ns) h = rw (own_narrow (command_of n.byte) n.operands h.0) (all_narrow ns h.1)

none_marked : (ns : List Instruction) → All (λ n. NoIndex (command_of n.byte)) ns → (s : Marking)
    → (fold mark_step s ns).marks ≡ s.marks ++ replicate (length ns) false
none_marked [] h s = sym (append-nil s.marks)
none_marked (n ∷ ns) h s =
    none_marked ns h.1 (mark_step s (command_of n.byte) n.operands) ∙ rw h.0.0 (append_assoc s.marks (false ∷ []) (replicate (length ns) false))

-- what stands at the front of an array, and the rest of it
front : (all xs ys : List Bool) → all ≡ xs ++ ys → all ≡ xs ++ drop (length xs) all
front all xs ys e = e ∙ ap (λ (l : List Bool). xs ++ l) (sym (ap (drop (length xs)) e ∙ drop_at xs ys (length xs) refl))

module _ (code : List ℕ) (marks : List Bool) (lookups waiting : ℕ) (p : Passed code (Fits lookups waiting (length marks))) (zero : lookups ≡ 0) where
  abbrev commands : ℕ
  commands = length (instructions code)

  none : All (λ n. NoIndex (command_of n.byte)) (instructions code)
  none = no_index code p (p.known.0 ∙ zero)

  narrow-code : narrow_code code ≡ true
  unfolding narrow_code
  narrow-code = all_narrow (instructions code) none

  marks_are : marks_of code ≡ replicate commands false
  unfolding marks_of
  marks_are = none_marked (instructions code) none unmarked

  pub found_unmarked : Unmarked marks → Found code marks (Ok tt)
  found_unmarked u =
      let size : commands + (length marks - commands) ≡ length marks = omega (arith, few_commands code p, p.known.2) in
      let whole : marks ≡ marks_of code ++ replicate (length marks - commands) false =
      u ∙ ap (λ (n : ℕ). replicate n false) (sym size) ∙ rw marks_are (sym (replicate-append-replicate commands (length marks - commands) false)) in
      (narrow-code, front marks (marks_of code) _ whole)
