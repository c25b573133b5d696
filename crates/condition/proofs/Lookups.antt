-- Code that passes has a token for each command; and without lookups it has no index command, since a lookup alone takes an index away, and a comparison wants that none waits.
use Rattle.std.proofs.Common.{Ok, Err}
use Prim.Native.Nat.{ℕ, suc, ◌+◌, ◌≤◌}
use mathlib.Core.Path.{◌≡◌, refl}
use mathlib.Core.Bool.{Bool, true, false, cond, ◌&&◌}
use mathlib.Core.List.{List, [], ◌∷◌}
use native.Mathlib.Omega.{arith}
use borrow.Author.Tests.{eqb-false, eqb-true}
use lib.Dec.{eqb}
use lib.ListN.{length}
use Rattle.slices.specs.Bytes.{All}
use Rattle.semantics.specs.declared.Command.{Command}
use Rattle.semantics.specs.Code.{Made, command_of, command_row, need_met, need_of}
use Rattle.semantics.specs.Parse.{Instruction, Walk, fold, instructions, passes}
use Rattle.summary.proofs.Counts.{given_one}
use Rattle.semantics.proofs.Instructions.{need-known}
use Rattle.semantics.proofs.Machine.{refused-stays}
use Rattle.semantics.proofs.Tests.{and_true}
use Rattle.summary.specs.declared.Summary.{Summary}
use Rattle.summary.specs.Step.{given}
use Rattle.summary.proofs.Bounds.{some_token}
use Rattle.condition.specs.Walk.{Passed, counts, ended, next, start, summary_step, walked}

-- a command that takes no index and makes none
abbrev pub NoIndex : Command → Type 0
NoIndex c = ((command_row c).indexes ≡ 0) × ((given (command_row c).makes).indexes ≡ 0)

takes_none : (c : Command) → length (command_row c).lists ≡ 0 → (given (command_row c).makes).indexes ≡ 0 → (command_row c).indexes ≡ 0
takes_none Command.Unknown l g = refl
takes_none Command.IdxConst l g = refl
takes_none Command.CurrIdx l g = refl
takes_none (Command.Index o) l g = absurd (omega (arith, g))
takes_none Command.Const l g = refl
takes_none Command.CurrInputIdx l g = refl
takes_none (Command.Lookup a) l g = absurd (omega (arith, l))
takes_none (Command.Binary o) l g = refl
takes_none (Command.Unary o) l g = refl
takes_none Command.PriceOracle1 l g = refl
takes_none Command.PriceOracle1W l g = refl
takes_none (Command.Compare o) l g = refl

-- none waits after a comparison
none_after : (m : Made) (a b v i : ℕ) → need_of m a b v i ≡ true → ((given m).conditions ≡ 0 → ⊥) → i ≡ b
none_after Made.nothing a b v i e h = absurd (h refl)
none_after Made.index a b v i e h = absurd (h refl)
none_after Made.value a b v i e h = absurd (h refl)
none_after Made.condition a b v i e h = eqb-true i b (and_true (eqb v a) (eqb i b) e).1

-- from a place where s is known of the code before, to its end, where t is known of all
record Rest (t : Summary) (ns : List Instruction) (s : Summary) : Type 0 where
  lookups : s.lookups ≤ t.lookups
  tokens : length ns + s.tokens ≤ t.tokens
  none : t.lookups ≤ s.lookups → ((s.conditions ≡ 0 → ⊥) → s.indexes ≡ 0)
      → (s.indexes ≡ 0) × All (λ n. NoIndex (command_of n.byte)) ns

-- before a command, if it passes
module _ (t : Summary) (n : Instruction) (ns : List Instruction) (at : ℕ) (s : Summary) where
  abbrev c : Command
  c = command_of n.byte

  before : passes c n.operands (counts s) ≡ true → Rest t ns (next c s) → Rest t (n ∷ ns) s
  before p r =
      let size = eqb (length n.operands) (command_row c).width in
      let needed = need_met (command_row c) s.values s.indexes in
      let first = and_true (eqb s.conditions 0) (size && needed) p in
      let zero = eqb-true s.conditions 0 first.0 in
      let q = (and_true size needed first.1).1 in
      let compared = none_after (command_row c).makes (command_row c).values (command_row c).indexes s.values s.indexes q in
      let one = given_one (command_row c).makes in
      let after : t.lookups ≤ s.lookups → ((next c s).indexes ≡ 0) × All (λ n. NoIndex (command_of n.byte)) ns =
      λ l. r.none (omega (arith, l)) (λ k. omega (arith, compared (λ g. k (omega (arith, zero, g))), one, k, zero)) in
      let given-none : t.lookups ≤ s.lookups → (given (command_row c).makes).indexes ≡ 0 = λ l. omega (arith, (after l).0) in
      let taken_none : t.lookups ≤ s.lookups → (command_row c).indexes ≡ 0 =
      λ l. takes_none c (omega (arith, r.lookups, l)) (given-none l) in
      record {
        lookups = omega (arith, r.lookups);
        tokens = omega (arith, r.tokens, some_token c (need-known c s.values s.indexes q));
        none = λ l h. (omega (arith, (after l).0, taken_none l), ((taken_none l, given-none l), (after l).1));
      }

  turn : (b : Bool) → passes c n.operands (counts s) ≡ b
      → (ended (fold summary_step (Walk.going (at + suc (length n.operands)) (next c s)) ns) ≡ Ok t → Rest t ns (next c s))
      → ended (fold summary_step (cond b (Walk.going (at + suc (length n.operands)) (next c s)) (Walk.refused at)) ns) ≡ Ok t
      → Rest t (n ∷ ns) s
  turn true p later e = before p (later e)
  turn false p later e =
      let q : Err at ≡ Ok t = rw (refused-stays counts (λ d m r. next d r) ns at) at e in
      absurd (let z : ◌≡◌ {A = ℕ} 0 1 = cc in omega arith)

rest : (t : Summary) (ns : List Instruction) (at : ℕ) (s : Summary) → ended (fold summary_step (Walk.going at s) ns) ≡ Ok t → Rest t ns s
rest t [] at s e = stop (eqb s.conditions 0) refl e
  where
    stop : (b : Bool) → eqb s.conditions 0 ≡ b → cond b (Err at) (Ok s) ≡ Ok t → Rest t [] s
    stop true q e = absurd (let z : ◌≡◌ {A = ℕ} 0 1 = cc in omega arith)
    stop false q e =
        let k : s ≡ t = cc in
        record { lookups = rw k (omega arith); tokens = rw k (omega arith); none = λ l h. (h (eqb-false s.conditions 0 q), tt) }
rest t (n ∷ ns) at s e =
    let c = command_of n.byte in
    turn t n ns at s (passes c n.operands (counts s)) refl (rest t ns (at + suc (length n.operands)) (next c s)) e

module _ {Known : Summary → Type 0} (c : List ℕ) (p : Passed c Known) where
  pub few_commands : length (instructions c) ≤ p.last.tokens
  unfolding walked
  few_commands = omega (arith, (rest p.last (instructions c) 0 start p.walk).tokens)

  pub no_index : p.last.lookups ≡ 0 → All (λ n. NoIndex (command_of n.byte)) (instructions c)
  unfolding walked
  no_index e = ((rest p.last (instructions c) 0 start p.walk).none (omega (arith, e)) (λ k. refl)).1
