-- How many wait after a command is one equation over its row (`lengths-built`), and what it takes waits where its need is met (`need_takes`).
use Prim.Native.Nat.{ℕ, zero, suc, ◌+◌, ◌-◌, ◌≤◌}
use mathlib.Core.Path.{◌≡◌}
use mathlib.Core.Bool.{true}
use mathlib.Core.List.{List}
use native.Mathlib.Omega.{arith}
use borrow.Author.Tests.{eqb-true, leb-true}
use lib.Dec.{eqb}
use lib.ListN.{length, length-drop}
use Rattle.semantics.specs.declared.Command.{Command}
use Rattle.semantics.specs.Code.{Made, command_row, enough, need_of}
use Rattle.semantics.specs.Parse.{Counts, Waiting, built, lengths, push_index, push_value}
use Rattle.semantics.specs.Trees.{Expr, IdxExpr}
use Rattle.semantics.proofs.Tests.{and_true}
use Rattle.summary.specs.Step.{counts_after, given}

enough_le : (k n : ℕ) → enough k n ≡ true → k ≤ n
enough_le zero n e = omega arith
enough_le (suc k) n e = leb-true (suc k) n e

pub need_takes : (m : Made) (a b v i : ℕ) → need_of m a b v i ≡ true → (a ≤ v) × (b ≤ i)
need_takes Made.nothing a b v i e = absurd (let z : ◌≡◌ {A = ℕ} 0 1 = cc in omega arith)
need_takes Made.index a b v i e = let p = and_true (enough a v) (enough b i) e in (enough_le a v p.0, enough_le b i p.1)
need_takes Made.value a b v i e =
    let p = and_true (enough a v) (eqb i b) e in (enough_le a v p.0, omega (arith, eqb-true i b p.1))
need_takes Made.condition a b v i e =
    let p = and_true (eqb v a) (eqb i b) e in (omega (arith, eqb-true v a p.0), omega (arith, eqb-true i b p.1))

-- a command makes one thing at the most
pub given_one : (m : Made) → (given m).values + (given m).indexes + (given m).conditions ≤ 1
given_one Made.nothing = omega arith
given_one Made.index = omega arith
given_one Made.value = omega arith
given_one Made.condition = omega arith

counts_are : {v i d v' i' d' : ℕ} → v ≡ v' → i ≡ i' → d ≡ d'
    → ◌≡◌ {A = Counts} (record { values = v; indexes = i; conditions = d }) (record { values = v'; indexes = i'; conditions = d' })
counts_are p q r = λ k. record { values = p k; indexes = q k; conditions = r k }

-- whichever tree it is
module _ (w : Waiting) where
  index-built : (k : ℕ)
      → lengths (push_index k IdxExpr.CurrIdx w) ≡ record { values = length w.values - 0 + 0; indexes = length w.indexes - k + 1; conditions = length w.conditions + 0 }
  index-built k = counts_are (omega arith) (omega (arith, length-drop k w.indexes)) (omega arith)

  value-built : (k i : ℕ)
      → lengths (push_value k i Expr.CurrInputIdx w) ≡ record { values = length w.values - k + 1; indexes = length w.indexes - i + 0; conditions = length w.conditions + 0 }
  value-built k i = counts_are (omega (arith, length-drop k w.values)) (omega (arith, length-drop i w.indexes)) (omega arith)

pub lengths-built : (c : Command) (n : List ℕ) (w : Waiting) → lengths (built c n w) ≡ counts_after (command_row c) (lengths w)
lengths-built Command.Unknown n w = counts_are (omega arith) (omega arith) (omega arith)
lengths-built Command.IdxConst n w = index-built w 0
lengths-built Command.CurrIdx n w = index-built w 0
lengths-built (Command.Index o) n w = index-built w 2
lengths-built Command.Const n w = value-built w 0 0
lengths-built Command.CurrInputIdx n w = value-built w 0 0
lengths-built (Command.Lookup l) n w = value-built w 0 1
lengths-built (Command.Binary o) n w = value-built w 2 0
lengths-built (Command.Unary o) n w = value-built w 1 0
lengths-built Command.PriceOracle1 n w = value-built w 0 0
lengths-built Command.PriceOracle1W n w = value-built w 0 0
lengths-built (Command.Compare o) n w = counts_are (omega (arith, length-drop 2 w.values)) (omega arith) (omega arith)
