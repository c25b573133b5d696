-- "Oracle rule (`Arith::new`; terminals are 16 to 21, 32, 33)".
use Rattle.std.specs.Prelude.{ℕ, suc, Bool, true, false, cond, List, [], ◌∷◌, ◌++◌}
use Rattle.std.proofs.Math.Option.{Option, none, some}
use Rattle.semantics.specs.Trees.{Expr, Arith}
use Rattle.semantics.specs.Refusals.{Refusal}
pub use Rattle.semantics.specs.declared.Terminal.{Terminal}

-- from left to right
unfoldable pub terminals : Expr → List Terminal
terminals (Expr.Const bits) = Terminal.Other ∷ []
terminals Expr.CurrInputIdx = Terminal.Other ∷ []
terminals (Expr.Lookup l i) = Terminal.Other ∷ []
terminals (Expr.Binary o x y) = terminals x ++ terminals y
terminals (Expr.Unary o x) = terminals x
terminals (Expr.PriceOracle1 key time) = Terminal.PriceOracle1 ∷ []
terminals (Expr.PriceOracle1W key time) = Terminal.PriceOracle1W ∷ []

-- whether 32 stands among terminals
abbrev pub among : List Terminal → Bool
among [] = false
among (Terminal.Other ∷ ts) = among ts
among (Terminal.PriceOracle1 ∷ ts) = true
among (Terminal.PriceOracle1W ∷ ts) = among ts

abbrev pub missing : List Terminal → Option Refusal
missing ts = cond (among ts) (some Refusal.PriceOracle1Missing) none

-- "4 if the left side's first terminal is 33; else 5 if 32 stands among the left side's later terminals or anywhere on the right"
abbrev pub rule : List Terminal → List Terminal → Option Refusal
-- every side has a terminal
rule [] right = missing right
rule (Terminal.Other ∷ later) right = missing (later ++ right)
rule (Terminal.PriceOracle1 ∷ later) right = missing (later ++ right)
rule (Terminal.PriceOracle1W ∷ later) right = some Refusal.PriceOracle1WFirst

unfoldable pub oracle_rule : Arith → Option Refusal
oracle_rule (Arith.Compare o x y) = rule (terminals x) (terminals y)

-- "n the number of oracle terminals"
abbrev pub oracles_in : List Terminal → ℕ
oracles_in [] = 0
oracles_in (Terminal.Other ∷ ts) = oracles_in ts
oracles_in (Terminal.PriceOracle1 ∷ ts) = suc (oracles_in ts)
oracles_in (Terminal.PriceOracle1W ∷ ts) = suc (oracles_in ts)

unfoldable pub oracles : Arith → ℕ
oracles (Arith.Compare o x y) = oracles_in (terminals x ++ terminals y)
