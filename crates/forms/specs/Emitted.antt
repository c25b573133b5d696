-- The tokens of code, command by command.
use Rattle.std.specs.Prelude.{ℕ, Bool, false, List, [], ◌++◌, drop, get_or}
use Rattle.semantics.specs.declared.Command.{Command}
use Rattle.semantics.specs.Operations.{Token}
use Rattle.semantics.specs.Parse.{fold, instructions}
use Rattle.token_table.specs.TokenRows.{tokens_of}

-- the tokens of some commands, and the marks of those after them
pub record Emission : Type 0 where
  pub marks : List Bool
  pub tokens : List Token

abbrev pub emit_step : Emission → Command → List ℕ → Emission
emit_step s c n = record { marks = drop 1 s.marks; tokens = s.tokens ++ tokens_of c n (get_or s.marks 0 false) }

-- the tokens of code whose commands have these marks
unfoldable pub emitted : List ℕ → List Bool → List Token
emitted code marks = (fold emit_step (record { marks = marks; tokens = [] }) (instructions code)).tokens
