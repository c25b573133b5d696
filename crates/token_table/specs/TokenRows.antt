-- The token form, command by command: the tokens that a command adds, and the table of their kinds.
use Rattle.std.specs.Prelude.{ℕ, Bool, true, cond, List, [], ◌∷◌, ◌++◌, map}
use Rattle.semantics.specs.declared.Command.{Command}
use Rattle.semantics.specs.Code.{command_row}
use Rattle.semantics.specs.Operations.{Token, op}

-- SCRIPTNUMTOLE64 follows a command that is marked: one that ends the left operand of Mul or Div
abbrev pub converted : Bool → List Token
converted marked = cond marked (op 7 ∷ []) []

-- the tokens that a command writes, with its operand bytes
abbrev pub tokens_of : Command → List ℕ → Bool → List Token
tokens_of c n marked = (command_row c).tokens n ++ converted marked

-- a row of the table: the kinds of a command's own tokens with that of SCRIPTNUMTOLE64 after them
abbrev pub token_row : Command → List ℕ
token_row c = map (λ t. t.kind) (tokens_of c [] true)
