-- "Condition code": "one byte of command, operands of fixed width, operands before their operation, left before right".
use Rattle.std.specs.Prelude.{ℕ, zero, suc, ◌*◌, Bool, true, false, ◌&&◌, cond, List, [], ◌∷◌, ◌++◌, map, eqb, leb, length, take, drop}
use Rattle.slices.specs.Bytes.{bytes_value, little_endian}
use Rattle.semantics.specs.Operations.{idx_row, list_row, bin_row, un_row, cmp_row, idx_ops, amount_lists, bin_ops, un_ops, cmp_ops}
use Rattle.semantics.specs.Token.{Token, bytes8, num, op, oracle_form, oracle_w_form}
use Rattle.semantics.specs.Trees.{AmountList, IdxExpr, Expr, Arith}
use Rattle.semantics.specs.declared.Terminal.{Terminal}
pub use Rattle.semantics.specs.declared.Command.{Command}

-- refusals 3 and 10: "over 1,024 tokens"; refusal 1: "over 9,216 bytes"
abbrev pub max_tokens : ℕ
max_tokens = 1024

abbrev pub max_code : ℕ
max_code = 9 * max_tokens

-- what a command makes of the operands that it takes; the byte of an unknown one makes nothing
pub data Made : Type 0 where
  nothing : Made
  index : Made
  value : Made
  condition : Made

-- a command's byte; the number of its operand bytes; the values and indexes that it takes, and what it makes of them; the tokens that stand between
-- those of its two operands, and its own after them, with its operand bytes; the terminal that it is, and the list that it looks up, if it is one and does
pub record CommandRow : Type 0 where
  pub byte : ℕ
  pub width : ℕ
  pub values : ℕ
  pub indexes : ℕ
  pub makes : Made
  pub between : List Token
  pub tokens : List ℕ → List Token
  pub terminals : List Terminal
  pub lists : List AmountList

abbrev pub row : ℕ → ℕ → ℕ → ℕ → Made → List Token → (List ℕ → List Token) → List Terminal → List AmountList → CommandRow
row byte width values indexes makes between tokens terminals lists =
    record {
      byte = byte;
      width = width;
      values = values;
      indexes = indexes;
      makes = makes;
      between = between;
      tokens = tokens;
      terminals = terminals;
      lists = lists;
    }

abbrev pub other : List Terminal
other = Terminal.Other ∷ []

abbrev pub command_row : Command → CommandRow
-- every byte that no row below has; `commands` leaves this row out, so that its own byte is never compared
command_row Command.Unknown = row 0 0 0 0 Made.nothing [] (λ n. []) [] []
command_row Command.IdxConst = row 1 8 0 0 Made.index [] (λ n. num (bytes_value n) ∷ []) [] []
command_row Command.CurrIdx = row 2 0 0 0 Made.index [] (λ n. op 4 ∷ []) [] []
command_row (Command.Index o) = row (idx_row o).command 0 0 2 Made.index (idx_row o).between (λ n. (idx_row o).form) [] []
command_row Command.Const = row 16 8 0 0 Made.value [] (λ n. bytes8 (bytes_value n) ∷ []) other []
command_row Command.CurrInputIdx = row 17 0 0 0 Made.value [] (λ n. op 4 ∷ (list_row AmountList.Input).form) other (AmountList.Input ∷ [])
command_row (Command.Lookup l) = row (list_row l).command 0 0 1 Made.value [] (λ n. (list_row l).form) other (l ∷ [])
command_row (Command.Binary o) = row (bin_row o).command 0 2 0 Made.value [] (λ n. (bin_row o).form) [] []
command_row (Command.Unary o) = row (un_row o).command 0 1 0 Made.value [] (λ n. (un_row o).form) [] []
command_row Command.PriceOracle1 =
    row 32 40 0 0 Made.value [] (λ n. oracle_form (take 32 n) (bytes_value (drop 32 n))) (Terminal.PriceOracle1 ∷ []) []
command_row Command.PriceOracle1W =
    row 33 40 0 0 Made.value [] (λ n. oracle_w_form (take 32 n) (bytes_value (drop 32 n))) (Terminal.PriceOracle1W ∷ []) []
command_row (Command.Compare o) = row (cmp_row o).command 0 2 0 Made.condition [] (λ n. (cmp_row o).form) [] []

-- how many tokens a command adds to the form
abbrev pub token_count : CommandRow → ℕ
token_count r = length (r.between ++ r.tokens [])

-- whether as many wait as are taken
abbrev pub enough : ℕ → ℕ → Bool
enough zero n = true
enough (suc k) n = leb (suc k) n

-- "With v values and i indexes waiting": what it takes waits; no index stays below a value, and nothing below a condition
abbrev pub need_of : Made → ℕ → ℕ → ℕ → ℕ → Bool
need_of Made.nothing values indexes v i = false
need_of Made.index values indexes v i = enough values v && enough indexes i
need_of Made.value values indexes v i = enough values v && eqb i indexes
need_of Made.condition values indexes v i = eqb v values && eqb i indexes

abbrev pub need_met : CommandRow → ℕ → ℕ → Bool
need_met r v i = need_of r.makes r.values r.indexes v i

-- whether a command is that of some byte
abbrev pub is_some : Made → Bool
is_some Made.nothing = false
is_some Made.index = true
is_some Made.value = true
is_some Made.condition = true

abbrev pub known : Command → Bool
known c = is_some (command_row c).makes

abbrev pub commands : List Command
commands =
    Command.IdxConst ∷ Command.CurrIdx ∷ map Command.Index idx_ops ++ Command.Const ∷ Command.CurrInputIdx ∷ map Command.Lookup amount_lists
    ++ map Command.Binary bin_ops ++ map Command.Unary un_ops ++ Command.PriceOracle1 ∷ Command.PriceOracle1W ∷ map Command.Compare cmp_ops

abbrev pub command_in : List Command → ℕ → Command
command_in [] b = Command.Unknown
command_in (c ∷ cs) b = cond (eqb (command_row c).byte b) c (command_in cs b)

-- the command that a byte stands for
unfoldable pub command_of : ℕ → Command
command_of b = command_in commands b

-- "Index: 1 constant (8 bytes, unsigned), 2 current index", and the operations
unfoldable pub idx_code : IdxExpr → List ℕ
idx_code (IdxExpr.Const n) = (command_row Command.IdxConst).byte ∷ little_endian 8 n
idx_code IdxExpr.CurrIdx = (command_row Command.CurrIdx).byte ∷ []
idx_code (IdxExpr.Op o x y) = idx_code x ++ idx_code y ++ (idx_row o).command ∷ []

-- "Value: 16 `Const` .., 17 `CurrInputIdx`, .. 32 `PriceOracle1`, 33 `PriceOracle1W` (32 and 33: key of 32 bytes, time of 8)"
unfoldable pub expr_code : Expr → List ℕ
expr_code (Expr.Const bits) = (command_row Command.Const).byte ∷ little_endian 8 bits
expr_code Expr.CurrInputIdx = (command_row Command.CurrInputIdx).byte ∷ []
expr_code (Expr.Lookup l i) = idx_code i ++ (list_row l).command ∷ []
expr_code (Expr.Binary o x y) = expr_code x ++ expr_code y ++ (bin_row o).command ∷ []
expr_code (Expr.Unary o x) = expr_code x ++ (un_row o).command ∷ []
expr_code (Expr.PriceOracle1 key time) = (command_row Command.PriceOracle1).byte ∷ key ++ little_endian 8 time
expr_code (Expr.PriceOracle1W key time) = (command_row Command.PriceOracle1W).byte ∷ key ++ little_endian 8 time

-- "Comparison", which "end[s] the code"
unfoldable pub code : Arith → List ℕ
code (Arith.Compare o x y) = expr_code x ++ expr_code y ++ (cmp_row o).command ∷ []
