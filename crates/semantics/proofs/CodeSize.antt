-- How long the code of a condition is, by the tokens of its form: up to 1,024 tokens have at most 5,120 bytes. 1,024 can have as many: 512 constants that
-- operations of one token join, one of them inverted.
use Prim.Native.Nat.{ℕ, ◌+◌, ◌*◌, ◌/◌, ◌%◌, ◌≤◌}
use mathlib.Core.Path.{◌≡◌, ap}
use mathlib.Core.List.{List}
use native.Mathlib.Omega.{arith}
use lib.ListN.{length, length-append}
use Rattle.slices.proofs.Bytes.{length-little_endian}
use Rattle.semantics.specs.Code.{code, expr_code, idx_code, max_tokens}
use Rattle.semantics.specs.Token.{Token, expr_form, form, idx_form}
use Rattle.semantics.specs.Trees.{Arith, Expr, IdxExpr}
use Rattle.semantics.proofs.Encodable.{Encodable, ExprEncodable}
use Rattle.semantics.proofs.Heads.{bin_op_long, cmp_long, idx_op_long, list_long, un_op_long}

-- ten bytes for two tokens, a constant of nine bytes and an operation of one; nine for an odd one
abbrev pub most_code : ℕ → ℕ
most_code tokens = 10 * (tokens / 2) + 9 * (tokens % 2)

idx_size : (e : IdxExpr) → length (idx_code e) ≤ most_code (length (idx_form e))
unfolding idx_code idx_form
idx_size (IdxExpr.Const n) = omega (arith, length-little_endian 8 n)
idx_size IdxExpr.CurrIdx = omega arith
idx_size (IdxExpr.Op o x y) = simp length-append (omega (arith, idx_size x, idx_size y, idx_op_long o))

expr_size : (e : Expr) → ExprEncodable e → length (expr_code e) ≤ most_code (length (expr_form e))
unfolding expr_code expr_form
expr_size (Expr.Const n) w = omega (arith, length-little_endian 8 n)
expr_size Expr.CurrInputIdx w = omega arith
expr_size (Expr.Lookup l i) w = simp length-append (omega (arith, idx_size i, list_long l))
expr_size (Expr.Binary o x y) w = simp length-append (omega (arith, expr_size x w.0, expr_size y w.1, bin_op_long o))
expr_size (Expr.Unary o x) w = simp length-append (omega (arith, expr_size x w, un_op_long o))
expr_size (Expr.PriceOracle1 key time) w = simp length-append (omega (arith, length-little_endian 8 time, w.0))
expr_size (Expr.PriceOracle1W key time) w = simp length-append (omega (arith, length-little_endian 8 time, w.0))

pub code-size : (c : Arith) → Encodable c → length (code c) ≤ most_code (length (form c))
unfolding code form
code-size (Arith.Compare o x y) w = simp length-append (omega (arith, expr_size x w.0, expr_size y w.1, cmp_long o))

-- 5,120 bytes at 1,024 tokens
pub code_fits : (c : Arith) (ts : List Token) → Encodable c → form c ≡ ts → length ts ≤ max_tokens → length (code c) ≤ 5 * max_tokens
code_fits c ts w e few = omega (arith, code-size c w, ap length e)
