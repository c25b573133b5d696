-- Trees that code can say: numbers and keys have the widths of their operands.
use Prim.Native.Nat.{ℕ, ◌<◌, ◌^◌}
use mathlib.Core.Path.{◌≡◌}
use mathlib.Core.List.{List, ◌++◌}
use native.Mathlib.Omega.{arith}
use lib.ListN.{length}
use Rattle.slices.specs.Bytes.{All, Bytes}
use Rattle.slices.proofs.Bytes.{all_append, all_join, little_endian-bytes}
use Rattle.semantics.specs.Operations.{bin_row, cmp_row, idx_row, list_row, un_row}
use Rattle.semantics.specs.Trees.{IdxOp, AmountList, BinOp, UnOp, CmpOp, IdxExpr, Expr, Arith}
use Rattle.semantics.specs.Code.{idx_code, expr_code, code}
use Rattle.semantics.specs.Token.{idx_form, expr_form, form}
use Rattle.semantics.specs.Meaning.{Sound}

abbrev pub IdxEncodable : IdxExpr → Type 0
IdxEncodable (IdxExpr.Const n) = n < 2 ^ 64
IdxEncodable IdxExpr.CurrIdx = Unit {0}
IdxEncodable (IdxExpr.Op o x y) = IdxEncodable x × IdxEncodable y

abbrev pub OracleEncodable : List ℕ → ℕ → Type 0
OracleEncodable key time = (length key ≡ 32) × Bytes key × (time < 2 ^ 64)

abbrev pub ExprEncodable : Expr → Type 0
ExprEncodable (Expr.Const bits) = bits < 2 ^ 64
ExprEncodable Expr.CurrInputIdx = Unit {0}
ExprEncodable (Expr.Lookup l i) = IdxEncodable i
ExprEncodable (Expr.Binary o x y) = ExprEncodable x × ExprEncodable y
ExprEncodable (Expr.Unary o x) = ExprEncodable x
ExprEncodable (Expr.PriceOracle1 key time) = OracleEncodable key time
ExprEncodable (Expr.PriceOracle1W key time) = OracleEncodable key time

abbrev pub Encodable : Arith → Type 0
Encodable (Arith.Compare o x y) = ExprEncodable x × ExprEncodable y

-- a form of sound tokens is the form of such a tree
idx_encodable : (e : IdxExpr) → All Sound (idx_form e) → IdxEncodable e
unfolding idx_form
idx_encodable (IdxExpr.Const n) h = omega (arith, h.0.0)
idx_encodable IdxExpr.CurrIdx h = tt
idx_encodable (IdxExpr.Op o x y) h =
    let xby = (all_append Sound (idx_form x ++ (idx_row o).between ++ idx_form y) (idx_row o).form h).0 in
    let xb = all_append Sound (idx_form x ++ (idx_row o).between) (idx_form y) xby in
    (idx_encodable x (all_append Sound (idx_form x) (idx_row o).between xb.0).0, idx_encodable y xb.1)

expr_encodable : (e : Expr) → All Sound (expr_form e) → ExprEncodable e
unfolding expr_form
expr_encodable (Expr.Const n) h = h.0.0
expr_encodable Expr.CurrInputIdx h = tt
expr_encodable (Expr.Lookup l i) h = idx_encodable i (all_append Sound (idx_form i) (list_row l).form h).0
expr_encodable (Expr.Binary o x y) h =
    let xy = all_append Sound (expr_form x) (expr_form y) (all_append Sound (expr_form x ++ expr_form y) (bin_row o).form h).0 in
    (expr_encodable x xy.0, expr_encodable y xy.1)
expr_encodable (Expr.Unary o x) h = expr_encodable x (all_append Sound (expr_form x) (un_row o).form h).0
expr_encodable (Expr.PriceOracle1 key time) h =
    let k = h.1.1.1.1.1.1.1.0 in (k.1, k.2, h.1.1.0.0)
expr_encodable (Expr.PriceOracle1W key time) h =
    let k = h.1.1.1.1.1.1.1.1.0 in (k.1, k.2, h.1.1.1.0.0)

pub encodable : (c : Arith) → All Sound (form c) → Encodable c
unfolding form
encodable (Arith.Compare o x y) h =
    let xy = all_append Sound (expr_form x) (expr_form y) (all_append Sound (expr_form x ++ expr_form y) (cmp_row o).form h).0 in
    (expr_encodable x xy.0, expr_encodable y xy.1)

-- the code of such a tree is bytes
abbrev Byte : ℕ → Type 0
Byte b = b < 256

idx_op_byte : (o : IdxOp) → Byte (idx_row o).command
idx_op_byte o = elim o as (λ o. Byte (idx_row o).command) [ IdxOp.Add ↦ omega arith | IdxOp.Sub ↦ omega arith | IdxOp.Mul ↦ omega arith | IdxOp.Div ↦ omega arith ]

list_byte : (l : AmountList) → Byte (list_row l).command
list_byte l =
    elim l as (λ l. Byte (list_row l).command) [ AmountList.Input ↦ omega arith | AmountList.Output ↦ omega arith | AmountList.InputIssue ↦ omega arith | AmountList.InputReIssue ↦ omega arith ]

bin_op_byte : (o : BinOp) → Byte (bin_row o).command
bin_op_byte o =
    elim o as (λ o. Byte (bin_row o).command) [
      | BinOp.Add ↦ omega arith
      | BinOp.Sub ↦ omega arith
      | BinOp.Mul ↦ omega arith
      | BinOp.Div ↦ omega arith
      | BinOp.Mod ↦ omega arith
      | BinOp.BitAnd ↦ omega arith
      | BinOp.BitOr ↦ omega arith
      | BinOp.Xor ↦ omega arith
    ]

un_op_byte : (o : UnOp) → Byte (un_row o).command
un_op_byte o = elim o as (λ o. Byte (un_row o).command) [ UnOp.Invert ↦ omega arith | UnOp.Negate ↦ omega arith ]

cmp_byte : (o : CmpOp) → Byte (cmp_row o).command
cmp_byte o =
    elim o as (λ o. Byte (cmp_row o).command) [
      | CmpOp.Eq ↦ omega arith
      | CmpOp.Lt ↦ omega arith
      | CmpOp.Leq ↦ omega arith
      | CmpOp.Gt ↦ omega arith
      | CmpOp.Geq ↦ omega arith
    ]

idx_bytes : (e : IdxExpr) → Bytes (idx_code e)
unfolding idx_code
idx_bytes (IdxExpr.Const n) = (omega arith, little_endian-bytes 8 n)
idx_bytes IdxExpr.CurrIdx = (omega arith, tt)
idx_bytes (IdxExpr.Op o x y) =
    all_join Byte (idx_code x ++ idx_code y) _ (all_join Byte (idx_code x) (idx_code y) (idx_bytes x) (idx_bytes y)) (idx_op_byte o, tt)

expr_bytes : (e : Expr) → ExprEncodable e → Bytes (expr_code e)
unfolding expr_code
expr_bytes (Expr.Const n) w = (omega arith, little_endian-bytes 8 n)
expr_bytes Expr.CurrInputIdx w = (omega arith, tt)
expr_bytes (Expr.Lookup l i) w = all_join Byte (idx_code i) _ (idx_bytes i) (list_byte l, tt)
expr_bytes (Expr.Binary o x y) w =
    all_join Byte (expr_code x ++ expr_code y) _ (all_join Byte (expr_code x) (expr_code y) (expr_bytes x w.0) (expr_bytes y w.1)) (bin_op_byte o, tt)
expr_bytes (Expr.Unary o x) w = all_join Byte (expr_code x) _ (expr_bytes x w) (un_op_byte o, tt)
expr_bytes (Expr.PriceOracle1 key time) w = (omega arith, all_join Byte key _ w.1 (little_endian-bytes 8 time))
expr_bytes (Expr.PriceOracle1W key time) w = (omega arith, all_join Byte key _ w.1 (little_endian-bytes 8 time))

pub code-bytes : (c : Arith) → Encodable c → Bytes (code c)
unfolding code
code-bytes (Arith.Compare o x y) w =
    all_join Byte (expr_code x ++ expr_code y) _ (all_join Byte (expr_code x) (expr_code y) (expr_bytes x w.0) (expr_bytes y w.1)) (cmp_byte o, tt)
