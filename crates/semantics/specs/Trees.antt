-- Conditions as trees: `IdxExpr` of the source's index_ops.rs, `ExprInner` and `ArithInner` of its arith.rs.
-- A constant and a time are their 64 bits as a number; a key is its 32 bytes.
use Rattle.std.specs.Prelude.{ℕ, List}
pub use Rattle.semantics.specs.declared.IdxOp.{IdxOp}
pub use Rattle.semantics.specs.declared.AmountList.{AmountList}
pub use Rattle.semantics.specs.declared.BinOp.{BinOp}
pub use Rattle.semantics.specs.declared.UnOp.{UnOp}
pub use Rattle.semantics.specs.declared.CmpOp.{CmpOp}

pub data IdxExpr : Type 0 where
  Const : ℕ → IdxExpr
  CurrIdx : IdxExpr
  Op : IdxOp → IdxExpr → IdxExpr → IdxExpr

pub data Expr : Type 0 where
  Const : ℕ → Expr
  CurrInputIdx : Expr
  Lookup : AmountList → IdxExpr → Expr
  Binary : BinOp → Expr → Expr → Expr
  Unary : UnOp → Expr → Expr
  PriceOracle1 : List ℕ → ℕ → Expr
  PriceOracle1W : List ℕ → ℕ → Expr

pub data Arith : Type 0 where
  Compare : CmpOp → Expr → Expr → Arith
