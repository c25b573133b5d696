-- "The token form is that of the two `push_to_builder` in source arith.rs and index_ops.rs, EQUALVERIFY counting as Equal, Verify and push_int as Num."
use Rattle.std.specs.Prelude.{ℕ, ◌^◌, Bool, true, not, ◌&&◌, ◌||◌, List, [], ◌∷◌, ◌++◌, eqb, ltb}
pub use Rattle.semantics.specs.Operations.{Token, op, num, bytes8, bytes32, verified}
use Rattle.semantics.specs.Operations.{idx_row, list_row, bin_row, un_row, cmp_row}
use Rattle.semantics.specs.Trees.{AmountList, IdxExpr, Expr, Arith}

-- `IdxExpr::push_to_builder`
unfoldable pub idx_form : IdxExpr → List Token
idx_form (IdxExpr.Const n) = num n ∷ []
idx_form IdxExpr.CurrIdx = op 4 ∷ []
idx_form (IdxExpr.Op o x y) = idx_form x ++ (idx_row o).between ++ idx_form y ++ (idx_row o).form

-- 2DUP TOALTSTACK <time> GREATERTHANOREQUAL64 VERIFY CAT SHA256 <key> CHECKSIGFROMSTACKVERIFY FROMALTSTACK
abbrev pub oracle_form : List ℕ → ℕ → List Token
oracle_form key time =
    op 25 ∷ op 26 ∷ bytes8 time ∷ op 28 ∷ op 15 ∷ op 32 ∷ op 33 ∷ bytes32 key ∷ op 34 ∷ op 27 ∷ []

-- the same between TOALTSTACK and FROMALTSTACK SWAP
abbrev pub oracle_w_form : List ℕ → ℕ → List Token
oracle_w_form key time = op 26 ∷ oracle_form key time ++ op 27 ∷ op 35 ∷ []

-- `Expr::push_to_builder`
unfoldable pub expr_form : Expr → List Token
expr_form (Expr.Const bits) = bytes8 bits ∷ []
expr_form Expr.CurrInputIdx = op 4 ∷ (list_row AmountList.Input).form
expr_form (Expr.Lookup l i) = idx_form i ++ (list_row l).form
expr_form (Expr.Binary o x y) = expr_form x ++ expr_form y ++ (bin_row o).form
expr_form (Expr.Unary o x) = expr_form x ++ (un_row o).form
expr_form (Expr.PriceOracle1 key time) = oracle_form key time
expr_form (Expr.PriceOracle1W key time) = oracle_w_form key time

-- `Arith::push_to_builder`
unfoldable pub form : Arith → List Token
form (Arith.Compare o x y) = expr_form x ++ expr_form y ++ (cmp_row o).form

-- 6: "an index constant of 2^32 or more"; no other token of a form is a Num of that size
abbrev pub narrow : List Token → Bool
narrow [] = true
narrow (t ∷ ts) = (not (eqb t.kind 1) || ltb t.number (2 ^ 32)) && narrow ts
