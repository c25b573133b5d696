-- A condition read from the end of a token list, `from_tokens` of the source. The readers take the list reversed, so that the last token is its
-- head: the operation comes first, then its right operand, then its left one, and what is left stands before the form.
use Rattle.std.specs.Prelude.{ℕ, zero, suc, Bool, true, false, ◌&&◌, cond, List, [], ◌∷◌, ◌++◌, map, reverse, length, get_or, drop, eqb}
use Rattle.semantics.specs.Operations.{bin_row, cmp_row, idx_row, list_row, un_row, idx_ops, amount_lists, bin_ops, un_ops, cmp_ops}
use Rattle.semantics.specs.Trees.{IdxOp, AmountList, BinOp, UnOp, CmpOp, IdxExpr, Expr, Arith}
use Rattle.semantics.specs.Token.{Token, op, num, bytes8, expr_form}

-- "Twin: `Input` of the current index and `CurrInputIdx` share one form; Decode returns 17."
abbrev pub lookup_expr : AmountList → IdxExpr → Expr
lookup_expr AmountList.Input (IdxExpr.Const n) = Expr.Lookup AmountList.Input (IdxExpr.Const n)
lookup_expr AmountList.Input IdxExpr.CurrIdx = Expr.CurrInputIdx
lookup_expr AmountList.Input (IdxExpr.Op o x y) = Expr.Lookup AmountList.Input (IdxExpr.Op o x y)
lookup_expr AmountList.Output i = Expr.Lookup AmountList.Output i
lookup_expr AmountList.InputIssue i = Expr.Lookup AmountList.InputIssue i
lookup_expr AmountList.InputReIssue i = Expr.Lookup AmountList.InputReIssue i

-- what reading a list gives: something with the tokens that are left, or nothing
pub data Found (A : Type 0) : Type 0 where
  found : A → List Token → Found A
  nothing : Found A

abbrev pub and_then : {A B : Type 0} → Found A → (A → List Token → Found B) → Found B
and_then (found a r) f = f a r
and_then nothing f = nothing

-- "Forms are the same when kinds, numbers and key bytes agree"
abbrev pub same_bytes : List ℕ → List ℕ → Bool
same_bytes [] [] = true
same_bytes [] (y ∷ ys) = false
same_bytes (x ∷ xs) [] = false
same_bytes (x ∷ xs) (y ∷ ys) = eqb x y && same_bytes xs ys

abbrev pub same : Token → Token → Bool
same s t = eqb s.kind t.kind && (eqb s.number t.number && same_bytes s.key t.key)

abbrev pub starts : List Token → List Token → Bool
starts [] ts = true
starts (p ∷ ps) [] = false
starts (p ∷ ps) (t ∷ ts) = same p t && starts ps ts

-- the first of the candidates whose form the list begins with
abbrev pub find : {H : Type 0} → (H → List Token) → List H → List Token → Found H
find form [] ts = nothing
find form (h ∷ hs) ts = cond (starts (form h) ts) (found h (drop (length (form h)) ts)) (find form hs ts)

-- what the i-th token carries
abbrev pub number_at : List Token → ℕ → ℕ
number_at ts i = (get_or ts i (op 0)).number

abbrev pub key_at : List Token → ℕ → List ℕ
key_at ts i = (get_or ts i (op 0)).key

-- what the form of an index expression ends with
pub data IdxHead : Type 0 where
  const : ℕ → IdxHead
  curr : IdxHead
  oper : IdxOp → IdxHead

unfoldable pub idx_head_form : IdxHead → List Token
idx_head_form (IdxHead.const n) = num n ∷ []
idx_head_form IdxHead.curr = op 4 ∷ []
idx_head_form (IdxHead.oper o) = reverse (idx_row o).form

unfoldable pub idx_head : List Token → Found IdxHead
idx_head ts = find idx_head_form (IdxHead.const (number_at ts 0) ∷ IdxHead.curr ∷ map IdxHead.oper idx_ops) ts

abbrev pub idx_between : IdxOp → List Token → Found (Unit {0})
idx_between o ts = find (λ _. reverse (idx_row o).between) (tt ∷ []) ts

-- `read` reads the operands
abbrev pub idx_operands : (List Token → Found IdxExpr) → Found IdxHead → Found IdxExpr
idx_operands read nothing = nothing
idx_operands read (found (IdxHead.const n) r) = found (IdxExpr.Const n) r
idx_operands read (found IdxHead.curr r) = found IdxExpr.CurrIdx r
idx_operands read (found (IdxHead.oper o) r) =
    and_then (read r) λ y r₁. and_then (idx_between o r₁) λ _ r₂. and_then (read r₂) λ x r₃. found (IdxExpr.Op o x y) r₃

-- the number bounds how deep the operands go; no form has more operations than tokens, so the list's length is enough
unfoldable pub idx_within : ℕ → List Token → Found IdxExpr
idx_within zero ts = nothing
idx_within (suc k) ts = idx_operands (idx_within k) (idx_head ts)

-- `IdxExpr::from_tokens`
unfoldable pub idx_from_tokens : List Token → Found IdxExpr
idx_from_tokens ts = idx_within (length ts) ts

-- what the form of a value expression ends with
pub data Head : Type 0 where
  const : ℕ → Head
  lookup : AmountList → Head
  unary : UnOp → Head
  binary : BinOp → Head
  oracle : List ℕ → ℕ → Head
  oracle_w : List ℕ → ℕ → Head

unfoldable pub head_form : Head → List Token
unfolding expr_form
head_form (Head.const n) = bytes8 n ∷ []
head_form (Head.lookup l) = reverse (list_row l).form
head_form (Head.unary o) = reverse (un_row o).form
head_form (Head.binary o) = reverse (bin_row o).form
head_form (Head.oracle key time) = reverse (expr_form (Expr.PriceOracle1 key time))
head_form (Head.oracle_w key time) = reverse (expr_form (Expr.PriceOracle1W key time))

abbrev pub heads : List Token → List Head
heads ts =
    Head.const (number_at ts 0) ∷ map Head.lookup amount_lists ++ map Head.unary un_ops ++ map Head.binary bin_ops
    ++ Head.oracle (key_at ts 2) (number_at ts 7) ∷ Head.oracle_w (key_at ts 4) (number_at ts 9) ∷ []

unfoldable pub head : List Token → Found Head
head ts = find head_form (heads ts) ts

abbrev pub operands : (List Token → Found Expr) → Found Head → Found Expr
operands read nothing = nothing
operands read (found (Head.const n) r) = found (Expr.Const n) r
operands read (found (Head.lookup l) r) = and_then (idx_from_tokens r) λ i r₁. found (lookup_expr l i) r₁
operands read (found (Head.unary o) r) = and_then (read r) λ x r₁. found (Expr.Unary o x) r₁
operands read (found (Head.binary o) r) = and_then (read r) λ y r₁. and_then (read r₁) λ x r₂. found (Expr.Binary o x y) r₂
operands read (found (Head.oracle key time) r) = found (Expr.PriceOracle1 key time) r
operands read (found (Head.oracle_w key time) r) = found (Expr.PriceOracle1W key time) r

unfoldable pub expr_within : ℕ → List Token → Found Expr
expr_within zero ts = nothing
expr_within (suc k) ts = operands (expr_within k) (head ts)

-- `Expr::from_tokens`
unfoldable pub expr_from_tokens : List Token → Found Expr
expr_from_tokens ts = expr_within (length ts) ts

unfoldable pub comparison : List Token → Found CmpOp
comparison ts = find (λ o. reverse (cmp_row o).form) cmp_ops ts

-- `Arith::from_tokens`
unfoldable pub from_tokens : List Token → Found Arith
from_tokens ts =
    and_then (comparison ts) λ o r. and_then (expr_from_tokens r) λ y r₁. and_then (expr_from_tokens r₁) λ x r₂. found (Arith.Compare o x y) r₂
