-- What forms end with: no head begins another, so each is found where it stands; and every operation has a token of its own.
use Prim.Native.Nat.{ℕ, ◌<◌}
use mathlib.Core.Path.{◌≡◌, refl}
use mathlib.Core.List.{List, [], ◌∷◌, ◌++◌, reverse}
use native.Mathlib.Omega.{arith}
use lib.ListN.{length, length-append, length-reverse}
use Rattle.semantics.specs.Operations.{bin_row, cmp_row, idx_row, list_row, un_row}
use Rattle.semantics.specs.FromTokens.{Found, Head, IdxHead, comparison, found, head, head_form, idx_head, idx_head_form, nothing}
use Rattle.semantics.specs.Token.{Token, expr_form, form}
use Rattle.semantics.specs.Trees.{BinOp, CmpOp, IdxOp, AmountList, UnOp, Arith}
use Rattle.semantics.proofs.Find.{same_bytes_own}
use Rattle.semantics.proofs.Tests.{eqb_own}

-- no head begins another: each is found where it stands
pub idx_head_own : (h : IdxHead) (r : List Token) → idx_head (idx_head_form h ++ r) ≡ found h r
unfolding idx_head idx_head_form
idx_head_own (IdxHead.const n) r = simp eqb_own
idx_head_own IdxHead.curr r = refl
idx_head_own (IdxHead.oper IdxOp.Add) r = refl
idx_head_own (IdxHead.oper IdxOp.Sub) r = refl
idx_head_own (IdxHead.oper IdxOp.Mul) r = refl
idx_head_own (IdxHead.oper IdxOp.Div) r = refl

pub head_own : (h : Head) (r : List Token) → head (head_form h ++ r) ≡ found h r
unfolding head head_form expr_form
head_own (Head.const n) r = simp eqb_own
head_own (Head.lookup AmountList.Input) r = refl
head_own (Head.lookup AmountList.Output) r = refl
head_own (Head.lookup AmountList.InputIssue) r = refl
head_own (Head.lookup AmountList.InputReIssue) r = refl
head_own (Head.unary UnOp.Invert) r = refl
head_own (Head.unary UnOp.Negate) r = refl
head_own (Head.binary BinOp.Add) r = refl
head_own (Head.binary BinOp.Sub) r = refl
head_own (Head.binary BinOp.Mul) r = refl
head_own (Head.binary BinOp.Div) r = refl
head_own (Head.binary BinOp.Mod) r = refl
head_own (Head.binary BinOp.BitAnd) r = refl
head_own (Head.binary BinOp.BitOr) r = refl
head_own (Head.binary BinOp.Xor) r = refl
head_own (Head.oracle key time) r = rw (same_bytes_own key, eqb_own time)
head_own (Head.oracle_w key time) r = rw (same_bytes_own key, eqb_own time)

pub comparison_own : (o : CmpOp) (r : List Token) → comparison (reverse (cmp_row o).form ++ r) ≡ found o r
unfolding comparison
comparison_own CmpOp.Eq r = refl
comparison_own CmpOp.Lt r = refl
comparison_own CmpOp.Leq r = refl
comparison_own CmpOp.Gt r = refl
comparison_own CmpOp.Geq r = refl

-- a form has at least as many tokens as the expression has nodes
module _ {H : Type 0} (read : List Token → Found H) (head_of : H → List Token) (none : read [] ≡ nothing)
    (own : (h : H) (r : List Token) → read (head_of h ++ r) ≡ found h r) where
  long : (h : H) → 0 < length (head_of h)
  long h = go (head_of h) refl
    where
      go : (p : List Token) → head_of h ≡ p → 0 < length p
      go [] e = let z : ◌≡◌ {A = ℕ} 0 1 = cc (none, own h []) in absurd (omega arith)
      go (t ∷ ts) e = omega arith

pub idx_long : (h : IdxHead) → 0 < length (idx_head_form h)
unfolding idx_head idx_head_form
idx_long = long idx_head idx_head_form refl idx_head_own

pub head_long : (h : Head) → 0 < length (head_form h)
unfolding head head_form expr_form
head_long = long head head_form refl head_own

comparison_long : (o : CmpOp) → 0 < length (reverse (cmp_row o).form)
unfolding comparison
comparison_long = long comparison (λ o. reverse (cmp_row o).form) refl comparison_own

-- so every operation has a token of its own
pub idx_op_long : (o : IdxOp) → 0 < length (idx_row o).form
unfolding idx_head_form
idx_op_long o = rw length-reverse at (idx_long (IdxHead.oper o))

pub list_long : (l : AmountList) → 0 < length (list_row l).form
unfolding head_form
list_long l = rw length-reverse at (head_long (Head.lookup l))

pub un_op_long : (o : UnOp) → 0 < length (un_row o).form
unfolding head_form
un_op_long o = rw length-reverse at (head_long (Head.unary o))

pub bin_op_long : (o : BinOp) → 0 < length (bin_row o).form
unfolding head_form
bin_op_long o = rw length-reverse at (head_long (Head.binary o))

pub cmp_long : (o : CmpOp) → 0 < length (cmp_row o).form
cmp_long o = rw length-reverse at (comparison_long o)

pub form_long : (c : Arith) → 0 < length (form c)
unfolding form
form_long (Arith.Compare o x y) = simp length-append (omega (arith, cmp_long o))
