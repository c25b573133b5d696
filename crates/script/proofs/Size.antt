-- How many bytes the script of a condition has: at most five for each token of one of up to 1,024 tokens, so 5,120, which `longest` has.
use Prim.Native.Nat.{ℕ, zero, suc, ◌+◌, ◌*◌, ◌%◌, ◌≤◌}
use mathlib.Core.Bool.{Bool, true, false, ◌&&◌, cond}
use mathlib.Core.Logic.{◌⊎◌, inl, inr}
use mathlib.Core.Path.{◌≡◌, refl}
use mathlib.Core.List.{List, [], ◌∷◌, ◌++◌}
use native.Mathlib.Omega.{arith}
use borrow.Author.Tests.{eqb-true}
use lib.Dec.{eqb, leb}
use lib.ListN.{length, length-append}
use Rattle.slices.specs.Bytes.{little_endian}
use Rattle.slices.proofs.Bytes.{length-little_endian}
use Rattle.semantics.specs.Operations.{bin_row, cmp_row, idx_row, list_row, un_row}
use Rattle.semantics.specs.Trees.{Arith, Expr, IdxExpr}
use Rattle.semantics.specs.declared.AmountList.{AmountList}
use Rattle.semantics.specs.declared.BinOp.{BinOp}
use Rattle.semantics.specs.declared.CmpOp.{CmpOp}
use Rattle.semantics.specs.declared.IdxOp.{IdxOp}
use Rattle.semantics.specs.declared.UnOp.{UnOp}
use Rattle.semantics.specs.Operations.{Token}
use Rattle.semantics.specs.Token.{expr_form, form, idx_form, oracle_form}
use Rattle.semantics.proofs.Encodable.{Encodable, ExprEncodable}
use Rattle.semantics.proofs.Tests.{and_true}
use Rattle.script.proofs.Numbers.{width_most}
use Rattle.script.specs.Script.{bytes_as, bytes_of, equal_verify, number_width, opcodes, push_int, script, script_after, starts_verify}

-- without joining Equal and Verify
abbrev sizes : List Token → ℕ
sizes [] = 0
sizes (t ∷ ts) = length (bytes_of t) + sizes ts

sizes-append : (xs ys : List Token) → sizes (xs ++ ys) ≡ sizes xs + sizes ys
sizes-append [] ys = omega arith
sizes-append (x ∷ xs) ys = omega (arith, sizes-append xs ys)

-- Equal is a byte by itself
equal_size : (kind number : ℕ) (key : List ℕ) → kind ≡ 14 → 1 ≤ length (bytes_as kind number key)
equal_size kind number key e = rw e (omega arith)

after-sizes : (joined : Bool) (ts : List Token) → length (script_after joined ts) ≤ sizes ts
after-sizes joined [] = omega arith
after-sizes true (t ∷ ts) = omega (arith, after-sizes false ts)
after-sizes false (t ∷ ts) = go (eqb t.kind 14 && starts_verify ts) refl (after-sizes (eqb t.kind 14 && starts_verify ts) ts)
  where
    go : (joined : Bool) → (eqb t.kind 14 && starts_verify ts) ≡ joined → length (script_after joined ts) ≤ sizes ts
        → length (cond joined (equal_verify ∷ []) (bytes_of t) ++ script_after joined ts) ≤ length (bytes_of t) + sizes ts
    go true e h =
        let one = equal_size t.kind t.number t.key (eqb-true t.kind 14 (and_true (eqb t.kind 14) (starts_verify ts) e).0) in omega arith
    go false e h = rw length-append (omega arith)

-- an operation's own tokens have a byte each
record Own (ts : List Token) : Type 0 where
  bytes : sizes ts ≡ length ts
  one : 1 ≤ length ts

idx_between_lem : (o : IdxOp) → sizes (idx_row o).between ≡ length (idx_row o).between
idx_between_lem o = elim o as (λ o. sizes (idx_row o).between ≡ length (idx_row o).between) [ IdxOp.Add ↦ refl | IdxOp.Sub ↦ refl | IdxOp.Mul ↦ refl | IdxOp.Div ↦ refl ]

idx_own : (o : IdxOp) → Own (idx_row o).form
unfolding push_int
idx_own o =
    elim o as (λ o. Own (idx_row o).form) [
      | IdxOp.Add ↦ record { bytes = refl; one = omega arith }
      | IdxOp.Sub ↦ record { bytes = refl; one = omega arith }
      | IdxOp.Mul ↦ record { bytes = refl; one = omega arith }
      | IdxOp.Div ↦ record { bytes = refl; one = omega arith }
    ]

list_own : (l : AmountList) → Own (list_row l).form
unfolding push_int
list_own l =
    elim l as (λ l. Own (list_row l).form) [
      | AmountList.Input ↦ record { bytes = refl; one = omega arith }
      | AmountList.Output ↦ record { bytes = refl; one = omega arith }
      | AmountList.InputIssue ↦ record { bytes = refl; one = omega arith }
      | AmountList.InputReIssue ↦ record { bytes = refl; one = omega arith }
    ]

bin_own : (o : BinOp) → Own (bin_row o).form
unfolding push_int
bin_own o =
    elim o as (λ o. Own (bin_row o).form) [
      | BinOp.Add ↦ record { bytes = refl; one = omega arith }
      | BinOp.Sub ↦ record { bytes = refl; one = omega arith }
      | BinOp.Mul ↦ record { bytes = refl; one = omega arith }
      | BinOp.Div ↦ record { bytes = refl; one = omega arith }
      | BinOp.Mod ↦ record { bytes = refl; one = omega arith }
      | BinOp.BitAnd ↦ record { bytes = refl; one = omega arith }
      | BinOp.BitOr ↦ record { bytes = refl; one = omega arith }
      | BinOp.Xor ↦ record { bytes = refl; one = omega arith }
    ]

un_own : (o : UnOp) → Own (un_row o).form
unfolding push_int
un_own o = elim o as (λ o. Own (un_row o).form) [ UnOp.Invert ↦ record { bytes = refl; one = omega arith } | UnOp.Negate ↦ record { bytes = refl; one = omega arith } ]

cmp_own : (o : CmpOp) → Own (cmp_row o).form
cmp_own o =
    elim o as (λ o. Own (cmp_row o).form) [
      | CmpOp.Eq ↦ record { bytes = refl; one = omega arith }
      | CmpOp.Lt ↦ record { bytes = refl; one = omega arith }
      | CmpOp.Leq ↦ record { bytes = refl; one = omega arith }
      | CmpOp.Gt ↦ record { bytes = refl; one = omega arith }
      | CmpOp.Geq ↦ record { bytes = refl; one = omega arith }
    ]

number_size : (n : ℕ) → length (push_int n) ≤ 6
unfolding push_int
number_size n = go (leb 1 n && leb n 16)
  where
    go : (t : Bool) → length (cond t ((0x50 + n) ∷ []) (number_width n ∷ little_endian (number_width n) n)) ≤ 6
    go true = omega arith
    go false = omega (arith, width_most n, length-little_endian (number_width n) n)

idx_size : (e : IdxExpr) → sizes (idx_form e) ≤ 5 * length (idx_form e) + 1
unfolding idx_form
idx_size (IdxExpr.Const n) = omega (arith, number_size n)
idx_size IdxExpr.CurrIdx = omega arith
idx_size (IdxExpr.Op o x y) =
    simp (sizes-append, length-append) (omega (arith, idx_size x, idx_size y, idx_between_lem o, (idx_own o).bytes, (idx_own o).one))

-- s bytes for n tokens: five for each, or four more where n is odd, as for a constant
abbrev Fits : ℕ → ℕ → Type 0
Fits s n = (s ≤ 5 * n) ⊎ ((n % 2 ≡ 1) × (s ≤ 5 * n + 4))

most : (s n : ℕ) → Fits s n → s ≤ 5 * n + 4
most s n (inl h) = omega arith
most s n (inr h) = h.1

-- two operands and an operation of m tokens
two : (s t n k m : ℕ) → Fits s n → Fits t k → 1 ≤ m → Fits (s + t + m) (n + k + m)
two s t n k m (inl f) g h = inl (omega (arith, most t k g))
two s t n k m (inr f) (inl g) h = inl (omega (arith, f.1))
two s t n k zero (inr f) (inr g) h = absurd (omega arith)
two s t n k (suc zero) (inr f) (inr g) h = inr (omega (arith, f.0, g.0), omega (arith, f.1, g.1))
two s t n k (suc (suc m)) (inr f) (inr g) h = inl (omega (arith, f.1, g.1))

oracle-size : (key : List ℕ) (time : ℕ) → length key ≡ 32 → sizes (oracle_form key time) ≡ 50
oracle-size key time e = omega (arith, length-little_endian 8 time)

expr_size : (e : Expr) → ExprEncodable e → Fits (sizes (expr_form e)) (length (expr_form e))
unfolding expr_form
expr_size (Expr.Const n) w = inr (refl, omega (arith, length-little_endian 8 n))
expr_size Expr.CurrInputIdx w = inl (omega (arith, (list_own AmountList.Input).bytes))
expr_size (Expr.Lookup l i) w = inl (simp (sizes-append, length-append) (omega (arith, idx_size i, (list_own l).bytes, (list_own l).one)))
expr_size (Expr.Binary o x y) w =
    simp (sizes-append, length-append, (bin_own o).bytes)
    (two (sizes (expr_form x)) (sizes (expr_form y)) (length (expr_form x)) (length (expr_form y)) (length (bin_row o).form) (expr_size x w.0) (expr_size y w.1) (bin_own o).one)
expr_size (Expr.Unary o x) w =
    let h = most (sizes (expr_form x)) (length (expr_form x)) (expr_size x w) in
    inl (simp (sizes-append, length-append) (omega (arith, h, (un_own o).bytes, (un_own o).one)))
expr_size (Expr.PriceOracle1 key time) w = inl (omega (arith, oracle-size key time w.0))
expr_size (Expr.PriceOracle1W key time) w = inl (omega (arith, oracle-size key time w.0))

form-size : (a : Arith) → Encodable a → Fits (sizes (form a)) (length (form a))
unfolding form
form-size (Arith.Compare o x y) w =
    simp (sizes-append, length-append, (cmp_own o).bytes)
    (two (sizes (expr_form x)) (sizes (expr_form y)) (length (expr_form x)) (length (expr_form y)) (length (cmp_row o).form) (expr_size x w.0) (expr_size y w.1) (cmp_own o).one)

-- five bytes for each token, and four more where their number is odd
pub script-size : (a : Arith) → Encodable a → length (script (form a)) ≤ 5 * length (form a) + 4
unfolding script
script-size a w = omega (arith, after-sizes false (form a), most (sizes (form a)) (length (form a)) (form-size a w))

-- five bytes for each of an even number of tokens, where the form has no more
pub script-fits : (a : Arith) → Encodable a → (n : ℕ) → length (form a) ≤ 2 * n → length (script (form a)) ≤ 5 * (2 * n)
unfolding script
script-fits a w n h = go (form-size a w)
  where
    go : Fits (sizes (form a)) (length (form a)) → length (script_after false (form a)) ≤ 5 * (2 * n)
    go (inl f) = omega (arith, after-sizes false (form a))
    go (inr f) = omega (arith, after-sizes false (form a), f.0, f.1)

-- ---- the longest

constants : ℕ → Expr
constants zero = Expr.Const 0
constants (suc n) = Expr.Binary BinOp.Xor (constants n) (Expr.Const 0)

-- 511 constants joined by `bitxor`, inverted, and one more that they are compared with
pub longest : Arith
longest = Arith.Compare CmpOp.Eq (Expr.Unary UnOp.Invert (constants 510)) (Expr.Const 0)

pub longest_script : (length (form longest) ≡ 1024) × (length (script (form longest)) ≡ 5120)
unfolding longest constants form expr_form script little_endian opcodes
longest_script = (refl, refl)
