-- The token form of a condition that 6 does not turn down: its tokens are sound. And it names no more keys than it has oracle terminals (`form-keys`).
use Prim.Native.Nat.{ℕ, zero, suc, ◌+◌, ◌≤◌, ◌^◌}
use mathlib.Core.Bool.{true, not, ◌&&◌, ◌||◌}
use mathlib.Core.Path.{◌≡◌, refl, sym, ◌∙◌}
use mathlib.Core.List.{List, [], ◌∷◌, ◌++◌}
use native.Mathlib.Nat.{zero-add}
use native.Mathlib.Omega.{arith}
use lib.ListN.{length}
use lib.Dec.{eqb, ltb}
use borrow.Author.Rules.{rules}
use borrow.Author.Tests.{lt-ltb, ltb-true, ne_eqb}
use Rattle.semantics.specs.Operations.{bin_row, cmp_row, idx_row, list_row, un_row}
use Rattle.slices.proofs.Bytes.{all_join}
use Rattle.slices.specs.Bytes.{All}
use Rattle.semantics.proofs.Encodable.{Encodable, ExprEncodable, OracleEncodable}
use Rattle.semantics.proofs.Tests.{and_assoc, and_true}
use Rattle.semantics.specs.Oracle.{Terminal, oracles, oracles_in, terminals}
use Rattle.semantics.specs.Token.{Token, bytes32, bytes8, expr_form, form, idx_form, narrow, op, oracle_form}
use Rattle.semantics.specs.Trees.{BinOp, CmpOp, IdxOp, AmountList, UnOp, Arith, Expr, IdxExpr}
use Rattle.semantics.specs.Write.{keys_from, keys_of}
use Rattle.semantics.proofs.Placing.{keys-append, with_few}
use Rattle.semantics.specs.Meaning.{Sound, SoundAs}

-- of an operation's own tokens
record Own (ts : List Token) : Type 0 where
  sound : All Sound ts
  keys : (ks : List (List ℕ)) → keys_from ks ts ≡ ks

idx_op_own : (o : IdxOp) → Own (idx_row o).between × Own (idx_row o).form
unfolding keys_from
idx_op_own o =
    elim o as (λ o. Own (idx_row o).between × Own (idx_row o).form) [
      | IdxOp.Add ↦ (record { sound = search rules; keys = λ ks. refl }, record { sound = search rules; keys = λ ks. refl })
      | IdxOp.Sub ↦ (record { sound = search rules; keys = λ ks. refl }, record { sound = search rules; keys = λ ks. refl })
      | IdxOp.Mul ↦ (record { sound = search rules; keys = λ ks. refl }, record { sound = search rules; keys = λ ks. refl })
      | IdxOp.Div ↦ (record { sound = search rules; keys = λ ks. refl }, record { sound = search rules; keys = λ ks. refl })
    ]

list_own : (l : AmountList) → Own (list_row l).form
unfolding keys_from
list_own l =
    elim l as (λ l. Own (list_row l).form) [
      | AmountList.Input ↦ record { sound = search rules; keys = λ ks. refl }
      | AmountList.Output ↦ record { sound = search rules; keys = λ ks. refl }
      | AmountList.InputIssue ↦ record { sound = search rules; keys = λ ks. refl }
      | AmountList.InputReIssue ↦ record { sound = search rules; keys = λ ks. refl }
    ]

bin_op_own : (o : BinOp) → Own (bin_row o).form
unfolding keys_from
bin_op_own o =
    elim o as (λ o. Own (bin_row o).form) [
      | BinOp.Add ↦ record { sound = search rules; keys = λ ks. refl }
      | BinOp.Sub ↦ record { sound = search rules; keys = λ ks. refl }
      | BinOp.Mul ↦ record { sound = search rules; keys = λ ks. refl }
      | BinOp.Div ↦ record { sound = search rules; keys = λ ks. refl }
      | BinOp.Mod ↦ record { sound = search rules; keys = λ ks. refl }
      | BinOp.BitAnd ↦ record { sound = search rules; keys = λ ks. refl }
      | BinOp.BitOr ↦ record { sound = search rules; keys = λ ks. refl }
      | BinOp.Xor ↦ record { sound = search rules; keys = λ ks. refl }
    ]

un_op_own : (o : UnOp) → Own (un_row o).form
unfolding keys_from
un_op_own o = elim o as (λ o. Own (un_row o).form) [ UnOp.Invert ↦ record { sound = search rules; keys = λ ks. refl } | UnOp.Negate ↦ record { sound = search rules; keys = λ ks. refl } ]

cmp_own : (o : CmpOp) → Own (cmp_row o).form
unfolding keys_from
cmp_own o =
    elim o as (λ o. Own (cmp_row o).form) [
      | CmpOp.Eq ↦ record { sound = search rules; keys = λ ks. refl }
      | CmpOp.Lt ↦ record { sound = search rules; keys = λ ks. refl }
      | CmpOp.Leq ↦ record { sound = search rules; keys = λ ks. refl }
      | CmpOp.Gt ↦ record { sound = search rules; keys = λ ks. refl }
      | CmpOp.Geq ↦ record { sound = search rules; keys = λ ks. refl }
    ]

-- the keys
pub oracles-append : (xs ys : List Terminal) → oracles_in (xs ++ ys) ≡ oracles_in xs + oracles_in ys
oracles-append [] ys = sym (zero-add (oracles_in ys))
oracles-append (Terminal.Other ∷ xs) ys = oracles-append xs ys
oracles-append (Terminal.PriceOracle1 ∷ xs) ys = omega (arith, oracles-append xs ys)
oracles-append (Terminal.PriceOracle1W ∷ xs) ys = omega (arith, oracles-append xs ys)

idx_keys : (e : IdxExpr) (ks : List (List ℕ)) → keys_from ks (idx_form e) ≡ ks
unfolding keys_from idx_form
idx_keys (IdxExpr.Const n) ks = refl
idx_keys IdxExpr.CurrIdx ks = refl
idx_keys (IdxExpr.Op o x y) ks =
    let w = idx_op_own o in simp (keys-append, idx_keys x, idx_keys y, w.0.keys, w.1.keys)

expr_keys : (e : Expr) (ks : List (List ℕ)) → length (keys_from ks (expr_form e)) ≤ length ks + oracles_in (terminals e)
unfolding keys_from expr_form terminals
expr_keys (Expr.Const n) ks = omega arith
expr_keys Expr.CurrInputIdx ks = omega arith
expr_keys (Expr.Lookup l i) ks = simp (keys-append, idx_keys i, (list_own l).keys) (omega arith)
expr_keys (Expr.Binary o x y) ks =
    simp (keys-append, (bin_op_own o).keys, oracles-append) (omega (arith, expr_keys x ks, expr_keys y (keys_from ks (expr_form x))))
expr_keys (Expr.Unary o x) ks = simp (keys-append, (un_op_own o).keys) (expr_keys x ks)
expr_keys (Expr.PriceOracle1 key time) ks = omega (arith, with_few ks (bytes32 key))
expr_keys (Expr.PriceOracle1W key time) ks = omega (arith, with_few ks (bytes32 key))

-- so a key buffer for all oracle terminals is always long enough
pub form-keys : (c : Arith) → length (keys_of (form c)) ≤ oracles c
unfolding form oracles
form-keys (Arith.Compare o x y) =
    simp (keys-append, (cmp_own o).keys, oracles-append) (omega (arith, expr_keys x [], expr_keys y (keys_from [] (expr_form x))))

-- the tokens
pub narrow-append : (xs ys : List Token) → narrow (xs ++ ys) ≡ (narrow xs && narrow ys)
narrow-append [] ys = refl
narrow-append (x ∷ xs) ys =
    rw (narrow-append xs ys) (sym (and_assoc (not (eqb x.kind 1) || ltb x.number (2 ^ 32)) (narrow xs) (narrow ys)))

parts : (xs ys : List Token) → narrow (xs ++ ys) ≡ true → (narrow xs ≡ true) × (narrow ys ≡ true)
parts xs ys e = and_true (narrow xs) (narrow ys) (sym (narrow-append xs ys) ∙ e)

idx_sound : (e : IdxExpr) → narrow (idx_form e) ≡ true → All Sound (idx_form e)
unfolding idx_form
idx_sound (IdxExpr.Const n) h = ((ltb-true n (2 ^ 32) (and_true (ltb n (2 ^ 32)) true h).0, refl), tt)
idx_sound IdxExpr.CurrIdx h = search rules
idx_sound (IdxExpr.Op o x y) h =
    let p = parts (idx_form x ++ (idx_row o).between ++ idx_form y) (idx_row o).form h in
    let q = parts (idx_form x ++ (idx_row o).between) (idx_form y) p.0 in
    let r = parts (idx_form x) (idx_row o).between q.0 in
    let w = idx_op_own o in
    all_join Sound (idx_form x ++ (idx_row o).between ++ idx_form y) (idx_row o).form
    (all_join Sound (idx_form x ++ (idx_row o).between) (idx_form y) (all_join Sound (idx_form x) (idx_row o).between (idx_sound x r.0) w.0.sound) (idx_sound y q.1))
    w.1.sound

oracle_sound : (key : List ℕ) (time : ℕ) → OracleEncodable key time → All Sound (oracle_form key time)
oracle_sound key time w =
    let end : All Sound (op 34 ∷ op 27 ∷ []) = search rules in
    let middle : All Sound (op 28 ∷ op 15 ∷ op 32 ∷ op 33 ∷ []) = search rules in
    all_join Sound (op 25 ∷ op 26 ∷ bytes8 time ∷ []) (op 28 ∷ op 15 ∷ op 32 ∷ op 33 ∷ bytes32 key ∷ op 34 ∷ op 27 ∷ []) (search rules, (search rules, ((w.2, refl), tt)))
    (all_join Sound (op 28 ∷ op 15 ∷ op 32 ∷ op 33 ∷ []) (bytes32 key ∷ op 34 ∷ op 27 ∷ []) middle ((refl, w.0, w.1), end))

expr_sound : (e : Expr) → ExprEncodable e → narrow (expr_form e) ≡ true → All Sound (expr_form e)
unfolding expr_form
expr_sound (Expr.Const n) w h = ((w, refl), tt)
expr_sound Expr.CurrInputIdx w h = search rules
expr_sound (Expr.Lookup l i) w h =
    all_join Sound (idx_form i) (list_row l).form (idx_sound i (parts (idx_form i) (list_row l).form h).0) (list_own l).sound
expr_sound (Expr.Binary o x y) w h =
    let p = parts (expr_form x) (expr_form y) (parts (expr_form x ++ expr_form y) (bin_row o).form h).0 in
    all_join Sound (expr_form x ++ expr_form y) (bin_row o).form
    (all_join Sound (expr_form x) (expr_form y) (expr_sound x w.0 p.0) (expr_sound y w.1 p.1)) (bin_op_own o).sound
expr_sound (Expr.Unary o x) w h =
    all_join Sound (expr_form x) (un_row o).form (expr_sound x w (parts (expr_form x) (un_row o).form h).0) (un_op_own o).sound
expr_sound (Expr.PriceOracle1 key time) w h = oracle_sound key time w
expr_sound (Expr.PriceOracle1W key time) w h =
    let end : All Sound (op 27 ∷ op 35 ∷ []) = search rules in
    (search rules, all_join Sound (oracle_form key time) (op 27 ∷ op 35 ∷ []) (oracle_sound key time w) end)

pub form_sound : (c : Arith) → Encodable c → narrow (form c) ≡ true → All Sound (form c)
unfolding form
form_sound (Arith.Compare o x y) w h =
    let p = parts (expr_form x) (expr_form y) (parts (expr_form x ++ expr_form y) (cmp_row o).form h).0 in
    all_join Sound (expr_form x ++ expr_form y) (cmp_row o).form
    (all_join Sound (expr_form x) (expr_form y) (expr_sound x w.0 p.0) (expr_sound y w.1 p.1)) (cmp_own o).sound

-- and sound tokens are narrow
narrow-token : (kind number : ℕ) (key : List ℕ) → SoundAs kind number key → (not (eqb kind 1) || ltb number (2 ^ 32)) ≡ true
narrow-token zero number key s = refl
narrow-token (suc zero) number key s = lt-ltb number (2 ^ 32) s.0
narrow-token (suc (suc k)) number key s = rw (ne_eqb (suc (suc k)) 1 (λ e. omega arith))

pub narrow_sound : (ts : List Token) → All Sound ts → narrow ts ≡ true
narrow_sound [] h = refl
narrow_sound (t ∷ ts) h = rw (narrow-token t.kind t.number t.key h.0) (narrow_sound ts h.1)
