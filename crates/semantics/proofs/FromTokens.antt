-- The readers read the form of each expression, as its canonical one, and nothing else: `idx_reader`, `expr_reader`, `arith_reader`.
-- For code that reads: `idx_step` and `expr_step` take a reader one step; what is found there is in Heads.antt.
use Prim.Native.Nat.{ℕ, zero, suc, ◌+◌, ◌<◌}
use mathlib.Core.Path.{◌≡◌, refl, subst, fun_ext}
use mathlib.Core.List.{List, [], ◌∷◌, ◌++◌, map, reverse, reverse-append, append_assoc}
use native.Mathlib.Omega.{arith}
use lib.ListN.{length, length-append}
use Rattle.semantics.specs.Operations.{cmp_ops, cmp_row, idx_ops, idx_row}
use Rattle.semantics.specs.FromTokens.{Found, Head, IdxHead, comparison, expr_from_tokens, expr_within, found, from_tokens, head, head_form, heads, idx_between, idx_from_tokens, idx_head, idx_head_form, idx_operands, idx_within, lookup_expr, nothing, number_at, operands}
use Rattle.semantics.specs.Token.{Token, expr_form, form, idx_form}
use Rattle.semantics.specs.Trees.{CmpOp, AmountList, Arith, Expr, IdxExpr}
use Rattle.semantics.proofs.Canon.{canon, canon_expr, lookup_alike}
use Rattle.semantics.proofs.Find.{Reader, Reads, before, find_own, find_sound, reader_same, reads_then}
use Rattle.semantics.proofs.Heads.{idx_head_own, head_own, comparison_own, idx_long, head_long}

-- the reversed form, before what follows it
idx_back : IdxExpr → List Token → List Token
idx_back (IdxExpr.Const n) r = idx_head_form (IdxHead.const n) ++ r
idx_back IdxExpr.CurrIdx r = idx_head_form IdxHead.curr ++ r
idx_back (IdxExpr.Op o x y) r = idx_head_form (IdxHead.oper o) ++ idx_back y (reverse (idx_row o).between ++ idx_back x r)

back : Expr → List Token → List Token
back (Expr.Const n) r = head_form (Head.const n) ++ r
back Expr.CurrInputIdx r = head_form (Head.lookup AmountList.Input) ++ idx_back IdxExpr.CurrIdx r
back (Expr.Lookup l i) r = head_form (Head.lookup l) ++ idx_back i r
back (Expr.Binary o x y) r = head_form (Head.binary o) ++ back y (back x r)
back (Expr.Unary o x) r = head_form (Head.unary o) ++ back x r
back (Expr.PriceOracle1 key time) r = head_form (Head.oracle key time) ++ r
back (Expr.PriceOracle1W key time) r = head_form (Head.oracle_w key time) ++ r

idx_back_is : (e : IdxExpr) (r : List Token) → idx_back e r ≡ reverse (idx_form e) ++ r
unfolding idx_back idx_form idx_head_form
idx_back_is (IdxExpr.Const n) r = refl
idx_back_is IdxExpr.CurrIdx r = refl
idx_back_is (IdxExpr.Op o x y) r = simp (idx_back_is y, idx_back_is x, reverse-append, append_assoc)

back_is : (e : Expr) (r : List Token) → back e r ≡ reverse (expr_form e) ++ r
unfolding back expr_form head_form idx_back idx_head_form
back_is (Expr.Const n) r = refl
back_is Expr.CurrInputIdx r = refl
back_is (Expr.Lookup l i) r = simp (idx_back_is i, reverse-append, append_assoc)
back_is (Expr.Binary o x y) r = simp (back_is y, back_is x, reverse-append, append_assoc)
back_is (Expr.Unary o x) r = simp (back_is x, reverse-append, append_assoc)
back_is (Expr.PriceOracle1 key time) r = refl
back_is (Expr.PriceOracle1W key time) r = refl

-- how deep the operands go, at most
idx_depth : IdxExpr → ℕ
idx_depth (IdxExpr.Const n) = 0
idx_depth IdxExpr.CurrIdx = 0
idx_depth (IdxExpr.Op o x y) = suc (idx_depth x + idx_depth y)

depth : Expr → ℕ
depth (Expr.Const n) = 0
depth Expr.CurrInputIdx = suc (idx_depth IdxExpr.CurrIdx)
depth (Expr.Lookup l i) = suc (idx_depth i)
depth (Expr.Binary o x y) = suc (depth x + depth y)
depth (Expr.Unary o x) = suc (depth x)
depth (Expr.PriceOracle1 key time) = 0
depth (Expr.PriceOracle1W key time) = 0

idx_fits : (e : IdxExpr) (r : List Token) → idx_depth e + length r < length (idx_back e r)
unfolding idx_depth idx_back
idx_fits (IdxExpr.Const n) r = simp length-append (omega (arith, idx_long (IdxHead.const n)))
idx_fits IdxExpr.CurrIdx r = simp length-append (omega (arith, idx_long IdxHead.curr))
idx_fits (IdxExpr.Op o x y) r =
    let hx = idx_fits x r in let hy = idx_fits y (reverse (idx_row o).between ++ idx_back x r) in
    simp length-append (omega (arith, idx_long (IdxHead.oper o), simp length-append at hy))

fits : (e : Expr) (r : List Token) → depth e + length r < length (back e r)
unfolding depth back
fits (Expr.Const n) r = simp length-append (omega (arith, head_long (Head.const n)))
fits Expr.CurrInputIdx r = simp length-append (omega (arith, head_long (Head.lookup AmountList.Input), idx_fits IdxExpr.CurrIdx r))
fits (Expr.Lookup l i) r = simp length-append (omega (arith, head_long (Head.lookup l), idx_fits i r))
fits (Expr.Binary o x y) r = simp length-append (omega (arith, head_long (Head.binary o), fits x r, fits y (back x r)))
fits (Expr.Unary o x) r = simp length-append (omega (arith, head_long (Head.unary o), fits x r))
fits (Expr.PriceOracle1 key time) r = simp length-append (omega (arith, head_long (Head.oracle key time)))
fits (Expr.PriceOracle1W key time) r = simp length-append (omega (arith, head_long (Head.oracle_w key time)))

-- index expressions: one step reads each form if the operands are read, and reads nothing else
idx_operands_own : (k : ℕ) (read : List Token → Found IdxExpr) → ((e : IdxExpr) (r : List Token) → idx_depth e < k → read (idx_back e r) ≡ found e r)
    → (e : IdxExpr) (r : List Token) → idx_depth e < suc k → idx_operands read (idx_head (idx_back e r)) ≡ found e r
unfolding idx_depth idx_back
idx_operands_own k read own (IdxExpr.Const n) r h = rw idx_head_own
idx_operands_own k read own IdxExpr.CurrIdx r h = rw idx_head_own
idx_operands_own k read own (IdxExpr.Op o x y) r h =
    let between : Unit {0} → List Token = λ _. reverse (idx_row o).between in
    rw (idx_head_own, own y (reverse (idx_row o).between ++ idx_back x r) (omega arith), find_own between tt [] (idx_back x r), own x r (omega arith))

idx_operands_sound : (read : List Token → Found IdxExpr) → ((s : List Token) → Reads idx_back (read s) s)
    → (g : Found IdxHead) (ts : List Token) → Reads (before idx_head_form) g ts → Reads idx_back (idx_operands read g) ts
unfolding idx_back
idx_operands_sound read sound nothing ts h = tt
idx_operands_sound read sound (found (IdxHead.const n) s) ts h = h
idx_operands_sound read sound (found IdxHead.curr s) ts h = h
idx_operands_sound read sound (found (IdxHead.oper o) s) ts h =
    let between : Unit {0} → List Token = λ _. reverse (idx_row o).between in
    reads_then idx_back idx_back (read s) _ s ts (sound s) λ y r₁ h₁.
    reads_then (before between) idx_back (idx_between o r₁) _ r₁ ts (find_sound between (tt ∷ []) r₁) λ _ r₂ h₂.
    reads_then idx_back idx_back (read r₂) _ r₂ ts (sound r₂) λ x r₃ h₃. cc

idx_step_sound : (read : List Token → Found IdxExpr) → ((s : List Token) → Reads idx_back (read s) s) → (ts : List Token) → Reads idx_back (idx_operands read (idx_head ts)) ts
unfolding idx_head
idx_step_sound read sound ts = idx_operands_sound read sound (idx_head ts) ts (find_sound idx_head_form (IdxHead.const (number_at ts 0) ∷ IdxHead.curr ∷ map IdxHead.oper idx_ops) ts)

idx_by_own : (k : ℕ) (e : IdxExpr) (r : List Token) → idx_depth e < k → idx_within k (idx_back e r) ≡ found e r
unfolding idx_within
idx_by_own zero e r h = absurd (omega arith)
idx_by_own (suc k) e r h = idx_operands_own k (idx_within k) (idx_by_own k) e r h

idx_by_sound : (k : ℕ) (ts : List Token) → Reads idx_back (idx_within k ts) ts
unfolding idx_within
idx_by_sound zero ts = tt
idx_by_sound (suc k) ts = idx_step_sound (idx_within k) (idx_by_sound k) ts

idx_back_reader : Reader idx_back (λ e. e) idx_from_tokens
unfolding idx_from_tokens
idx_back_reader =
    record { own = λ e r. idx_by_own (length (idx_back e r)) e r (omega (arith, idx_fits e r)); sound = λ ts. idx_by_sound (length ts) ts }

pub idx_step : (ts : List Token) → idx_from_tokens ts ≡ idx_operands idx_from_tokens (idx_head ts)
idx_step =
    reader_same idx_back_reader
    (record {
      own = λ e r. idx_operands_own (suc (idx_depth e)) idx_from_tokens (λ f s _. idx_back_reader.own f s) e r (omega arith);
      sound = idx_step_sound idx_from_tokens idx_back_reader.sound;
    })

pub idx_reader : Reader (λ e r. reverse (idx_form e) ++ r) (λ e. e) idx_from_tokens
idx_reader = subst (λ (put : IdxExpr → List Token → List Token). Reader put (λ e. e) idx_from_tokens) (fun_ext λ e. fun_ext λ r. idx_back_is e r) idx_back_reader

-- value expressions, in the same way
lookup_back : (l : AmountList) (i : IdxExpr) (r : List Token) → back (lookup_expr l i) r ≡ head_form (Head.lookup l) ++ idx_back i r
unfolding back
lookup_back l i r = lookup_alike (λ e. back e r) refl l i

operands_own : (k : ℕ) (read : List Token → Found Expr) → ((e : Expr) (r : List Token) → depth e < k → read (back e r) ≡ found (canon_expr e) r)
    → (e : Expr) (r : List Token) → depth e < suc k → operands read (head (back e r)) ≡ found (canon_expr e) r
unfolding depth back canon_expr
operands_own k read own (Expr.Const n) r h = rw head_own
operands_own k read own Expr.CurrInputIdx r h = rw (head_own, idx_back_reader.own IdxExpr.CurrIdx r)
operands_own k read own (Expr.Lookup l i) r h = rw (head_own, idx_back_reader.own i r)
operands_own k read own (Expr.Binary o x y) r h = rw (head_own, own y (back x r) (omega arith), own x r (omega arith))
operands_own k read own (Expr.Unary o x) r h = rw (head_own, own x r (omega arith))
operands_own k read own (Expr.PriceOracle1 key time) r h = rw head_own
operands_own k read own (Expr.PriceOracle1W key time) r h = rw head_own

operands_sound : (read : List Token → Found Expr) → ((s : List Token) → Reads back (read s) s)
    → (g : Found Head) (ts : List Token) → Reads (before head_form) g ts → Reads back (operands read g) ts
unfolding back
operands_sound read sound nothing ts h = tt
operands_sound read sound (found (Head.const n) s) ts h = h
operands_sound read sound (found (Head.lookup o) s) ts h =
    reads_then idx_back back (idx_from_tokens s) _ s ts (idx_back_reader.sound s) λ i r h₁. cc (h, lookup_back o i r)
operands_sound read sound (found (Head.unary o) s) ts h = reads_then back back (read s) _ s ts (sound s) λ x r h₁. cc
operands_sound read sound (found (Head.binary o) s) ts h =
    reads_then back back (read s) _ s ts (sound s) λ y r₁ h₁.
    reads_then back back (read r₁) _ r₁ ts (sound r₁) λ x r₂ h₂. cc
operands_sound read sound (found (Head.oracle key time) s) ts h = h
operands_sound read sound (found (Head.oracle_w key time) s) ts h = h

step_sound : (read : List Token → Found Expr) → ((s : List Token) → Reads back (read s) s) → (ts : List Token) → Reads back (operands read (head ts)) ts
unfolding head
step_sound read sound ts = operands_sound read sound (head ts) ts (find_sound head_form (heads ts) ts)

expr_by_own : (k : ℕ) (e : Expr) (r : List Token) → depth e < k → expr_within k (back e r) ≡ found (canon_expr e) r
unfolding expr_within
expr_by_own zero e r h = absurd (omega arith)
expr_by_own (suc k) e r h = operands_own k (expr_within k) (expr_by_own k) e r h

expr_by_sound : (k : ℕ) (ts : List Token) → Reads back (expr_within k ts) ts
unfolding expr_within
expr_by_sound zero ts = tt
expr_by_sound (suc k) ts = step_sound (expr_within k) (expr_by_sound k) ts

back_reader : Reader back canon_expr expr_from_tokens
unfolding expr_from_tokens
back_reader = record { own = λ e r. expr_by_own (length (back e r)) e r (omega (arith, fits e r)); sound = λ ts. expr_by_sound (length ts) ts }

pub expr_step : (ts : List Token) → expr_from_tokens ts ≡ operands expr_from_tokens (head ts)
expr_step =
    reader_same back_reader
    (record {
      own = λ e r. operands_own (suc (depth e)) expr_from_tokens (λ f s _. back_reader.own f s) e r (omega arith);
      sound = step_sound expr_from_tokens back_reader.sound;
    })

pub expr_reader : Reader (λ e r. reverse (expr_form e) ++ r) canon_expr expr_from_tokens
expr_reader = subst (λ (put : Expr → List Token → List Token). Reader put canon_expr expr_from_tokens) (fun_ext λ e. fun_ext λ r. back_is e r) back_reader

-- conditions
arith_own : (c : Arith) (r : List Token) → from_tokens (reverse (form c) ++ r) ≡ found (canon c) r
unfolding form from_tokens canon
arith_own (Arith.Compare o x y) r =
    simp (reverse-append, append_assoc) (rw (comparison_own, expr_reader.own y (reverse (expr_form x) ++ r), expr_reader.own x r))

arith_sound : (ts : List Token) → Reads (λ c r. reverse (form c) ++ r) (from_tokens ts) ts
unfolding form from_tokens comparison
arith_sound ts =
    let put : Arith → List Token → List Token = λ c r. reverse (form c) ++ r in
    let cmp : CmpOp → List Token = λ o. reverse (cmp_row o).form in
    let exp : Expr → List Token → List Token = λ e r. reverse (expr_form e) ++ r in
    reads_then (before cmp) put (comparison ts) _ ts ts (find_sound cmp cmp_ops ts) λ o r h.
    reads_then exp put (expr_from_tokens r) _ r ts (expr_reader.sound r) λ y r₁ h₁.
    reads_then exp put (expr_from_tokens r₁) _ r₁ ts (expr_reader.sound r₁) λ x r₂ h₂. simp (reverse-append, append_assoc) (cc)

pub arith_reader : Reader (λ c r. reverse (form c) ++ r) canon from_tokens
arith_reader = record { own = arith_own; sound = arith_sound }
