-- The pieces of a condition's form are those of its tree (`form-pieces`), which joined are its code (`arith_joined`).
use Prim.Native.Nat.{ℕ, suc, ◌+◌, ◌-◌}
use mathlib.Core.Bool.{Bool, true, false, ◌&&◌}
use mathlib.Core.Path.{◌≡◌, refl, sym, ap, ap₂, ◌∙◌}
use mathlib.Core.List.{List, [], ◌∷◌, ◌++◌, append_assoc, append-nil, reverse, reverse-append}
use native.Mathlib.Nat.{add-zero, zero-add}
use native.Mathlib.Omega.{arith}
use borrow.Author.Tests.{eqb-true}
use lib.Dec.{eqb}
use lib.ListN.{length, length-append, length-drop, length-reverse}
use Rattle.slices.specs.Bytes.{bytes_value}
use Rattle.semantics.specs.Operations.{Token, idx_row}
use Rattle.semantics.specs.declared.AmountList.{AmountList}
use Rattle.semantics.specs.declared.BinOp.{BinOp}
use Rattle.semantics.specs.declared.CmpOp.{CmpOp}
use Rattle.semantics.specs.declared.Command.{Command}
use Rattle.semantics.specs.declared.IdxOp.{IdxOp}
use Rattle.semantics.specs.declared.UnOp.{UnOp}
use Rattle.semantics.specs.Trees.{Arith, Expr, IdxExpr}
use Rattle.semantics.specs.Code.{code, expr_code, idx_code}
use Rattle.semantics.specs.Token.{expr_form, form, idx_form}
use Rattle.semantics.specs.FromTokens.{Head, IdxHead, head_form, idx_head_form, lookup_expr}
use Rattle.semantics.proofs.Canon.{canon, canon_expr}
use Rattle.productions.specs.Ending.{Production, ending, ends, kind_at, last_row, production_of, row_at, rows}
use Rattle.emission.specs.Pieces.{Part, Piece, joined, own_piece, part, part_of, piece, pieces, pieces_after}
use Rattle.productions.proofs.Endings.{last_row-ends, production_own}
use Rattle.productions.proofs.Places.{ends-length}
use Rattle.productions.proofs.Table.{widths}
use Rattle.emission.proofs.Parts.{joined-append, joined_one, pieces_step}

-- a production's own piece, unless it is `Input` and the current index stands before it
abbrev Apart : Production → List Token → Type 0
Apart p r = p ≡ Production.value (Head.lookup AmountList.Input) → kind_at r 0 ≡ 4 → ⊥

no_twin : (p : Production) (r ts : List Token) (k : ℕ) → Apart p r → production_of ts k ≡ p → (eqb k 1 && eqb (kind_at r 0) 4) ≡ false
no_twin p r ts k apart is = go (eqb k 1) refl (eqb (kind_at r 0) 4) refl
  where
    go : (a : Bool) → eqb k 1 ≡ a → (b : Bool) → eqb (kind_at r 0) 4 ≡ b → (a && b) ≡ false
    go true e true f =
        absurd (apart (sym is ∙ ap (production_of ts) (eqb-true k 1 e)) (eqb-true (kind_at r 0) 4 f))
    go true e false f = refl
    go false e b f = refl

own_step : (p : Production) (r : List Token) (n : ℕ) → Apart p r → pieces (length (ending p) + n) (ending p ++ r) ≡ pieces n r ++ own_piece p ∷ []
unfolding part
own_step p r n apart =
    let ts : List Token = ending p ++ r in
    let o = production_own p r in
    let k = o.0 in
    let h = last_row-ends ts k r o.1 in
    let w : ℕ = length (row_at k).marks in
    let low = (widths k h.row).0 in
    let l = ends-length (row_at k).marks ts h.marked in
    let all = length-append (ending p) r in
    let rest = ap length h.rest in
    let left = length-drop w ts in
    let size : w ≡ length (ending p) = omega arith in
    let is : part ts ≡ record { piece = own_piece p; width = w } =
    ap (part_of ts) o.1 ∙ rw (no_twin p r ts k apart o.2, o.2) in
    let more : length (ending p) + n ≡ suc (w - 1 + n) = omega arith in
    let count : suc (w - 1 + n) - w ≡ n = omega arith in
    ap (λ (m : ℕ). pieces m ts) more ∙ pieces_step (w - 1 + n) ts w (ap (λ (x : Part). x.width) is) low
    ∙ ap₂ (λ (x : List Piece) (b : Piece). x ++ b ∷ []) (ap₂ (λ (m : ℕ) (l : List Token). pieces m l) count h.rest) (ap (λ (x : Part). x.piece) is)

-- the same, where the tokens and their number are known to be so
module _ (p : Production) (r : List Token) (n : ℕ) (ts : List Token) (m : ℕ) (tokens : ts ≡ ending p ++ r) (size : m ≡ length (ending p) + n) where
  own_piece_lem : Apart p r → (before : List Piece) → pieces n r ≡ before → pieces m ts ≡ before ++ own_piece p ∷ []
  own_piece_lem apart before e =
      ap₂ (λ (k : ℕ) (l : List Token). pieces k l) size tokens ∙ own_step p r n apart ∙ ap (λ (l : List Piece). l ++ own_piece p ∷ []) e

-- index expressions
unfoldable pub between_pieces : IdxOp → List Piece
between_pieces IdxOp.Add = []
between_pieces IdxOp.Sub = []
between_pieces IdxOp.Mul = own_piece Production.between ∷ []
between_pieces IdxOp.Div = own_piece Production.between ∷ []

unfoldable pub idx_pieces : IdxExpr → List Piece
idx_pieces (IdxExpr.Const n) = own_piece (Production.index (IdxHead.const n)) ∷ []
idx_pieces IdxExpr.CurrIdx = own_piece (Production.index IdxHead.curr) ∷ []
idx_pieces (IdxExpr.Op o x y) = idx_pieces x ++ between_pieces o ++ idx_pieces y ++ own_piece (Production.index (IdxHead.oper o)) ∷ []

different : {A : Type 0} → ◌≡◌ {A = ℕ} 0 1 → A
different e = absurd (omega arith)

index_apart : (h : IdxHead) (r : List Token) → Apart (Production.index h) r
index_apart h r e f = let z : ◌≡◌ {A = ℕ} 0 1 = cc in different z

between_pieces_lem : (o : IdxOp) (r : List Token) (n : ℕ) → pieces (length (idx_row o).between + n) (reverse (idx_row o).between ++ r) ≡ pieces n r ++ between_pieces o
unfolding between_pieces ending own_piece
between_pieces_lem IdxOp.Add r n = ap (λ (k : ℕ). pieces k r) (zero-add n) ∙ sym (append-nil (pieces n r))
between_pieces_lem IdxOp.Sub r n = ap (λ (k : ℕ). pieces k r) (zero-add n) ∙ sym (append-nil (pieces n r))
between_pieces_lem IdxOp.Mul r n = own_step Production.between r n (λ e f. let z : ◌≡◌ {A = ℕ} 0 1 = cc in different z)
between_pieces_lem IdxOp.Div r n = own_step Production.between r n (λ e f. let z : ◌≡◌ {A = ℕ} 0 1 = cc in different z)

idx_tokens : (o : IdxOp) (x y : IdxExpr) (r : List Token)
    → reverse (idx_form (IdxExpr.Op o x y)) ++ r
    ≡ ending (Production.index (IdxHead.oper o)) ++ (reverse (idx_form y) ++ (reverse (idx_row o).between ++ (reverse (idx_form x) ++ r)))
unfolding idx_form ending idx_head_form
idx_tokens o x y r = simp (reverse-append, append_assoc)

idx_size : (o : IdxOp) (x y : IdxExpr) (n : ℕ)
    → length (idx_form (IdxExpr.Op o x y)) + n
    ≡ length (ending (Production.index (IdxHead.oper o))) + (length (idx_form y) + (length (idx_row o).between + (length (idx_form x) + n)))
unfolding idx_form ending idx_head_form
idx_size o x y n = simp (length-append, length-reverse) (omega arith)

const-index : (c : ℕ) (r : List Token) (n : ℕ)
    → pieces (length (idx_form (IdxExpr.Const c)) + n) (reverse (idx_form (IdxExpr.Const c)) ++ r) ≡ pieces n r ++ own_piece (Production.index (IdxHead.const c)) ∷ []
unfolding idx_form ending idx_head_form
const-index c r n = own_step (Production.index (IdxHead.const c)) r n (index_apart (IdxHead.const c) r)

current_index : (r : List Token) (n : ℕ)
    → pieces (length (idx_form IdxExpr.CurrIdx) + n) (reverse (idx_form IdxExpr.CurrIdx) ++ r) ≡ pieces n r ++ own_piece (Production.index IdxHead.curr) ∷ []
unfolding idx_form ending idx_head_form
current_index r n = own_step (Production.index IdxHead.curr) r n (index_apart IdxHead.curr r)

idx_pieces_lem : (e : IdxExpr) (r : List Token) (n : ℕ) → pieces (length (idx_form e) + n) (reverse (idx_form e) ++ r) ≡ pieces n r ++ idx_pieces e
unfolding idx_pieces
idx_pieces_lem (IdxExpr.Const c) r n = const-index c r n
idx_pieces_lem IdxExpr.CurrIdx r n = current_index r n
idx_pieces_lem (IdxExpr.Op o x y) r n =
    let s₁ : List Token = reverse (idx_form x) ++ r in
    let s₂ : List Token = reverse (idx_row o).between ++ s₁ in
    let s₃ : List Token = reverse (idx_form y) ++ s₂ in
    let n₁ : ℕ = length (idx_form x) + n in
    let n₂ : ℕ = length (idx_row o).between + n₁ in
    own_piece_lem (Production.index (IdxHead.oper o)) s₃ (length (idx_form y) + n₂) _ _ (idx_tokens o x y r) (idx_size o x y n) (index_apart (IdxHead.oper o) s₃) _
    (idx_pieces_lem y s₂ n₂ ∙ ap (λ (l : List Piece). l ++ idx_pieces y) (between_pieces_lem o s₁ n₁ ∙ ap (λ (l : List Piece). l ++ between_pieces o) (idx_pieces_lem x r n)))
    ∙ simp append_assoc

-- value expressions
unfoldable pub expr_pieces : Expr → List Piece
expr_pieces (Expr.Const n) = own_piece (Production.value (Head.const n)) ∷ []
expr_pieces Expr.CurrInputIdx = piece Command.CurrInputIdx [] ∷ []
expr_pieces (Expr.Lookup l i) = idx_pieces i ++ own_piece (Production.value (Head.lookup l)) ∷ []
expr_pieces (Expr.Binary o x y) = expr_pieces x ++ expr_pieces y ++ own_piece (Production.value (Head.binary o)) ∷ []
expr_pieces (Expr.Unary o x) = expr_pieces x ++ own_piece (Production.value (Head.unary o)) ∷ []
expr_pieces (Expr.PriceOracle1 key time) = own_piece (Production.value (Head.oracle key time)) ∷ []
expr_pieces (Expr.PriceOracle1W key time) = own_piece (Production.value (Head.oracle_w key time)) ∷ []

-- an index expression other than the current index does not end with CurrInp
const_last : (n : ℕ) (r : List Token) → kind_at (reverse (idx_form (IdxExpr.Const n)) ++ r) 0 ≡ 4 → ⊥
unfolding idx_form
const_last n r e = omega arith

op_last : (o : IdxOp) (s : List Token) → kind_at (ending (Production.index (IdxHead.oper o)) ++ s) 0 ≡ 4 → ⊥
unfolding ending idx_head_form
op_last IdxOp.Add s e = omega arith
op_last IdxOp.Sub s e = omega arith
op_last IdxOp.Mul s e = omega arith
op_last IdxOp.Div s e = omega arith

-- `Input` of another index than the current one
last_kind : (l : AmountList) (i : IdxExpr) (r : List Token) → lookup_expr l i ≡ Expr.Lookup l i → Apart (Production.value (Head.lookup l)) (reverse (idx_form i) ++ r)
last_kind l (IdxExpr.Const n) r c e f = const_last n r f
last_kind AmountList.Input IdxExpr.CurrIdx r c e f = let z : ◌≡◌ {A = ℕ} 0 1 = cc in different z
last_kind AmountList.Output IdxExpr.CurrIdx r c e f = let z : ◌≡◌ {A = ℕ} 0 1 = cc in different z
last_kind AmountList.InputIssue IdxExpr.CurrIdx r c e f = let z : ◌≡◌ {A = ℕ} 0 1 = cc in different z
last_kind AmountList.InputReIssue IdxExpr.CurrIdx r c e f = let z : ◌≡◌ {A = ℕ} 0 1 = cc in different z
last_kind l (IdxExpr.Op o x y) r c e f = op_last o _ (ap (λ (s : List Token). kind_at s 0) (sym (idx_tokens o x y r)) ∙ f)

value_apart : (h : Head) → ((l : AmountList) → h ≡ Head.lookup l → ⊥) → (r : List Token) → Apart (Production.value h) r
value_apart h n r e f = let q : h ≡ Head.lookup AmountList.Input = cc in n AmountList.Input q

-- `CurrInputIdx` has five tokens
twin_part : (r : List Token) → part (reverse (expr_form Expr.CurrInputIdx) ++ r) ≡ record { piece = piece Command.CurrInputIdx []; width = 5 }
unfolding part last_row rows ends expr_form bytes_value
twin_part r = refl

twin_pieces : (r : List Token) (n : ℕ) → pieces (length (expr_form Expr.CurrInputIdx) + n) (reverse (expr_form Expr.CurrInputIdx) ++ r) ≡ pieces n r ++ piece Command.CurrInputIdx [] ∷ []
unfolding expr_form
twin_pieces r n =
    let ts : List Token = reverse (expr_form Expr.CurrInputIdx) ++ r in
    let is = twin_part r in
    let more : length (expr_form Expr.CurrInputIdx) + n ≡ suc (4 + n) = omega arith in
    let count : suc (4 + n) - 5 ≡ n = omega arith in
    ap (λ (m : ℕ). pieces m ts) more ∙ pieces_step (4 + n) ts 5 (ap (λ (x : Part). x.width) is) (omega arith)
    ∙ ap₂ (λ (x : List Piece) (b : Piece). x ++ b ∷ []) (ap (λ (m : ℕ). pieces m r) count) (ap (λ (x : Part). x.piece) is)

module _ (r : List Token) (n : ℕ) where
  const-value : (c : ℕ) → pieces (length (expr_form (Expr.Const c)) + n) (reverse (expr_form (Expr.Const c)) ++ r) ≡ pieces n r ++ own_piece (Production.value (Head.const c)) ∷ []
  unfolding expr_form ending head_form
  const-value c = own_step (Production.value (Head.const c)) r n (value_apart (Head.const c) (λ l e. let z : ◌≡◌ {A = ℕ} 0 1 = cc in different z) r)

  oracle-value : (key : List ℕ) (time : ℕ) → pieces (length (expr_form (Expr.PriceOracle1 key time)) + n) (reverse (expr_form (Expr.PriceOracle1 key time)) ++ r)
      ≡ pieces n r ++ own_piece (Production.value (Head.oracle key time)) ∷ []
  unfolding expr_form ending head_form
  oracle-value key time =
      own_step (Production.value (Head.oracle key time)) r n (value_apart (Head.oracle key time) (λ l e. let z : ◌≡◌ {A = ℕ} 0 1 = cc in different z) r)

  oracle_w_value : (key : List ℕ) (time : ℕ) → pieces (length (expr_form (Expr.PriceOracle1W key time)) + n) (reverse (expr_form (Expr.PriceOracle1W key time)) ++ r)
      ≡ pieces n r ++ own_piece (Production.value (Head.oracle_w key time)) ∷ []
  unfolding expr_form ending head_form
  oracle_w_value key time =
      own_step (Production.value (Head.oracle_w key time)) r n (value_apart (Head.oracle_w key time) (λ l e. let z : ◌≡◌ {A = ℕ} 0 1 = cc in different z) r)

  lookup_value : (l : AmountList) (i : IdxExpr) → lookup_expr l i ≡ Expr.Lookup l i
      → pieces (length (expr_form (Expr.Lookup l i)) + n) (reverse (expr_form (Expr.Lookup l i)) ++ r) ≡ (pieces n r ++ idx_pieces i) ++ own_piece (Production.value (Head.lookup l)) ∷ []
  unfolding expr_form ending head_form
  lookup_value l i c =
      own_piece_lem (Production.value (Head.lookup l)) (reverse (idx_form i) ++ r) (length (idx_form i) + n) _ _ (simp (reverse-append, append_assoc))
      (simp (length-append, length-reverse) (omega arith)) (last_kind l i r c) _ (idx_pieces_lem i r n)

  -- the operands' pieces are given
  unary_value : (o : UnOp) (x : Expr) (ps : List Piece) → pieces (length (expr_form x) + n) (reverse (expr_form x) ++ r) ≡ ps
      → pieces (length (expr_form (Expr.Unary o x)) + n) (reverse (expr_form (Expr.Unary o x)) ++ r) ≡ ps ++ own_piece (Production.value (Head.unary o)) ∷ []
  unfolding expr_form ending head_form
  unary_value o x ps e =
      own_piece_lem (Production.value (Head.unary o)) (reverse (expr_form x) ++ r) (length (expr_form x) + n) _ _ (simp (reverse-append, append_assoc))
      (simp (length-append, length-reverse) (omega arith)) (value_apart (Head.unary o) (λ l q. let z : ◌≡◌ {A = ℕ} 0 1 = cc in different z) (reverse (expr_form x) ++ r)) _ e

  binary_value : (o : BinOp) (x y : Expr) (ps : List Piece) → pieces (length (expr_form y) + (length (expr_form x) + n)) (reverse (expr_form y) ++ (reverse (expr_form x) ++ r)) ≡ ps
      → pieces (length (expr_form (Expr.Binary o x y)) + n) (reverse (expr_form (Expr.Binary o x y)) ++ r) ≡ ps ++ own_piece (Production.value (Head.binary o)) ∷ []
  unfolding expr_form ending head_form
  binary_value o x y ps e =
      own_piece_lem (Production.value (Head.binary o)) (reverse (expr_form y) ++ (reverse (expr_form x) ++ r)) (length (expr_form y) + (length (expr_form x) + n)) _ _ (simp (reverse-append, append_assoc))
      (simp (length-append, length-reverse) (omega arith)) (value_apart (Head.binary o) (λ l q. let z : ◌≡◌ {A = ℕ} 0 1 = cc in different z) (reverse (expr_form y) ++ (reverse (expr_form x) ++ r))) _ e

  compare_value : (o : CmpOp) (x y : Expr) (ps : List Piece) → pieces (length (expr_form y) + (length (expr_form x) + n)) (reverse (expr_form y) ++ (reverse (expr_form x) ++ r)) ≡ ps
      → pieces (length (form (Arith.Compare o x y)) + n) (reverse (form (Arith.Compare o x y)) ++ r) ≡ ps ++ own_piece (Production.comparison o) ∷ []
  unfolding form ending
  compare_value o x y ps e =
      own_piece_lem (Production.comparison o) (reverse (expr_form y) ++ (reverse (expr_form x) ++ r)) (length (expr_form y) + (length (expr_form x) + n)) _ _ (simp (reverse-append, append_assoc))
      (simp (length-append, length-reverse) (omega arith)) (λ q f. let z : ◌≡◌ {A = ℕ} 0 1 = cc in different z) _ e

expr_pieces_lem : (e : Expr) → canon_expr e ≡ e → (r : List Token) (n : ℕ) → pieces (length (expr_form e) + n) (reverse (expr_form e) ++ r) ≡ pieces n r ++ expr_pieces e
unfolding expr_pieces canon_expr
expr_pieces_lem (Expr.Const c) h r n = const-value r n c
expr_pieces_lem Expr.CurrInputIdx h r n = twin_pieces r n
expr_pieces_lem (Expr.Lookup l i) h r n = lookup_value r n l i h ∙ simp append_assoc
expr_pieces_lem (Expr.Binary o x y) h r n =
    let hx : canon_expr x ≡ x = cc in
    let hy : canon_expr y ≡ y = cc in
    binary_value r n o x y _ (expr_pieces_lem y hy (reverse (expr_form x) ++ r) (length (expr_form x) + n) ∙ ap (λ (l : List Piece). l ++ expr_pieces y) (expr_pieces_lem x hx r n))
    ∙ simp append_assoc
expr_pieces_lem (Expr.Unary o x) h r n = let hx : canon_expr x ≡ x = cc in unary_value r n o x _ (expr_pieces_lem x hx r n) ∙ simp append_assoc
expr_pieces_lem (Expr.PriceOracle1 key time) h r n = oracle-value r n key time
expr_pieces_lem (Expr.PriceOracle1W key time) h r n = oracle_w_value r n key time

-- conditions
unfoldable pub arith_pieces : Arith → List Piece
arith_pieces (Arith.Compare o x y) = expr_pieces x ++ expr_pieces y ++ own_piece (Production.comparison o) ∷ []

pub form-pieces : (a : Arith) → canon a ≡ a → (r : List Token) → pieces (length (form a)) (reverse (form a) ++ r) ≡ arith_pieces a
unfolding arith_pieces canon pieces_after
form-pieces (Arith.Compare o x y) h r =
    let hx : canon_expr x ≡ x = cc in
    let hy : canon_expr y ≡ y = cc in
    ap (λ (n : ℕ). pieces n (reverse (form (Arith.Compare o x y)) ++ r)) (sym (add-zero (length (form (Arith.Compare o x y)))))
    ∙ compare_value r 0 o x y _ (expr_pieces_lem y hy (reverse (expr_form x) ++ r) (length (expr_form x) + 0) ∙ ap (λ (l : List Piece). l ++ expr_pieces y) (expr_pieces_lem x hx r 0))
    ∙ simp append_assoc

-- joined, they are the code
idx_joined : (e : IdxExpr) → joined (idx_pieces e) ≡ idx_code e
unfolding idx_pieces idx_code own_piece between_pieces joined
idx_joined (IdxExpr.Const n) = append-nil (idx_code (IdxExpr.Const n))
idx_joined IdxExpr.CurrIdx = refl
idx_joined (IdxExpr.Op o x y) = simp (joined-append, idx_joined x, idx_joined y, between_joined o, joined_one, append_assoc)
  where
    between_joined : (o : IdxOp) → joined (between_pieces o) ≡ []
    between_joined IdxOp.Add = refl
    between_joined IdxOp.Sub = refl
    between_joined IdxOp.Mul = refl
    between_joined IdxOp.Div = refl

expr_joined : (e : Expr) → joined (expr_pieces e) ≡ expr_code e
unfolding expr_pieces expr_code own_piece joined
expr_joined (Expr.Const n) = append-nil (expr_code (Expr.Const n))
expr_joined Expr.CurrInputIdx = refl
expr_joined (Expr.Lookup l i) = simp (joined-append, idx_joined i, joined_one)
expr_joined (Expr.Binary o x y) = simp (joined-append, expr_joined x, expr_joined y, joined_one)
expr_joined (Expr.Unary o x) = simp (joined-append, expr_joined x, joined_one)
expr_joined (Expr.PriceOracle1 key time) = append-nil (expr_code (Expr.PriceOracle1 key time))
expr_joined (Expr.PriceOracle1W key time) = append-nil (expr_code (Expr.PriceOracle1W key time))

pub arith_joined : (a : Arith) → joined (arith_pieces a) ≡ code a
unfolding arith_pieces code own_piece
arith_joined (Arith.Compare o x y) = simp (joined-append, expr_joined x, expr_joined y, joined_one)
