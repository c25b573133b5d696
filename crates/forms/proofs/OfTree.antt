-- The marks of a tree's commands, and that the tokens of these commands with these marks are the tree's form: `emitted-form`.
-- Refusal 6 by the commands is that by the form: `narrow-emitted`. Both of code that passes: `tokens_are`, `narrow_is`.
use Rattle.std.proofs.Common.{Ok}
use Prim.Native.Nat.{ℕ}
use mathlib.Core.Bool.{Bool, true, false}
use mathlib.Core.Path.{◌≡◌, refl, sym, ap, ◌∙◌}
use mathlib.Core.List.{List, [], ◌∷◌, ◌++◌, append_assoc, append-nil}
use native.Mathlib.Omega.{arith}
use lib.ListN.{length, get_or, length-append}
use lib.Seq.{drop_at, set_at, take_at}
use Rattle.slices.specs.Bytes.{Bytes, little_endian}
use Rattle.slices.proofs.Bytes.{value_of-bytes}
use Rattle.semantics.proofs.Forms.{narrow-append}
use Rattle.semantics.specs.declared.Checked.{Checked}
use Rattle.semantics.specs.declared.Command.{Command}
use Rattle.semantics.specs.declared.IdxOp.{IdxOp}
use Rattle.semantics.specs.Check.{checked}
use Rattle.semantics.specs.Code.{code, command_row}
use Rattle.semantics.specs.Operations.{Token, idx_row}
use Rattle.semantics.specs.Parse.{instructions}
use Rattle.semantics.specs.Token.{expr_form, form, idx_form, narrow}
use Rattle.semantics.specs.Trees.{Arith, Expr, IdxExpr}
use Rattle.semantics.proofs.Encodable.{Encodable, ExprEncodable, IdxEncodable}
use Rattle.semantics.proofs.Passing.{Passed, passed}
use Rattle.semantics.proofs.Machine.{fold-code, fold-map, on_expr, on_idx}
use Rattle.conversions.specs.Marks.{Marking, converts, mark_step, marks_of, narrow_code, narrow_step, unmarked}
use Rattle.token_table.specs.TokenRows.{converted, tokens_of}
use Rattle.conversions.proofs.Narrow.{and_end}
use Rattle.forms.specs.Emitted.{Emission, emit_step, emitted}

-- of an index: the marks of its commands but the last
inner : IdxExpr → List Bool
inner (IdxExpr.Const n) = []
inner IdxExpr.CurrIdx = []
inner (IdxExpr.Op o x y) = inner x ++ converts (Command.Index o) ∷ inner y ++ false ∷ []

expr_marks : Expr → List Bool
expr_marks (Expr.Const bits) = false ∷ []
expr_marks Expr.CurrInputIdx = false ∷ []
expr_marks (Expr.Lookup l i) = inner i ++ false ∷ false ∷ []
expr_marks (Expr.Binary o x y) = expr_marks x ++ expr_marks y ++ false ∷ []
expr_marks (Expr.Unary o x) = expr_marks x ++ false ∷ []
expr_marks (Expr.PriceOracle1 key time) = false ∷ []
expr_marks (Expr.PriceOracle1W key time) = false ∷ []

arith_marks : Arith → List Bool
arith_marks (Arith.Compare o x y) = expr_marks x ++ expr_marks y ++ false ∷ []

-- ---- what the pass over the commands finds

marking : {w w' : List ℕ} {m m' : List Bool} → w ≡ w' → m ≡ m' → ◌≡◌ {A = Marking} (record { waiting = w; marks = m }) (record { waiting = w'; marks = m' })
marking p q = λ k. record { waiting = p k; marks = q k }

mark_idx : (x : IdxExpr) (w : List ℕ) (m : List Bool)
    → on_idx mark_step x (record { waiting = w; marks = m }) ≡ record { waiting = length (m ++ inner x) ∷ w; marks = m ++ inner x ++ false ∷ [] }
unfolding inner
mark_idx (IdxExpr.Const n) w m = rw (append-nil m)
mark_idx IdxExpr.CurrIdx w m = rw (append-nil m)
mark_idx (IdxExpr.Op o x y) w m =
    let front = m ++ inner x in
    let behind = inner y ++ false ∷ [] in
    let all : front ++ false ∷ [] ++ inner y ++ false ∷ [] ≡ front ++ false ∷ behind = simp append_assoc in
    rw (mark_idx x w m, mark_idx y (length front ∷ w) (front ++ false ∷ []), all, set_at front false behind (converts (Command.Index o)) (length front) refl)
    (marking (ap (λ (k : ℕ). k ∷ w) (simp length-append (omega arith))) (simp append_assoc))

mark_expr : (x : Expr) (w : List ℕ) (m : List Bool)
    → on_expr mark_step x (record { waiting = w; marks = m }) ≡ record { waiting = w; marks = m ++ expr_marks x }
unfolding expr_marks
mark_expr (Expr.Const bits) w m = refl
mark_expr Expr.CurrInputIdx w m = refl
mark_expr (Expr.Lookup l i) w m = rw (mark_idx i w m) (marking refl (simp append_assoc))
mark_expr (Expr.Binary o x y) w m = rw (mark_expr x w m, mark_expr y w (m ++ expr_marks x)) (marking refl (simp append_assoc))
mark_expr (Expr.Unary o x) w m = rw (mark_expr x w m) (marking refl (simp append_assoc))
mark_expr (Expr.PriceOracle1 key time) w m = refl
mark_expr (Expr.PriceOracle1W key time) w m = refl

marks-code : (a : Arith) → Encodable a → marks_of (code a) ≡ arith_marks a
unfolding marks_of arith_marks
marks-code (Arith.Compare o x y) k =
    ap (λ (s : Marking). s.marks) (fold-code mark_step (Arith.Compare o x y) k unmarked)
    ∙ rw (mark_expr x [] [], mark_expr y [] (expr_marks x))

-- ---- the tokens

emission : {m m' : List Bool} {t t' : List Token} → m ≡ m' → t ≡ t' → ◌≡◌ {A = Emission} (record { marks = m; tokens = t }) (record { marks = m'; tokens = t' })
emission p q = λ k. record { marks = p k; tokens = q k }

between : (o : IdxOp) → converted (converts (Command.Index o)) ≡ (idx_row o).between
between o = elim o as (λ o. converted (converts (Command.Index o)) ≡ (idx_row o).between) [ IdxOp.Add ↦ refl | IdxOp.Sub ↦ refl | IdxOp.Mul ↦ refl | IdxOp.Div ↦ refl ]

emit_idx : (x : IdxExpr) → IdxEncodable x → (b : Bool) (m : List Bool) (t : List Token)
    → on_idx emit_step x (record { marks = inner x ++ b ∷ m; tokens = t }) ≡ record { marks = m; tokens = t ++ idx_form x ++ converted b }
unfolding inner idx_form
emit_idx (IdxExpr.Const n) k b m t = rw (value_of-bytes 8 n k) (emission refl (simp append_assoc))
emit_idx IdxExpr.CurrIdx k b m t = emission refl (simp append_assoc)
emit_idx (IdxExpr.Op o x y) k b m t =
    let later = inner y ++ false ∷ b ∷ m in
    let after = converts (Command.Index o) in
    let all : inner x ++ after ∷ inner y ++ false ∷ [] ++ b ∷ m ≡ inner x ++ after ∷ later = simp append_assoc in
    rw (all, emit_idx x k.0 after later t, emit_idx y k.1 false (b ∷ m) (t ++ idx_form x ++ converted after), between o)
    (emission refl (simp append_assoc))

emit_expr : (x : Expr) → ExprEncodable x → (m : List Bool) (t : List Token)
    → on_expr emit_step x (record { marks = expr_marks x ++ m; tokens = t }) ≡ record { marks = m; tokens = t ++ expr_form x }
unfolding expr_marks expr_form
emit_expr (Expr.Const bits) k m t = rw (value_of-bytes 8 bits k)
emit_expr Expr.CurrInputIdx k m t = refl
emit_expr (Expr.Lookup l i) k m t =
    let all : inner i ++ false ∷ false ∷ [] ++ m ≡ inner i ++ false ∷ (false ∷ m) = simp append_assoc in
    rw (all, emit_idx i k false (false ∷ m) t) (emission refl (simp (append_assoc, append-nil)))
emit_expr (Expr.Binary o x y) k m t =
    let later = expr_marks y ++ false ∷ m in
    let all : expr_marks x ++ expr_marks y ++ false ∷ [] ++ m ≡ expr_marks x ++ later = simp append_assoc in
    rw (all, emit_expr x k.0 later t, emit_expr y k.1 (false ∷ m) (t ++ expr_form x)) (emission refl (simp (append_assoc, append-nil)))
emit_expr (Expr.Unary o x) k m t =
    let all : expr_marks x ++ false ∷ [] ++ m ≡ expr_marks x ++ false ∷ m = simp append_assoc in
    rw (all, emit_expr x k (false ∷ m) t) (emission refl (simp (append_assoc, append-nil)))
emit_expr (Expr.PriceOracle1 key time) k m t =
    rw (take_at key (little_endian 8 time) 32 k.0, drop_at key (little_endian 8 time) 32 k.0, value_of-bytes 8 time k.2)
emit_expr (Expr.PriceOracle1W key time) k m t =
    rw (take_at key (little_endian 8 time) 32 k.0, drop_at key (little_endian 8 time) 32 k.0, value_of-bytes 8 time k.2)

pub emitted-form : (a : Arith) → Encodable a → (rest : List Bool) → emitted (code a) (marks_of (code a) ++ rest) ≡ form a
unfolding emitted form arith_marks
emitted-form (Arith.Compare o x y) k rest =
    let later = expr_marks y ++ false ∷ rest in
    let all : expr_marks x ++ expr_marks y ++ false ∷ [] ++ rest ≡ expr_marks x ++ later = simp append_assoc in
    rw (marks-code (Arith.Compare o x y) k, all)
    (ap (λ (s : Emission). s.tokens) (fold-code emit_step (Arith.Compare o x y) k (record { marks = expr_marks x ++ later; tokens = [] }))
    ∙ rw (emit_expr x k.0 later [], emit_expr y k.1 (false ∷ rest) (expr_form x)) (simp append-nil))

-- ---- 6

-- whether the tokens are narrow is what the pass over the commands tells
narrow-tokens : (c : Command) (n : List ℕ) (marked : Bool) → narrow (tokens_of c n marked) ≡ narrow ((command_row c).tokens n)
narrow-tokens c n true = narrow-append ((command_row c).tokens n) (converted true) ∙ and_end (narrow ((command_row c).tokens n))
narrow-tokens c n false = rw (append-nil ((command_row c).tokens n))

pub narrow-emitted : (c : List ℕ) (marks : List Bool) → narrow (emitted c marks) ≡ narrow_code c
unfolding emitted narrow_code
narrow-emitted c marks =
    fold-map emit_step narrow_step (λ s. narrow s.tokens)
    (λ s d n. narrow-append s.tokens (tokens_of d n (get_or s.marks 0 false)) ∙ rw (narrow-tokens d n (get_or s.marks 0 false)))
    (instructions c) (record { marks = marks; tokens = [] })

-- ---- of code that passes: it is a tree's

module _ (b : List ℕ) (bytes : Bytes b) (t m : ℕ) (passes : checked b ≡ Ok (record { tokens = t; oracles = m })) where
  pub known : Passed b t m
  known = passed b bytes t m passes

  abbrev pub tree : Arith
  tree = known.tree

  -- with the marks at the front of an array its tokens are the tree's form
  pub tokens_are : (marks rest : List Bool) → marks ≡ marks_of b ++ rest → emitted b marks ≡ form tree
  tokens_are marks rest e =
      ap (emitted b) e ∙ ap (λ (c : List ℕ). emitted c (marks_of c ++ rest)) (sym known.told.coded) ∙ emitted-form tree known.told.encodable rest

  pub narrow_is : narrow (form tree) ≡ narrow_code b
  narrow_is = ap narrow (sym (tokens_are (marks_of b ++ []) [] refl)) ∙ narrow-emitted b (marks_of b ++ [])
