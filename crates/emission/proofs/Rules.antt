-- The oracle rule over pieces is the rule over a condition's terminals: `broken-rule`.
use mathlib.Core.Bool.{Bool, true, false, cond, ◌||◌}
use mathlib.Core.Option.{Option, none, some}
use mathlib.Core.Path.{◌≡◌, refl, sym, ap, ◌∙◌}
use mathlib.Core.List.{List, [], ◌∷◌, ◌++◌, append_assoc, append-nil}
use Rattle.semantics.specs.declared.IdxOp.{IdxOp}
use Rattle.semantics.specs.declared.Refusal.{Refusal}
use Rattle.semantics.specs.declared.Terminal.{Terminal}
use Rattle.semantics.specs.Trees.{Arith, Expr, IdxExpr}
use Rattle.semantics.specs.Oracle.{among, missing, oracle_rule, rule, terminals}
use Rattle.emission.specs.Pieces.{Piece, broken, own_piece, terminals_of}
use Rattle.emission.proofs.Trees.{arith_pieces, between_pieces, expr_pieces, idx_pieces}

or_assoc : (a b c : Bool) → ((a || b) || c) ≡ (a || (b || c))
or_assoc true b c = refl
or_assoc false b c = refl

among-append : (a b : List Terminal) → among (a ++ b) ≡ (among a || among b)
among-append [] b = refl
among-append (Terminal.Other ∷ ts) b = among-append ts b
among-append (Terminal.PriceOracle1 ∷ ts) b = refl
among-append (Terminal.PriceOracle1W ∷ ts) b = among-append ts b

-- `missing`, by whether PriceOracle1 is among the terminals
abbrev missing_if : Bool → Option Refusal
missing_if b = cond b (some Refusal.PriceOracle1Missing) none

-- no piece of an index is a terminal
among_between : (o : IdxOp) (q : List Piece) → among (terminals_of (between_pieces o ++ q)) ≡ among (terminals_of q)
unfolding between_pieces own_piece
among_between IdxOp.Add q = refl
among_between IdxOp.Sub q = refl
among_between IdxOp.Mul q = refl
among_between IdxOp.Div q = refl

among-index : (e : IdxExpr) (q : List Piece) → among (terminals_of (idx_pieces e ++ q)) ≡ among (terminals_of q)
unfolding idx_pieces own_piece
among-index (IdxExpr.Const n) q = refl
among-index IdxExpr.CurrIdx q = refl
among-index (IdxExpr.Op o x y) q = simp append_assoc (among-index x _ ∙ among_between o _ ∙ among-index y _)

rule-index : (e : IdxExpr) (q : List Piece) → rule (terminals_of (idx_pieces e ++ q)) [] ≡ missing (terminals_of q)
unfolding idx_pieces own_piece
rule-index (IdxExpr.Const n) q = ap missing (append-nil (terminals_of q))
rule-index IdxExpr.CurrIdx q = ap missing (append-nil (terminals_of q))
rule-index (IdxExpr.Op o x y) q = simp append_assoc (rule-index x _ ∙ ap missing_if (among_between o _ ∙ among-index y _))

-- the pieces of a value, before others, and its terminals
among_expr : (e : Expr) (q : List Piece) → among (terminals_of (expr_pieces e ++ q)) ≡ (among (terminals e) || among (terminals_of q))
unfolding expr_pieces terminals own_piece
among_expr (Expr.Const n) q = refl
among_expr Expr.CurrInputIdx q = refl
among_expr (Expr.Lookup l i) q = simp append_assoc (among-index i _)
among_expr (Expr.Binary o x y) q =
    simp append_assoc (among_expr x _ ∙ ap (λ (b : Bool). among (terminals x) || b) (among_expr y _)
    ∙ sym (or_assoc (among (terminals x)) (among (terminals y)) (among (terminals_of q))) ∙ ap (λ (b : Bool). b || among (terminals_of q)) (sym (among-append (terminals x) (terminals y))))
among_expr (Expr.Unary o x) q = simp append_assoc (among_expr x _)
among_expr (Expr.PriceOracle1 key time) q = refl
among_expr (Expr.PriceOracle1W key time) q = refl

rule_expr : (e : Expr) (q : List Piece) (m right : List Terminal) → among (terminals_of q) ≡ among (m ++ right)
    → rule (terminals_of (expr_pieces e ++ q)) [] ≡ rule (terminals e ++ m) right
unfolding expr_pieces terminals own_piece
rule_expr (Expr.Const n) q m right h = ap missing (append-nil (terminals_of q)) ∙ ap missing_if h
rule_expr Expr.CurrInputIdx q m right h = ap missing (append-nil (terminals_of q)) ∙ ap missing_if h
rule_expr (Expr.Lookup l i) q m right h = simp append_assoc (rule-index i _ ∙ ap missing_if h)
rule_expr (Expr.Binary o x y) q m right h =
    simp append_assoc
    (rule_expr x _ (terminals y ++ m) right
    (among_expr y _ ∙ ap (λ (b : Bool). among (terminals y) || b) h
    ∙ sym (among-append (terminals y) (m ++ right)) ∙ ap among (sym (append_assoc (terminals y) m right))))
rule_expr (Expr.Unary o x) q m right h = simp append_assoc (rule_expr x _ m right h)
rule_expr (Expr.PriceOracle1 key time) q m right h = ap missing (append-nil (terminals_of q)) ∙ ap missing_if h
rule_expr (Expr.PriceOracle1W key time) q m right h = refl

pub broken-rule : (a : Arith) → broken (arith_pieces a) ≡ oracle_rule a
unfolding arith_pieces oracle_rule own_piece
broken-rule (Arith.Compare o x y) =
    simp append_assoc
    (rule_expr x _ [] (terminals y) (among_expr y _ ∙ or_no (among (terminals y)))
    ∙ ap (λ (l : List Terminal). rule l (terminals y)) (append-nil (terminals x)))
  where
    or_no : (b : Bool) → (b || false) ≡ b
    or_no true = refl
    or_no false = refl
