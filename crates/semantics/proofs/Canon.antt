-- The twins: a condition and its canonical one, in which `CurrInputIdx` stands for `Input` of the current index, have one form, pass the oracle
-- rule alike and are answered alike by Evaluate; and so all conditions of one form (`judged-alike`).
use mathlib.Core.Option.{Option, none, some}
use mathlib.Core.Path.{◌≡◌, refl, sym, ap, ap₂, ◌∙◌}
use mathlib.Core.List.{[], ◌∷◌, ◌++◌}
use lib.ListN.{length}
use lib.Dec.{leb}
use Rattle.semantics.specs.Operations.{bin_row, un_row}
use Rattle.semantics.specs.Check.{judged, passed_unless}
use Rattle.semantics.specs.Evaluate.{Lent, evaluated_by, evaluated_tree}
use Rattle.semantics.specs.Code.{max_tokens}
use Rattle.semantics.specs.Evaluation.{Env, Terminals, binary_step, eval, eval_arith, index, unary_step}
use Rattle.semantics.specs.Oracle.{oracle_rule, oracles, rule, terminals}
use Rattle.semantics.specs.FromTokens.{lookup_expr}
use Rattle.semantics.specs.Refusals.{Refusal, first_of, unless}
use Rattle.semantics.specs.Token.{expr_form, form, idx_form}
use Rattle.semantics.specs.Trees.{BinOp, AmountList, UnOp, Arith, Expr, IdxExpr}

-- one condition for each token form
unfoldable pub canon_expr : Expr → Expr
canon_expr (Expr.Const n) = Expr.Const n
canon_expr Expr.CurrInputIdx = Expr.CurrInputIdx
canon_expr (Expr.Lookup l i) = lookup_expr l i
canon_expr (Expr.Binary o x y) = Expr.Binary o (canon_expr x) (canon_expr y)
canon_expr (Expr.Unary o x) = Expr.Unary o (canon_expr x)
canon_expr (Expr.PriceOracle1 key time) = Expr.PriceOracle1 key time
canon_expr (Expr.PriceOracle1W key time) = Expr.PriceOracle1W key time

unfoldable pub canon : Arith → Arith
canon (Arith.Compare o x y) = Arith.Compare o (canon_expr x) (canon_expr y)

-- whatever is computed from the operands' values, and alike for the twins, is the same for an expression and its canonical one
module _ {A : Type 0} (f : Expr → A) (twin : f Expr.CurrInputIdx ≡ f (Expr.Lookup AmountList.Input IdxExpr.CurrIdx)) where
  pub lookup_alike : (l : AmountList) (i : IdxExpr) → f (lookup_expr l i) ≡ f (Expr.Lookup l i)
  lookup_alike AmountList.Input (IdxExpr.Const n) = refl
  lookup_alike AmountList.Input IdxExpr.CurrIdx = twin
  lookup_alike AmountList.Input (IdxExpr.Op o x y) = refl
  lookup_alike AmountList.Output i = refl
  lookup_alike AmountList.InputIssue i = refl
  lookup_alike AmountList.InputReIssue i = refl

  module _ (bin : BinOp → A → A → A) (at-bin : (o : BinOp) (x y : Expr) → f (Expr.Binary o x y) ≡ bin o (f x) (f y))
      (un : UnOp → A → A) (at-un : (o : UnOp) (x : Expr) → f (Expr.Unary o x) ≡ un o (f x)) where
    pub canon-alike : (e : Expr) → f (canon_expr e) ≡ f e
    unfolding canon_expr
    canon-alike (Expr.Const n) = refl
    canon-alike Expr.CurrInputIdx = refl
    canon-alike (Expr.Lookup l i) = lookup_alike l i
    canon-alike (Expr.Binary o x y) = at-bin o (canon_expr x) (canon_expr y) ∙ ap₂ (bin o) (canon-alike x) (canon-alike y) ∙ sym (at-bin o x y)
    canon-alike (Expr.Unary o x) = at-un o (canon_expr x) ∙ ap (un o) (canon-alike x) ∙ sym (at-un o x)
    canon-alike (Expr.PriceOracle1 key time) = refl
    canon-alike (Expr.PriceOracle1W key time) = refl

terminals-canon : (e : Expr) → terminals (canon_expr e) ≡ terminals e
unfolding terminals
terminals-canon = canon-alike terminals refl (λ o. ◌++◌) (λ o x y. refl) (λ o ts. ts) (λ o x. refl)

pub oracle_rule-canon : (c : Arith) → oracle_rule (canon c) ≡ oracle_rule c
unfolding oracle_rule canon
oracle_rule-canon (Arith.Compare o x y) = ap₂ rule (terminals-canon x) (terminals-canon y)

pub oracles-canon : (c : Arith) → oracles (canon c) ≡ oracles c
unfolding oracles canon
oracles-canon (Arith.Compare o x y) = rw (terminals-canon x, terminals-canon y)

expr_form-canon : (e : Expr) → expr_form (canon_expr e) ≡ expr_form e
unfolding expr_form idx_form
expr_form-canon = canon-alike expr_form refl (λ o x y. x ++ y ++ (bin_row o).form) (λ o x y. refl) (λ o x. x ++ (un_row o).form) (λ o x. refl)

pub form-canon : (c : Arith) → form (canon c) ≡ form c
unfolding form canon
form-canon (Arith.Compare o x y) = rw (expr_form-canon x, expr_form-canon y)

module _ {S : Type 0} (t : Terminals S) (env : Env) where
  eval-canon : (e : Expr) → eval t env (canon_expr e) ≡ eval t env e
  unfolding eval index
  eval-canon = canon-alike (eval t env) refl binary_step (λ o x y. refl) unary_step (λ o x. refl)

  pub eval_arith-canon : (c : Arith) (st : S) → eval_arith t env (canon c) st ≡ eval_arith t env c st
  unfolding eval_arith canon
  eval_arith-canon (Arith.Compare o x y) st = rw (eval-canon x, eval-canon y)

pub evaluated_tree-canon : (c : Arith) (l : Lent) → evaluated_tree (canon c) l ≡ evaluated_tree c l
unfolding evaluated_tree
evaluated_tree-canon c l = rw (oracles-canon, eval_arith-canon)

-- and, once checked, all conditions of one form
pub judged-alike : (c d : Arith) → form c ≡ form d → canon c ≡ canon d → (l : Lent) → evaluated_by (judged c) l ≡ evaluated_by (judged d) l
unfolding judged
judged-alike c d e h l =
    let rule = sym (oracle_rule-canon c) ∙ ap oracle_rule h ∙ oracle_rule-canon d in
    let tree = sym (evaluated_tree-canon c l) ∙ ap (λ (t : Arith). evaluated_tree t l) h ∙ evaluated_tree-canon d l in
    rw (e, rule) (go (first_of (unless (leb (length (form d)) max_tokens) Refusal.TooManyTokens ∷ oracle_rule d ∷ [])) tree)
  where
    go : (r : Option Refusal) → evaluated_tree c l ≡ evaluated_tree d l → evaluated_by (passed_unless r c) l ≡ evaluated_by (passed_unless r d) l
    go none t = t
    go (some r) t = refl
