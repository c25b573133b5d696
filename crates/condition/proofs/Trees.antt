-- The summary of the trees that wait is the summary of the walk, so the walk refuses as `parse` does and tells of the code what its tree tells.
use Prim.Native.Nat.{ℕ, suc, ◌+◌}
use mathlib.Core.Path.{◌≡◌, refl, sym, ap, ◌∙◌}
use mathlib.Core.Bool.{Bool, true, false, cond, ◌&&◌}
use mathlib.Core.List.{List, [], ◌∷◌, ◌++◌, append_assoc, append-nil}
use native.Mathlib.Nat.{add-zero}
use native.Mathlib.Omega.{arith}
use borrow.Author.Tests.{eqb-true}
use lib.Dec.{eqb}
use lib.ListN.{length, length-append}
use Rattle.semantics.specs.declared.CmpOp.{CmpOp}
use Rattle.semantics.specs.declared.Command.{Command}
use Rattle.semantics.specs.declared.Terminal.{Terminal}
use Rattle.semantics.specs.Code.{command_row, need_met, token_count}
use Rattle.semantics.specs.Oracle.{terminals}
use Rattle.semantics.specs.Parse.{Waiting, Walk, built, fold, instructions, lengths, nothing, passes, tree_step, walk_step}
use Rattle.semantics.specs.Token.{expr_form, form, idx_form}
use Rattle.semantics.specs.Trees.{Arith, Expr, IdxExpr}
use Rattle.summary.proofs.Counts.{lengths-built}
use Rattle.semantics.proofs.Machine.{fold-map}
use Rattle.semantics.proofs.ParseCode.{waiting}
use Rattle.semantics.proofs.Tests.{and_true}
use Rattle.summary.specs.declared.Rule.{Rule}
use Rattle.summary.specs.declared.Summary.{Summary}
use Rattle.condition.specs.Walk.{counted, ended, next, fold_terminals, ruled, summary_step, walked}

-- the tokens and the terminals of the trees that wait
expr_tokens : List Expr → ℕ
expr_tokens [] = 0
expr_tokens (x ∷ vs) = expr_tokens vs + length (expr_form x)

idx_tokens : List IdxExpr → ℕ
idx_tokens [] = 0
idx_tokens (x ∷ is) = idx_tokens is + length (idx_form x)

tokens_in : List Arith → List Expr → List IdxExpr → ℕ
tokens_in [] vs is = expr_tokens vs + idx_tokens is
tokens_in (a ∷ ds) vs is = length (form a)

value_terminals : List Expr → List Terminal
value_terminals [] = []
value_terminals (x ∷ vs) = value_terminals vs ++ terminals x

terminals_in : List Arith → List Expr → List Terminal
terminals_in [] vs = value_terminals vs
terminals_in (Arith.Compare o x y ∷ ds) vs = terminals x ++ terminals y

-- what a summary keeps that the trees do not tell
pub record Beside : Type 0 where
  pub bytes : ℕ
  pub lookups : ℕ
  pub most : ℕ

unfoldable pub summary : Waiting → Beside → Summary
unfolding expr_tokens idx_tokens tokens_in value_terminals terminals_in
summary w b =
    record {
      bytes = b.bytes;
      values = length w.values;
      indexes = length w.indexes;
      conditions = length w.conditions;
      tokens = tokens_in w.conditions w.values w.indexes;
      oracles = fold_terminals counted 0 (terminals_in w.conditions w.values);
      rule = fold_terminals ruled Rule.Unseen (terminals_in w.conditions w.values);
      lookups = b.lookups;
      most = b.most;
    }

beside : Summary → Beside
beside s = record { bytes = s.bytes; lookups = s.lookups; most = s.most }

-- a command whose need is met adds its tokens and its terminals
tokens-built : (c : Command) (n : List ℕ) (vs : List Expr) (is : List IdxExpr) → need_met (command_row c) (length vs) (length is) ≡ true
    → let w = built c n (waiting vs is) in tokens_in w.conditions w.values w.indexes ≡ expr_tokens vs + idx_tokens is + token_count (command_row c)
unfolding expr_tokens idx_tokens tokens_in expr_form idx_form form
tokens-built Command.Unknown n vs is e = sym (add-zero (expr_tokens vs + idx_tokens is))
tokens-built Command.IdxConst n vs is e = omega arith
tokens-built Command.CurrIdx n vs is e = omega arith
tokens-built (Command.Index o) n vs [] e = cc
tokens-built (Command.Index o) n vs (y ∷ []) e = cc
tokens-built (Command.Index o) n vs (y ∷ x ∷ is) e = simp length-append (omega arith)
tokens-built Command.Const n vs is e = omega arith
tokens-built Command.CurrInputIdx n vs is e = omega arith
tokens-built (Command.Lookup l) n vs [] e = cc
tokens-built (Command.Lookup l) n vs (x ∷ []) e = simp length-append (omega arith)
tokens-built (Command.Lookup l) n vs (x ∷ y ∷ is) e = absurd (omega (arith, eqb-true (suc (suc (length is))) 1 e))
tokens-built (Command.Binary o) n [] is e = cc
tokens-built (Command.Binary o) n (y ∷ []) is e = cc
tokens-built (Command.Binary o) n (y ∷ x ∷ vs) is e = simp length-append (omega arith)
tokens-built (Command.Unary o) n [] is e = cc
tokens-built (Command.Unary o) n (x ∷ vs) is e = simp length-append (omega arith)
tokens-built Command.PriceOracle1 n vs is e = omega arith
tokens-built Command.PriceOracle1W n vs is e = omega arith
tokens-built (Command.Compare o) n [] is e = cc
tokens-built (Command.Compare o) n (y ∷ []) is e = cc
tokens-built (Command.Compare o) n (y ∷ x ∷ []) [] e = simp length-append (omega arith)
tokens-built (Command.Compare o) n (y ∷ x ∷ []) (i ∷ is) e = absurd (omega (arith, eqb-true (suc (length is)) 0 e))
tokens-built (Command.Compare o) n (y ∷ x ∷ z ∷ vs) is e =
    absurd (omega (arith, eqb-true (suc (suc (suc (length vs)))) 2 (and_true (eqb (suc (suc (suc (length vs)))) 2) (eqb (length is) 0) e).0))

terminals-built : (c : Command) (n : List ℕ) (vs : List Expr) (is : List IdxExpr) → need_met (command_row c) (length vs) (length is) ≡ true
    → let w = built c n (waiting vs is) in terminals_in w.conditions w.values ≡ value_terminals vs ++ (command_row c).terminals
unfolding value_terminals terminals_in terminals
terminals-built Command.Unknown n vs is e = sym (append-nil (value_terminals vs))
terminals-built Command.IdxConst n vs is e = sym (append-nil (value_terminals vs))
terminals-built Command.CurrIdx n vs is e = sym (append-nil (value_terminals vs))
terminals-built (Command.Index o) n vs is e = sym (append-nil (value_terminals vs))
terminals-built Command.Const n vs is e = refl
terminals-built Command.CurrInputIdx n vs is e = refl
terminals-built (Command.Lookup l) n vs is e = refl
terminals-built (Command.Binary o) n [] is e = cc
terminals-built (Command.Binary o) n (y ∷ []) is e = cc
terminals-built (Command.Binary o) n (y ∷ x ∷ vs) is e =
    cc (append_assoc (value_terminals vs) (terminals x) (terminals y), append-nil (value_terminals vs ++ terminals x ++ terminals y))
terminals-built (Command.Unary o) n [] is e = cc
terminals-built (Command.Unary o) n (x ∷ vs) is e = sym (append-nil (value_terminals vs ++ terminals x))
terminals-built Command.PriceOracle1 n vs is e = refl
terminals-built Command.PriceOracle1W n vs is e = refl
terminals-built (Command.Compare o) n [] is e = cc
terminals-built (Command.Compare o) n (y ∷ []) is e = cc
terminals-built (Command.Compare o) n (y ∷ x ∷ []) is e = sym (append-nil (terminals x ++ terminals y))
terminals-built (Command.Compare o) n (y ∷ x ∷ z ∷ vs) is e =
    absurd (omega (arith, eqb-true (suc (suc (suc (length vs)))) 2 (and_true (eqb (suc (suc (suc (length vs)))) 2) (eqb (length is) 0) e).0))

fold_terminals-append : {A : Type 0} (step : A → Terminal → A) (a : A) (xs ys : List Terminal) → fold_terminals step a (xs ++ ys) ≡ fold_terminals step (fold_terminals step a xs) ys
fold_terminals-append step a [] ys = refl
fold_terminals-append step a (x ∷ xs) ys = fold_terminals-append step (step a x) xs ys

-- so it makes of the summary what `next` says
module _ (c : Command) (n : List ℕ) (vs : List Expr) (is : List IdxExpr) (met : need_met (command_row c) (length vs) (length is) ≡ true) where
  abbrev new : Waiting
  new = built c n (waiting vs is)

  fold_terminals-built : {A : Type 0} (step : A → Terminal → A) (a : A)
      → fold_terminals step a (terminals_in new.conditions new.values) ≡ fold_terminals step (fold_terminals step a (value_terminals vs)) (command_row c).terminals
  fold_terminals-built step a = ap (fold_terminals step a) (terminals-built c n vs is met) ∙ fold_terminals-append step a (value_terminals vs) (command_row c).terminals

  summary-built : (b : Beside) → summary new (beside (next c (summary (waiting vs is) b))) ≡ next c (summary (waiting vs is) b)
  unfolding summary beside
  summary-built b =
      let l = lengths-built c n (waiting vs is) in
      let t = tokens-built c n vs is met in
      let o = fold_terminals-built counted 0 in
      let u = fold_terminals-built ruled Rule.Unseen in
      let s = next c (summary (waiting vs is) b) in
      λ k. record {
        bytes = s.bytes;
        values = (l k).values;
        indexes = (l k).indexes;
        conditions = (l k).conditions;
        tokens = t k;
        oracles = o k;
        rule = u k;
        lookups = s.lookups;
        most = s.most;
      }

-- where a comparison was met, no command passes
passes-built : (ds : List Arith) (vs : List Expr) (is : List IdxExpr) (b : Beside) (c : Command) (n : List ℕ)
    → let w : Waiting = record { values = vs; indexes = is; conditions = ds } in
    passes c n (lengths w) ≡ true → summary (built c n w) (beside (next c (summary w b))) ≡ next c (summary w b)
passes-built [] vs is b c n e =
    summary-built c n vs is (and_true (eqb (length n) (command_row c).width) (need_met (command_row c) (length vs) (length is)) e).1 b
passes-built (d ∷ ds) vs is b c n e =
    let p = and_true (eqb (suc (length ds)) 0) (eqb (length n) (command_row c).width && need_met (command_row c) (length vs) (length is)) e in
    absurd (omega (arith, eqb-true (suc (length ds)) 0 p.0))

-- the walk with trees and what they do not tell, as the one with trees and as the one with summaries
pub record Both : Type 0 where
  pub trees : Waiting
  pub besides : Beside

both_step : Walk Both → Command → List ℕ → Walk Both
both_step = walk_step (λ b. lengths b.trees)
    (λ c n b. record { trees = built c n b.trees; besides = beside (next c (summary b.trees b.besides)) })

abbrev pub forgot : Walk Both → Walk Waiting
forgot (Walk.going at b) = Walk.going at b.trees
forgot (Walk.refused at) = Walk.refused at

abbrev pub summarised : Walk Both → Walk Summary
summarised (Walk.going at b) = Walk.going at (summary b.trees b.besides)
summarised (Walk.refused at) = Walk.refused at

forgot-step : (g : Walk Both) (c : Command) (n : List ℕ) → forgot (both_step g c n) ≡ tree_step (forgot g) c n
unfolding both_step
forgot-step (Walk.going at b) c n = go (passes c n (lengths b.trees))
  where
    go : (t : Bool)
        → forgot (cond t (Walk.going (at + suc (length n)) (record { trees = built c n b.trees; besides = beside (next c (summary b.trees b.besides)) })) (Walk.refused at))
        ≡ cond t (Walk.going (at + suc (length n)) (built c n b.trees)) (Walk.refused at)
    go true = refl
    go false = refl
forgot-step (Walk.refused at) c n = refl

summarised-step : (g : Walk Both) (c : Command) (n : List ℕ) → summarised (both_step g c n) ≡ summary_step (summarised g) c n
unfolding both_step summary
summarised-step (Walk.going at b) c n = go (passes c n (lengths b.trees)) refl
  where
    go : (t : Bool) → passes c n (lengths b.trees) ≡ t
        → summarised (cond t (Walk.going (at + suc (length n)) (record { trees = built c n b.trees; besides = beside (next c (summary b.trees b.besides)) })) (Walk.refused at))
        ≡ cond t (Walk.going (at + suc (length n)) (next c (summary b.trees b.besides))) (Walk.refused at)
    go true e = ap (Walk.going (at + suc (length n))) (passes-built b.trees.conditions b.trees.values b.trees.indexes b.besides c n e)
    go false e = refl
summarised-step (Walk.refused at) c n = refl

-- they go side by side
pub record Sides (c : List ℕ) : Type 0 where
  pub both : Walk Both
  pub trees_are : fold tree_step (Walk.going 0 nothing) (instructions c) ≡ forgot both
  pub summary_is : walked c ≡ ended (summarised both)

pub sides : (c : List ℕ) → Sides c
unfolding walked summary
sides c =
    let none : Walk Both = Walk.going 0 (record { trees = nothing; besides = record { bytes = 0; lookups = 0; most = 0 } }) in
    record {
      both = fold both_step none (instructions c);
      trees_are = sym (fold-map both_step tree_step forgot forgot-step (instructions c) none);
      summary_is = ap ended (sym (fold-map both_step summary_step summarised summarised-step (instructions c) none));
    }

-- the summary of a condition
pub summary-tokens : (a : Arith) (ds : List Arith) (vs : List Expr) (is : List IdxExpr) (b : Beside)
    → (summary (record { values = vs; indexes = is; conditions = a ∷ ds }) b).tokens ≡ length (form a)
unfolding summary
summary-tokens a ds vs is b = refl

module _ (o : CmpOp) (x y : Expr) (ds : List Arith) (vs : List Expr) (is : List IdxExpr) (b : Beside) where
  pub summary-oracles : (summary (record { values = vs; indexes = is; conditions = Arith.Compare o x y ∷ ds }) b).oracles ≡ fold_terminals counted 0 (terminals x ++ terminals y)
  unfolding summary
  summary-oracles = refl

  pub summary-rule : (summary (record { values = vs; indexes = is; conditions = Arith.Compare o x y ∷ ds }) b).rule ≡ fold_terminals ruled Rule.Unseen (terminals x ++ terminals y)
  unfolding summary
  summary-rule = refl
