-- Evaluation as one pass over the commands gives what the tree gives: `run_code`. `fold_takes` and `fold-ends` of Machine.antt take a loop through it.
use Rattle.std.proofs.Common.{Option, Some, None, Result, Ok, Err}
use Prim.Native.Nat.{ℕ}
use mathlib.Core.Bool.{Bool}
use mathlib.Core.Path.{◌≡◌, refl, sym, ap, ◌∙◌}
use mathlib.Core.List.{List, [], ◌∷◌}
use lib.Seq.{take_at, drop_at}
use lib.IntN.{ℤ}
use Rattle.slices.specs.Bytes.{little_endian}
use Rattle.slices.proofs.Bytes.{value_of-bytes}
use Rattle.semantics.specs.Operations.{bin_row, cmp_row, idx_row, un_row}
use Rattle.semantics.specs.declared.AmountList.{AmountList}
use Rattle.semantics.specs.declared.Command.{Command}
use Rattle.semantics.specs.Code.{code}
use Rattle.semantics.specs.Evaluation.{Env, Outcome, Terminals, amount, amounts, err, eval, eval_arith, index, looked_up, ok, onward, option_then, outcome}
use Rattle.semantics.specs.Parse.{fold, instructions}
use Rattle.semantics.specs.declared.Refusal.{Refusal}
use Rattle.stacks.specs.Run.{Move, Run, after_look, fetched, look_at, moved, on_index, on_value, push_value, run_step}
use Rattle.semantics.specs.Trees.{Arith, Expr, IdxExpr}
use Rattle.semantics.proofs.Encodable.{Encodable, ExprEncodable, IdxEncodable}
use Rattle.semantics.proofs.Machine.{fold-code, on_arith, on_expr, on_idx}

-- whatever the state, and whatever the terminals do with it
module _ {S : Type 0} (t : Terminals S) (env : Env) where
  abbrev step : Run S → Command → List ℕ → Run S
  step = run_step t env

  -- what stopped stays so
  idx_stays : (x : IdxExpr) (o : Outcome S Bool) → on_idx step x (Run.stopped o) ≡ Run.stopped o
  idx_stays (IdxExpr.Const n) o = refl
  idx_stays IdxExpr.CurrIdx o = refl
  idx_stays (IdxExpr.Op p x y) o = rw (idx_stays x o, idx_stays y o)

  expr_stays : (x : Expr) (o : Outcome S Bool) → on_expr step x (Run.stopped o) ≡ Run.stopped o
  expr_stays (Expr.Const bits) o = refl
  expr_stays Expr.CurrInputIdx o = refl
  expr_stays (Expr.Lookup l i) o = rw (idx_stays i o)
  expr_stays (Expr.Binary p x y) o = rw (expr_stays x o, expr_stays y o)
  expr_stays (Expr.Unary p x) o = rw (expr_stays x o)
  expr_stays (Expr.PriceOracle1 key time) o = refl
  expr_stays (Expr.PriceOracle1W key time) o = refl

  abbrev push_index : List ℤ → List ℤ → S → Option ℤ → Run S
  push_index vs is st i = moved t env st (on_index vs is i)

  -- a part g that stays stopped, after an operand was pushed
  module _ (g : Run S → Run S) (stays : (o : Outcome S Bool) → g (Run.stopped o) ≡ Run.stopped o) where
    -- `put` is where its own outcome goes
    after-value : {B : Type 0} (put : Outcome S B → Run S) → ((r : Refusal) (st : S) → put (err r st) ≡ Run.stopped (err r st))
        → (k : ℤ → S → Outcome S B) (ws is : List ℤ) → ((z : ℤ) (st : S) → g (Run.going (z ∷ ws) is st) ≡ put (k z st))
        → (o : Outcome S ℤ) → g (push_value ws is o) ≡ put (onward o k)
    after-value put stops k ws is h (ok z st) = h z st
    after-value put stops k ws is h (err r st) = stays (err r st) ∙ sym (stops r st)

    -- `put` is where its own index goes
    after-index : (put : Option ℤ → Run S) (st : S) → put None ≡ Run.stopped (err Refusal.IndexStep st)
        → (k : ℤ → Option ℤ) (vs js : List ℤ) → ((z : ℤ) → g (Run.going vs (z ∷ js) st) ≡ put (k z))
        → (i : Option ℤ) → g (push_index vs js st i) ≡ put (option_then i k)
    after-index put st stops k vs js h (Some z) = h z
    after-index put st stops k vs js h None = stays (err Refusal.IndexStep st) ∙ sym stops

  idx_runs : (x : IdxExpr) → IdxEncodable x → (vs is : List ℤ) (st : S)
      → on_idx step x (Run.going vs is st) ≡ push_index vs is st (index env.current x)
  unfolding index
  idx_runs (IdxExpr.Const n) w vs is st = rw (value_of-bytes 8 n w)
  idx_runs IdxExpr.CurrIdx w vs is st = refl
  idx_runs (IdxExpr.Op o x y) w vs is st =
      let result = (idx_row o).result in
      let iy = index env.current y in
      let here : Run S → Run S = λ r. step r (Command.Index o) [] in
      let right : Run S → Run S = λ r. here (on_idx step y r) in
      ap right (idx_runs x w.0 vs is st)
      ∙ after-index right (λ r. ap here (idx_stays y r)) (push_index vs is st) st refl (λ m. option_then iy (λ n. result m n)) vs is
      (λ m. ap here (idx_runs y w.1 vs (m ∷ is) st)
      ∙ after-index here (λ r. refl) (push_index vs is st) st refl (λ n. result m n) vs (m ∷ is) (λ n. refl) iy)
      (index env.current x)

  -- a value is pushed, or its refusal ends the run; a lookup is pushed, or 41 ends it
  pub value-moved : (vs is : List ℤ) (st : S) (v : Result ℤ Refusal) → moved t env st (on_value vs is v) ≡ push_value vs is (outcome v st)
  value-moved vs is st (Ok z) = refl
  value-moved vs is st (Err r) = refl

  pub fetched-moved : (m : Move) (st : S) → moved t env (after_look t env m st) (fetched env m) ≡ moved t env st m
  fetched-moved (Move.on vs is) st = refl
  fetched-moved (Move.look l i vs is) st = value-moved vs is (t.read (amounts env l) l i st) (amount (amounts env l) l i)
  fetched-moved (Move.ask key time vs is) st = refl
  fetched-moved (Move.ended v) st = refl

  look_moved : (l : AmountList) (vs is : List ℤ) (st : S) (i : Option ℤ) → moved t env st (look_at l vs is i) ≡ push_value vs is (looked_up t env l i st)
  look_moved l vs is st (Some z) = refl
  look_moved l vs is st None = refl

  looked_up_lem : (l : AmountList) (vs is : List ℤ) (st : S) (i : Option ℤ)
      → step (push_index vs is st i) (Command.Lookup l) [] ≡ push_value vs is (looked_up t env l i st)
  looked_up_lem l vs is st (Some z) = refl
  looked_up_lem l vs is st None = refl

  expr_runs : (x : Expr) → ExprEncodable x → (vs is : List ℤ) (st : S)
      → on_expr step x (Run.going vs is st) ≡ push_value vs is (eval t env x st)
  unfolding eval index
  expr_runs (Expr.Const bits) w vs is st = rw (value_of-bytes 8 bits w)
  expr_runs Expr.CurrInputIdx w vs is st = look_moved AmountList.Input vs is st (index env.current IdxExpr.CurrIdx)
  expr_runs (Expr.Lookup l i) w vs is st =
      ap (λ (r : Run S). step r (Command.Lookup l) []) (idx_runs i w vs is st) ∙ looked_up_lem l vs is st (index env.current i)
  expr_runs (Expr.Binary o x y) w vs is st =
      let here : Run S → Run S = λ r. step r (Command.Binary o) [] in
      let right : Run S → Run S = λ r. here (on_expr step y r) in
      let result : ℤ → ℤ → S → Outcome S ℤ = λ a b. outcome ((bin_row o).result a b) in
      ap right (expr_runs x w.0 vs is st)
      ∙ after-value right (λ r. ap here (expr_stays y r)) (push_value vs is) (λ r st. refl) (λ a st₁. onward (eval t env y st₁) (result a)) vs is
      (λ a st₁. ap here (expr_runs y w.1 (a ∷ vs) is st₁)
      ∙ after-value here (λ r. refl) (push_value vs is) (λ r st. refl) (result a) (a ∷ vs) is (λ b st₂. value-moved vs is st₂ ((bin_row o).result a b)) (eval t env y st₁))
      (eval t env x st)
  expr_runs (Expr.Unary o x) w vs is st =
      let here : Run S → Run S = λ r. step r (Command.Unary o) [] in
      ap here (expr_runs x w vs is st)
      ∙ after-value here (λ r. refl) (push_value vs is) (λ r st. refl) (λ a. outcome ((un_row o).result a)) vs is (λ a st₁. value-moved vs is st₁ ((un_row o).result a)) (eval t env x st)
  expr_runs (Expr.PriceOracle1 key time) w vs is st =
      rw (take_at key (little_endian 8 time) 32 w.0, drop_at key (little_endian 8 time) 32 w.0, value_of-bytes 8 time w.2)
  expr_runs (Expr.PriceOracle1W key time) w vs is st =
      rw (take_at key (little_endian 8 time) 32 w.0, drop_at key (little_endian 8 time) 32 w.0, value_of-bytes 8 time w.2)

  arith_runs : (a : Arith) → Encodable a → (st : S) → on_arith step a (Run.going [] [] st) ≡ Run.stopped (eval_arith t env a st)
  unfolding eval_arith
  arith_runs (Arith.Compare o x y) w st =
      let here : Run S → Run S = λ r. step r (Command.Compare o) [] in
      let right : Run S → Run S = λ r. here (on_expr step y r) in
      let result : ℤ → ℤ → S → Outcome S Bool = λ a b. ok ((cmp_row o).result a b) in
      ap right (expr_runs x w.0 [] [] st)
      ∙ after-value right (λ r. ap here (expr_stays y r)) Run.stopped (λ r st. refl) (λ a st₁. onward (eval t env y st₁) (result a)) [] []
      (λ a st₁. ap here (expr_runs y w.1 (a ∷ []) [] st₁)
      ∙ after-value here (λ r. refl) Run.stopped (λ r st. refl) (result a) (a ∷ []) [] (λ b st₂. refl) (eval t env y st₁))
      (eval t env x st)

  -- a pass over the code gives what the tree gives
  pub run_code : (a : Arith) → Encodable a → (st : S) → fold (run_step t env) (Run.going [] [] st) (instructions (code a)) ≡ Run.stopped (eval_arith t env a st)
  run_code a w st = fold-code step a w (Run.going [] [] st) ∙ arith_runs a w st
