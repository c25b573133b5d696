-- A step for each command, on the code of a tree, is the step on the tree; and one turn of a loop over code is one step.
use Prim.Native.Nat.{ℕ, suc, ◌+◌, ◌≤◌, ◌<◌}
use mathlib.Core.Path.{◌≡◌, refl, sym, ap, ◌∙◌}
use mathlib.Core.List.{List, [], ◌∷◌, ◌++◌, append_assoc}
use native.Mathlib.Omega.{arith}
use lib.ListN.{length, length-append, get_or, drop, drop_of_length-le, take}
use lib.Seq.{drop-cons, drop-drop, take-take}
use Rattle.slices.specs.Bytes.{little_endian}
use Rattle.slices.proofs.Bytes.{drop-take, length-little_endian}
use Rattle.semantics.specs.Operations.{bin_row, cmp_row, idx_row, list_row, un_row}
use Rattle.semantics.specs.Code.{Command, code, command_of, command_row, expr_code, idx_code}
use Rattle.semantics.specs.Parse.{Counts, Instruction, Walk, after, command_at, fold, instructions, operands_at, walk_step, width}
use Rattle.semantics.specs.Trees.{Arith, Expr, IdxExpr}
use Rattle.semantics.proofs.Instructions.{binary_command, compare_command, idx_command, instructions-cons, instructions_whole, list_command, unary_command}
use Rattle.semantics.proofs.Encodable.{Encodable, ExprEncodable}

-- the steps on a tree: each is told the command and its operand bytes
module _ {S : Type 0} (step : S → Command → List ℕ → S) where
  abbrev pub on_idx : IdxExpr → S → S
  on_idx (IdxExpr.Const n) s = step s Command.IdxConst (little_endian 8 n)
  on_idx IdxExpr.CurrIdx s = step s Command.CurrIdx []
  on_idx (IdxExpr.Op o x y) s = step (on_idx y (on_idx x s)) (Command.Index o) []

  abbrev pub on_expr : Expr → S → S
  on_expr (Expr.Const bits) s = step s Command.Const (little_endian 8 bits)
  on_expr Expr.CurrInputIdx s = step s Command.CurrInputIdx []
  on_expr (Expr.Lookup l i) s = step (on_idx i s) (Command.Lookup l) []
  on_expr (Expr.Binary o x y) s = step (on_expr y (on_expr x s)) (Command.Binary o) []
  on_expr (Expr.Unary o x) s = step (on_expr x s) (Command.Unary o) []
  on_expr (Expr.PriceOracle1 key time) s = step s Command.PriceOracle1 (key ++ little_endian 8 time)
  on_expr (Expr.PriceOracle1W key time) s = step s Command.PriceOracle1W (key ++ little_endian 8 time)

  abbrev pub on_arith : Arith → S → S
  on_arith (Arith.Compare o x y) s = step (on_expr y (on_expr x s)) (Command.Compare o) []

pub oracle-length : (key : List ℕ) (time : ℕ) → length key ≡ 32 → length (key ++ little_endian 8 time) ≡ 40
oracle-length key time h = rw (length-append, h, length-little_endian 8 time)

-- the operand bytes of an oracle terminal that stand at `at`: the key, and after it the time
pub key_at_lem : (code : List ℕ) (at : ℕ) → take 32 (take 40 (drop at code)) ≡ take 32 (drop at code)
key_at_lem code at = take-take 32 40 (drop at code) (omega arith)

pub time_at_lem : (code : List ℕ) (at : ℕ) → drop 32 (take 40 (drop at code)) ≡ take 8 (drop (at + 32) code)
time_at_lem code at = drop-take 32 8 (drop at code) ∙ ap (take 8) (drop-drop 32 at code)

pub instructions_at : (c : List ℕ) (at : ℕ) → at < length c
    → instructions (drop at c) ≡ record { byte = get_or c at 0; operands = operands_at c at } ∷ instructions (drop (after c at) c)
instructions_at c at h =
    let e : suc at + width (get_or c at 0) ≡ after c at = omega arith in
    rw (drop-cons c at 0 h, instructions-cons (get_or c at 0) (drop (suc at) c), drop-drop (width (get_or c at 0)) (suc at) c, e)

module _ {S : Type 0} (step : S → Command → List ℕ → S) where
  pub fold_takes : (c : List ℕ) (at : ℕ) → at < length c → (s : S)
      → fold step s (instructions (drop at c)) ≡ fold step (step s (command_at c at) (operands_at c at)) (instructions (drop (after c at) c))
  fold_takes c at h s = rw (instructions_at c at h)

  pub fold-ends : (c : List ℕ) (at : ℕ) → length c ≤ at → (s : S) → fold step s (instructions (drop at c)) ≡ s
  unfolding instructions
  fold-ends c at h s = rw (drop_of_length-le c h)

  -- one command whose operands are all there
  fold_whole : (b : ℕ) (c : Command) (n rest : List ℕ) → command_of b ≡ c → length n ≡ (command_row c).width
      → (s : S) → fold step s (instructions (b ∷ n ++ rest)) ≡ fold step (step s c n) (instructions rest)
  fold_whole b c n rest e w s = rw (instructions_whole b n rest (w ∙ sym (ap (λ d. (command_row d).width) e)), ← e)

  fold_idx : (x : IdxExpr) (rest : List ℕ) (s : S) → fold step s (instructions (idx_code x ++ rest)) ≡ fold step (on_idx step x s) (instructions rest)
  unfolding idx_code command_of
  fold_idx (IdxExpr.Const n) rest s = fold_whole 1 Command.IdxConst (little_endian 8 n) rest refl (length-little_endian 8 n) s
  fold_idx IdxExpr.CurrIdx rest s = fold_whole 2 Command.CurrIdx [] rest refl refl s
  fold_idx (IdxExpr.Op o x y) rest s =
      simp append_assoc
      (fold_idx x (idx_code y ++ (idx_row o).command ∷ rest) s
      ∙ fold_idx y ((idx_row o).command ∷ rest) (on_idx step x s)
      ∙ fold_whole (idx_row o).command (Command.Index o) [] rest (idx_command o) refl (on_idx step y (on_idx step x s)))

  fold_expr : (x : Expr) → ExprEncodable x → (rest : List ℕ) (s : S)
      → fold step s (instructions (expr_code x ++ rest)) ≡ fold step (on_expr step x s) (instructions rest)
  unfolding expr_code command_of
  fold_expr (Expr.Const bits) k rest s = fold_whole 16 Command.Const (little_endian 8 bits) rest refl (length-little_endian 8 bits) s
  fold_expr Expr.CurrInputIdx k rest s = fold_whole 17 Command.CurrInputIdx [] rest refl refl s
  fold_expr (Expr.Lookup l i) k rest s =
      simp append_assoc
      (fold_idx i ((list_row l).command ∷ rest) s ∙ fold_whole (list_row l).command (Command.Lookup l) [] rest (list_command l) refl (on_idx step i s))
  fold_expr (Expr.Binary o x y) k rest s =
      simp append_assoc
      (fold_expr x k.0 (expr_code y ++ (bin_row o).command ∷ rest) s
      ∙ fold_expr y k.1 ((bin_row o).command ∷ rest) (on_expr step x s)
      ∙ fold_whole (bin_row o).command (Command.Binary o) [] rest (binary_command o) refl (on_expr step y (on_expr step x s)))
  fold_expr (Expr.Unary o x) k rest s =
      simp append_assoc
      (fold_expr x k ((un_row o).command ∷ rest) s ∙ fold_whole (un_row o).command (Command.Unary o) [] rest (unary_command o) refl (on_expr step x s))
  fold_expr (Expr.PriceOracle1 key time) k rest s =
      fold_whole 32 Command.PriceOracle1 (key ++ little_endian 8 time) rest refl (oracle-length key time k.0) s
  fold_expr (Expr.PriceOracle1W key time) k rest s =
      fold_whole 33 Command.PriceOracle1W (key ++ little_endian 8 time) rest refl (oracle-length key time k.0) s

  pub fold-code : (a : Arith) → Encodable a → (s : S) → fold step s (instructions (code a)) ≡ on_arith step a s
  unfolding code instructions
  fold-code (Arith.Compare o x y) k s =
      simp append_assoc
      (fold_expr x k.0 (expr_code y ++ (cmp_row o).command ∷ []) s
      ∙ fold_expr y k.1 ((cmp_row o).command ∷ []) (on_expr step x s)
      ∙ fold_whole (cmp_row o).command (Command.Compare o) [] [] (compare_command o) refl (on_expr step y (on_expr step x s)))

-- a map that turns the steps of one fold into those of another
pub fold-map : {S R : Type 0} (step : S → Command → List ℕ → S) (step' : R → Command → List ℕ → R) (f : S → R)
    → ((s : S) (c : Command) (n : List ℕ) → f (step s c n) ≡ step' (f s) c n)
    → (ns : List Instruction) (s : S) → f (fold step s ns) ≡ fold step' (f s) ns
fold-map step step' f h [] s = refl
fold-map step step' f h (n ∷ ns) s =
    fold-map step step' f h ns (step s (command_of n.byte) n.operands)
    ∙ ap (λ r. fold step' r ns) (h s (command_of n.byte) n.operands)

-- a walk that was refused stays so
pub refused-stays : {W : Type 0} (counts : W → Counts) (make : Command → List ℕ → W → W) (ns : List Instruction) (at : ℕ)
    → fold (walk_step counts make) (Walk.refused at) ns ≡ Walk.refused at
refused-stays counts make [] at = refl
refused-stays counts make (n ∷ ns) at = refused-stays counts make ns at
