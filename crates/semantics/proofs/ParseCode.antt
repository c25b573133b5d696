-- Parsing the code of a tree gives the tree: `parse-code`.
use Prim.Native.Nat.{ℕ, suc, ◌+◌}
use mathlib.Core.Path.{◌≡◌, refl, ap, ◌∙◌}
use mathlib.Core.Bool.{true}
use mathlib.Core.List.{List, [], ◌∷◌, ◌++◌}
use native.Mathlib.Omega.{arith}
use borrow.Author.Tests.{le-leb}
use lib.ListN.{length}
use lib.Seq.{take_at, drop_at}
use Rattle.slices.specs.Bytes.{little_endian}
use Rattle.slices.proofs.Bytes.{length-little_endian, value_of-bytes}
use Rattle.semantics.specs.Code.{Command, code, command_row, need_met}
use Rattle.semantics.specs.Parse.{Parsed, Waiting, Walk, built, finished, nothing, parse, tree_step}
use Rattle.semantics.specs.Trees.{Arith, Expr, IdxExpr}
use Rattle.semantics.proofs.Encodable.{Encodable, ExprEncodable, IdxEncodable}
use Rattle.semantics.proofs.Machine.{fold-code, on_arith, on_expr, on_idx, oracle-length}
use Rattle.semantics.proofs.Tests.{eqb_own}

-- no condition waits yet
abbrev pub waiting : List Expr → List IdxExpr → Waiting
waiting vs is = record { values = vs; indexes = is; conditions = [] }

-- a part of a tree takes the walk from some trees that wait to others, wherever it stands
record Goes (f : Walk Waiting → Walk Waiting) (w w' : Waiting) : Type 0 where
  on : (at : ℕ) → (at' : ℕ) × (f (Walk.going at w) ≡ Walk.going at' w')

then : {f g : Walk Waiting → Walk Waiting} {w w' w'' : Waiting} → Goes f w w' → Goes g w' w'' → Goes (λ s. g (f s)) w w''
then {g} a b = record { on = λ at. ((b.on (a.on at).0).0, ap g (a.on at).1 ∙ (b.on (a.on at).0).1) }

-- one command
goes : (c : Command) (n : List ℕ) (vs : List Expr) (is : List IdxExpr) {w' : Waiting} → length n ≡ (command_row c).width
    → need_met (command_row c) (length vs) (length is) ≡ true → built c n (waiting vs is) ≡ w'
    → Goes (λ s. tree_step s c n) (waiting vs is) w'
goes c n vs is w h r = record { on = λ at. (at + suc (length n), rw (w, eqb_own (command_row c).width, h, r)) }

reads_idx : (x : IdxExpr) → IdxEncodable x → (vs : List Expr) (is : List IdxExpr) → Goes (on_idx tree_step x) (waiting vs is) (waiting vs (x ∷ is))
reads_idx (IdxExpr.Const n) s vs is =
    goes Command.IdxConst (little_endian 8 n) vs is (length-little_endian 8 n) refl (rw (value_of-bytes 8 n s))
reads_idx IdxExpr.CurrIdx s vs is = goes Command.CurrIdx [] vs is refl refl refl
reads_idx (IdxExpr.Op o x y) s vs is =
    then (then (reads_idx x s.0 vs is) (reads_idx y s.1 vs (x ∷ is)))
    (goes (Command.Index o) [] vs (y ∷ x ∷ is) refl (le-leb 2 (length (y ∷ x ∷ is)) (omega arith)) refl)

reads_expr : (x : Expr) → ExprEncodable x → (vs : List Expr) → Goes (on_expr tree_step x) (waiting vs []) (waiting (x ∷ vs) [])
reads_expr (Expr.Const bits) s vs =
    goes Command.Const (little_endian 8 bits) vs [] (length-little_endian 8 bits) refl (rw (value_of-bytes 8 bits s))
reads_expr Expr.CurrInputIdx s vs = goes Command.CurrInputIdx [] vs [] refl refl refl
reads_expr (Expr.Lookup l i) s vs = then (reads_idx i s vs []) (goes (Command.Lookup l) [] vs (i ∷ []) refl refl refl)
reads_expr (Expr.Binary o x y) s vs =
    then (then (reads_expr x s.0 vs) (reads_expr y s.1 (x ∷ vs)))
    (goes (Command.Binary o) [] (y ∷ x ∷ vs) [] refl (rw (le-leb 2 (length (y ∷ x ∷ vs)) (omega arith))) refl)
reads_expr (Expr.Unary o x) s vs =
    then (reads_expr x s vs) (goes (Command.Unary o) [] (x ∷ vs) [] refl (rw (le-leb 1 (length (x ∷ vs)) (omega arith))) refl)
reads_expr (Expr.PriceOracle1 key time) s vs =
    goes Command.PriceOracle1 (key ++ little_endian 8 time) vs [] (oracle-length key time s.0) refl
    (rw (take_at key (little_endian 8 time) 32 s.0, drop_at key (little_endian 8 time) 32 s.0, value_of-bytes 8 time s.2))
reads_expr (Expr.PriceOracle1W key time) s vs =
    goes Command.PriceOracle1W (key ++ little_endian 8 time) vs [] (oracle-length key time s.0) refl
    (rw (take_at key (little_endian 8 time) 32 s.0, drop_at key (little_endian 8 time) 32 s.0, value_of-bytes 8 time s.2))

reads : (a : Arith) → Encodable a → Goes (on_arith tree_step a) nothing (record { values = []; indexes = []; conditions = a ∷ [] })
reads (Arith.Compare o x y) s =
    then (then (reads_expr x s.0 []) (reads_expr y s.1 (x ∷ []))) (goes (Command.Compare o) [] (y ∷ x ∷ []) [] refl refl refl)

pub parse-code : (a : Arith) → Encodable a → parse (code a) ≡ Parsed.tree a
unfolding parse
parse-code a s = ap finished (fold-code tree_step a s (Walk.going 0 nothing) ∙ ((reads a s).on 0).1)
