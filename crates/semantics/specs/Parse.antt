-- The condition that code stands for, or refusal 2's offset: a walk over the commands with the trees that wait ("Condition code").
use Rattle.std.specs.Prelude.{ℕ, zero, suc, ◌+◌, Bool, ◌&&◌, cond, List, [], ◌∷◌, length, get_or, take, drop, eqb}
use Rattle.slices.specs.Bytes.{bytes_value}
use Rattle.semantics.specs.Code.{Command, command_of, command_row, need_met}
use Rattle.semantics.specs.Trees.{IdxExpr, Expr, Arith}

-- a command's byte, with as many of its operand bytes as are there
pub record Instruction : Type 0 where
  pub byte : ℕ
  pub operands : List ℕ

abbrev pub width : ℕ → ℕ
width b = (command_row (command_of b)).width

-- the instructions of code whose first k bytes are skipped
abbrev pub instructions_after : ℕ → List ℕ → List Instruction
instructions_after k [] = []
instructions_after zero (b ∷ bs) = record { byte = b; operands = take (width b) bs } ∷ instructions_after (width b) bs
instructions_after (suc k) (b ∷ bs) = instructions_after k bs

unfoldable pub instructions : List ℕ → List Instruction
instructions = instructions_after 0

-- one step for each instruction
abbrev pub fold : {S : Type 0} → (S → Command → List ℕ → S) → S → List Instruction → S
fold step s [] = s
fold step s (n ∷ ns) = fold step (step s (command_of n.byte) n.operands) ns

-- how many values, indexes and conditions wait; a comparison makes a condition
pub record Counts : Type 0 where
  pub values : ℕ
  pub indexes : ℕ
  pub conditions : ℕ

-- a command passes if it follows no comparison, its operand bytes are there and its need is met
abbrev pub passes : Command → List ℕ → Counts → Bool
passes c n s = eqb s.conditions 0 && (eqb (length n) (command_row c).width && need_met (command_row c) s.values s.indexes)

-- a walk stands at an offset with what waits, or was refused at one
pub data Walk (W : Type 0) : Type 0 where
  going : ℕ → W → Walk W
  refused : ℕ → Walk W

-- "Refusal 2 names the first command that is unknown, lacks operand bytes, fails its need or follows a comparison":
-- a step, where `make` says what a command that passes makes of what waits
abbrev pub walk_step : {W : Type 0} → (W → Counts) → (Command → List ℕ → W → W) → Walk W → Command → List ℕ → Walk W
walk_step counts make (Walk.going at w) c n = cond (passes c n (counts w)) (Walk.going (at + suc (length n)) (make c n w)) (Walk.refused at)
walk_step counts make (Walk.refused at) c n = Walk.refused at

-- the trees that wait, the last one first
pub record Waiting : Type 0 where
  pub values : List Expr
  pub indexes : List IdxExpr
  pub conditions : List Arith

abbrev pub lengths : Waiting → Counts
lengths w = record { values = length w.values; indexes = length w.indexes; conditions = length w.conditions }

-- the tree that waits k below the last one; a need that is met says that there is one
abbrev pub value : Waiting → ℕ → Expr
value w k = get_or w.values k Expr.CurrInputIdx

abbrev pub index : Waiting → ℕ → IdxExpr
index w k = get_or w.indexes k IdxExpr.CurrIdx

-- a new tree in the place of the last k
abbrev pub push_index : ℕ → IdxExpr → Waiting → Waiting
push_index k x w = record { values = w.values; indexes = x ∷ drop k w.indexes; conditions = w.conditions }

abbrev pub push_value : ℕ → ℕ → Expr → Waiting → Waiting
push_value k i x w = record { values = x ∷ drop k w.values; indexes = drop i w.indexes; conditions = w.conditions }

abbrev pub built : Command → List ℕ → Waiting → Waiting
-- its need is never met
built Command.Unknown n w = w
built Command.IdxConst n w = push_index 0 (IdxExpr.Const (bytes_value n)) w
built Command.CurrIdx n w = push_index 0 IdxExpr.CurrIdx w
built (Command.Index o) n w = push_index 2 (IdxExpr.Op o (index w 1) (index w 0)) w
built Command.Const n w = push_value 0 0 (Expr.Const (bytes_value n)) w
built Command.CurrInputIdx n w = push_value 0 0 Expr.CurrInputIdx w
built (Command.Lookup l) n w = push_value 0 1 (Expr.Lookup l (index w 0)) w
built (Command.Binary o) n w = push_value 2 0 (Expr.Binary o (value w 1) (value w 0)) w
built (Command.Unary o) n w = push_value 1 0 (Expr.Unary o (value w 0)) w
built Command.PriceOracle1 n w = push_value 0 0 (Expr.PriceOracle1 (take 32 n) (bytes_value (drop 32 n))) w
built Command.PriceOracle1W n w = push_value 0 0 (Expr.PriceOracle1W (take 32 n) (bytes_value (drop 32 n))) w
built (Command.Compare o) n w =
    record { values = drop 2 w.values; indexes = w.indexes; conditions = Arith.Compare o (value w 1) (value w 0) ∷ w.conditions }

abbrev pub tree_step : Walk Waiting → Command → List ℕ → Walk Waiting
tree_step = walk_step lengths built

-- "else the code's length, if no comparison was met"
pub data Parsed : Type 0 where
  malformed : ℕ → Parsed
  tree : Arith → Parsed

abbrev pub finished_at : ℕ → List Arith → Parsed
finished_at at [] = Parsed.malformed at
finished_at at (a ∷ more) = Parsed.tree a

abbrev pub finished : Walk Waiting → Parsed
finished (Walk.going at w) = finished_at at w.conditions
finished (Walk.refused at) = Parsed.malformed at

abbrev pub nothing : Waiting
nothing = record { values = []; indexes = []; conditions = [] }

unfoldable pub parse : List ℕ → Parsed
parse c = finished (fold tree_step (Walk.going 0 nothing) (instructions c))

-- the command at a position of code, its operand bytes, and the position after it
abbrev pub command_at : List ℕ → ℕ → Command
command_at c at = command_of (get_or c at 0)

abbrev pub operands_at : List ℕ → ℕ → List ℕ
operands_at c at = take (width (get_or c at 0)) (drop (suc at) c)

abbrev pub after : List ℕ → ℕ → ℕ
after c at = at + 1 + width (get_or c at 0)

-- the operand bytes of a command that were found at a position: after its own byte they are `operands_at`
abbrev pub operand_bytes : Command → List ℕ → ℕ → List ℕ
operand_bytes c code at = take (command_row c).width (drop at code)
