-- "Evaluation" of a tree: the left operand first; the first refusal ends it.
use Rattle.std.specs.Prelude.{ℕ, ◌+◌, ◌^◌, Bool, cond, List, [], ◌∷◌, ◌++◌, length, get_or, eqb, ltb, ℤ, pos, negsuc, Option, Some, None, Result, Ok, Err}
use Rattle.std.specs.Int.Signed.{lt_z}
use Rattle.word64.specs.Bits.{signed_of}
use Rattle.index64.specs.Steps.{in_range}
use Rattle.slices.specs.Bytes.{bytes_value}
use Rattle.semantics.specs.Operations.{idx_row, list_row, bin_row, un_row, cmp_row}
use Rattle.semantics.specs.Refusals.{Refusal}
use Rattle.semantics.specs.Trees.{AmountList, BinOp, UnOp, IdxExpr, Expr, Arith}

abbrev pub option_then : Option ℤ → (ℤ → Option ℤ) → Option ℤ
option_then None f = None
option_then (Some z) f = f z

-- `IdxExpr::eval`: "Index steps are exact on whole numbers, .. and only 41 limits them"; R-4: "constants, intermediate values and the current index .. included"
unfoldable pub index : ℕ → IdxExpr → Option ℤ
index current (IdxExpr.Const n) = in_range (pos n)
index current IdxExpr.CurrIdx = in_range (pos current)
index current (IdxExpr.Op o x y) = option_then (index current x) λ m. option_then (index current y) λ n. (idx_row o).result m n

-- "Amounts are four pairs of lists ..; each has an unsigned 64-bit number and a mark per slot (1 explicit)"
pub record Amounts : Type 0 where
  pub numbers : List ℕ
  pub marks : List ℕ

-- "The current index is an unsigned 64-bit number"
pub record Env : Type 0 where
  pub spent : Amounts
  pub outputs : Amounts
  pub issued : Amounts
  pub reissued : Amounts
  pub current : ℕ

abbrev pub amounts : Env → AmountList → Amounts
amounts env AmountList.Input = env.spent
amounts env AmountList.Output = env.outputs
amounts env AmountList.InputIssue = env.issued
amounts env AmountList.InputReIssue = env.reissued

-- "An explicit 64-bit amount is taken with its bits unchanged as a signed number"
-- R-4: "A negative final index gives 43", "where 20, 22 or 24 would be judged, before them"
unfoldable pub amount : Amounts → AmountList → ℤ → Result ℤ Refusal
amount a l (pos i) =
    cond (ltb i (length a.numbers))
    (cond (eqb (get_or a.marks i 0) 1) (Ok (signed_of (get_or a.numbers i 0))) (Err ((list_row l).hidden i)))
    (Err ((list_row l).outside i (length a.numbers)))
amount a l (negsuc i) = Err Refusal.NegativeIndex

-- what comes of a step that goes by a state: a value or a refusal, and the state then
pub data Outcome (S A : Type 0) : Type 0 where
  ok : A → S → Outcome S A
  err : Refusal → S → Outcome S A

abbrev pub onward : {S A B : Type 0} → Outcome S A → (A → S → Outcome S B) → Outcome S B
onward (ok a st) f = f a st
onward (err r st) f = err r st

abbrev pub outcome : {S : Type 0} → Result ℤ Refusal → S → Outcome S ℤ
outcome (Ok z) st = ok z st
outcome (Err r) st = err r st

-- What an evaluation does with its state: `read` is the state after a lookup at an index of the list l, whose amounts are a;
-- `oracle` is what an oracle terminal with a key and a time gives.
pub record Terminals (S : Type 0) : Type 0 where
  pub read : (a : Amounts) → (l : AmountList) → ℤ → S → S
  pub oracle : List ℕ → ℕ → S → Outcome S ℤ

-- 41, by R-4: "when a value leaves that range or a divisor is 0"
abbrev pub looked_up : {S : Type 0} → Terminals S → Env → AmountList → Option ℤ → S → Outcome S ℤ
looked_up t env l None st = err Refusal.IndexStep st
looked_up t env l (Some i) st = outcome (amount (amounts env l) l i) (t.read (amounts env l) l i st)

-- "the left operand first"
abbrev pub binary_step : {S : Type 0} → BinOp → (S → Outcome S ℤ) → (S → Outcome S ℤ) → S → Outcome S ℤ
binary_step o left right st = onward (left st) λ x st₁. onward (right st₁) λ y st₂. outcome ((bin_row o).result x y) st₂

abbrev pub unary_step : {S : Type 0} → UnOp → (S → Outcome S ℤ) → S → Outcome S ℤ
unary_step o operand st = onward (operand st) λ x st₁. outcome ((un_row o).result x) st₁

-- `Expr::eval`, whatever the state
unfoldable pub eval : {S : Type 0} → Terminals S → Env → Expr → S → Outcome S ℤ
eval t env (Expr.Const bits) st = ok (signed_of bits) st
eval t env Expr.CurrInputIdx st = looked_up t env AmountList.Input (index env.current IdxExpr.CurrIdx) st
eval t env (Expr.Lookup l i) st = looked_up t env l (index env.current i) st
eval t env (Expr.Binary o x y) st = binary_step o (eval t env x) (eval t env y) st
eval t env (Expr.Unary o x) st = unary_step o (eval t env x) st
eval t env (Expr.PriceOracle1 key time) st = t.oracle key time st
eval t env (Expr.PriceOracle1W key time) st = t.oracle key time st

-- `Arith::eval`
unfoldable pub eval_arith : {S : Type 0} → Terminals S → Env → Arith → S → Outcome S Bool
eval_arith t env (Arith.Compare o x y) st =
    onward (eval t env x st) λ a st₁. onward (eval t env y st₁) λ b st₂. ok ((cmp_row o).result a b) st₂

-- EVALUATE'S STATE: the number and the bytes of the checks so far, and the witness elements left, the top first
pub record State : Type 0 where
  pub checks : ℕ
  pub written : List ℕ
  pub left : List (List ℕ)

-- "a missing element comes before a wrong width"; "a popped element stays popped"
abbrev pub pop_from : ℕ → Refusal → Refusal → State → List (List ℕ) → Outcome State (List ℕ)
pop_from width absent wrong st [] = err absent st
pop_from width absent wrong st (e ∷ es) =
    let popped : State = record { checks = st.checks; written = st.written; left = es } in
    cond (eqb (length e) width) (ok e popped) (err wrong popped)

abbrev pub pop : ℕ → Refusal → Refusal → State → Outcome State (List ℕ)
pop width absent wrong st = pop_from width absent wrong st st.left

-- R-8: "The opcodes require the witness time to be at least the terminal's time, both signed"; "39 means the witness time is smaller":
-- the terminal's time still lay in the future when the quote was made
abbrev pub in_future : ℕ → ℕ → Bool
in_future time witnessTime = lt_z (signed_of witnessTime) (signed_of time)

-- "a check of 112 bytes ..: key, .. time, price, signature", and R-8: "the listed check carries the witness time"
abbrev pub check_size : ℕ
check_size = 112

abbrev pub check_bytes : List ℕ → List ℕ → List ℕ → List ℕ → List ℕ
check_bytes key witnessTime price signature = key ++ witnessTime ++ price ++ signature

-- "pops price, then time (8 bytes each), then signature (64 bytes)"; "A price of 2^63 or more: 40"
abbrev pub after_signature : List ℕ → ℕ → List ℕ → List ℕ → List ℕ → State → Outcome State ℤ
after_signature key time price witnessTime signature st =
    let check = check_bytes key witnessTime price signature in
    let listed : State = record { checks = st.checks + 1; written = st.written ++ check; left = st.left } in
    cond (in_future time (bytes_value witnessTime)) (err Refusal.TimestampInFuture st)
    (cond (ltb (bytes_value price) (2 ^ 63)) (ok (pos (bytes_value price)) listed) (err Refusal.PriceOverflow listed))

abbrev pub after_time : List ℕ → ℕ → List ℕ → List ℕ → State → Outcome State ℤ
after_time key time price witnessTime st =
    onward (pop 64 Refusal.MissingOracleSignature Refusal.MalformedSig st) (after_signature key time price witnessTime)

abbrev pub after_price : List ℕ → ℕ → List ℕ → State → Outcome State ℤ
after_price key time price st = onward (pop 8 Refusal.MissingTimestamp Refusal.Timstamp8BytePush st) (after_time key time price)

unfoldable pub oracle : List ℕ → ℕ → State → Outcome State ℤ
oracle key time st = onward (pop 8 Refusal.MissingPrice Refusal.Price8BytePush st) (after_price key time)

-- a lookup leaves no trace in it, an oracle terminal pops the witness
abbrev pub popping : Terminals State
popping = record { read = λ a l i st. st; oracle = oracle }
