-- "Proved examples": document 01's thirteen, in its order; what the definitions give beside what the document says, and one computed proof.
use Rattle.std.proofs.Common.{Bool, Result, Ok, Err}
use Prim.Native.Nat.{ℕ, ◌-◌, ◌^◌}
use mathlib.Core.Bool.{cond}
use mathlib.Core.Path.{◌≡◌, refl}
use mathlib.Core.List.{List, [], ◌∷◌, ◌++◌, map}
use lib.IntN.{ℤ, pos, neg_ℤ}
use Rattle.num64.specs.Exact.{checked_add, checked_neg, checked_div, checked_rem}
use Rattle.word64.specs.Bits.{signed_of, bits_of}
use Rattle.index64.specs.Steps.{idx_sub}
use Rattle.slices.specs.Bytes.{bytes_value, little_endian}
use Rattle.semantics.specs.Check.{Checked, checked, condition, judged}
use Rattle.semantics.specs.Code.{code, command_of, expr_code, idx_code}
use Rattle.semantics.specs.Decode.{Reading, decode}
use Rattle.semantics.specs.Evaluate.{evaluated, evaluated_tree, initial}
use Rattle.semantics.specs.Evaluation.{Amounts, Env, Outcome, amount, State, err, eval, eval_arith, index, ok, oracle, popping}
use Rattle.semantics.specs.FromTokens.{comparison, expr_from_tokens, expr_within, from_tokens, head, head_form, idx_from_tokens, idx_head, idx_head_form, idx_within}
use Rattle.semantics.specs.Oracle.{oracle_rule, oracles, terminals}
use Rattle.semantics.specs.Parse.{instructions, parse}
use Rattle.semantics.specs.Refusals.{Refusal, numbered}
use Rattle.semantics.specs.Token.{Token, bytes8, expr_form, form, idx_form, op, verified}
use Rattle.semantics.specs.Trees.{AmountList, Arith, BinOp, CmpOp, Expr, IdxExpr, IdxOp, UnOp}

abbrev minus : ℕ → ℤ
minus n = neg_ℤ (pos n)

-- a refusal's number with its data
abbrev refused : Refusal → List ℤ
refused r = pos (numbered r).number ∷ signed_of (numbered r).first ∷ signed_of (numbered r).second ∷ []

-- two inputs, with explicit amounts of 2^63 and 7, and no output
abbrev env : ℕ → Env
env current =
    let nothing : Amounts = record { numbers = []; marks = [] } in
    let two : Amounts = record { numbers = 2 ^ 63 ∷ 7 ∷ []; marks = 1 ∷ 1 ∷ [] } in
    record { spent = two; outputs = nothing; issued = two; reissued = two; current = current }

abbrev const : ℤ → Expr
const z = Expr.Const (bits_of z)

-- of a value expression, at index 0: the value, or the refusal
abbrev shown : Outcome State ℤ → List ℤ
shown (ok z st) = z ∷ []
shown (err r st) = refused r

abbrev value_of : Expr → List ℤ
value_of e = shown (eval popping (env 0) e (record { checks = 0; written = []; left = [] }))

abbrev by : BinOp → ℤ → ℤ → List ℤ
by o x y = value_of (Expr.Binary o (const x) (const y))

-- of a token list: the tail's start, with the code
abbrev shown_reading : Reading → List ℤ
shown_reading (Reading.accepted b n) = pos n ∷ map pos b
shown_reading (Reading.refused r) = refused r

abbrev read : List Token → List ℤ
read ts = shown_reading (decode ts)

-- of condition code: the answers of Evaluate, 1 for true, and of Check
abbrev shown_verdict : Result Bool Refusal → List ℤ
shown_verdict (Ok v) = pos (cond v 1 0) ∷ []
shown_verdict (Err r) = refused r

abbrev shown_check : Result Checked Refusal → List ℤ
shown_check (Err r) = refused r
shown_check (Ok a) = pos a.tokens ∷ pos a.oracles ∷ []

abbrev eq : Expr → Expr → List ℕ
eq x y = code (Arith.Compare CmpOp.Eq x y)

abbrev verdict : List ℕ → ℕ → List ℤ
verdict c current = shown_verdict (evaluated c (record { env = env current; witness = []; ends = []; buffer = [] })).answer.verdict

abbrev five : Expr
five = Expr.Const 5

-- the amount of the input before the current one is that of input 0
abbrev is_before : List ℕ
is_before = eq (Expr.Lookup AmountList.Input (IdxExpr.Op IdxOp.Sub IdxExpr.CurrIdx (IdxExpr.Const 1))) (const (minus (2 ^ 63)))

-- 4, 5, .. 35: the x coordinate of a point, as an oracle's key must be
abbrev key : List ℕ
key = 4 ∷ 5 ∷ 6 ∷ 7 ∷ 8 ∷ 9 ∷ 10 ∷ 11 ∷ 12 ∷ 13 ∷ 14 ∷ 15 ∷ 16 ∷ 17 ∷ 18 ∷ 19 ∷ 20 ∷ 21 ∷ 22 ∷ 23 ∷ 24 ∷ 25 ∷ 26 ∷ 27 ∷ 28 ∷ 29 ∷ 30 ∷ 31 ∷ 32 ∷ 33 ∷ 34 ∷ 35 ∷ []

pub examples : List (List ℤ × List ℤ)
examples =
    -- 1
    (verdict (eq five five) 0, pos 1 ∷ []) ∷ (shown_check (checked (eq five five)), pos 3 ∷ pos 0 ∷ [])
    -- 2 to 4
    ∷ (by BinOp.Div (minus 7) (pos 2), minus 4 ∷ []) ∷ (by BinOp.Mod (minus 7) (pos 2), pos 1 ∷ [])
    ∷ (by BinOp.Div (pos 7) (minus 2), minus 3 ∷ []) ∷ (by BinOp.Mod (pos 7) (minus 2), pos 1 ∷ [])
    ∷ (by BinOp.Div (minus 7) (minus 2), pos 4 ∷ []) ∷ (by BinOp.Mod (minus 7) (minus 2), pos 1 ∷ [])
    -- 5
    ∷ (by BinOp.Div (minus (2 ^ 63)) (minus 1), pos 30 ∷ minus (2 ^ 63) ∷ minus 1 ∷ [])
    ∷ (by BinOp.Mod (minus (2 ^ 63)) (minus 1), pos 31 ∷ minus (2 ^ 63) ∷ minus 1 ∷ [])
    ∷ (by BinOp.Div (minus (2 ^ 63)) (pos 0), pos 30 ∷ minus (2 ^ 63) ∷ pos 0 ∷ [])
    ∷ (by BinOp.Mod (minus (2 ^ 63)) (pos 0), pos 31 ∷ minus (2 ^ 63) ∷ pos 0 ∷ [])
    -- 6, 7
    ∷ (by BinOp.Add (pos (2 ^ 63 - 1)) (pos 1), pos 27 ∷ pos (2 ^ 63 - 1) ∷ pos 1 ∷ [])
    ∷ (value_of (Expr.Unary UnOp.Negate (const (minus (2 ^ 63)))), pos 32 ∷ minus (2 ^ 63) ∷ pos 0 ∷ [])
    ∷ (value_of (Expr.Unary UnOp.Negate (const (minus (2 ^ 63 - 1)))), pos (2 ^ 63 - 1) ∷ [])
    -- 8
    ∷ (value_of Expr.CurrInputIdx, minus (2 ^ 63) ∷ [])
    -- 9, 10, 11
    ∷ (read (op 35 ∷ bytes8 5 ∷ bytes8 5 ∷ op 14 ∷ []), pos 1 ∷ map pos (eq five five))
    ∷ (read [], pos 11 ∷ pos 0 ∷ pos 0 ∷ []) ∷ (read (op 14 ∷ []), pos 11 ∷ pos 0 ∷ pos 0 ∷ [])
    ∷ (read (op 4 ∷ op 22 ∷ verified ++ bytes8 5 ∷ op 14 ∷ []), pos 0 ∷ map pos (17 ∷ expr_code five ++ 48 ∷ []))
    -- 12
    ∷ (shown_check (checked (eq (Expr.Binary BinOp.Add five (Expr.PriceOracle1 key 0)) five)), pos 5 ∷ pos 0 ∷ pos 0 ∷ [])
    ∷ (shown_check (checked (eq (Expr.PriceOracle1W key 0) (Expr.PriceOracle1 key 0))), pos 4 ∷ pos 0 ∷ pos 0 ∷ [])
    -- the same two from their tokens (R-2)
    ∷ (read (form (Arith.Compare CmpOp.Eq (Expr.Binary BinOp.Add five (Expr.PriceOracle1 key 0)) five)), pos 5 ∷ pos 0 ∷ pos 0 ∷ [])
    ∷ (read (form (Arith.Compare CmpOp.Eq (Expr.PriceOracle1W key 0) (Expr.PriceOracle1 key 0))), pos 4 ∷ pos 0 ∷ pos 0 ∷ [])
    -- 13, as R-4 has it: "current index less 1 used at index 0 gives 43"
    ∷ (verdict is_before 0, pos 43 ∷ pos 0 ∷ pos 0 ∷ []) ∷ (verdict is_before 1, pos 1 ∷ []) ∷ []

pub examples_right : map (λ (e : List ℤ × List ℤ). e.0) examples ≡ map (λ (e : List ℤ × List ℤ). e.1) examples
unfolding examples checked_add checked_neg checked_div checked_rem idx_sub little_endian bytes_value idx_form expr_form form idx_code expr_code code command_of instructions parse idx_head_form idx_head idx_within idx_from_tokens head_form head expr_within expr_from_tokens comparison from_tokens terminals oracle_rule oracles index amount oracle eval eval_arith decode initial judged condition checked evaluated_tree evaluated
examples_right = refl
