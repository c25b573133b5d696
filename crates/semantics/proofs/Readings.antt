-- What each operation answers, and places where document 01 leaves room, each with the smallest input that shows the reading taken (docs/DECISIONS.md):
-- one table, one computed proof.
use Rattle.std.proofs.Common.{Bool, Result, Ok, Err}
use Prim.Native.Nat.{ℕ, ◌-◌, ◌^◌}
use mathlib.Core.Bool.{cond}
use mathlib.Core.Path.{◌≡◌, refl}
use mathlib.Core.List.{List, [], ◌∷◌, ◌++◌, map}
use lib.Dec.{eqb}
use lib.ListN.{drop, get_or, replicate}
use lib.IntN.{ℤ}
use Rattle.num64.specs.Exact.{checked_add, checked_sub, checked_mul}
use Rattle.word64.specs.Bits.{bits_of}
use Rattle.index64.specs.Steps.{idx_add, idx_sub, idx_mul, idx_div}
use Rattle.slices.specs.Bytes.{bytes_value, little_endian}
use Rattle.semantics.specs.Check.{Checked, checked, condition, judged}
use Rattle.semantics.specs.Code.{code, command_of, expr_code, idx_code}
use Rattle.semantics.specs.Decode.{Decoded, Reading, decode, decoded}
use Rattle.semantics.specs.Evaluate.{Evaluated, Evaluation, evaluated, evaluated_tree, initial}
use Rattle.semantics.specs.Evaluation.{Amounts, Env, Outcome, amount, State, err, eval, eval_arith, index, ok, oracle, popping}
use Rattle.semantics.specs.FromTokens.{comparison, expr_from_tokens, expr_within, from_tokens, head, head_form, idx_from_tokens, idx_head, idx_head_form, idx_within}
use Rattle.semantics.specs.Operations.{cmp_ops}
use Rattle.semantics.specs.Oracle.{oracle_rule, oracles, terminals}
use Rattle.semantics.specs.Parse.{instructions, parse}
use Rattle.semantics.specs.Records.{Records, tokens_from, unsound_from}
use Rattle.semantics.specs.Refusals.{Refusal, numbered}
use Rattle.semantics.specs.Token.{Token, expr_form, form, idx_form}
use Rattle.semantics.specs.Trees.{AmountList, Arith, BinOp, CmpOp, Expr, IdxExpr, IdxOp, UnOp}
use Rattle.semantics.specs.Write.{Written, index_of, joined, keys_from, with_key, writing, wrote}

-- a refusal's number with its data
abbrev refused : Refusal → List ℕ
refused r = (numbered r).number ∷ (numbered r).first ∷ (numbered r).second ∷ []

-- one input, explicit, with 2^63, and one output that is not explicit
abbrev env : Env
env =
    let one : Amounts = record { numbers = 2 ^ 63 ∷ []; marks = 1 ∷ [] } in
    record { spent = one; outputs = record { numbers = 5 ∷ []; marks = 0 ∷ [] }; issued = one; reissued = one; current = 0 }

abbrev unpaired : Env
unpaired = let none : Amounts = record { numbers = []; marks = 1 ∷ [] } in record { spent = none; outputs = none; issued = none; reissued = none; current = 0 }

abbrev key : List ℕ
key = replicate 32 7

abbrev eq : Expr → Expr → List ℕ
eq x y = code (Arith.Compare CmpOp.Eq x y)

-- a terminal with time 5, and a witness of elements
abbrev price : List ℕ
price = eq (Expr.PriceOracle1 key 5) (Expr.Const 9)

-- one with time 2^63, the least of all signed ones
abbrev least : List ℕ
least = eq (Expr.PriceOracle1 key (2 ^ 63)) (Expr.Const 9)

abbrev signature : List ℕ
signature = replicate 64 3

abbrev on : List ℕ → Env → List ℕ → List ℕ → List ℕ → Evaluation
on c e bytes ends buffer = evaluated c (record { env = e; witness = bytes; ends = ends; buffer = buffer })

-- number, verdict (1 for true) or data, checks, elements left
abbrev shown_verdict : Result Bool Refusal → List ℕ
shown_verdict (Ok v) = 0 ∷ cond v 1 0 ∷ 0 ∷ []
shown_verdict (Err r) = refused r

abbrev shown : Evaluated → List ℕ
shown a = shown_verdict a.verdict ++ a.checks ∷ a.left ∷ []

abbrev answer : List ℕ → Env → List ℕ → List ℕ → List ℕ → List ℕ
answer c e bytes ends buffer = shown (on c e bytes ends buffer).answer

abbrev room : List ℕ
room = replicate 114 1

-- with a quote of that time, for a price of 9
abbrev quoted : List ℕ → ℕ → List ℕ
quoted c time = answer c env (signature ++ little_endian 8 time ++ little_endian 8 9) (64 ∷ 72 ∷ 80 ∷ []) room

-- true, with one check and no element left
abbrev met : List ℕ
met = 0 ∷ 1 ∷ 0 ∷ 1 ∷ 0 ∷ []

abbrev past : Expr
past = Expr.Lookup AmountList.Input (IdxExpr.Op IdxOp.Sub IdxExpr.CurrIdx (IdxExpr.Const 1))

abbrev big : Expr
big = Expr.Binary BinOp.Add (Expr.Const (2 ^ 63 - 1)) (Expr.Const 1)

abbrev place : Result Checked Refusal → List ℕ
place (Err r) = refused r
place (Ok a) = 0 ∷ []

abbrev records : List ℕ → Records
records kinds = record { kinds = kinds; numbers = map (λ k. 5) kinds; places = map (λ k. 0) kinds; keys = [] }

abbrev shown_written : Result Written Refusal → List ℕ
shown_written (Ok a) = a.records ∷ a.key_bytes ∷ []
shown_written (Err r) = refused r

abbrev write : List ℕ → List ℕ → List ℕ
write c kinds = shown_written (wrote c (records kinds)).answer

-- keys by their last byte; and what Write leaves of those of three terminals in so many key bytes: the places of the records that name one, and the bytes
abbrev ending : ℕ → List ℕ
ending n = replicate 31 7 ++ n ∷ []

abbrev three : ℕ → ℕ → ℕ → List ℕ
three a b c =
    eq
    (Expr.Binary BinOp.BitAnd (Expr.Binary BinOp.BitAnd (Expr.PriceOracle1 (ending a) 5) (Expr.PriceOracle1W (ending b) 5)) (Expr.PriceOracle1W (ending c) 5))
    (Expr.Const 9)

abbrev key_places : List ℕ → List ℕ → List ℕ
key_places [] places = []
key_places (k ∷ kinds) places = cond (eqb k 3) (get_or places 0 0 ∷ []) [] ++ key_places kinds (drop 1 places)

abbrev keys_left : List ℕ → ℕ → List ℕ
keys_left c n =
    let w = wrote c (record { kinds = replicate 40 0; numbers = replicate 40 0; places = replicate 40 1; keys = replicate n 0 }) in
    shown_written w.answer ++ key_places w.records.kinds w.records.places ++ w.records.keys

abbrev shown_decoded : Result Decoded Refusal → List ℕ
shown_decoded (Ok a) = a.bytes ∷ a.start ∷ []
shown_decoded (Err r) = refused r

-- where the tail begins, or the refusal
abbrev shown_tail : Reading → List ℕ
shown_tail (Reading.accepted b start) = 0 ∷ start ∷ []
shown_tail (Reading.refused r) = refused r

abbrev tail_of : List Token → List ℕ
tail_of ts = shown_tail (decode ts)

abbrev form_of : Expr → Expr → List Token
form_of x y = form (Arith.Compare CmpOp.Eq x y)

abbrev decoded_answer : Records → List ℕ
decoded_answer r = shown_decoded (decoded r []).answer

-- what operations answer, as bits, or the refusal's number with its data
abbrev shown_value : Outcome State ℤ → List ℕ
shown_value (ok z st) = bits_of z ∷ []
shown_value (err r st) = refused r

abbrev value_of : Env → Expr → List ℕ
value_of e x = shown_value (eval popping e x (record { checks = 0; written = []; left = [] }))

abbrev of : BinOp → ℕ → ℕ → List ℕ
of o a b = value_of env (Expr.Binary o (Expr.Const a) (Expr.Const b))

abbrev compared : ℕ → ℕ → List ℕ
compared a b =
    map (λ (o : CmpOp). get_or (shown_verdict (on (code (Arith.Compare o (Expr.Const a) (Expr.Const b))) env [] [] []).answer.verdict) 1 0) cmp_ops

-- what the outputs answer to an index; to a step of two constants
abbrev output : IdxExpr → List ℕ
output i = value_of env (Expr.Lookup AmountList.Output i)

abbrev step : IdxOp → ℕ → ℕ → List ℕ
step o a b = output (IdxExpr.Op o (IdxExpr.Const a) (IdxExpr.Const b))

-- the index x plus n, and the index -n
abbrev plus : IdxExpr → ℕ → IdxExpr
plus x n = IdxExpr.Op IdxOp.Add x (IdxExpr.Const n)

abbrev below : ℕ → IdxExpr
below n = IdxExpr.Op IdxOp.Sub (IdxExpr.Const 0) (IdxExpr.Const n)

-- no amounts, at a current index
abbrev nowhere : ℕ → Env
nowhere current = let none : Amounts = record { numbers = []; marks = [] } in record { spent = none; outputs = none; issued = none; reissued = none; current = current }

-- the kinds of a form
abbrev kinds : IdxExpr → List ℕ
kinds x = map (λ t. t.kind) (idx_form x)

-- all lists of one slot that is not explicit
abbrev closed : Env
closed = let one : Amounts = record { numbers = 5 ∷ []; marks = 0 ∷ [] } in record { spent = one; outputs = one; issued = one; reissued = one; current = 0 }

-- what each list answers to an index
abbrev looked_up : Env → IdxExpr → List ℕ
looked_up e i =
    let at : AmountList → List ℕ = λ s. value_of e (Expr.Lookup s i) in
    at AmountList.Input ++ at AmountList.Output ++ at AmountList.InputIssue ++ at AmountList.InputReIssue

-- a refusal that names no data
abbrev bare : ℕ → List ℕ
bare n = n ∷ 0 ∷ 0 ∷ []

pub readings : List (List ℕ × List ℕ)
readings =
    -- the operations: signed comparison of -1 and 1; the rest on 12 and 10, and on indexes, of which 22 tells the index
    (compared (2 ^ 64 - 1) 1, 0 ∷ 1 ∷ 1 ∷ 0 ∷ 0 ∷ []) ∷ (compared 1 1, 1 ∷ 0 ∷ 1 ∷ 0 ∷ 1 ∷ []) ∷ (compared 1 (2 ^ 64 - 1), 0 ∷ 0 ∷ 0 ∷ 1 ∷ 1 ∷ [])
    ∷ (of BinOp.Add 12 10, 22 ∷ []) ∷ (of BinOp.Sub 12 10, 2 ∷ []) ∷ (of BinOp.Mul 12 10, 120 ∷ [])
    ∷ (of BinOp.BitAnd 12 10, 8 ∷ []) ∷ (of BinOp.BitOr 12 10, 14 ∷ []) ∷ (of BinOp.Xor 12 10, 6 ∷ [])
    ∷ (value_of env (Expr.Unary UnOp.Invert (Expr.Const 0)), (2 ^ 64 - 1) ∷ [])
    ∷ (of BinOp.Sub (2 ^ 63) 1, 28 ∷ 2 ^ 63 ∷ 1 ∷ []) ∷ (of BinOp.Mul (2 ^ 62) 2, 29 ∷ 2 ^ 62 ∷ 2 ∷ [])
    ∷ (step IdxOp.Add 7 2, 22 ∷ 9 ∷ 1 ∷ []) ∷ (step IdxOp.Sub 7 2, 22 ∷ 5 ∷ 1 ∷ []) ∷ (step IdxOp.Mul 7 2, 22 ∷ 14 ∷ 1 ∷ []) ∷ (step IdxOp.Div 7 2, 22 ∷ 3 ∷ 1 ∷ [])
    -- R-4, 41: a value outside -(2^31 - 1) to 2^31 - 1, and a division by 0
    ∷ (step IdxOp.Add (2 ^ 31 - 2) 1, 22 ∷ (2 ^ 31 - 1) ∷ 1 ∷ []) ∷ (step IdxOp.Add (2 ^ 31 - 1) 1, bare 41) ∷ (step IdxOp.Mul (2 ^ 30) 2, bare 41)
    ∷ (output (IdxExpr.Const (2 ^ 31)), bare 41) ∷ (step IdxOp.Div 7 0, bare 41) ∷ (output (IdxExpr.Op IdxOp.Sub (below (2 ^ 31 - 2)) (IdxExpr.Const 1)), bare 43)
    ∷ (output (IdxExpr.Op IdxOp.Sub (below (2 ^ 31 - 1)) (IdxExpr.Const 1)), bare 41)
    -- an index division is Euclid's: -7 by 2 is -4, 7 by -2 is -3, 1 by -2 is 0
    ∷ (output (plus (IdxExpr.Op IdxOp.Div (below 7) (IdxExpr.Const 2)) 9), 22 ∷ 5 ∷ 1 ∷ []) ∷ (output (plus (IdxExpr.Op IdxOp.Div (IdxExpr.Const 7) (below 2)) 9), 22 ∷ 6 ∷ 1 ∷ [])
    ∷ (output (IdxExpr.Op IdxOp.Div (IdxExpr.Const 1) (below 2)), 23 ∷ 0 ∷ 0 ∷ [])
    -- at 0 the current index less 1 plus 2 is 1; less 1 alone is 43, in each list, and before 20, 22 and 24 in an empty one
    ∷ (output (plus (IdxExpr.Op IdxOp.Sub IdxExpr.CurrIdx (IdxExpr.Const 1)) 2), 22 ∷ 1 ∷ 1 ∷ []) ∷ (looked_up closed (below 1), bare 43 ++ bare 43 ++ bare 43 ++ bare 43)
    ∷ (looked_up (nowhere 0) (below 1), bare 43 ++ bare 43 ++ bare 43 ++ bare 43)
    -- the current index is judged where it is used
    ∷ (shown_verdict (on (eq (Expr.Const 5) (Expr.Const 5)) (nowhere (2 ^ 40)) [] [] []).answer.verdict, 0 ∷ 1 ∷ 0 ∷ [])
    ∷ (value_of (nowhere (2 ^ 31 - 1)) Expr.CurrInputIdx, 20 ∷ (2 ^ 31 - 1) ∷ 0 ∷ []) ∷ (value_of (nowhere (2 ^ 31)) Expr.CurrInputIdx, bare 41)
    -- the four lists, at an amount that is not explicit and past their ends
    ∷ (looked_up closed (IdxExpr.Const 0), 21 ∷ 0 ∷ 0 ∷ 23 ∷ 0 ∷ 0 ∷ 25 ∷ 0 ∷ 0 ∷ 26 ∷ 0 ∷ 0 ∷ []) ∷ (looked_up closed (IdxExpr.Const 1), 20 ∷ 1 ∷ 1 ∷ 22 ∷ 1 ∷ 1 ∷ 24 ∷ 1 ∷ 1 ∷ 24 ∷ 1 ∷ 1 ∷ [])
    -- what stands between the operands of index Mul and Div
    ∷ (kinds (IdxExpr.Op IdxOp.Mul (IdxExpr.Const 2) IdxExpr.CurrIdx), 1 ∷ 7 ∷ 4 ∷ 7 ∷ 9 ∷ 1 ∷ 14 ∷ 15 ∷ 8 ∷ [])
    ∷ (kinds (IdxExpr.Op IdxOp.Div (IdxExpr.Const 2) IdxExpr.CurrIdx), 1 ∷ 7 ∷ 4 ∷ 7 ∷ 10 ∷ 1 ∷ 14 ∷ 15 ∷ 16 ∷ 8 ∷ [])
    -- one 7-byte element: it is popped and judged before the next pop
    ∷ (answer price env (replicate 7 0) (7 ∷ []) room, bare 34 ++ 0 ∷ 0 ∷ [])
    -- a time below the terminal's is judged after the signature
    ∷ (answer price env (little_endian 8 4 ++ little_endian 8 9) (8 ∷ 16 ∷ []) room, bare 37 ++ 0 ∷ 0 ∷ [])
    ∷ (answer price env (replicate 63 3 ++ little_endian 8 4 ++ little_endian 8 9) (63 ∷ 71 ∷ 79 ∷ []) room, bare 38 ++ 0 ∷ 0 ∷ [])
    ∷ (quoted price 4, bare 39 ++ 0 ∷ 0 ∷ [])
    -- equal times pass, and both are signed: a witness time of 2^64 - 1 is -1, and every time passes a terminal's of 2^63
    ∷ (quoted price 5, met) ∷ (quoted price (2 ^ 63 - 1), met) ∷ (quoted price (2 ^ 63), bare 39 ++ 0 ∷ 0 ∷ []) ∷ (quoted price (2 ^ 64 - 1), bare 39 ++ 0 ∷ 0 ∷ [])
    ∷ (quoted least 0, met) ∷ (quoted least (2 ^ 63), met)
    -- a price of 2^63: its own check is written
    ∷ (answer price env (signature ++ little_endian 8 5 ++ little_endian 8 (2 ^ 63)) (64 ∷ 72 ∷ 80 ∷ []) room, bare 40 ++ 1 ∷ 0 ∷ [])
    -- true, with one check and two elements left below; the check is key, the witness time, price, signature, and the buffer's rest is kept
    ∷ (answer price env (signature ++ little_endian 8 6 ++ little_endian 8 9) (0 ∷ 0 ∷ 64 ∷ 72 ∷ 80 ∷ []) room, 0 ∷ 1 ∷ 0 ∷ 1 ∷ 2 ∷ [])
    ∷ ((on price env (signature ++ little_endian 8 6 ++ little_endian 8 9) (64 ∷ 72 ∷ 80 ∷ []) room).buffer, key ++ little_endian 8 6 ++ little_endian 8 9 ++ signature ++ 1 ∷ 1 ∷ [])
    -- witness bytes after the last end are no element
    ∷ (answer (eq (Expr.Const 5) (Expr.Const 5)) env (7 ∷ 7 ∷ []) (1 ∷ []) [], 0 ∷ 1 ∷ 0 ∷ 0 ∷ 1 ∷ [])
    -- a key's bytes stay in their order, and a time's lowest byte comes first
    ∷ (expr_code (Expr.PriceOracle1 (1 ∷ replicate 31 7) 5), 32 ∷ 1 ∷ replicate 31 7 ++ 5 ∷ 0 ∷ 0 ∷ 0 ∷ 0 ∷ 0 ∷ 0 ∷ 0 ∷ [])
    -- 8 before 12 before 7, all elements left, and no byte written
    ∷ (answer price unpaired (0 ∷ []) (3 ∷ 2 ∷ []) [], bare 8 ++ 0 ∷ 2 ∷ []) ∷ (answer price env (0 ∷ []) (3 ∷ 2 ∷ []) [], bare 12 ++ 0 ∷ 2 ∷ [])
    ∷ (answer price env [] [] (replicate 111 1), bare 7 ++ 0 ∷ 0 ∷ []) ∷ ((on price env [] [] (replicate 111 1)).buffer, replicate 111 1)
    -- the left side first
    ∷ (answer (eq big past) env [] [] [], 27 ∷ (2 ^ 63 - 1) ∷ 1 ∷ 0 ∷ 0 ∷ []) ∷ (answer (eq past big) env [] [] [], bare 43 ++ 0 ∷ 0 ∷ [])
    -- the left operand first
    ∷ (answer (eq (Expr.Binary BinOp.BitAnd big past) (Expr.Const 5)) env [] [] [], 27 ∷ (2 ^ 63 - 1) ∷ 1 ∷ 0 ∷ 0 ∷ [])
    ∷ (answer (eq (Expr.Binary BinOp.BitAnd past big) (Expr.Const 5)) env [] [] [], bare 43 ++ 0 ∷ 0 ∷ [])
    -- index and count are given as they are, and a list's end comes before its marks
    ∷ (answer (eq (Expr.Lookup AmountList.Input (IdxExpr.Const (2 ^ 31 - 1))) big) env [] [] [], 20 ∷ (2 ^ 31 - 1) ∷ 1 ∷ 0 ∷ 0 ∷ [])
    ∷ (answer (eq (Expr.Lookup AmountList.Input (IdxExpr.Const (2 ^ 64 - 1))) big) env [] [] [], bare 41 ++ 0 ∷ 0 ∷ [])
    ∷ (answer (eq (Expr.Lookup AmountList.Output IdxExpr.CurrIdx) big) env [] [] [], 23 ∷ 0 ∷ 0 ∷ 0 ∷ 0 ∷ [])
    -- refusal 2's offset: of empty code, of a constant alone, of a byte after a comparison
    ∷ (place (checked []), 2 ∷ 0 ∷ 0 ∷ []) ∷ (place (checked (expr_code (Expr.Const 5))), 2 ∷ 9 ∷ 0 ∷ []) ∷ (place (checked (17 ∷ 17 ∷ 48 ∷ 17 ∷ [])), 2 ∷ 3 ∷ 0 ∷ [])
    -- 6 is Write's alone, and comes before 7
    ∷ (place (checked (eq (Expr.Lookup AmountList.Input (IdxExpr.Const (2 ^ 32))) (Expr.Const 5))), 0 ∷ [])
    ∷ (write (eq (Expr.Lookup AmountList.Input (IdxExpr.Const (2 ^ 32))) (Expr.Const 5)) [], bare 6)
    ∷ (write (eq (Expr.Const 5) (Expr.Const 5)) (0 ∷ 0 ∷ []), bare 7) ∷ (write (eq (Expr.Const 5) (Expr.Const 5)) (0 ∷ 0 ∷ 0 ∷ []), 3 ∷ 0 ∷ [])
    -- soundness is judged of every record, before 7; a field that is not there is unsound
    ∷ (decoded_answer (records (36 ∷ 2 ∷ 2 ∷ 14 ∷ [])), 9 ∷ 0 ∷ 0 ∷ []) ∷ (decoded_answer (records (2 ∷ 3 ∷ 14 ∷ [])), 9 ∷ 1 ∷ 0 ∷ [])
    ∷ (decoded_answer (record { kinds = 2 ∷ 2 ∷ 14 ∷ []; numbers = 5 ∷ 5 ∷ 0 ∷ []; places = 0 ∷ 0 ∷ []; keys = [] }), 9 ∷ 2 ∷ 0 ∷ [])
    ∷ (decoded_answer (records (2 ∷ 2 ∷ 14 ∷ [])), bare 7)
    -- R-2: where both rules are broken, 4, as Check; what stands before the tail is not judged; where no tail can be read, 11
    ∷ (tail_of (form_of (Expr.PriceOracle1W key 5) (Expr.PriceOracle1 key 5)), bare 4) ∷ (place (checked (eq (Expr.PriceOracle1W key 5) (Expr.PriceOracle1 key 5))), bare 4)
    ∷ (tail_of (form_of (Expr.Const 5) (Expr.PriceOracle1 key 5)), bare 5) ∷ (tail_of (expr_form (Expr.PriceOracle1W key 5) ++ form_of (Expr.Const 5) (Expr.Const 5)), 0 ∷ 13 ∷ [])
    ∷ (tail_of (form_of (Expr.Const 5) (Expr.Const 5) ++ form_of (Expr.Const 5) (Expr.PriceOracle1 key 5)), bare 5) ∷ (tail_of (expr_form (Expr.PriceOracle1W key 5)), bare 11)
    -- R-5: keys in the order of the first token that names them, equal ones once, also where only the last byte differs; 7 by the different ones
    ∷ (keys_left (three 1 2 1) 65, 40 ∷ 64 ∷ 0 ∷ 32 ∷ 0 ∷ ending 1 ++ ending 2 ++ 0 ∷ [])
    ∷ (keys_left (three 2 1 3) 96, 40 ∷ 96 ∷ 0 ∷ 32 ∷ 64 ∷ ending 2 ++ ending 1 ++ ending 3)
    ∷ (keys_left (three 1 1 1) 32, 40 ∷ 32 ∷ 0 ∷ 0 ∷ 0 ∷ ending 1) ∷ (keys_left (three 1 2 1) 63, bare 7 ++ replicate 63 0) ∷ []

pub readings_right : map (λ (e : List ℕ × List ℕ). e.0) readings ≡ map (λ (e : List ℕ × List ℕ). e.1) readings
unfolding readings checked_add checked_sub checked_mul idx_add idx_sub idx_mul idx_div little_endian bytes_value idx_form expr_form form idx_code expr_code code command_of instructions parse idx_head_form idx_head idx_within idx_from_tokens head_form head expr_within expr_from_tokens comparison from_tokens terminals oracle_rule oracles index amount oracle eval eval_arith decode initial judged condition checked evaluated_tree evaluated index_of with_key keys_from joined writing wrote tokens_from unsound_from decoded
readings_right = refl
