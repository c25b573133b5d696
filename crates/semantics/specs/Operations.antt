-- The operations of a condition, a row for each: its command byte ("Condition code"), its tokens ("Tokens", as the source's `push_to_builder` has
-- them), and what it answers ("Evaluation").
use Rattle.std.specs.Prelude.{ℕ, Bool, List, [], ◌∷◌, ◌++◌, ℤ, Option, Some, None, Result, Ok, Err}
use Rattle.std.specs.Int.Signed.{lt_z, le_z}
use Rattle.num64.specs.Exact.{checked_add, checked_sub, checked_mul, checked_div, checked_rem, checked_neg}
use Rattle.word64.specs.Bits.{and_of, or_of, xor_of, invert_of, eq_z}
use Rattle.index64.specs.Steps.{idx_add, idx_sub, idx_mul, idx_div}
use Rattle.semantics.specs.Trees.{IdxOp, AmountList, BinOp, UnOp, CmpOp}
use Rattle.semantics.specs.Refusals.{Refusal}

-- "Forms are the same when kinds, numbers and key bytes agree"; a field that the kind does not use is 0 or empty
pub record Token : Type 0 where
  pub kind : ℕ
  pub number : ℕ
  pub key : List ℕ

-- a token of a kind that carries nothing, by its number in document 01
abbrev pub op : ℕ → Token
op kind = record { kind = kind; number = 0; key = [] }

abbrev pub num : ℕ → Token
num n = record { kind = 1; number = n; key = [] }

abbrev pub bytes8 : ℕ → Token
bytes8 n = record { kind = 2; number = n; key = [] }

abbrev pub bytes32 : List ℕ → Token
bytes32 key = record { kind = 3; number = 0; key = key }

-- `<1> EQUALVERIFY`, "EQUALVERIFY counting as Equal, Verify"
abbrev pub verified : List Token
verified = num 1 ∷ op 14 ∷ op 15 ∷ []

-- `between` stands between the operands' tokens: SCRIPTNUMTOLE64 where the operation is on 64-bit numbers; none is refusal 41
pub record IdxRow : Type 0 where
  pub command : ℕ
  pub between : List Token
  pub form : List Token
  pub result : ℤ → ℤ → Option ℤ

abbrev pub idx_row : IdxOp → IdxRow
-- ADD
idx_row IdxOp.Add = record { command = 3; between = []; form = op 5 ∷ []; result = idx_add }
-- SUB
idx_row IdxOp.Sub = record { command = 4; between = []; form = op 6 ∷ []; result = idx_sub }
-- SCRIPTNUMTOLE64 MUL64 <1> EQUALVERIFY LE64TOSCRIPTNUM
idx_row IdxOp.Mul = record { command = 5; between = op 7 ∷ []; form = op 7 ∷ op 9 ∷ verified ++ op 8 ∷ []; result = idx_mul }
-- SCRIPTNUMTOLE64 DIV64 <1> EQUALVERIFY NIP LE64TOSCRIPTNUM
idx_row IdxOp.Div = record { command = 6; between = op 7 ∷ []; form = op 7 ∷ op 10 ∷ verified ++ op 16 ∷ op 8 ∷ []; result = idx_div }

-- the refusals of an index past the list's end, and of an amount that is not explicit
pub record ListRow : Type 0 where
  pub command : ℕ
  pub form : List Token
  pub outside : ℕ → ℕ → Refusal
  pub hidden : ℕ → Refusal

abbrev pub row : ℕ → List Token → (ℕ → ℕ → Refusal) → (ℕ → Refusal) → ListRow
row c f o h = record { command = c; form = f; outside = o; hidden = h }

abbrev pub list_row : AmountList → ListRow
-- INSPECTINPUTVALUE <1> EQUALVERIFY
list_row AmountList.Input = row 18 (op 22 ∷ verified) Refusal.UtxoIndexOutOfBounds Refusal.NonExplicitInput
-- INSPECTOUTPUTVALUE <1> EQUALVERIFY
list_row AmountList.Output = row 19 (op 23 ∷ verified) Refusal.OutputIndexOutOfBounds Refusal.NonExplicitOutput
-- INSPECTINPUTISSUANCE DROP DROP <1> EQUALVERIFY NIP NIP
list_row AmountList.InputIssue =
    row 20 (op 24 ∷ op 17 ∷ op 17 ∷ verified ++ op 16 ∷ op 16 ∷ []) Refusal.InputIndexOutOfBounds Refusal.NonExplicitInputIssuance
-- INSPECTINPUTISSUANCE DROP DROP DROP DROP <1> EQUALVERIFY
list_row AmountList.InputReIssue =
    row 21 (op 24 ∷ op 17 ∷ op 17 ∷ op 17 ∷ op 17 ∷ verified) Refusal.InputIndexOutOfBounds Refusal.NonExplicitInputReIssuance

-- a 64-bit result, or the refusal where 64 bits hold none
abbrev pub or_refused : Option ℤ → Refusal → Result ℤ Refusal
or_refused (Some z) r = Ok z
or_refused None r = Err r

pub record BinRow : Type 0 where
  pub command : ℕ
  pub form : List Token
  pub result : ℤ → ℤ → Result ℤ Refusal

abbrev pub bin_row : BinOp → BinRow
-- ADD64 <1> EQUALVERIFY
bin_row BinOp.Add = record { command = 22; form = op 11 ∷ verified; result = λ x y. or_refused (checked_add x y) (Refusal.AddOverflow x y) }
-- SUB64 <1> EQUALVERIFY
bin_row BinOp.Sub = record { command = 23; form = op 12 ∷ verified; result = λ x y. or_refused (checked_sub x y) (Refusal.SubOverflow x y) }
-- MUL64 <1> EQUALVERIFY
bin_row BinOp.Mul = record { command = 24; form = op 9 ∷ verified; result = λ x y. or_refused (checked_mul x y) (Refusal.MulOverflow x y) }
-- DIV64 <1> EQUALVERIFY NIP, which keeps the quotient
bin_row BinOp.Div = record { command = 25; form = op 10 ∷ verified ++ op 16 ∷ []; result = λ x y. or_refused (checked_div x y) (Refusal.DivOverflow x y) }
-- DIV64 <1> EQUALVERIFY DROP, which keeps the remainder
bin_row BinOp.Mod = record { command = 26; form = op 10 ∷ verified ++ op 17 ∷ []; result = λ x y. or_refused (checked_rem x y) (Refusal.ModOverflow x y) }
-- AND
bin_row BinOp.BitAnd = record { command = 27; form = op 18 ∷ []; result = λ x y. Ok (and_of x y) }
-- OR
bin_row BinOp.BitOr = record { command = 28; form = op 19 ∷ []; result = λ x y. Ok (or_of x y) }
-- XOR
bin_row BinOp.Xor = record { command = 29; form = op 20 ∷ []; result = λ x y. Ok (xor_of x y) }

pub record UnRow : Type 0 where
  pub command : ℕ
  pub form : List Token
  pub result : ℤ → Result ℤ Refusal

abbrev pub un_row : UnOp → UnRow
-- INVERT
un_row UnOp.Invert = record { command = 30; form = op 21 ∷ []; result = λ x. Ok (invert_of x) }
-- NEG64 <1> EQUALVERIFY
un_row UnOp.Negate = record { command = 31; form = op 13 ∷ verified; result = λ x. or_refused (checked_neg x) (Refusal.NegOverflow x) }

pub record CmpRow : Type 0 where
  pub command : ℕ
  pub form : List Token
  pub result : ℤ → ℤ → Bool

abbrev pub cmp_row : CmpOp → CmpRow
-- EQUAL
cmp_row CmpOp.Eq = record { command = 48; form = op 14 ∷ []; result = eq_z }
-- LESSTHAN64
cmp_row CmpOp.Lt = record { command = 49; form = op 31 ∷ []; result = lt_z }
-- LESSTHANOREQUAL64
cmp_row CmpOp.Leq = record { command = 50; form = op 30 ∷ []; result = le_z }
-- GREATERTHAN64
cmp_row CmpOp.Gt = record { command = 51; form = op 29 ∷ []; result = λ x y. lt_z y x }
-- GREATERTHANOREQUAL64
cmp_row CmpOp.Geq = record { command = 52; form = op 28 ∷ []; result = λ x y. le_z y x }

-- every operation
abbrev pub idx_ops : List IdxOp
idx_ops = IdxOp.Add ∷ IdxOp.Sub ∷ IdxOp.Mul ∷ IdxOp.Div ∷ []

abbrev pub amount_lists : List AmountList
amount_lists = AmountList.Input ∷ AmountList.Output ∷ AmountList.InputIssue ∷ AmountList.InputReIssue ∷ []

abbrev pub bin_ops : List BinOp
bin_ops = BinOp.Add ∷ BinOp.Sub ∷ BinOp.Mul ∷ BinOp.Div ∷ BinOp.Mod ∷ BinOp.BitAnd ∷ BinOp.BitOr ∷ BinOp.Xor ∷ []

abbrev pub un_ops : List UnOp
un_ops = UnOp.Invert ∷ UnOp.Negate ∷ []

abbrev pub cmp_ops : List CmpOp
cmp_ops = CmpOp.Eq ∷ CmpOp.Lt ∷ CmpOp.Leq ∷ CmpOp.Gt ∷ CmpOp.Geq ∷ []
