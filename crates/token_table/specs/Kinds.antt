-- The numbers of the kinds of tokens.
use Rattle.std.specs.Prelude.{ℕ, Bool, eqb, ◌||◌, ◌≡◌, ◌<◌, Result, Ok, Err}
use Rattle.token_table.specs.declared.TokenKind.{TokenKind}
use Rattle.token_table.specs.declared.UnknownKind.{UnknownKind}

abbrev pub number : TokenKind → ℕ
number TokenKind.Other = 0
number TokenKind.Num = 1
number TokenKind.Bytes8 = 2
number TokenKind.Bytes32 = 3
number TokenKind.CurrInp = 4
number TokenKind.Add = 5
number TokenKind.Sub = 6
number TokenKind.ScriptNumToLe64 = 7
number TokenKind.Le64ToScriptNum = 8
number TokenKind.Mul64 = 9
number TokenKind.Div64 = 10
number TokenKind.Add64 = 11
number TokenKind.Sub64 = 12
number TokenKind.Neg64 = 13
number TokenKind.Equal = 14
number TokenKind.Verify = 15
number TokenKind.Nip = 16
number TokenKind.Drop = 17
number TokenKind.And = 18
number TokenKind.Or = 19
number TokenKind.Xor = 20
number TokenKind.Invert = 21
number TokenKind.InpValue = 22
number TokenKind.OutValue = 23
number TokenKind.InpIssue = 24
number TokenKind.Dup2 = 25
number TokenKind.ToAltStack = 26
number TokenKind.FromAltStack = 27
number TokenKind.Geq64 = 28
number TokenKind.Ge64 = 29
number TokenKind.Leq64 = 30
number TokenKind.Le64 = 31
number TokenKind.Cat = 32
number TokenKind.Sha256 = 33
number TokenKind.CheckSigFromStackVerify = 34
number TokenKind.Swap = 35

-- a Num and a Bytes8 have one
abbrev pub has_number : ℕ → Bool
has_number kind = eqb kind 1 || eqb kind 2

-- the kind of a number, if there is one
abbrev pub KindOf : ℕ → Result TokenKind UnknownKind → Type 0
KindOf n (Ok kind) = number kind ≡ n
KindOf n (Err unknown) = 35 < n
