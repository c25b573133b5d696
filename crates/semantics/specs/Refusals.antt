-- "A refusal is a number with its data; place and data are 0 where none is named": the table under "What a call gives back".
-- An index and a count are unsigned; a signed operand is given as its 64 bits.
use Rattle.std.specs.Prelude.{ℕ, Bool, cond, List, [], ◌∷◌}
use Rattle.std.proofs.Math.Option.{Option, none, some}
use Rattle.word64.specs.Bits.{bits_of}
pub use Rattle.semantics.specs.declared.Refusal.{Refusal}
pub use Rattle.semantics.specs.declared.Numbered.{Numbered}

abbrev pub refusal : ℕ → ℕ → ℕ → Numbered
refusal number first second = record { number = number; first = first; second = second }

abbrev pub numbered : Refusal → Numbered
numbered Refusal.CodeTooLong = refusal 1 0 0
numbered (Refusal.NotWellFormed offset) = refusal 2 offset 0
numbered Refusal.TooManyTokens = refusal 3 0 0
numbered Refusal.PriceOracle1WFirst = refusal 4 0 0
numbered Refusal.PriceOracle1Missing = refusal 5 0 0
numbered Refusal.IndexConstTooLarge = refusal 6 0 0
numbered Refusal.BufferTooShort = refusal 7 0 0
numbered Refusal.AmountsUnsound = refusal 8 0 0
numbered (Refusal.TokenUnsound token) = refusal 9 token 0
numbered Refusal.TooManyRecords = refusal 10 0 0
numbered Refusal.NoCondition = refusal 11 0 0
numbered Refusal.WitnessUnsound = refusal 12 0 0
numbered (Refusal.UtxoIndexOutOfBounds index count) = refusal 20 index count
numbered (Refusal.NonExplicitInput index) = refusal 21 index 0
numbered (Refusal.OutputIndexOutOfBounds index count) = refusal 22 index count
numbered (Refusal.NonExplicitOutput index) = refusal 23 index 0
numbered (Refusal.InputIndexOutOfBounds index count) = refusal 24 index count
numbered (Refusal.NonExplicitInputIssuance index) = refusal 25 index 0
numbered (Refusal.NonExplicitInputReIssuance index) = refusal 26 index 0
numbered (Refusal.AddOverflow x y) = refusal 27 (bits_of x) (bits_of y)
numbered (Refusal.SubOverflow x y) = refusal 28 (bits_of x) (bits_of y)
numbered (Refusal.MulOverflow x y) = refusal 29 (bits_of x) (bits_of y)
numbered (Refusal.DivOverflow x y) = refusal 30 (bits_of x) (bits_of y)
numbered (Refusal.ModOverflow x y) = refusal 31 (bits_of x) (bits_of y)
numbered (Refusal.NegOverflow x) = refusal 32 (bits_of x) 0
numbered Refusal.MissingPrice = refusal 33 0 0
numbered Refusal.Price8BytePush = refusal 34 0 0
numbered Refusal.MissingTimestamp = refusal 35 0 0
numbered Refusal.Timstamp8BytePush = refusal 36 0 0
numbered Refusal.MissingOracleSignature = refusal 37 0 0
numbered Refusal.MalformedSig = refusal 38 0 0
numbered Refusal.TimestampInFuture = refusal 39 0 0
numbered Refusal.PriceOverflow = refusal 40 0 0
numbered Refusal.IndexStep = refusal 41 0 0
-- R-4: "A negative final index gives 43"
numbered Refusal.NegativeIndex = refusal 43 0 0

-- the first refusal that falls, if one does
abbrev pub first_of : List (Option Refusal) → Option Refusal
first_of [] = none
first_of (none ∷ rs) = first_of rs
first_of (some r ∷ rs) = some r

abbrev pub unless : Bool → Refusal → Option Refusal
unless holds r = cond holds none (some r)
