-- No refusal has the number of success.
use mathlib.Core.Path.{◌≡◌}
use native.Mathlib.Omega.{arith}
use Rattle.semantics.specs.Refusals.{Refusal, numbered}

pub refusal_not_0 : (r : Refusal) → (numbered r).number ≡ 0 → ⊥
refusal_not_0 Refusal.CodeTooLong e = omega arith
refusal_not_0 (Refusal.NotWellFormed offset) e = omega arith
refusal_not_0 Refusal.TooManyTokens e = omega arith
refusal_not_0 Refusal.PriceOracle1WFirst e = omega arith
refusal_not_0 Refusal.PriceOracle1Missing e = omega arith
refusal_not_0 Refusal.IndexConstTooLarge e = omega arith
refusal_not_0 Refusal.BufferTooShort e = omega arith
refusal_not_0 Refusal.AmountsUnsound e = omega arith
refusal_not_0 (Refusal.TokenUnsound token) e = omega arith
refusal_not_0 Refusal.TooManyRecords e = omega arith
refusal_not_0 Refusal.NoCondition e = omega arith
refusal_not_0 Refusal.WitnessUnsound e = omega arith
refusal_not_0 (Refusal.UtxoIndexOutOfBounds index count) e = omega arith
refusal_not_0 (Refusal.NonExplicitInput index) e = omega arith
refusal_not_0 (Refusal.OutputIndexOutOfBounds index count) e = omega arith
refusal_not_0 (Refusal.NonExplicitOutput index) e = omega arith
refusal_not_0 (Refusal.InputIndexOutOfBounds index count) e = omega arith
refusal_not_0 (Refusal.NonExplicitInputIssuance index) e = omega arith
refusal_not_0 (Refusal.NonExplicitInputReIssuance index) e = omega arith
refusal_not_0 (Refusal.AddOverflow x y) e = omega arith
refusal_not_0 (Refusal.SubOverflow x y) e = omega arith
refusal_not_0 (Refusal.MulOverflow x y) e = omega arith
refusal_not_0 (Refusal.DivOverflow x y) e = omega arith
refusal_not_0 (Refusal.ModOverflow x y) e = omega arith
refusal_not_0 (Refusal.NegOverflow x) e = omega arith
refusal_not_0 Refusal.MissingPrice e = omega arith
refusal_not_0 Refusal.Price8BytePush e = omega arith
refusal_not_0 Refusal.MissingTimestamp e = omega arith
refusal_not_0 Refusal.Timstamp8BytePush e = omega arith
refusal_not_0 Refusal.MissingOracleSignature e = omega arith
refusal_not_0 Refusal.MalformedSig e = omega arith
refusal_not_0 Refusal.TimestampInFuture e = omega arith
refusal_not_0 Refusal.PriceOverflow e = omega arith
refusal_not_0 Refusal.IndexStep e = omega arith
refusal_not_0 Refusal.NegativeIndex e = omega arith
