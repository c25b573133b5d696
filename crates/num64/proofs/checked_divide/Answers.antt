-- Quotient and remainder of the case, since there is no other; none where 30 and 31 fall.
use Rattle.std.proofs.Common.{false, ◌≡◌, Bool, ℤ, sym, ◌∙◌, SFits, of_z, to_z, to_z-of_z, w64}
use Rattle.num64.specs.SignCases.{no_quotient}
use Rattle.num64.proofs.SignCases.{Given, div_is, no_quotient_lem, no_remainder, rem_is}
use Rattle.num64.proofs.checked_divide.Goals as goal

-- what the test said, of numbers that were passed by their bits
asked : {a b : ℤ} {t r : Bool} → SFits w64 a → SFits w64 b → t ≡ no_quotient (to_z w64 (of_z w64 a)) (to_z w64 (of_z w64 b)) → t ≡ r → no_quotient a b ≡ r
asked f g e h = rw (to_z-of_z f, to_z-of_z g) at (sym e ∙ h)

pub returns-then-has_no_quotient-clause-quotient : goal.returns-then-has_no_quotient-clause-quotient
returns-then-has_no_quotient-clause-quotient c =
    no_quotient_lem c.args.a c.args.b (asked c.ranges.a c.ranges.b c.has_no_quotient.ensures c.if-has_no_quotient.true)

pub returns-then-has_no_quotient-clause-remainder : goal.returns-then-has_no_quotient-clause-remainder
returns-then-has_no_quotient-clause-remainder c =
    no_remainder c.args.a c.args.b (asked c.ranges.a c.ranges.b c.has_no_quotient.ensures c.if-has_no_quotient.true)

given : {a b : ℤ} {t : Bool} → SFits w64 a → SFits w64 b → t ≡ no_quotient (to_z w64 (of_z w64 a)) (to_z w64 (of_z w64 b)) → t ≡ false → Given a b
given f g e h = record { fits_a = f; fits_b = g; divisible = asked f g e h }

pub returns-clause-quotient : goal.returns-clause-quotient
returns-clause-quotient c =
    div_is (given c.ranges.a c.ranges.b c.has_no_quotient.ensures c.if-has_no_quotient.false)
    (rw (to_z-of_z c.ranges.a, to_z-of_z c.ranges.b) at c.divide.ensures)

pub returns-clause-remainder : goal.returns-clause-remainder
returns-clause-remainder c =
    rem_is (given c.ranges.a c.ranges.b c.has_no_quotient.ensures c.if-has_no_quotient.false)
    (rw (to_z-of_z c.ranges.a, to_z-of_z c.ranges.b) at c.divide.ensures)
