-- What is left is not negative (`plain`).
use Rattle.num64.proofs.SignCases.{of_nonnegative, Given, asks, plain}
use Rattle.num64.proofs.nonnegative_by_negative.Statement.{statement}
use Rattle.num64.proofs.nonnegative_by_negative.Tie as tie

given : (c : tie.Start) → Given c.args.a c.args.b
given c = record { fits_a = c.ranges.a; fits_b = c.ranges.b; divisible = of_nonnegative c.args.a c.args.b c.requires.0 c.requires.1 }

returns : tie.Need-returns
returns c = plain (given c) c.requires.0

pub nonnegative_by_negative_spec : {M : Type 1} → statement M
nonnegative_by_negative_spec = tie.close (tie.spec (λ c. asks (given c)) (λ c. asks (given c)) returns)
