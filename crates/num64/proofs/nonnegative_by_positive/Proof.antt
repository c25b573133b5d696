-- What is left is not negative (`plain`).
use Rattle.num64.proofs.SignCases.{by_positive, Given, asks, plain}
use Rattle.num64.proofs.nonnegative_by_positive.Statement.{statement}
use Rattle.num64.proofs.nonnegative_by_positive.Tie as tie

given : (c : tie.Start) → Given c.args.a c.args.b
given c = record { fits_a = c.ranges.a; fits_b = c.ranges.b; divisible = by_positive c.args.a c.args.b c.requires.1 }

returns : tie.Need-returns
returns c = plain (given c) c.requires.0

pub nonnegative_by_positive_spec : {M : Type 1} → statement M
nonnegative_by_positive_spec = tie.close (tie.spec (λ c. asks (given c)) (λ c. asks (given c)) returns)
