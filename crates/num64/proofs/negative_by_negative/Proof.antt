-- Nothing is left (`exact`), or what is left is negative: once more (`more`).
use Rattle.std.proofs.Common.{pos, ◌+ℤ◌, ◌-ℤ◌}
use Rattle.num64.proofs.SignCases.{Given, Found, word, times, left, asks, exact, more}
use Rattle.num64.proofs.negative_by_negative.Statement.{statement}
use Rattle.num64.proofs.negative_by_negative.Tie as tie

given : (c : tie.Start) → Given c.args.a c.args.b
given c = record { fits_a = c.ranges.a; fits_b = c.ranges.b; divisible = c.requires.2 }

returns : tie.Need-returns-then-left-eq0
returns c = exact (given c.before) c.if-left-eq0.true

step : (c : tie.Else-left-eq0)
    → let a = c.args.a in
    let b = c.args.b in
    Found a b (times a b +ℤ pos 1) (left a b -ℤ word b)
step c = let s = c.before in more (given s) s.requires.0 c.if-left-eq0.false s.requires.1

returns-2 : tie.Need-returns
returns-2 c = (step c).2

pub negative_by_negative_spec : {M : Type 1} → statement M
negative_by_negative_spec = tie.close (tie.spec (λ c. asks (given c)) (λ c. asks (given c)) returns (λ c. (step c).0) (λ c. (step c).1) returns-2)
