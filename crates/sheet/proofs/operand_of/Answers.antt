-- An oracle's time comes after its key (`time_at_lem`).
use Rattle.std.proofs.Common.{◌≡◌, ℕ, List, ◌+◌, ◌⊎◌}
use mathlib.Core.Logic.{inl, inr}
use Rattle.slices.specs.Bytes.{Read64}
use Rattle.semantics.specs.declared.Command.{Command}
use Rattle.semantics.specs.Parse.{operand_bytes}
use Rattle.semantics.proofs.Machine.{time_at_lem}
use Rattle.decimals.specs.Decimal.{decimal}
use Rattle.sheet.specs.Sheet.{operand}
use Rattle.sheet.proofs.operand_of.Goals as goal

time_of : (command : Command) (code : List ℕ) (at n : ℕ) → (command ≡ Command.PriceOracle1) ⊎ (command ≡ Command.PriceOracle1W) → Read64 code (at + 32) n
    → decimal n ≡ operand command (operand_bytes command code at)
time_of command code at n (inl e) r = rw (e, time_at_lem code at, ← r.value)
time_of command code at n (inr e) r = rw (e, time_at_lem code at, ← r.value)

pub returns-in-PriceOracle1 : goal.returns-in-PriceOracle1
returns-in-PriceOracle1 c = time_of c.args.command c.args.code.now c.args.at _ c.in-PriceOracle1.is c.read_le64-in-PriceOracle1.ensures
