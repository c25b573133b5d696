-- The tokens of the commands so far are written, and those to come are the rest (`Progress`).
use Rattle.std.proofs.Common.{◌-◌, length}
use Rattle.keys.specs.Keys.{keys_at}
use Rattle.token_form.specs.Storing.{columns_of}
use Rattle.token_form.proofs.Storing.{Progress}
use Rattle.token_form.proofs.write_records.Given as goal

abbrev pub invariant-loop-at : goal.invariant-loop-at
invariant-loop-at l =
    Progress l.code l.marks (keys_at l.code l.positions) (columns_of l.initial.kinds l.initial.numbers l.initial.places) (columns_of l.kinds l.numbers l.places) l.at l.count l.n

abbrev pub decreases-loop-at : goal.decreases-loop-at
decreases-loop-at l = length l.code - l.at
