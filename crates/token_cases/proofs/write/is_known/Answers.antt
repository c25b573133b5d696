-- The case's own numbers, and then the answer's.
use Rattle.token_cases.proofs.write.is_known.Goals as goal

pub returns : goal.returns
returns c = rw (← c.nth.ensures, ← c.nth-2.ensures, ← c.nth-3.ensures, ← c.nth-4.ensures) c.begins_with.ensures
