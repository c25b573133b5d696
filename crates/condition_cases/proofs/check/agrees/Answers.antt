-- The answer is the definition's, and it is compared number by number.
use Rattle.condition_cases.specs.Agreement.{check_agrees}
use Rattle.condition_cases.proofs.check.agrees.Goals as goal

pub returns : goal.returns
unfolding check_agrees
returns c = rw (c.begins_with.ensures, c.part-2.ensures, c.covenant_check-answer.ensures, c.part.ensures)
