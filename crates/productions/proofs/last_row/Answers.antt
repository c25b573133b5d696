-- The candidate, if there is one and its marks fit.
use Rattle.std.proofs.Common.{[], true, false, sym, ◌∙◌}
use Rattle.productions.specs.Before.{tokens_before}
use Rattle.productions.proofs.Places.{candidate_found, no_candidate, numbered_row}
use Rattle.productions.proofs.last_row.Goals as goal

pub returns-in_err-row : goal.returns-in_err-row
returns-in_err-row c places keys =
    rw c.from_residual.ensures
    (sym (no_candidate (tokens_before c.args.kinds.now c.args.numbers.now places keys c.args.end) (sym (c.candidate.ensures c.args.numbers.now places keys) ∙ c.in_err-row.was)))

pub ends_with_candidate-requires-clause-candidate : goal.ends_with_candidate-requires-clause-candidate
ends_with_candidate-requires-clause-candidate c = (
  (numbered_row _ _ (sym (c.candidate.ensures [] [] []) ∙ c.in_ok-row.was)).1,
  λ places keys. (numbered_row _ _ (sym (c.candidate.ensures c.args.numbers.now places keys) ∙ c.in_ok-row.was)).0,
)

pub returns-then-ends_with_candidate : goal.returns-then-ends_with_candidate
returns-then-ends_with_candidate c places keys =
    let row = numbered_row _ _ (sym (c.candidate.ensures c.args.numbers.now places keys) ∙ c.in_ok-row.was) in
    sym (candidate_found (tokens_before c.args.kinds.now c.args.numbers.now places keys c.args.end) c.in_ok-row.row row.1 row.0 true
    (sym c.if-ends_with_candidate.true ∙ c.ends_with_candidate.ensures places keys))

pub returns-else-ends_with_candidate : goal.returns-else-ends_with_candidate
returns-else-ends_with_candidate c places keys =
    let row = numbered_row _ _ (sym (c.candidate.ensures c.args.numbers.now places keys) ∙ c.in_ok-row.was) in
    sym (candidate_found (tokens_before c.args.kinds.now c.args.numbers.now places keys c.args.end) c.in_ok-row.row row.1 row.0 false
    (sym c.if-ends_with_candidate.false ∙ c.ends_with_candidate.ensures places keys))
