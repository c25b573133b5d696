-- Each token that is looked at is a known one; where one is missing, there is no row.
use Rattle.std.proofs.Common.{[], Some, ap, sym, ◌∙◌}
use Rattle.productions.specs.Before.{tokens_before}
use Rattle.productions.proofs.Places.{no_fourth_token, no_token, there_known}
use Rattle.productions.proofs.candidate.Goals as goal

pub returns-in_err-last : goal.returns-in_err-last
returns-in_err-last c numbers places keys =
    rw c.from_residual.ensures
    (sym (no_token (tokens_before c.args.kinds.now numbers places keys c.args.end) (sym (c.kind_before.ensures numbers places keys) ∙ c.in_err-last.was)))

pub returns-in_err-kind_before-in-15 : goal.returns-in_err-kind_before-in-15
returns-in_err-kind_before-in-15 c numbers places keys =
    rw c.from_residual-in_err-kind_before-in-15.ensures
    (sym (no_fourth_token (tokens_before c.args.kinds.now numbers places keys c.args.end)
    (sym (c.kind_before.ensures numbers places keys) ∙ c.in_ok-last.was ∙ ap Some c.in-15.is)
    (sym (c.kind_before-in-15.ensures numbers places keys) ∙ c.in_err-kind_before-in-15.was)))

pub by_fourth-requires : goal.by_fourth-requires
by_fourth-requires c =
    there_known c.args.kinds.now [] [] [] c.args.end 3 _ c.requires.0
    (sym (c.kind_before-in-15.ensures [] [] []) ∙ c.in_ok-kind_before-in-15.was)

pub by_last-requires : goal.by_last-requires
by_last-requires c =
    there_known c.args.kinds.now [] [] [] c.args.end 0 _ c.requires.0 (sym (c.kind_before.ensures [] [] []) ∙ c.in_ok-last.was)
