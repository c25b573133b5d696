-- The row that is noted, but for the twin.
use Rattle.std.proofs.Common.{[], arith, sym, ◌∙◌}
use Rattle.semantics.specs.Records.{records_of}
use Rattle.productions.proofs.Noted.{noted_at, own_tokens}
use Rattle.productions.proofs.Places.{numbered_none, numbered_row, same_some, some_same}
use Rattle.emission.proofs.Mets.{met_none, met-row, met_twin, twin_some}
use Rattle.emission.proofs.last_command.Goals.{else-row-eq-INPUT-via-then-row-eq-INPUT+else-eq, else-row-eq-INPUT-via-else-row-eq-INPUT}
use Rattle.emission.proofs.last_command.Goals as goal

pub returns-in_default : goal.returns-in_default
returns-in_default c =
    let none = numbered_none _ (sym c.row_before.ensures ∙ c.in_default.is) in
    record {
      falls = omega arith;
      met = λ numbers places keys p. met_none (records_of c.args.kinds.now numbers places keys) c.args.end _ (p.noted _ (omega arith)) none c.requires.2;
    }

pub overflow_sub-result-then-eq : goal.overflow_sub-result-then-eq
overflow_sub-result-then-eq c =
    twin_some (records_of c.args.kinds.now [] [] []) _ (sym (c.kind_before.ensures [] [] []) ∙ same_some _ 4 (sym c.eq.ensures ∙ c.if-eq.true))

pub returns-then-eq : goal.returns-then-eq
returns-then-eq c =
    let row = numbered_row _ _ (sym c.row_before.ensures ∙ c.in-Some.is) in
    let own = own_tokens c.args.rows.now c.args.end c.args.end _ _ c.requires.0 (omega arith) row.0 row.1 c.width.ensures in
    record {
      falls = omega arith;
      met = λ numbers places keys p.
          met_twin (records_of c.args.kinds.now numbers places keys) c.args.end _ _
          (noted_at c.args.rows.now c.args.end c.args.end _ _ c.requires.0 (omega arith) row.0 row.1 c.width.ensures _ p) c.if-row-eq-INPUT.true
          (sym (c.kind_before.ensures numbers places keys) ∙ same_some _ 4 (sym c.eq.ensures ∙ c.if-eq.true));
    }

pub returns : goal.returns
returns c =
    let row = numbered_row _ _ (sym c.row_before.ensures ∙ c.in-Some.is) in
    let own = own_tokens c.args.rows.now c.args.end c.args.end _ _ c.requires.0 (omega arith) row.0 row.1 c.width.ensures in
    record {
      falls = omega arith;
      met = λ numbers places keys p.
          met-row (records_of c.args.kinds.now numbers places keys) c.args.end _ _
          (noted_at c.args.rows.now c.args.end c.args.end _ _ c.requires.0 (omega arith) row.0 row.1 c.width.ensures _ p)
          (elim c.else-row-eq-INPUT.branch [
            | else-row-eq-INPUT-via-then-row-eq-INPUT+else-eq w ↦ λ e f. some_same _ 4 (sym w.eq.ensures ∙ w.if-eq.false) (w.kind_before.ensures numbers places keys ∙ f)
            | else-row-eq-INPUT-via-else-row-eq-INPUT w ↦ λ e f. w.if-row-eq-INPUT.false e
          ]) _ c.command.ensures;
    }
