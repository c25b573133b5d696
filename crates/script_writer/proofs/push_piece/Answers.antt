-- An oracle terminal's operand bytes are its key and its time.
use Rattle.semantics.proofs.Machine.{key_at_lem, time_at_lem}
use Rattle.script_writer.proofs.push_piece.Goals as goal

pub returns-in-Oracle : goal.returns-in-Oracle
returns-in-Oracle c = rw (c.in-Oracle.is, key_at_lem _ _, time_at_lem _ _) c.push_oracle.ensures

pub returns-in-OracleW : goal.returns-in-OracleW
returns-in-OracleW c = rw (c.in-OracleW.is, key_at_lem _ _, time_at_lem _ _) c.push_oracle_w.ensures
