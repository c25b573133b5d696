-- Nothing is read, the oracle rule is broken, or the code is written.
use Rattle.std.proofs.Common.{sym, ◌∙◌}
use Rattle.std.proofs.lemmas.Result.{err_from_is_err_and}
use Rattle.emission.specs.Pieces.{records_in}
use Rattle.productions.proofs.Noted.{rows_fit}
use Rattle.decoder.proofs.Scans.{ready_numbered, ready_whole}
use Rattle.decoder.proofs.Call.{code_accepted, code-room, read_none, rule-broken, turned_down}
use Rattle.decoder.proofs.decode_sound.Goals as goal

pub find_rows-requires-clause-numbered : goal.find_rows-requires-clause-numbered
find_rows-requires-clause-numbered c = ready_numbered (records_in c.args.columns.now) c.requires.ready.sound

pub read_condition-requires : goal.read_condition-requires
read_condition-requires c =
    let r = records_in c.args.columns.now in
    rows_fit r _ _ c.requires.ready.few (c.find_rows.ensures r.places r.keys)

pub judge-requires : goal.judge-requires
judge-requires c =
    let r = records_in c.args.columns.now in
    rows_fit r _ _ c.requires.ready.few (c.find_rows.ensures r.places r.keys)

pub returns-in_default : goal.returns-in_default
returns-in_default c =
    let r = records_in c.args.columns.now in
    turned_down r c.args.code.now c.requires.ready c.requires.lent _
    (read_none r (sym c.in_default.is ∙ c.read_condition.ensures r (c.find_rows.ensures r.places r.keys)))

pub returns-in_err-bytes : goal.returns-in_err-bytes
returns-in_err-bytes c =
    let r = records_in c.args.columns.now in
    let noted = c.find_rows.ensures r.places r.keys in
    let p = err_from_is_err_and c.from_residual.result c.from_residual.ensures.1 in
    rw (p.1, p.2)
    (turned_down r c.args.code.now c.requires.ready c.requires.lent _
    (rule-broken r c.args.code.now c.requires.ready c.requires.lent _ (sym c.in-Read.is ∙ c.read_condition.ensures r noted) _
    (sym c.in_err-bytes.was ∙ c.judge.ensures r.numbers r.places r.keys noted (ready_whole r c.requires.ready.sound))))

pub emit-requires-clause-numbered : goal.emit-requires-clause-numbered
emit-requires-clause-numbered c = ready_numbered (records_in c.args.columns.now) c.requires.ready.sound

pub emit-requires-clause-whole : goal.emit-requires-clause-whole
emit-requires-clause-whole c = ready_whole (records_in c.args.columns.now) c.requires.ready.sound

-- the pieces of what was read, as they were judged
pub emit-requires-clause-bytes_in_bounds : goal.emit-requires-clause-bytes_in_bounds
emit-requires-clause-bytes_in_bounds c =
    let r = records_in c.args.columns.now in
    let noted = c.find_rows.ensures r.places r.keys in
    code-room r c.args.code.now c.requires.ready c.requires.lent _ (sym c.in-Read.is ∙ c.read_condition.ensures r noted) _
    (sym c.in_ok-bytes.was ∙ c.judge.ensures r.numbers r.places r.keys noted (ready_whole r c.requires.ready.sound))

pub returns : goal.returns
returns c =
    let r = records_in c.args.columns.now in
    let noted = c.find_rows.ensures r.places r.keys in
    code_accepted r c.args.code.now c.requires.ready c.requires.lent _ (sym c.in-Read.is ∙ c.read_condition.ensures r noted) _
    (sym c.in_ok-bytes.was ∙ c.judge.ensures r.numbers r.places r.keys noted (ready_whole r c.requires.ready.sound)) _ c.emit.ensures
