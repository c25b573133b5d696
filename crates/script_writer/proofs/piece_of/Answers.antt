-- The command is the one that its arm knows; its bytes are in a row (`row_piece`), a number's (`int_piece`), or its operand's.
use Rattle.script.proofs.Pushes.{int_few}
use Rattle.script_writer.proofs.Pieces.{int_piece, row_piece}
use Rattle.script_writer.proofs.piece_of.Goals as goal

pub returns-in-Unknown : goal.returns-in-Unknown
returns-in-Unknown c = rw c.in-Unknown.is (row_piece _ c.args.code.now c.args.at (rw c.in-Unknown.is at c.requires) _ c.no_row.ensures.0 c.no_row.ensures.1)

pub returns-in-IdxConst : goal.returns-in-IdxConst
returns-in-IdxConst c = rw c.in-IdxConst.is (int_piece _ c.args.code.now c.args.at (rw c.in-IdxConst.is at c.requires) _ (rw c.read_le64.ensures.value) (int_few c.read_le64.result))

pub returns-in-CurrIdx : goal.returns-in-CurrIdx
returns-in-CurrIdx c = rw c.in-CurrIdx.is (row_piece _ c.args.code.now c.args.at (rw c.in-CurrIdx.is at c.requires) _ c.current_index_row.ensures.0 c.current_index_row.ensures.1)

pub returns-in-Index : goal.returns-in-Index
returns-in-Index c = rw c.in-Index.is (row_piece _ c.args.code.now c.args.at (rw c.in-Index.is at c.requires) _ c.index_row.ensures.0 c.index_row.ensures.1)

pub returns-in-CurrInputIdx : goal.returns-in-CurrInputIdx
returns-in-CurrInputIdx c = rw c.in-CurrInputIdx.is (row_piece _ c.args.code.now c.args.at (rw c.in-CurrInputIdx.is at c.requires) _ c.current_row.ensures.0 c.current_row.ensures.1)

pub returns-in-Lookup : goal.returns-in-Lookup
returns-in-Lookup c = rw c.in-Lookup.is (row_piece _ c.args.code.now c.args.at (rw c.in-Lookup.is at c.requires) _ c.lookup_row.ensures.0 c.lookup_row.ensures.1)

pub returns-in-Binary : goal.returns-in-Binary
returns-in-Binary c = rw c.in-Binary.is (row_piece _ c.args.code.now c.args.at (rw c.in-Binary.is at c.requires) _ c.binary_row.ensures.0 c.binary_row.ensures.1)

pub returns-in-Unary : goal.returns-in-Unary
returns-in-Unary c = rw c.in-Unary.is (row_piece _ c.args.code.now c.args.at (rw c.in-Unary.is at c.requires) _ c.unary_row.ensures.0 c.unary_row.ensures.1)

pub returns-in-Compare : goal.returns-in-Compare
returns-in-Compare c = rw c.in-Compare.is (row_piece _ c.args.code.now c.args.at (rw c.in-Compare.is at c.requires) _ c.compare_row.ensures.0 c.compare_row.ensures.1)
