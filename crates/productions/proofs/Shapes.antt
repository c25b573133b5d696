-- What stands before the own tokens of a production.
use Rattle.semantics.specs.FromTokens.{Head, IdxHead}
use Rattle.semantics.specs.declared.IdxOp.{IdxOp}
use Rattle.productions.specs.Ending.{Production}

-- what stands before the own tokens of a value: nothing, an index, a value or two values
pub data ValueShape : Type 0 where
  Terminal : ValueShape
  Lookup : ValueShape
  Unary : ValueShape
  Binary : ValueShape
  NoValue : ValueShape

-- and of an index: nothing, two indexes, or two indexes with ScriptNumToLe64 between them
pub data IndexShape : Type 0 where
  Terminal : IndexShape
  Plain : IndexShape
  Converted : IndexShape
  NoIndex : IndexShape

abbrev pub value_shape : Production → ValueShape
value_shape (Production.value (Head.const n)) = ValueShape.Terminal
value_shape (Production.value (Head.lookup l)) = ValueShape.Lookup
value_shape (Production.value (Head.unary o)) = ValueShape.Unary
value_shape (Production.value (Head.binary o)) = ValueShape.Binary
value_shape (Production.value (Head.oracle key time)) = ValueShape.Terminal
value_shape (Production.value (Head.oracle_w key time)) = ValueShape.Terminal
value_shape (Production.index h) = ValueShape.NoValue
value_shape Production.between = ValueShape.NoValue
value_shape (Production.comparison o) = ValueShape.NoValue

abbrev pub index_shape : Production → IndexShape
index_shape (Production.value h) = IndexShape.NoIndex
index_shape (Production.index (IdxHead.const n)) = IndexShape.Terminal
index_shape (Production.index IdxHead.curr) = IndexShape.Terminal
index_shape (Production.index (IdxHead.oper IdxOp.Add)) = IndexShape.Plain
index_shape (Production.index (IdxHead.oper IdxOp.Sub)) = IndexShape.Plain
index_shape (Production.index (IdxHead.oper IdxOp.Mul)) = IndexShape.Converted
index_shape (Production.index (IdxHead.oper IdxOp.Div)) = IndexShape.Converted
index_shape Production.between = IndexShape.NoIndex
index_shape (Production.comparison o) = IndexShape.NoIndex
