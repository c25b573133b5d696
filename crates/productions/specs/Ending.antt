-- What tokens can end with: the own tokens of a value or index expression, what stands between two index operands, or a comparison. Each has a
-- row: its command, and the marks of its own tokens, the last one first. The rows are made of the commands' own tokens.
use Rattle.std.specs.Prelude.{ℕ, suc, Option, Some, None, Bool, true, false, ◌&&◌, cond, List, [], ◌∷◌, ◌++◌, map, reverse, length, get_or, drop, eqb, ltb}
use Rattle.semantics.specs.Code.{command_row, known}
use Rattle.semantics.specs.Operations.{Token, op, idx_row, cmp_row, amount_lists, bin_ops, cmp_ops, idx_ops, un_ops}
use Rattle.semantics.specs.declared.Command.{Command}
use Rattle.semantics.specs.declared.IdxOp.{IdxOp}
use Rattle.semantics.specs.declared.CmpOp.{CmpOp}
use Rattle.semantics.specs.FromTokens.{Found, Head, IdxHead, found, head_form, heads, idx_head_form, nothing, number_at}

pub data Production : Type 0 where
  value : Head → Production
  index : IdxHead → Production
  between : Production
  comparison : CmpOp → Production

-- its own tokens, the last one first
unfoldable pub ending : Production → List Token
ending (Production.value h) = head_form h
ending (Production.index h) = idx_head_form h
ending Production.between = reverse (idx_row IdxOp.Mul).between
ending (Production.comparison o) = reverse (cmp_row o).form

-- all of them, with what the tokens carry where the production carries something
abbrev pub productions : List Token → List Production
productions ts =
    map Production.value (heads ts) ++ map Production.index (IdxHead.const (number_at ts 0) ∷ IdxHead.curr ∷ map IdxHead.oper idx_ops)
    ++ Production.between ∷ map Production.comparison cmp_ops

abbrev pub production_of : List Token → ℕ → Production
production_of ts k = get_or (productions ts) k Production.between

-- kinds that the rows are told apart by
abbrev pub equal_kind : ℕ
equal_kind = 14

abbrev pub verify_kind : ℕ
verify_kind = 15

abbrev pub nip_kind : ℕ
nip_kind = 16

abbrev pub le64_to_script_num_kind : ℕ
le64_to_script_num_kind = 8

-- a mark is the token's kind, but a Num of 1 has a mark of its own; and what is no mark
abbrev pub num_one : ℕ
num_one = 36

abbrev pub no_mark : ℕ
no_mark = 99

abbrev pub mark : Token → ℕ
mark t = cond (eqb t.kind 1 && eqb t.number 1) num_one t.kind

pub record Row : Type 0 where
  pub command : Command
  pub marks : List ℕ

-- a command's row, of its own tokens; a constant, a time and a key may be any
abbrev pub row_of : Command → Row
row_of c = record { command = c; marks = map mark (reverse ((command_row c).tokens [])) }

-- what stands between the operands of index mul and div is no command's
abbrev pub between_row : Row
between_row = record { command = Command.Unknown; marks = map mark (reverse (idx_row IdxOp.Mul).between) }

abbrev pub blank : Row
blank = record { command = Command.Unknown; marks = [] }

-- the rows, in the order of the productions
unfoldable pub rows : List Row
rows =
    map row_of
    (Command.Const ∷ map Command.Lookup amount_lists ++ map Command.Unary un_ops ++ map Command.Binary bin_ops ++ Command.PriceOracle1 ∷ Command.PriceOracle1W
    ∷ Command.IdxConst ∷ Command.CurrIdx ∷ map Command.Index idx_ops)
    ++ between_row ∷ map (λ o. row_of (Command.Compare o)) cmp_ops

abbrev pub row_count : ℕ
row_count = 29

-- those of values come first
abbrev pub value_count : ℕ
value_count = 17

abbrev pub div_row : ℕ
div_row = 10

abbrev pub index_div_row : ℕ
index_div_row = 22

abbrev pub row_at : ℕ → Row
row_at k = get_or rows k blank

abbrev pub command_in : Row → Option Command
command_in r = cond (known r.command) (Some r.command) None

-- the mark of a kind in a row of several tokens: a Num there is one of 1
abbrev pub mark_of : ℕ → ℕ
mark_of kind = cond (eqb kind 1) num_one kind

-- whether a token has a mark
abbrev pub fits : ℕ → ℕ → ℕ → Bool
fits m kind number = cond (eqb m num_one) (eqb kind 1 && eqb number 1) (eqb kind m)

-- whether tokens end with marks
unfoldable pub ends : List ℕ → List Token → Bool
ends [] ts = true
ends (m ∷ ms) [] = false
ends (m ∷ ms) (t ∷ ts) = fits m t.kind t.number && ends ms ts

abbrev pub kind_at : List Token → ℕ → ℕ
kind_at ts i = (get_or ts i (op 0)).kind

-- the same, if there are so many tokens
abbrev pub kind_there : List Token → ℕ → Option ℕ
kind_there ts i = cond (ltb i (length ts)) (Some (kind_at ts i)) None

-- how many rows stand before the first with this mark at this place
abbrev pub rows_before : ℕ → ℕ → List Row → ℕ
rows_before place m [] = 0
rows_before place m (r ∷ rs) = cond (eqb (get_or r.marks place no_mark) m) 0 (suc (rows_before place m rs))

-- the only row that tokens with these last, second last and fourth last kinds can end with, or the number of rows
abbrev pub candidate : ℕ → ℕ → ℕ → ℕ
candidate last second fourth =
    cond (eqb last verify_kind) (rows_before 3 fourth rows)
    (cond (eqb last le64_to_script_num_kind && eqb second nip_kind) index_div_row
    (cond (eqb last nip_kind && eqb second verify_kind) div_row (rows_before 0 last rows)))

abbrev pub candidate_of : List Token → ℕ
candidate_of ts = candidate (kind_at ts 0) (kind_at ts 1) (kind_at ts 3)

-- the row that tokens end with
unfoldable pub last_row : List Token → Found ℕ
last_row ts =
    let k = candidate_of ts in
    cond (ltb k row_count && ends (row_at k).marks ts) (found k (drop (length (row_at k).marks) ts)) nothing

-- the row of a number
abbrev pub row_numbered : ℕ → Option ℕ
row_numbered k = cond (ltb k row_count) (Some k) None

-- its number, or the number of rows
abbrev pub row_found : Found ℕ → ℕ
row_found (found k r) = k
row_found nothing = row_count
