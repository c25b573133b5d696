-- The condition code that tokens are the form of, a piece for each production, from the last token back.
use Rattle.std.specs.Prelude.{unwrap_or, ℕ, zero, suc, ◌+◌, ◌-◌, ◌≤◌, ◌<◌, ◌≡◌, Bool, true, false, ◌&&◌, cond, List, [], ◌∷◌, ◌++◌, map, length, get_or, take, drop, eqb, Result, Ok, Err}
use Rattle.std.proofs.Math.Option.{Option, none, some}
use Rattle.slices.specs.Bytes.{little_endian}
use Rattle.semantics.specs.declared.Command.{Command}
use Rattle.semantics.specs.declared.Refusal.{Refusal}
use Rattle.semantics.specs.declared.Terminal.{Terminal}
use Rattle.semantics.specs.Code.{command_row, known}
use Rattle.semantics.specs.Operations.{Token}
use Rattle.semantics.specs.FromTokens.{Found, Head, IdxHead, found, nothing}
use Rattle.semantics.specs.Oracle.{rule}
use Rattle.semantics.specs.Records.{Records, key_of, records_of, token_at}
use Rattle.productions.specs.Before.{before}
use Rattle.productions.specs.Noted.{Rows}
use Rattle.productions.specs.Ending.{Production, kind_at, last_row, production_of, row_at}
use Rattle.emission.specs.declared.command_at.CommandAt.{CommandAt}
use Rattle.emission.specs.declared.TokenColumns.{TokenColumns}

-- the records of columns
abbrev pub records_in : TokenColumns → Records
records_in c = records_of c.kinds.now c.numbers.now c.places.now c.keys.now

-- a command with its operand bytes; a piece of the unknown command is of no bytes
pub record Piece : Type 0 where
  pub command : Command
  pub operands : List ℕ

abbrev pub piece : Command → List ℕ → Piece
piece c n = record { command = c; operands = n }

abbrev pub bytes_of : Piece → List ℕ
bytes_of p = cond (known p.command) ((command_row p.command).byte ∷ p.operands) []

abbrev pub size_of : Command → ℕ
size_of c = cond (known c) ((command_row c).width + 1) 0

-- a production's own piece
unfoldable pub own_piece : Production → Piece
own_piece (Production.value (Head.const n)) = piece Command.Const (little_endian 8 n)
own_piece (Production.value (Head.lookup l)) = piece (Command.Lookup l) []
own_piece (Production.value (Head.unary o)) = piece (Command.Unary o) []
own_piece (Production.value (Head.binary o)) = piece (Command.Binary o) []
own_piece (Production.value (Head.oracle key time)) = piece Command.PriceOracle1 (key ++ little_endian 8 time)
own_piece (Production.value (Head.oracle_w key time)) = piece Command.PriceOracle1W (key ++ little_endian 8 time)
own_piece (Production.index (IdxHead.const n)) = piece Command.IdxConst (little_endian 8 n)
own_piece (Production.index IdxHead.curr) = piece Command.CurrIdx []
own_piece (Production.index (IdxHead.oper o)) = piece (Command.Index o) []
own_piece Production.between = piece Command.Unknown []
own_piece (Production.comparison o) = piece (Command.Compare o) []

-- a piece, and the number of its tokens
pub record Part : Type 0 where
  pub piece : Piece
  pub width : ℕ

-- the row of `Input`, and the kind of the current index
abbrev pub input_row : ℕ
input_row = 1

abbrev pub curr_inp_kind : ℕ
curr_inp_kind = 4

-- `Input` of the current index is `CurrInputIdx`; tokens that end with no production are passed over one by one
abbrev pub part_of : List Token → Found ℕ → Part
part_of ts nothing = record { piece = piece Command.Unknown []; width = 1 }
part_of ts (found k r) =
    cond (eqb k input_row && eqb (kind_at r 0) curr_inp_kind) (record { piece = piece Command.CurrInputIdx []; width = length (row_at k).marks + 1 })
    (record { piece = own_piece (production_of ts k); width = length (row_at k).marks })

unfoldable pub part : List Token → Part
part ts = part_of ts (last_row ts)

-- the pieces of the first n of tokens, the last token first; the next `skip` belong to a piece that was met
unfoldable pub pieces_after : ℕ → ℕ → List Token → List Piece
pieces_after skip zero ts = []
pieces_after zero (suc n) ts = pieces_after ((part ts).width - 1) n (drop 1 ts) ++ (part ts).piece ∷ []
pieces_after (suc skip) (suc n) ts = pieces_after skip n (drop 1 ts)

abbrev pub pieces : ℕ → List Token → List Piece
pieces n ts = pieces_after 0 n ts

-- those of the tokens of records from a place on
abbrev pub pieces_from : Records → ℕ → List Piece
pieces_from r start = pieces (length r.kinds - start) (before (token_at r) (length r.kinds))

unfoldable pub joined : List Piece → List ℕ
joined [] = []
joined (p ∷ ps) = bytes_of p ++ joined ps

-- what a command is to the oracle rule; one that is no terminal counts as another terminal
abbrev pub terminal_of : Command → Terminal
terminal_of c = get_or (command_row c).terminals 0 Terminal.Other

abbrev pub terminals_of : List Piece → List Terminal
terminals_of ps = map (λ p. terminal_of p.command) ps

-- the oracle rule over all pieces
abbrev pub broken : List Piece → Option Refusal
broken ps = rule (terminals_of ps) []

abbrev pub unless_broken : Option Refusal → ℕ → Result ℕ Refusal
unless_broken none size = Ok size
unless_broken (some r) size = Err r

unfoldable pub judged : List Piece → Result ℕ Refusal
judged ps = unless_broken (broken ps) (length (joined ps))

abbrev pub is_price_oracle1_w : Terminal → Bool
is_price_oracle1_w Terminal.PriceOracle1 = false
is_price_oracle1_w Terminal.PriceOracle1W = true
is_price_oracle1_w Terminal.Other = false

-- how many tokens a command has before the form of its oracle
abbrev pub lead : Command → ℕ
lead c = cond (is_price_oracle1_w (terminal_of c)) 1 0

-- operand bytes by their number: a number stands in the first token; an oracle's time and key stand two and seven places behind the first token of its form
abbrev pub operands_at : Records → ℕ → ℕ → ℕ → List ℕ
operands_at r width first form =
    cond (eqb width 0) []
    (cond (eqb width 8) (little_endian 8 (get_or r.numbers first 0)) (key_of r (form + 7) ++ little_endian 8 (get_or r.numbers (form + 2) 0)))

-- a piece by its command and the place of its first token
abbrev pub placed_piece : Records → Command → ℕ → Piece
placed_piece r c first = piece c (operands_at r (command_row c).width first (first + lead c))

-- bytes put into a buffer so that they end at `at`
abbrev pub put : List ℕ → ℕ → List ℕ → List ℕ
put buffer at bytes = take (at - length bytes) buffer ++ (bytes ++ drop at buffer)

-- a command and the place of its first token; `Command.Unknown` stands for none
pub record Spot : Type 0 where
  pub command : Command
  pub first : ℕ

abbrev pub spot_of : CommandAt → Spot
spot_of p = record { command = unwrap_or p.command Command.Unknown; first = p.first }

-- the command that the tokens before `end` end with: its piece, and the place of its first token
pub record Met (r : Records) (end : ℕ) (p : Spot) : Type 0 where
  pub piece : (part (before (token_at r) end)).piece ≡ placed_piece r p.command p.first
  pub width : p.first + (part (before (token_at r) end)).width ≡ end
  pub falls : p.first < end
  pub oracle : (command_row p.command).width ≡ 40 → (p.first + lead p.command + 7 < end) × (get_or r.kinds (p.first + lead p.command + 7) 0 ≡ 3)

-- the same, where the rows before `end` are noted, whatever the records carry beside their kinds
pub record Noticed (kinds rows : List ℕ) (end : ℕ) (p : CommandAt) : Type 0 where
  pub falls : p.first < end
  pub met : (numbers places keys : List ℕ) → Rows (records_of kinds numbers places keys) rows end
      → Met (records_of kinds numbers places keys) end (spot_of p)

-- what writing a piece needs of the records
pub record Placed (r : Records) (p : Spot) : Type 0 where
  pub number : p.first < length r.numbers
  pub oracle : (command_row p.command).width ≡ 40
      → (p.first + lead p.command + 7 < length r.numbers) × (p.first + lead p.command + 7 < length r.places)
      × (get_or r.places (p.first + lead p.command + 7) 0 + 32 ≤ length r.keys)
