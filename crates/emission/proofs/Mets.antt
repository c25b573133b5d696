-- The piece that the tokens before a place end with (`met_none`, `met_twin`, `met-row`), and its bytes by its command's width (`size-placed` ..).
use Prim.Native.Nat.{ℕ, zero, suc, ◌+◌, ◌-◌, ◌≤◌, ◌<◌}
use mathlib.Core.Bool.{Bool, true, false, cond, ◌&&◌}
use lib.Dec.{eqb, ltb}
use mathlib.Core.Path.{◌≡◌, refl, sym, ap, subst⁻¹, ◌∙◌}
use mathlib.Core.List.{List, [], ◌∷◌, ◌++◌, map}
use native.Mathlib.Nat.{add-zero}
use native.Mathlib.Omega.{arith}
use borrow.Author.Tests.{eq-eqb, eqb-true, lt-ltb}
use lib.ListN.{length, get_or, drop, length-append, length-drop, get_or-append, get_or-map}
use lib.Seq.{length-take-le}
use Rattle.slices.specs.Bytes.{little_endian}
use Rattle.slices.proofs.Bytes.{length-little_endian}
use Rattle.std.proofs.Common.{Option, Some, None, unwrap_or}
use Rattle.semantics.specs.Operations.{Token, op, bytes32, bytes8, num}
use Rattle.semantics.specs.declared.Command.{Command}
use Rattle.semantics.specs.Code.{command_row, known}
use Rattle.semantics.specs.Token.{expr_form}
use Rattle.semantics.specs.FromTokens.{Head, IdxHead, head_form, idx_head_form}
use Rattle.semantics.proofs.Machine.{oracle-length}
use Rattle.semantics.specs.Records.{Records, key_of, token_at, token_of}
use Rattle.productions.specs.Before.{Whole, before}
use Rattle.productions.specs.Ending.{Production, Row, blank, command_in, ending, kind_at, kind_there, last_row, production_of, productions, row_at, row_found, rows}
use Rattle.emission.specs.Pieces.{Met, Spot, Part, bytes_of, lead, operands_at, own_piece, part, part_of, piece, placed_piece, size_of}
use Rattle.productions.proofs.Tokens.{get_d_before, length_before, recorded}
use Rattle.productions.proofs.Endings.{last_row_sound}
use Rattle.productions.proofs.Places.{At, row-missing}

-- the token at a place of a production's own
own_size : (t : ℕ → Token) (end start : ℕ) (own : List Token) → before t end ≡ own ++ before t start → end ≡ length own + start
own_size t end start own e =
    sym (length_before t end) ∙ ap length e ∙ length-append own (before t start) ∙ ap (λ (n : ℕ). length own + n) (length_before t start)

own_token : (t : ℕ → Token) (end start : ℕ) (own : List Token) → before t end ≡ own ++ before t start → (j : ℕ) → j < length own
    → t (start + (length own - 1 - j)) ≡ get_or own j (op 0)
own_token t end start own e j h =
    let size = own_size t end start own e in
    let there : start + (length own - 1 - j) ≡ end - 1 - j = omega arith in
    ap t there ∙ sym (get_d_before t end j (op 0) (omega arith)) ∙ ap (λ (l : List Token). get_or l j (op 0)) e ∙ get_or-append own (before t start) (op 0) j h

-- what a record carries, by the token that it is
num_is : (kind number : ℕ) (key : List ℕ) (n : ℕ) → token_of kind number key ≡ num n → number ≡ n
num_is kind number key n e =
    let k : kind ≡ 1 = ap (λ (t : Token). t.kind) e in
    ap (λ (t : Token). t.number) (ap (λ (m : ℕ). token_of m number key) (sym k) ∙ e)

bytes8_is : (kind number : ℕ) (key : List ℕ) (n : ℕ) → token_of kind number key ≡ bytes8 n → number ≡ n
bytes8_is kind number key n e =
    let k : kind ≡ 2 = ap (λ (t : Token). t.kind) e in
    ap (λ (t : Token). t.number) (ap (λ (m : ℕ). token_of m number key) (sym k) ∙ e)

bytes32_is : (kind number : ℕ) (key k : List ℕ) → token_of kind number key ≡ bytes32 k → (key ≡ k) × (kind ≡ 3)
bytes32_is kind number key k e =
    let three : kind ≡ 3 = ap (λ (t : Token). t.kind) e in
    (ap (λ (t : Token). t.key) (ap (λ (m : ℕ). token_of m number key) (sym three) ∙ e), three)

-- a production's own piece, from the records
module _ (r : Records) (end start : ℕ) where
  oracle_places : (key : List ℕ) (time : ℕ) → before (token_at r) end ≡ ending (Production.value (Head.oracle key time)) ++ before (token_at r) start
      → (key_of r (start + 0 + 7) ≡ key) × (get_or r.kinds (start + 0 + 7) 0 ≡ 3) × (get_or r.numbers (start + 0 + 2) 0 ≡ time) × (start + 0 + 7 < end)
  unfolding ending head_form expr_form
  oracle_places key time e =
      let own : List Token = ending (Production.value (Head.oracle key time)) in
      let seven : start + 0 + 7 ≡ start + 7 = omega arith in
      let two : start + 0 + 2 ≡ start + 2 = omega arith in
      let k = bytes32_is _ _ _ key (ap (token_at r) seven ∙ own_token (token_at r) end start own e 2 (omega arith)) in
      (k.0, k.1, bytes8_is _ _ _ time (ap (token_at r) two ∙ own_token (token_at r) end start own e 7 (omega arith)), omega (arith, own_size (token_at r) end start own e))

  oracle_w_places : (key : List ℕ) (time : ℕ) → before (token_at r) end ≡ ending (Production.value (Head.oracle_w key time)) ++ before (token_at r) start
      → (key_of r (start + 1 + 7) ≡ key) × (get_or r.kinds (start + 1 + 7) 0 ≡ 3) × (get_or r.numbers (start + 1 + 2) 0 ≡ time) × (start + 1 + 7 < end)
  unfolding ending head_form expr_form
  oracle_w_places key time e =
      let own : List Token = ending (Production.value (Head.oracle_w key time)) in
      let eight : start + 1 + 7 ≡ start + 8 = omega arith in
      let three : start + 1 + 2 ≡ start + 3 = omega arith in
      let k = bytes32_is _ _ _ key (ap (token_at r) eight ∙ own_token (token_at r) end start own e 4 (omega arith)) in
      (k.0, k.1, bytes8_is _ _ _ time (ap (token_at r) three ∙ own_token (token_at r) end start own e 9 (omega arith)), omega (arith, own_size (token_at r) end start own e))

  const-place : (n : ℕ) → before (token_at r) end ≡ ending (Production.value (Head.const n)) ++ before (token_at r) start → get_or r.numbers start 0 ≡ n
  unfolding ending head_form
  const-place n e =
      ap (λ (k : ℕ). get_or r.numbers k 0) (sym (add-zero start)) ∙ bytes8_is _ _ _ n (own_token (token_at r) end start (bytes8 n ∷ []) e 0 (omega arith))

  index-place : (n : ℕ) → before (token_at r) end ≡ ending (Production.index (IdxHead.const n)) ++ before (token_at r) start → get_or r.numbers start 0 ≡ n
  unfolding ending idx_head_form
  index-place n e =
      ap (λ (k : ℕ). get_or r.numbers k 0) (sym (add-zero start)) ∙ num_is _ _ _ n (own_token (token_at r) end start (num n ∷ []) e 0 (omega arith))

  own_placed : (p : Production) → before (token_at r) end ≡ ending p ++ before (token_at r) start → own_piece p ≡ placed_piece r (own_piece p).command start
  unfolding own_piece
  own_placed (Production.value (Head.const n)) e = rw (const-place n e)
  own_placed (Production.value (Head.lookup l)) e = refl
  own_placed (Production.value (Head.unary o)) e = refl
  own_placed (Production.value (Head.binary o)) e = refl
  own_placed (Production.value (Head.oracle key time)) e = let h = oracle_places key time e in sym (rw (h.0, h.2))
  own_placed (Production.value (Head.oracle_w key time)) e = let h = oracle_w_places key time e in sym (rw (h.0, h.2))
  own_placed (Production.index (IdxHead.const n)) e = rw (index-place n e)
  own_placed (Production.index IdxHead.curr) e = refl
  own_placed (Production.index (IdxHead.oper o)) e = refl
  own_placed Production.between e = refl
  own_placed (Production.comparison o) e = refl

  -- the key of an oracle
  oracle-there : (p : Production) → before (token_at r) end ≡ ending p ++ before (token_at r) start → (command_row (own_piece p).command).width ≡ 40
      → (start + lead (own_piece p).command + 7 < end) × (get_or r.kinds (start + lead (own_piece p).command + 7) 0 ≡ 3)
  unfolding own_piece
  oracle-there (Production.value (Head.const n)) e w = absurd (omega arith)
  oracle-there (Production.value (Head.lookup l)) e w = absurd (omega arith)
  oracle-there (Production.value (Head.unary o)) e w = absurd (omega arith)
  oracle-there (Production.value (Head.binary o)) e w = absurd (omega arith)
  oracle-there (Production.value (Head.oracle key time)) e w = let h = oracle_places key time e in (h.3, h.1)
  oracle-there (Production.value (Head.oracle_w key time)) e w = let h = oracle_w_places key time e in (h.3, h.1)
  oracle-there (Production.index (IdxHead.const n)) e w = absurd (omega arith)
  oracle-there (Production.index IdxHead.curr) e w = absurd (omega arith)
  oracle-there (Production.index (IdxHead.oper o)) e w = absurd (omega arith)
  oracle-there Production.between e w = absurd (omega arith)
  oracle-there (Production.comparison o) e w = absurd (omega arith)

-- a row's command is its production's, whatever the tokens carry
commands_same : (ts : List Token) → map (λ (x : Row). x.command) rows ≡ map (λ p. (own_piece p).command) (productions ts)
unfolding rows own_piece
commands_same ts = refl

row-command : (ts : List Token) (k : ℕ) → k < 29 → (row_at k).command ≡ (own_piece (production_of ts k)).command
unfolding rows own_piece
row-command ts k h =
    sym (get_or-map (λ (x : Row). x.command) rows k blank) ∙ ap (λ (l : List Command). get_or l k Command.Unknown) (commands_same ts)
    ∙ get_or-map (λ p. (own_piece p).command) (productions ts) k Production.between

-- the last token's kind, as it is told
told_kind : (ts : List Token) (k : ℕ) → kind_there ts 0 ≡ Some k → kind_at ts 0 ≡ k
told_kind ts k e = go (ltb 0 (length ts)) e
  where
    go : (b : Bool) → cond b (Some (kind_at ts 0)) None ≡ Some k → kind_at ts 0 ≡ k
    go true q = cc
    go false q = let z : ◌≡◌ {A = ℕ} 0 1 = cc in absurd (omega arith)

kind_told : (ts : List Token) → kind_at ts 0 ≡ 4 → kind_there ts 0 ≡ Some 4
kind_told [] e = absurd (omega arith)
kind_told (t ∷ ts) e = rw (lt-ltb 0 (length (t ∷ ts)) (omega arith)) (ap Some e)

-- the current index stands somewhere
pub twin_some : (r : Records) (start : ℕ) → kind_there (before (token_at r) start) 0 ≡ Some 4 → 1 ≤ start
unfolding before
twin_some r start e = go start (told_kind (before (token_at r) start) 4 e)
  where
    go : (n : ℕ) → kind_at (before (token_at r) n) 0 ≡ 4 → 1 ≤ n
    go zero q = absurd (omega arith)
    go (suc n) q = omega arith

-- a row's command, as it is told
row_told : (c : Command) → unwrap_or (cond (known c) (Some c) None) Command.Unknown ≡ c
row_told Command.Unknown = refl
row_told Command.IdxConst = refl
row_told Command.CurrIdx = refl
row_told (Command.Index o) = refl
row_told Command.Const = refl
row_told Command.CurrInputIdx = refl
row_told (Command.Lookup l) = refl
row_told (Command.Binary o) = refl
row_told (Command.Unary o) = refl
row_told Command.PriceOracle1 = refl
row_told Command.PriceOracle1W = refl
row_told (Command.Compare o) = refl

-- two tests that are not both met
neither : (a b c d : ℕ) → (a ≡ b → c ≡ d → ⊥) → (eqb a b && eqb c d) ≡ false
neither a b c d h = go (eqb a b) refl (eqb c d) refl
  where
    go : (p : Bool) → eqb a b ≡ p → (q : Bool) → eqb c d ≡ q → (p && q) ≡ false
    go true u true v = absurd (h (eqb-true a b u) (eqb-true c d v))
    go true u false v = refl
    go false u q v = refl

-- the piece that the tokens before a place end with
module _ (r : Records) (end : ℕ) where
  pub met_none : (k : ℕ) → k ≡ row_found (last_row (before (token_at r) end)) → 29 ≤ k → 0 < end → Met r end (record { command = Command.Unknown; first = end - 1 })
  unfolding part
  met_none k e none h =
      let is : part (before (token_at r) end) ≡ record { piece = piece Command.Unknown []; width = 1 } = ap (part_of (before (token_at r) end)) (row-missing (before (token_at r) end) k e none) in
      record {
        piece = ap (λ (x : Part). x.piece) is;
        width = ap (λ (x : Part). end - 1 + x.width) is ∙ back;
        falls = omega arith;
        oracle = λ q. absurd (omega arith);
      }
    where
      back : end - 1 + 1 ≡ end
      back = omega arith

  module _ (k start : ℕ) (at : At (token_at r) end k start) where
    split : before (token_at r) end ≡ ending (production_of (before (token_at r) end) k) ++ before (token_at r) start
    split = last_row_sound (before (token_at r) end) (recorded r end) k (before (token_at r) start) at.is

    pub met_twin : k ≡ 1 → kind_there (before (token_at r) start) 0 ≡ Some 4 → Met r end (record { command = Command.CurrInputIdx; first = start - 1 })
    unfolding part
    met_twin one told =
        let is : part (before (token_at r) end) ≡ record { piece = piece Command.CurrInputIdx []; width = length (row_at k).marks + 1 } =
        ap (part_of (before (token_at r) end)) at.is ∙ rw (eq-eqb k 1 one, eq-eqb (kind_at (before (token_at r) start) 0) 4 (told_kind (before (token_at r) start) 4 told)) in
        let some = twin_some r start told in
        let sum : start - 1 + (length (row_at k).marks + 1) ≡ end = omega (arith, at.width) in
        record {
          piece = ap (λ (x : Part). x.piece) is;
          width = ap (λ (x : Part). start - 1 + x.width) is ∙ sum;
          falls = omega (arith, at.low);
          oracle = λ q. absurd (omega arith);
        }

    pub met-row : (k ≡ 1 → kind_there (before (token_at r) start) 0 ≡ Some 4 → ⊥) → (told : Option Command) → told ≡ command_in (row_at k)
        → Met r end (record { command = unwrap_or told Command.Unknown; first = start })
    unfolding part
    met-row apart told e =
        let c : Command = unwrap_or told Command.Unknown in
        let is : part (before (token_at r) end) ≡ record { piece = own_piece (production_of (before (token_at r) end) k); width = length (row_at k).marks } =
        ap (part_of (before (token_at r) end)) at.is ∙ rw (neither k 1 (kind_at (before (token_at r) start) 0) 4 (λ one four. apart one (kind_told (before (token_at r) start) four))) in
        let same : c ≡ (own_piece (production_of (before (token_at r) end) k)).command =
        ap (λ (x : Option Command). unwrap_or x Command.Unknown) e ∙ row_told (row_at k).command ∙ row-command (before (token_at r) end) k at.row in
        record {
          piece = ap (λ (x : Part). x.piece) is ∙ own_placed r end start (production_of (before (token_at r) end) k) split ∙ ap (λ (x : Command). placed_piece r x start) (sym same);
          width = ap (λ (x : Part). start + x.width) is ∙ at.width;
          falls = at.low;
          oracle = subst⁻¹ Keyed same (oracle-there r end start (production_of (before (token_at r) end) k) split);
        }
      where
        Keyed : Command → Type 0
        Keyed x = (command_row x).width ≡ 40 → (start + lead x + 7 < end) × (get_or r.kinds (start + lead x + 7) 0 ≡ 3)

-- a command has none, 8 or 40 operand bytes
by_width : (P : ℕ → Type 0) → P 0 → P 8 → P 40 → (c : Command) → P (command_row c).width
by_width P none number oracle Command.Unknown = none
by_width P none number oracle Command.IdxConst = number
by_width P none number oracle Command.CurrIdx = none
by_width P none number oracle (Command.Index o) = none
by_width P none number oracle Command.Const = number
by_width P none number oracle Command.CurrInputIdx = none
by_width P none number oracle (Command.Lookup l) = none
by_width P none number oracle (Command.Binary o) = none
by_width P none number oracle (Command.Unary o) = none
by_width P none number oracle Command.PriceOracle1 = oracle
by_width P none number oracle Command.PriceOracle1W = oracle
by_width P none number oracle (Command.Compare o) = none

pub width_most : (c : Command) → (command_row c).width ≤ 40
width_most = by_width (λ w. w ≤ 40) (omega arith) (omega arith) (omega arith)

pub size_most : (c : Command) → size_of c ≤ 41
size_most c = go (known c)
  where
    go : (b : Bool) → cond b ((command_row c).width + 1) 0 ≤ 41
    go true = omega (arith, width_most c)
    go false = omega arith

-- the bytes of a command's piece
module _ (r : Records) (c : Command) (first : ℕ) where
  module _ (some : known c ≡ true) where
    pub size-known : size_of c ≡ (command_row c).width + 1
    size-known = rw some

    pub one_placed : (command_row c).width ≡ 0 → bytes_of (placed_piece r c first) ≡ (command_row c).byte ∷ []
    one_placed w = rw (some, w)

    pub number-placed : (command_row c).width ≡ 8 → bytes_of (placed_piece r c first) ≡ (command_row c).byte ∷ little_endian 8 (get_or r.numbers first 0)
    number-placed w = rw (some, w)

    pub oracle-placed : (command_row c).width ≡ 40
        → bytes_of (placed_piece r c first) ≡ (command_row c).byte ∷ key_of r (first + lead c + 7) ++ little_endian 8 (get_or r.numbers (first + lead c + 2) 0)
    oracle-placed w = rw (some, w)

module _ (r : Records) (end : ℕ) (p : Spot) (met : Met r end p) (few : end ≤ length r.kinds) (w : Whole r.kinds r.places r.keys) where
  key-size : (i : ℕ) → i < end → get_or r.kinds i 0 ≡ 3 → length (key_of r i) ≡ 32
  key-size i h e = length-take-le 32 (drop (get_or r.places i 0) r.keys) (rw length-drop (omega (arith, w.whole i (omega arith) e)))

  pub size-placed : length (bytes_of (placed_piece r p.command p.first)) ≡ size_of p.command
  size-placed = go (known p.command)
    where
      operands : length (operands_at r (command_row p.command).width p.first (p.first + lead p.command)) ≡ (command_row p.command).width
      operands =
          by_width (λ n. (n ≡ 40 → length (key_of r (p.first + lead p.command + 7)) ≡ 32) → length (operands_at r n p.first (p.first + lead p.command)) ≡ n)
          (λ k. refl) (λ k. length-little_endian 8 (get_or r.numbers p.first 0))
          (λ k. oracle-length (key_of r (p.first + lead p.command + 7)) (get_or r.numbers (p.first + lead p.command + 2) 0) (k refl)) p.command
          (λ e. let h = met.oracle e in key-size (p.first + lead p.command + 7) h.0 h.1)

      go : (b : Bool) → length (cond b ((command_row p.command).byte ∷ operands_at r (command_row p.command).width p.first (p.first + lead p.command)) [])
          ≡ cond b ((command_row p.command).width + 1) 0
      go true = omega (arith, operands)
      go false = refl
