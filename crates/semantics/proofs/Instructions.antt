-- The instructions of code, and the bytes of instructions.
use Prim.Native.Nat.{ℕ, zero, suc}
use mathlib.Core.Path.{◌≡◌, refl, sym, subst}
use mathlib.Core.Bool.{Bool, true, false, cond}
use mathlib.Core.List.{List, [], ◌∷◌, ◌++◌, map, reverse, reverse-append}
use borrow.Author.Tests.{eqb-true, ne_eqb}
use types.Run.{OneOf}
use lib.Dec.{eqb}
use lib.ListN.{length, take, drop, take-append-drop}
use lib.Seq.{take_at, drop_at, drop-nil}
use Rattle.semantics.specs.Operations.{bin_row, cmp_row, idx_row, list_row, un_row}
use Rattle.semantics.specs.Trees.{BinOp, CmpOp, IdxOp, AmountList, UnOp}
use Rattle.semantics.specs.Code.{Command, Made, command_in, command_of, command_row, commands, is_some, known, need_met, need_of}
use Rattle.semantics.specs.Parse.{Instruction, instructions, instructions_after, width}

-- the bytes that instructions were read from
abbrev pub bytes_of : List Instruction → List ℕ
bytes_of [] = []
bytes_of (n ∷ ns) = n.byte ∷ (n.operands ++ bytes_of ns)

after_skip : (k : ℕ) (bs : List ℕ) → instructions_after k bs ≡ instructions (drop k bs)
unfolding instructions
after_skip zero bs = refl
after_skip (suc k) [] = refl
after_skip (suc k) (b ∷ bs) = after_skip k bs

pub instructions-cons : (b : ℕ) (bs : List ℕ)
    → instructions (b ∷ bs) ≡ record { byte = b; operands = take (width b) bs } ∷ instructions (drop (width b) bs)
unfolding instructions
instructions-cons b bs = rw (← after_skip (width b) bs)

-- a command whose operand bytes are all there
pub instructions_whole : (b : ℕ) (n rest : List ℕ) → length n ≡ width b
    → instructions (b ∷ n ++ rest) ≡ record { byte = b; operands = n } ∷ instructions rest
instructions_whole b n rest h = rw (instructions-cons b (n ++ rest), take_at n rest (width b) h, drop_at n rest (width b) h)

-- nothing is lost
bytes_after : (k : ℕ) (bs : List ℕ) → bytes_of (instructions_after k bs) ≡ drop k bs
bytes_after k [] = sym (drop-nil k)
bytes_after zero (b ∷ bs) = rw (bytes_after (width b) bs, take-append-drop (width b) bs)
bytes_after (suc k) (b ∷ bs) = bytes_after k bs

pub bytes-instructions : (bs : List ℕ) → bytes_of (instructions bs) ≡ bs
unfolding instructions
bytes-instructions bs = bytes_after 0 bs

-- the command of each byte: no two commands have one
pub idx_command : (o : IdxOp) → command_of (idx_row o).command ≡ Command.Index o
unfolding command_of
idx_command o = elim o as (λ o. command_of (idx_row o).command ≡ Command.Index o) [ IdxOp.Add ↦ refl | IdxOp.Sub ↦ refl | IdxOp.Mul ↦ refl | IdxOp.Div ↦ refl ]

pub list_command : (l : AmountList) → command_of (list_row l).command ≡ Command.Lookup l
unfolding command_of
list_command l =
    elim l as (λ l. command_of (list_row l).command ≡ Command.Lookup l) [ AmountList.Input ↦ refl | AmountList.Output ↦ refl | AmountList.InputIssue ↦ refl | AmountList.InputReIssue ↦ refl ]

pub binary_command : (o : BinOp) → command_of (bin_row o).command ≡ Command.Binary o
unfolding command_of
binary_command o =
    elim o as (λ o. command_of (bin_row o).command ≡ Command.Binary o) [
      | BinOp.Add ↦ refl
      | BinOp.Sub ↦ refl
      | BinOp.Mul ↦ refl
      | BinOp.Div ↦ refl
      | BinOp.Mod ↦ refl
      | BinOp.BitAnd ↦ refl
      | BinOp.BitOr ↦ refl
      | BinOp.Xor ↦ refl
    ]

pub unary_command : (o : UnOp) → command_of (un_row o).command ≡ Command.Unary o
unfolding command_of
unary_command o = elim o as (λ o. command_of (un_row o).command ≡ Command.Unary o) [ UnOp.Invert ↦ refl | UnOp.Negate ↦ refl ]

pub compare_command : (o : CmpOp) → command_of (cmp_row o).command ≡ Command.Compare o
unfolding command_of
compare_command o =
    elim o as (λ o. command_of (cmp_row o).command ≡ Command.Compare o) [ CmpOp.Eq ↦ refl | CmpOp.Lt ↦ refl | CmpOp.Leq ↦ refl | CmpOp.Gt ↦ refl | CmpOp.Geq ↦ refl ]

-- a command that passes is known
pub need-known : (c : Command) (v i : ℕ) → need_met (command_row c) v i ≡ true → known c ≡ true
need-known c v i = go (command_row c).makes
  where
    go : (m : Made) → need_of m (command_row c).values (command_row c).indexes v i ≡ true → is_some m ≡ true
    go Made.nothing e = e
    go Made.index e = refl
    go Made.value e = refl
    go Made.condition e = refl

-- the byte of each command: that of a byte which stands for a command that passes
byte_in : (cs : List Command) (b : ℕ) → known (command_in cs b) ≡ true → (command_row (command_in cs b)).byte ≡ b
byte_in [] b e = cc
byte_in (c ∷ cs) b e = go (eqb (command_row c).byte b) refl (byte_in cs b) e
  where
    go : (t : Bool) → eqb (command_row c).byte b ≡ t → (known (command_in cs b) ≡ true → (command_row (command_in cs b)).byte ≡ b)
        → known (cond t c (command_in cs b)) ≡ true → (command_row (cond t c (command_in cs b))).byte ≡ b
    go true q k h = eqb-true (command_row c).byte b q
    go false q k h = k h

pub command_byte : (b : ℕ) → known (command_of b) ≡ true → (command_row (command_of b)).byte ≡ b
unfolding command_of
command_byte b e = byte_in commands b e

-- a byte that is no command's, as a `match` over the bytes tells it: the last arm first
abbrev pub Elsewhere : List ℕ → ℕ → Type 0
Elsewhere [] b = Unit {0}
Elsewhere (k ∷ ks) b = Elsewhere ks b × (OneOf (k ∷ []) b → ⊥)

elsewhere_first : (ks : List ℕ) (k b : ℕ) → Elsewhere (ks ++ k ∷ []) b → Elsewhere ks b × (b ≡ k → ⊥)
elsewhere_first [] k b h = (tt, h.1)
elsewhere_first (j ∷ ks) k b h = let r = elsewhere_first ks k b h.0 in ((r.0, h.1), r.1)

bytes_from : List Command → List ℕ
bytes_from cs = reverse (map (λ c. (command_row c).byte) cs)

unknown_in : (cs : List Command) (b : ℕ) → Elsewhere (bytes_from cs) b → Command.Unknown ≡ command_in cs b
unfolding bytes_from
unknown_in [] b h = refl
unknown_in (c ∷ cs) b h =
    let e = reverse-append ((command_row c).byte ∷ []) (map (λ d. (command_row d).byte) cs) in
    let r = elsewhere_first (bytes_from cs) (command_row c).byte b (subst (λ (ks : List ℕ). Elsewhere ks b) e h) in
    rw (ne_eqb (command_row c).byte b (λ q. r.1 (sym q))) (unknown_in cs b r.0)

pub unknown_byte : (b : ℕ) → Elsewhere (reverse (map (λ c. (command_row c).byte) commands)) b → Command.Unknown ≡ command_of b
unfolding command_of bytes_from
unknown_byte b h = unknown_in commands b h
