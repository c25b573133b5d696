-- The table is the form's, by computation; and the fields of a command's records are those of its tokens.
use mir.Val.{bool_byte}
use Prim.Native.Nat.{ℕ, ◌+◌, ◌-◌}
use mathlib.Core.Bool.{Bool, true, false}
use mathlib.Core.Path.{◌≡◌, refl, sym, ap, ◌∙◌}
use mathlib.Core.List.{List, [], ◌∷◌, ◌++◌, map, map-append, append-nil}
use native.Mathlib.Nat.{add-zero}
use native.Mathlib.Omega.{arith}
use lib.ListN.{length, take, length-map}
use lib.Seq.{take_all, take_at}
use Rattle.semantics.specs.declared.AmountList.{AmountList}
use Rattle.semantics.specs.declared.BinOp.{BinOp}
use Rattle.semantics.specs.declared.CmpOp.{CmpOp}
use Rattle.semantics.specs.declared.Command.{Command}
use Rattle.semantics.specs.declared.IdxOp.{IdxOp}
use Rattle.semantics.specs.declared.UnOp.{UnOp}
use Rattle.semantics.specs.Operations.{Token}
use Rattle.token_form.specs.Fields.{number_at, payload}
use Rattle.token_table.specs.TokenRows.{converted, tokens_of, token_row}
use Rattle.semantics.specs.Code.{command_row, known}

abbrev kinds_of : List Token → List ℕ
kinds_of = map (λ t. t.kind)

-- of a command's row: it is the kinds of the command's own tokens and a 7; then the numbers that go with these kinds
abbrev Row : Command → Type 0
Row c =
    ((n : List ℕ) → length ((command_row c).tokens n) + 1 ≡ length (token_row c))
    × ((n : List ℕ) → token_row c ≡ kinds_of ((command_row c).tokens n) ++ 7 ∷ [])
    × ((n : List ℕ) → map (number_at (payload c n).number (payload c n).bits) (kinds_of ((command_row c).tokens n)) ≡ map (λ t. t.number) ((command_row c).tokens n))

row : (c : Command) → known c ≡ true → Row c
row Command.Unknown k = absurd (let z : ◌≡◌ {A = ℕ} 0 1 = cc in omega arith)
row Command.IdxConst k = (λ n. refl, λ n. refl, λ n. refl)
row Command.CurrIdx k = (λ n. refl, λ n. refl, λ n. refl)
row (Command.Index o) k =
    elim o as (λ o. Row (Command.Index o)) [
      | IdxOp.Add ↦ (λ n. refl, λ n. refl, λ n. refl)
      | IdxOp.Sub ↦ (λ n. refl, λ n. refl, λ n. refl)
      | IdxOp.Mul ↦ (λ n. refl, λ n. refl, λ n. refl)
      | IdxOp.Div ↦ (λ n. refl, λ n. refl, λ n. refl)
    ]
row Command.Const k = (λ n. refl, λ n. refl, λ n. refl)
row Command.CurrInputIdx k = (λ n. refl, λ n. refl, λ n. refl)
row (Command.Lookup l) k =
    elim l as (λ l. Row (Command.Lookup l)) [
      | AmountList.Input ↦ (λ n. refl, λ n. refl, λ n. refl)
      | AmountList.Output ↦ (λ n. refl, λ n. refl, λ n. refl)
      | AmountList.InputIssue ↦ (λ n. refl, λ n. refl, λ n. refl)
      | AmountList.InputReIssue ↦ (λ n. refl, λ n. refl, λ n. refl)
    ]
row (Command.Binary o) k =
    elim o as (λ o. Row (Command.Binary o)) [
      | BinOp.Add ↦ (λ n. refl, λ n. refl, λ n. refl)
      | BinOp.Sub ↦ (λ n. refl, λ n. refl, λ n. refl)
      | BinOp.Mul ↦ (λ n. refl, λ n. refl, λ n. refl)
      | BinOp.Div ↦ (λ n. refl, λ n. refl, λ n. refl)
      | BinOp.Mod ↦ (λ n. refl, λ n. refl, λ n. refl)
      | BinOp.BitAnd ↦ (λ n. refl, λ n. refl, λ n. refl)
      | BinOp.BitOr ↦ (λ n. refl, λ n. refl, λ n. refl)
      | BinOp.Xor ↦ (λ n. refl, λ n. refl, λ n. refl)
    ]
row (Command.Unary o) k =
    elim o as (λ o. Row (Command.Unary o)) [
      | UnOp.Invert ↦ (λ n. refl, λ n. refl, λ n. refl)
      | UnOp.Negate ↦ (λ n. refl, λ n. refl, λ n. refl)
    ]
row Command.PriceOracle1 k = (λ n. refl, λ n. refl, λ n. refl)
row Command.PriceOracle1W k = (λ n. refl, λ n. refl, λ n. refl)
row (Command.Compare o) k =
    elim o as (λ o. Row (Command.Compare o)) [
      | CmpOp.Eq ↦ (λ n. refl, λ n. refl, λ n. refl)
      | CmpOp.Lt ↦ (λ n. refl, λ n. refl, λ n. refl)
      | CmpOp.Leq ↦ (λ n. refl, λ n. refl, λ n. refl)
      | CmpOp.Gt ↦ (λ n. refl, λ n. refl, λ n. refl)
      | CmpOp.Geq ↦ (λ n. refl, λ n. refl, λ n. refl)
    ]

module _ (c : Command) (k : known c ≡ true) (n : List ℕ) where
  abbrev count : ℕ
  count = length (token_row c) - 1

  own-length : length ((command_row c).tokens n) ≡ count
  own-length = omega (arith, (row c k).0 n)

  pub tokens-kinds : (b : Bool) → take (count + bool_byte b) (token_row c) ≡ kinds_of (tokens_of c n b)
  tokens-kinds true =
      take_all (count + 1) (token_row c) (omega (arith, (row c k).0 n)) ∙ (row c k).1 n ∙ sym (map-append (λ t. t.kind) ((command_row c).tokens n) (converted true))
  tokens-kinds false =
      let ks = kinds_of ((command_row c).tokens n) in
      let l : length ks ≡ count = length-map ((command_row c).tokens n) (λ t. t.kind) ∙ own-length in
      rw (add-zero count, append-nil ((command_row c).tokens n)) (ap (take count) ((row c k).1 n) ∙ take_at ks (7 ∷ []) count l)

  pub tokens_numbers : (b : Bool) → map (number_at (payload c n).number (payload c n).bits) (kinds_of (tokens_of c n b)) ≡ map (λ t. t.number) (tokens_of c n b)
  tokens_numbers true = simp map-append (rw ((row c k).2 n))
  tokens_numbers false = simp append-nil ((row c k).2 n)
