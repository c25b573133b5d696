-- "With v values and i indexes waiting": document 01's needs, which the rows have by what a command takes and makes.
use Prim.Native.Nat.{ℕ}
use mathlib.Core.Bool.{◌&&◌}
use mathlib.Core.Path.{◌≡◌, refl}
use lib.Dec.{eqb, leb}
use Rattle.semantics.specs.Code.{Command, command_row, need_met}
use Rattle.semantics.specs.Trees.{AmountList, BinOp, CmpOp, IdxOp, UnOp}

module _ (v i : ℕ) where
  -- "3 to 6 need i ≥ 2"
  pub index-need : (o : IdxOp) → need_met (command_row (Command.Index o)) v i ≡ leb 2 i
  index-need o = refl

  -- "16, 17, 32, 33 need i = 0"
  pub terminal_needs : (need_met (command_row Command.Const) v i ≡ eqb i 0) × (need_met (command_row Command.CurrInputIdx) v i ≡ eqb i 0)
      × (need_met (command_row Command.PriceOracle1) v i ≡ eqb i 0) × (need_met (command_row Command.PriceOracle1W) v i ≡ eqb i 0)
  terminal_needs = (refl, refl, refl, refl)

  -- "18 to 21 need i = 1"
  pub lookup_need : (l : AmountList) → need_met (command_row (Command.Lookup l)) v i ≡ eqb i 1
  lookup_need l = refl

  -- "22 to 29 need v ≥ 2 and i = 0"
  pub binary_need : (o : BinOp) → need_met (command_row (Command.Binary o)) v i ≡ (leb 2 v && eqb i 0)
  binary_need o = refl

  -- "30 and 31 need v ≥ 1 and i = 0"
  pub unary_need : (o : UnOp) → need_met (command_row (Command.Unary o)) v i ≡ (leb 1 v && eqb i 0)
  unary_need o = refl

  -- "48 to 52 need v = 2 and i = 0"
  pub compare_need : (o : CmpOp) → need_met (command_row (Command.Compare o)) v i ≡ (eqb v 2 && eqb i 0)
  compare_need o = refl
