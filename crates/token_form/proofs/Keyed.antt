-- The keys that a command's tokens name are the one of its operands, and so are their places; and the keys of all tokens are those of the code.
use Prim.Native.Nat.{ℕ, ◌*◌}
use mathlib.Core.Bool.{Bool, true, false, cond}
use mathlib.Core.Path.{◌≡◌, refl, ap, ◌∙◌}
use mathlib.Core.List.{List, [], ◌∷◌, map, map-append, append-nil}
use lib.Dec.{eqb}
use lib.ListN.{get_or, take}
use Rattle.semantics.specs.declared.AmountList.{AmountList}
use Rattle.semantics.specs.declared.BinOp.{BinOp}
use Rattle.semantics.specs.declared.CmpOp.{CmpOp}
use Rattle.semantics.specs.declared.Command.{Command}
use Rattle.semantics.specs.declared.IdxOp.{IdxOp}
use Rattle.semantics.specs.declared.UnOp.{UnOp}
use Rattle.semantics.specs.Code.{command_of, command_row}
use Rattle.semantics.specs.Parse.{Instruction, fold, instructions}
use Rattle.semantics.specs.Write.{index_of, keys_from, keys_of, place_in}
use Rattle.semantics.proofs.Placing.{keys-append}
use Rattle.keys.specs.Keys.{code_keys, key_step}
use Rattle.token_table.specs.TokenRows.{converted, tokens_of}
use Rattle.token_form.specs.Fields.{place_at}
use Rattle.forms.specs.Emitted.{Emission, emit_step, emitted}

-- where a command's key stands among keys
abbrev pub place_for : Command → List ℕ → List (List ℕ) → ℕ
place_for c n ks = cond (eqb (command_row c).width 40) (32 * index_of (take 32 n) ks) 0

-- of a command's own tokens
pub record Keyed (c : Command) : Type 0 where
  places : (n : List ℕ) (ks : List (List ℕ)) → map (place_at (place_for c n ks)) (map (λ t. t.kind) ((command_row c).tokens n)) ≡ map (place_in ks) ((command_row c).tokens n)
  keys : (n : List ℕ) (ks : List (List ℕ)) → keys_from ks ((command_row c).tokens n) ≡ key_step ks c n

keyed : (c : Command) → Keyed c
unfolding keys_from
keyed Command.Unknown = record { places = λ n ks. refl; keys = λ n ks. refl }
keyed Command.IdxConst = record { places = λ n ks. refl; keys = λ n ks. refl }
keyed Command.CurrIdx = record { places = λ n ks. refl; keys = λ n ks. refl }
keyed (Command.Index o) =
    elim o as (λ o. Keyed (Command.Index o)) [
      | IdxOp.Add ↦ record { places = λ n ks. refl; keys = λ n ks. refl }
      | IdxOp.Sub ↦ record { places = λ n ks. refl; keys = λ n ks. refl }
      | IdxOp.Mul ↦ record { places = λ n ks. refl; keys = λ n ks. refl }
      | IdxOp.Div ↦ record { places = λ n ks. refl; keys = λ n ks. refl }
    ]
keyed Command.Const = record { places = λ n ks. refl; keys = λ n ks. refl }
keyed Command.CurrInputIdx = record { places = λ n ks. refl; keys = λ n ks. refl }
keyed (Command.Lookup l) =
    elim l as (λ l. Keyed (Command.Lookup l)) [
      | AmountList.Input ↦ record { places = λ n ks. refl; keys = λ n ks. refl }
      | AmountList.Output ↦ record { places = λ n ks. refl; keys = λ n ks. refl }
      | AmountList.InputIssue ↦ record { places = λ n ks. refl; keys = λ n ks. refl }
      | AmountList.InputReIssue ↦ record { places = λ n ks. refl; keys = λ n ks. refl }
    ]
keyed (Command.Binary o) =
    elim o as (λ o. Keyed (Command.Binary o)) [
      | BinOp.Add ↦ record { places = λ n ks. refl; keys = λ n ks. refl }
      | BinOp.Sub ↦ record { places = λ n ks. refl; keys = λ n ks. refl }
      | BinOp.Mul ↦ record { places = λ n ks. refl; keys = λ n ks. refl }
      | BinOp.Div ↦ record { places = λ n ks. refl; keys = λ n ks. refl }
      | BinOp.Mod ↦ record { places = λ n ks. refl; keys = λ n ks. refl }
      | BinOp.BitAnd ↦ record { places = λ n ks. refl; keys = λ n ks. refl }
      | BinOp.BitOr ↦ record { places = λ n ks. refl; keys = λ n ks. refl }
      | BinOp.Xor ↦ record { places = λ n ks. refl; keys = λ n ks. refl }
    ]
keyed (Command.Unary o) =
    elim o as (λ o. Keyed (Command.Unary o)) [
      | UnOp.Invert ↦ record { places = λ n ks. refl; keys = λ n ks. refl }
      | UnOp.Negate ↦ record { places = λ n ks. refl; keys = λ n ks. refl }
    ]
keyed Command.PriceOracle1 = record { places = λ n ks. refl; keys = λ n ks. refl }
keyed Command.PriceOracle1W = record { places = λ n ks. refl; keys = λ n ks. refl }
keyed (Command.Compare o) =
    elim o as (λ o. Keyed (Command.Compare o)) [
      | CmpOp.Eq ↦ record { places = λ n ks. refl; keys = λ n ks. refl }
      | CmpOp.Lt ↦ record { places = λ n ks. refl; keys = λ n ks. refl }
      | CmpOp.Leq ↦ record { places = λ n ks. refl; keys = λ n ks. refl }
      | CmpOp.Gt ↦ record { places = λ n ks. refl; keys = λ n ks. refl }
      | CmpOp.Geq ↦ record { places = λ n ks. refl; keys = λ n ks. refl }
    ]

module _ (c : Command) (n : List ℕ) (ks : List (List ℕ)) where
  pub tokens_places : (b : Bool) → map (place_at (place_for c n ks)) (map (λ t. t.kind) (tokens_of c n b)) ≡ map (place_in ks) (tokens_of c n b)
  tokens_places true = simp map-append (rw ((keyed c).places n ks))
  tokens_places false = simp append-nil ((keyed c).places n ks)

  tokens-keys : (b : Bool) → keys_from ks (tokens_of c n b) ≡ key_step ks c n
  unfolding keys_from
  tokens-keys true = keys-append ks ((command_row c).tokens n) (converted true) ∙ (keyed c).keys n ks
  tokens-keys false = simp append-nil ((keyed c).keys n ks)

-- token by token, and command by command
emitted-keys : (ns : List Instruction) (s : Emission) → keys_of (fold emit_step s ns).tokens ≡ fold key_step (keys_of s.tokens) ns
emitted-keys [] s = refl
emitted-keys (n ∷ ns) s =
    let c = command_of n.byte in
    let b = get_or s.marks 0 false in
    emitted-keys ns (emit_step s c n.operands)
    ∙ ap (λ (ks : List (List ℕ)). fold key_step ks ns)
    (keys-append [] s.tokens (tokens_of c n.operands b) ∙ tokens-keys c n.operands (keys_of s.tokens) b)

pub code-keys : (code : List ℕ) (marks : List Bool) → keys_of (emitted code marks) ≡ code_keys code
unfolding emitted code_keys keys_from
code-keys code marks = emitted-keys (instructions code) (record { marks = marks; tokens = [] })
