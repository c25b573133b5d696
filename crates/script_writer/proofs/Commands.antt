-- The bytes of one command after another: the script of the tokens of all commands so far.
use Prim.Native.Nat.{ℕ, ◌+◌, ◌-◌, ◌≤◌, ◌<◌}
use mathlib.Core.Bool.{Bool, true, false, cond}
use mathlib.Core.Path.{◌≡◌, refl, ap, ◌∙◌}
use mathlib.Core.List.{List, [], ◌∷◌, ◌++◌}
use native.Mathlib.Omega.{arith}
use borrow.Rule.Slice.PartMut.{mid_of, put_mid}
use lib.ListN.{length, get_or, length-append}
use Rattle.slices.specs.Bytes.{Front}
use Rattle.slices.proofs.Front.{front_none, front_rest}
use Rattle.semantics.specs.declared.AmountList.{AmountList}
use Rattle.semantics.specs.declared.BinOp.{BinOp}
use Rattle.semantics.specs.declared.CmpOp.{CmpOp}
use Rattle.semantics.specs.declared.Command.{Command}
use Rattle.semantics.specs.declared.IdxOp.{IdxOp}
use Rattle.semantics.specs.declared.UnOp.{UnOp}
use Rattle.semantics.specs.Code.{command_row}
use Rattle.semantics.specs.Operations.{Token}
use Rattle.semantics.specs.Parse.{after, command_at, operand_bytes}
use Rattle.condition.specs.Walk.{Passed}
use Rattle.token_table.specs.TokenRows.{converted, tokens_of}
use Rattle.forms.specs.Emitted.{emitted}
use Rattle.forms.proofs.Emitting.{Emitting, all_emitted, none_emitted, one_emitted, then_more}
use Rattle.script.specs.Script.{opcodes, script, starts_verify}
use Rattle.script.proofs.Lists.{script-append, script_longer}

-- a command's own bytes, and SCRIPTNUMTOLE64 where it is marked
abbrev pub converted_bytes : Bool → List ℕ
converted_bytes marked = cond marked (0xe0 ∷ []) []

pub command-bytes : (c : Command) (n : List ℕ) (marked : Bool) → script (tokens_of c n marked) ≡ script ((command_row c).tokens n) ++ converted_bytes marked
unfolding script opcodes
command-bytes c n true = script-append ((command_row c).tokens n) (converted true) refl
command-bytes c n false = script-append ((command_row c).tokens n) [] refl

module _ (own : List ℕ) (marked : Bool) where
  pub with_converted : marked ≡ true → own ++ converted_bytes marked ≡ own ++ 0xe0 ∷ []
  with_converted e = rw e

  pub one_converted : marked ≡ true → length (converted_bytes marked) ≡ 1
  one_converted e = rw e

-- no command's tokens begin with a Verify
starts : (c : Command) (n : List ℕ) (marked : Bool) → starts_verify (tokens_of c n marked) ≡ false
starts Command.Unknown n true = refl
starts Command.Unknown n false = refl
starts Command.IdxConst n marked = refl
starts Command.CurrIdx n marked = refl
starts (Command.Index o) n marked = elim o as (λ o. starts_verify (tokens_of (Command.Index o) n marked) ≡ false) [ IdxOp.Add ↦ refl | IdxOp.Sub ↦ refl | IdxOp.Mul ↦ refl | IdxOp.Div ↦ refl ]
starts Command.Const n marked = refl
starts Command.CurrInputIdx n marked = refl
starts (Command.Lookup l) n marked =
    elim l as (λ l. starts_verify (tokens_of (Command.Lookup l) n marked) ≡ false) [ AmountList.Input ↦ refl | AmountList.Output ↦ refl | AmountList.InputIssue ↦ refl | AmountList.InputReIssue ↦ refl ]
starts (Command.Binary o) n marked =
    elim o as (λ o. starts_verify (tokens_of (Command.Binary o) n marked) ≡ false) [
      | BinOp.Add ↦ refl
      | BinOp.Sub ↦ refl
      | BinOp.Mul ↦ refl
      | BinOp.Div ↦ refl
      | BinOp.Mod ↦ refl
      | BinOp.BitAnd ↦ refl
      | BinOp.BitOr ↦ refl
      | BinOp.Xor ↦ refl
    ]
starts (Command.Unary o) n marked = elim o as (λ o. starts_verify (tokens_of (Command.Unary o) n marked) ≡ false) [ UnOp.Invert ↦ refl | UnOp.Negate ↦ refl ]
starts Command.PriceOracle1 n marked = refl
starts Command.PriceOracle1W n marked = refl
starts (Command.Compare o) n marked = elim o as (λ o. starts_verify (tokens_of (Command.Compare o) n marked) ≡ false) [ CmpOp.Eq ↦ refl | CmpOp.Lt ↦ refl | CmpOp.Leq ↦ refl | CmpOp.Gt ↦ refl | CmpOp.Geq ↦ refl ]

pub no_bytes : length (script []) ≡ 0
unfolding script
no_bytes = refl

-- the script of the commands before `at` has n bytes
pub record Counted (code : List ℕ) (marks : List Bool) (at count n : ℕ) : Type 0 where
  pub done : List Token
  pub emitting : Emitting code marks at count done
  pub n_is : length (script done) ≡ n

abbrev pub none_counted : (code : List ℕ) (marks : List Bool) → Passed code (λ s. s.tokens ≤ length marks) → Counted code marks 0 0 0
none_counted code marks p = record { done = []; emitting = none_emitted code marks p; n_is = no_bytes }

module _ (code : List ℕ) (marks : List Bool) (at count n : ℕ) (g : Counted code marks at count n) where
  pub all_counted : length code ≤ at → script g.done ≡ script (emitted code marks)
  all_counted h = ap script (all_emitted code marks at count g.done g.emitting h)

  pub below_all : n ≤ length (script (emitted code marks))
  below_all =
      let m = then_more code marks at count g.done g.emitting in
      omega (arith, g.n_is, rw m.1 at (script_longer g.done m.0))

  module _ (inside : at < length code) where
    -- the bytes of the command there
    abbrev pub bytes_here : List ℕ
    bytes_here = script (tokens_of (command_at code at) (operand_bytes (command_at code at) code (at + 1)) (get_or marks count false))

    abbrev tokens : List Token
    tokens = tokens_of (command_at code at) (operand_bytes (command_at code at) code (at + 1)) (get_or marks count false)

    pub bytes_join : script (g.done ++ tokens) ≡ script g.done ++ bytes_here
    bytes_join =
        script-append g.done tokens
        (starts (command_at code at) (operand_bytes (command_at code at) code (at + 1)) (get_or marks count false))

    abbrev pub one_counted : (m : ℕ) → length bytes_here ≡ m → Counted code marks (after code at) (count + 1) (n + m)
    one_counted m e =
        record {
          done = g.done ++ tokens;
          emitting = one_emitted code marks at count g.done g.emitting inside;
          n_is = ap length bytes_join ∙ length-append (script g.done) bytes_here ∙ omega (arith, g.n_is, e);
        }

-- and they are written over the front of `old`
pub record Pushed (code : List ℕ) (marks : List Bool) (old now : List ℕ) (at count n : ℕ) : Type 0 where
  pub counted : Counted code marks at count n
  pub front : Front now old (script counted.done) n

pub none_pushed : (code : List ℕ) (marks : List Bool) (old : List ℕ) → Passed code (λ s. s.tokens ≤ length marks) → Pushed code marks old old 0 0 0
unfolding script
none_pushed code marks old p = record { counted = none_counted code marks p; front = front_none old }

pub one_pushed : (code : List ℕ) (marks : List Bool) (old now : List ℕ) (at count n : ℕ) (g : Pushed code marks old now at count n) (inside : at < length code)
    (last : List ℕ) (m : ℕ) → Front last (mid_of n (length now - n) now) (bytes_here code marks at count n g.counted inside) m
    → Pushed code marks old (put_mid n (length now - n) now last) (after code at) (count + 1) (n + m)
one_pushed code marks old now at count n g inside last m f =
    record {
      counted = one_counted code marks at count n g.counted inside m f.long;
      front = rw (bytes_join code marks at count n g.counted inside) (front_rest g.front f);
    }
