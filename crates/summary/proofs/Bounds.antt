-- What a command adds, at the least and at the most.
use Prim.Native.Nat.{ℕ, ◌+◌, ◌≤◌, ◌<◌}
use mathlib.Core.Path.{◌≡◌}
use mathlib.Core.Bool.{true}
use mathlib.Core.List.{List, [], ◌∷◌}
use native.Mathlib.Omega.{arith}
use lib.ListN.{length, length-append}
use Rattle.semantics.specs.declared.AmountList.{AmountList}
use Rattle.semantics.specs.declared.BinOp.{BinOp}
use Rattle.semantics.specs.declared.CmpOp.{CmpOp}
use Rattle.semantics.specs.declared.Command.{Command}
use Rattle.semantics.specs.declared.IdxOp.{IdxOp}
use Rattle.semantics.specs.declared.Terminal.{Terminal}
use Rattle.semantics.specs.declared.UnOp.{UnOp}
use Rattle.semantics.specs.Code.{CommandRow, command_row, known, max_code, token_count}
use Rattle.semantics.proofs.Heads.{bin_op_long, cmp_long, idx_op_long, list_long, un_op_long}
use Rattle.summary.specs.declared.Summary.{Summary}
use Rattle.summary.specs.Step.{Inside, Small, counted, fold_terminals, most_tokens, next}
use Rattle.summary.proofs.Counts.{given_one}
use Rattle.summary.proofs.Rows.{larger_most}

-- a terminal is at most one oracle terminal
pub counted-add : (n : ℕ) (t : Terminal) → counted n t ≡ n + counted 0 t
counted-add n Terminal.Other = omega arith
counted-add n Terminal.PriceOracle1 = omega arith
counted-add n Terminal.PriceOracle1W = omega arith

pub counted_le : (t : Terminal) → counted 0 t ≤ 1
counted_le Terminal.Other = omega arith
counted_le Terminal.PriceOracle1 = omega arith
counted_le Terminal.PriceOracle1W = omega arith

-- and some terminals at most as many; fewer oracle terminals stay fewer
pub oracles_grow : (ts : List Terminal) (k n : ℕ) → k ≤ n
    → (k ≤ fold_terminals counted k ts) × (fold_terminals counted k ts ≤ fold_terminals counted n ts) × (fold_terminals counted k ts ≤ k + length ts)
oracles_grow [] k n h = (omega arith, h, omega arith)
oracles_grow (t ∷ ts) k n h =
    let r = oracles_grow ts (counted k t) (counted n t) (omega (arith, counted-add k t, counted-add n t)) in
    (omega (arith, r.0, counted-add k t), r.1, omega (arith, r.2, counted-add k t, counted_le t))

-- of each row: it has few tokens, it is a terminal once at the most, with a token then, and looks up a list once at the most
pub record Modest (r : CommandRow) : Type 0 where
  pub tokens : token_count r ≤ most_tokens
  pub terminals : length r.terminals ≤ 1
  pub owned : length r.terminals ≤ token_count r
  pub lists : length r.lists ≤ 1

tokens_le : (c : Command) → token_count (command_row c) ≤ most_tokens
tokens_le Command.Unknown = omega arith
tokens_le Command.IdxConst = omega arith
tokens_le Command.CurrIdx = omega arith
tokens_le (Command.Index o) = elim o as (λ o. token_count (command_row (Command.Index o)) ≤ most_tokens) [ IdxOp.Add ↦ omega arith | IdxOp.Sub ↦ omega arith | IdxOp.Mul ↦ omega arith | IdxOp.Div ↦ omega arith ]
tokens_le Command.Const = omega arith
tokens_le Command.CurrInputIdx = omega arith
tokens_le (Command.Lookup l) =
    elim l as (λ l. token_count (command_row (Command.Lookup l)) ≤ most_tokens) [ AmountList.Input ↦ omega arith | AmountList.Output ↦ omega arith | AmountList.InputIssue ↦ omega arith | AmountList.InputReIssue ↦ omega arith ]
tokens_le (Command.Binary o) =
    elim o as (λ o. token_count (command_row (Command.Binary o)) ≤ most_tokens) [
      | BinOp.Add ↦ omega arith
      | BinOp.Sub ↦ omega arith
      | BinOp.Mul ↦ omega arith
      | BinOp.Div ↦ omega arith
      | BinOp.Mod ↦ omega arith
      | BinOp.BitAnd ↦ omega arith
      | BinOp.BitOr ↦ omega arith
      | BinOp.Xor ↦ omega arith
    ]
tokens_le (Command.Unary o) = elim o as (λ o. token_count (command_row (Command.Unary o)) ≤ most_tokens) [ UnOp.Invert ↦ omega arith | UnOp.Negate ↦ omega arith ]
tokens_le Command.PriceOracle1 = omega arith
tokens_le Command.PriceOracle1W = omega arith
tokens_le (Command.Compare o) =
    elim o as (λ o. token_count (command_row (Command.Compare o)) ≤ most_tokens) [ CmpOp.Eq ↦ omega arith | CmpOp.Lt ↦ omega arith | CmpOp.Leq ↦ omega arith | CmpOp.Gt ↦ omega arith | CmpOp.Geq ↦ omega arith ]

columns : (c : Command)
    → (length (command_row c).terminals ≤ 1) × (length (command_row c).terminals ≤ token_count (command_row c)) × (length (command_row c).lists ≤ 1)
columns Command.Unknown = (omega arith, omega arith, omega arith)
columns Command.IdxConst = (omega arith, omega arith, omega arith)
columns Command.CurrIdx = (omega arith, omega arith, omega arith)
columns (Command.Index o) = (omega arith, omega arith, omega arith)
columns Command.Const = (omega arith, omega arith, omega arith)
columns Command.CurrInputIdx = (omega arith, omega arith, omega arith)
columns (Command.Lookup l) = (omega arith, list_long l, omega arith)
columns (Command.Binary o) = (omega arith, omega arith, omega arith)
columns (Command.Unary o) = (omega arith, omega arith, omega arith)
columns Command.PriceOracle1 = (omega arith, omega arith, omega arith)
columns Command.PriceOracle1W = (omega arith, omega arith, omega arith)
columns (Command.Compare o) = (omega arith, omega arith, omega arith)

pub modest : (c : Command) → Modest (command_row c)
modest c = record { tokens = tokens_le c; terminals = (columns c).0; owned = (columns c).1; lists = (columns c).2 }

-- a command has a token
pub some_token : (c : Command) → known c ≡ true → 1 ≤ token_count (command_row c)
some_token Command.Unknown e = absurd (let z : ◌≡◌ {A = ℕ} 0 1 = cc in omega arith)
some_token Command.IdxConst e = omega arith
some_token Command.CurrIdx e = omega arith
some_token (Command.Index o) e = simp length-append (omega (arith, idx_op_long o))
some_token Command.Const e = omega arith
some_token Command.CurrInputIdx e = omega arith
some_token (Command.Lookup l) e = list_long l
some_token (Command.Binary o) e = bin_op_long o
some_token (Command.Unary o) e = un_op_long o
some_token Command.PriceOracle1 e = omega arith
some_token Command.PriceOracle1W e = omega arith
some_token (Command.Compare o) e = cmp_long o

-- it adds at most one to what waits
pub height : (c : Command) (s : Summary) → (next c s).values + (next c s).indexes ≤ s.values + s.indexes + 1
height c s = omega (arith, given_one (command_row c).makes)

pub small-next : (c : Command) (n w : ℕ) (s : Summary) → Small n s → Small (n + 1 + w) (next c s)
small-next c n w s h =
    let m = modest c in
    let l = larger_most s.most ((next c s).values + (next c s).indexes) in
    record {
      conditions = omega (arith, h.conditions, given_one (command_row c).makes);
      tokens = omega (arith, h.tokens, m.tokens);
      oracles = omega (arith, h.oracles, (oracles_grow (command_row c).terminals s.oracles s.oracles (omega arith)).2, m.terminals);
      lookups = omega (arith, h.lookups, m.lists);
      waiting = l.1;
      most = l.2 (n + 1 + w) (omega (arith, h.most)) (omega (arith, height c s, h.waiting, h.most));
    }

-- so a place in the code has no more than a step may go by
pub small-inside : (size : ℕ) (s : Summary) → s.bytes < size → size ≤ max_code → Small s.bytes s → Inside size s
small-inside size s w h k =
    record {
      within = w;
      short = h;
      small =
          record {
            conditions = omega (arith, k.conditions);
            tokens = omega (arith, k.tokens);
            oracles = omega (arith, k.oracles);
            lookups = omega (arith, k.lookups);
            waiting = k.waiting;
            most = omega (arith, k.most);
          };
    }
