-- What one command makes of the summary that one pass over the commands keeps: one equation over its row.
use Rattle.std.specs.Prelude.{ℕ, ◌+◌, ◌-◌, ◌*◌, ◌≤◌, ◌<◌, cond, List, [], ◌∷◌, ltb, length, replicate, Option, Some, None}
use Rattle.semantics.specs.declared.AmountList.{AmountList}
use Rattle.semantics.specs.declared.Command.{Command}
use Rattle.semantics.specs.declared.Terminal.{Terminal}
use Rattle.semantics.specs.Code.{CommandRow, Made, command_row, max_code, need_met, row, token_count}
use Rattle.semantics.specs.Operations.{op}
use Rattle.semantics.specs.Parse.{Counts}
use Rattle.summary.specs.declared.Rule.{Rule}
use Rattle.summary.specs.declared.Summary.{Summary}
use Rattle.summary.specs.declared.Stepped.{Stepped}

-- the number of oracle terminals, and the oracle rule, after one terminal more
abbrev pub counted : ℕ → Terminal → ℕ
counted n Terminal.Other = n
counted n Terminal.PriceOracle1 = n + 1
counted n Terminal.PriceOracle1W = n + 1

abbrev pub ruled : Rule → Terminal → Rule
ruled Rule.Unseen Terminal.Other = Rule.Kept
ruled Rule.Unseen Terminal.PriceOracle1 = Rule.Kept
ruled Rule.Unseen Terminal.PriceOracle1W = Rule.WFirst
ruled Rule.Kept Terminal.Other = Rule.Kept
ruled Rule.Kept Terminal.PriceOracle1 = Rule.Missing
ruled Rule.Kept Terminal.PriceOracle1W = Rule.Kept
ruled Rule.WFirst t = Rule.WFirst
ruled Rule.Missing t = Rule.Missing

-- and after some more
abbrev pub fold_terminals : {A : Type 0} → (A → Terminal → A) → A → List Terminal → A
fold_terminals step a [] = a
fold_terminals step a (t ∷ ts) = fold_terminals step (step a t) ts

-- one of what a command makes
abbrev pub given : Made → Counts
given Made.nothing = record { values = 0; indexes = 0; conditions = 0 }
given Made.index = record { values = 0; indexes = 1; conditions = 0 }
given Made.value = record { values = 1; indexes = 0; conditions = 0 }
given Made.condition = record { values = 0; indexes = 0; conditions = 1 }

-- how many wait after a command: less what it takes, and what it gives
abbrev pub counts_after : CommandRow → Counts → Counts
counts_after r s =
    record {
      values = s.values - r.values + (given r.makes).values;
      indexes = s.indexes - r.indexes + (given r.makes).indexes;
      conditions = s.conditions + (given r.makes).conditions;
    }

abbrev pub larger : ℕ → ℕ → ℕ
larger a b = cond (ltb a b) b a

abbrev pub counts : Summary → Counts
counts s = record { values = s.values; indexes = s.indexes; conditions = s.conditions }

-- a summary with a command more, of which this is the row
abbrev pub next_by : CommandRow → Summary → Summary
next_by r s =
    let w = counts_after r (counts s) in
    record {
      bytes = s.bytes + 1 + r.width;
      values = w.values;
      indexes = w.indexes;
      conditions = w.conditions;
      tokens = s.tokens + token_count r;
      oracles = fold_terminals counted s.oracles r.terminals;
      rule = fold_terminals ruled s.rule r.terminals;
      lookups = s.lookups + length r.lists;
      most = larger s.most (w.values + w.indexes);
    }

abbrev pub next : Command → Summary → Summary
next c s = next_by (command_row c) s

-- a comparison ends the code
abbrev pub made_as : Made → Summary → Stepped
made_as Made.nothing s = Stepped.Onward s
made_as Made.index s = Stepped.Onward s
made_as Made.value s = Stepped.Onward s
made_as Made.condition s = Stepped.Compared s

-- its operand bytes are within the code, and its need is met
abbrev pub stepped_by : CommandRow → ℕ → Summary → Option Stepped
stepped_by r length s =
    cond (ltb (length - s.bytes - 1) r.width) None
    (cond (need_met r s.values s.indexes) (Some (made_as r.makes (next_by r s))) None)

-- a row of which no more is said than a step asks: its tokens are so many
abbrev pub counting : ℕ → ℕ → ℕ → Made → ℕ → List Terminal → List AmountList → CommandRow
counting width values indexes makes tokens terminals lists = row 0 width values indexes makes [] (λ n. replicate tokens (op 0)) terminals lists

abbrev pub stepped : Command → ℕ → Summary → Option Stepped
stepped c length s = stepped_by (command_row c) length s

-- the most tokens that a command has
abbrev pub most_tokens : ℕ
most_tokens = 13

-- what n commands can come to at the most
pub record Small (n : ℕ) (s : Summary) : Type 0 where
  pub conditions : s.conditions ≤ n
  pub tokens : s.tokens ≤ most_tokens * n
  pub oracles : s.oracles ≤ n
  pub lookups : s.lookups ≤ n
  pub waiting : s.values + s.indexes ≤ s.most
  pub most : s.most ≤ n

-- the place where a command stands, in code of so many bytes
pub record Inside (length : ℕ) (s : Summary) : Type 0 where
  pub within : s.bytes < length
  pub short : length ≤ max_code
  pub small : Small max_code s
