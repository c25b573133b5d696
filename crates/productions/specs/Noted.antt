-- The rows that are noted for the tokens before each place.
use Rattle.std.specs.Prelude.{ℕ, ◌-◌, ◌≤◌, ◌≡◌, cond, List, eqb, length, get_or}
use Rattle.semantics.specs.Code.{max_tokens}
use Rattle.semantics.specs.Records.{Records, token_at}
use Rattle.productions.specs.Before.{before}
use Rattle.productions.specs.Ending.{last_row, row_at, row_count, row_found}

-- the row that is noted for the tokens before a place; before nothing there is none
unfoldable pub row_in : List ℕ → ℕ → ℕ
row_in rows end = cond (eqb end 0) row_count (get_or rows (end - 1) 0)

-- the rows that are noted are those that the tokens before each place end with
pub record Rows (r : Records) (rows : List ℕ) (last : ℕ) : Type 0 where
  pub noted : (i : ℕ) → i ≤ last → row_in rows i ≡ row_found (last_row (before (token_at r) i))

-- no row is noted that has more tokens than stand there
pub record Fitting (rows : List ℕ) (last : ℕ) : Type 0 where
  pub few : last ≤ max_tokens
  pub fitting : (i : ℕ) → i ≤ last → length (row_at (row_in rows i)).marks ≤ i
