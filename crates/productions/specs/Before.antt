-- Token records as lent slices of numbers, and the tokens before a place, the last one first, as the definitions' readers take them.
use Rattle.std.specs.Prelude.{ℕ, ◌+◌, ◌≤◌, ◌<◌, ◌≡◌, List, length, get_or}
use Rattle.slices.specs.Stack.{stack_of}
use Rattle.semantics.specs.Operations.{Token}
use Rattle.semantics.specs.Records.{records_of, token_at}

unfoldable pub before : (ℕ → Token) → ℕ → List Token
before t n = stack_of t n

-- the tokens of lent records before a place
abbrev pub tokens_before : List ℕ → List ℕ → List ℕ → List ℕ → ℕ → List Token
tokens_before kinds numbers places keys end = before (token_at (records_of kinds numbers places keys)) end

-- the kinds are known, and those before `end` are there, with their numbers
pub record Numbered (kinds numbers : List ℕ) (end : ℕ) : Type 0 where
  pub known : (i : ℕ) → get_or kinds i 0 < 36
  pub paired : length kinds ≤ length numbers
  pub within : end ≤ length kinds

-- each key that a record names is whole
pub record Whole (kinds places keys : List ℕ) : Type 0 where
  pub placed : length kinds ≤ length places
  pub whole : (i : ℕ) → i < length kinds → get_or kinds i 0 ≡ 3 → get_or places i 0 + 32 ≤ length keys
