-- What the readers answer, by what the definitions' readers find.
use Rattle.std.specs.Prelude.{ℕ, ◌≤◌, ◌≡◌, List, length}
use Rattle.semantics.specs.Operations.{Token}
use Rattle.semantics.specs.Records.{Records, token_at}
use Rattle.semantics.specs.FromTokens.{Found, found, nothing}
use Rattle.productions.specs.Before.{before}
use Rattle.productions.specs.Noted.{Rows}
use Rattle.readers.specs.declared.Reading.{Reading}

-- how many tokens stand before what was read
abbrev pub reading_of : {A : Type 0} → Found A → Reading
reading_of (found a r) = Reading.Read (length r)
reading_of nothing = Reading.Nothing

-- x is what is read of the tokens before `last`
pub record Answers (rows : List ℕ) (last : ℕ) (x : Reading) (read : List Token → Reading) : Type 0 where
  pub within : (n : ℕ) → x ≡ Reading.Read n → n ≤ last
  pub right : (r : Records) → Rows r rows last → x ≡ read (before (token_at r) last)
