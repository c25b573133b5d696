-- Whole numbers as text: decimal digits without zeros in front, after a hyphen where the number is negative.
use Rattle.std.specs.Prelude.{ℕ, zero, suc, ◌+◌, ◌/◌, ◌%◌, ◌≡◌, List, [], ◌∷◌, ◌++◌, ℤ, pos, negsuc, length, take}

abbrev pub hyphen : ℕ
hyphen = 45

-- the character of the last digit of n
abbrev pub digit : ℕ → ℕ
digit n = 48 + n % 10

-- the digits of n, of which there are at most `most`; 0 has none
unfoldable pub digits_in : ℕ → ℕ → List ℕ
digits_in zero n = []
digits_in (suc most) zero = []
digits_in (suc most) (suc n) = digits_in most (suc n / 10) ++ digit (suc n) ∷ []

unfoldable pub digits : ℕ → List ℕ
digits n = digits_in n n

-- the text of n, whose last digit is written even if n is 0
unfoldable pub decimal : ℕ → List ℕ
decimal n = digits (n / 10) ++ digit n ∷ []

-- `negsuc n` is -(n + 1)
unfoldable pub signed : ℤ → List ℕ
signed (pos n) = decimal n
signed (negsuc n) = hyphen ∷ decimal (suc n)

-- `old` with a text at its end, from `start` on: what stands before it is kept
pub record Ending (old text now : List ℕ) (start : ℕ) : Type 0 where
  pub is : now ≡ take start old ++ text
  pub ends : start + length text ≡ length old
