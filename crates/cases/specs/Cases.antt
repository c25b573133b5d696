-- A case as it stands in the file (tests/vectors/generate.py): "the call .. and the number of parts, a byte each; the end of each part in the body, 4 bytes
-- each; the parts".
use Rattle.std.specs.Prelude.{ℕ, zero, suc, ◌+◌, ◌-◌, ◌*◌, ◌/◌, cond, List, [], ◌∷◌, leb, length, get_or, take, drop, replicate}
use Rattle.slices.specs.Bytes.{bytes_value}

-- "Numbers are little-endian": the number of k bytes from a place on; 0 where they do not stand there
unfoldable pub number_at : ℕ → List ℕ → ℕ → ℕ
number_at k s at = cond (leb (at + k) (length s)) (bytes_value (take k (drop at s))) 0

-- those bytes, as an array of k; zeros where they do not stand there
unfoldable pub array_at : ℕ → List ℕ → ℕ → List ℕ
array_at k s at = cond (leb (at + k) (length s)) (take k (drop at s)) (replicate k 0)

-- the bytes from one place to another; none where they do not stand there
unfoldable pub bytes_between : List ℕ → ℕ → ℕ → List ℕ
bytes_between s from to = cond (leb to (length s)) (take (to - from) (drop from s)) []

-- "the end of each part in the body, 4 bytes each"; the first part begins after the ends, each other where the one before it ends
unfoldable pub end_of : List ℕ → ℕ → ℕ
end_of body k = number_at 4 body (2 + 4 * k)

unfoldable pub start_of : List ℕ → ℕ → ℕ
start_of body zero = 2 + 4 * get_or body 1 0
start_of body (suc k) = end_of body k

unfoldable pub part_of : List ℕ → ℕ → List ℕ
part_of body k = bytes_between body (start_of body k) (end_of body k)

-- the i-th number of a part, "8 bytes each unless said"
abbrev pub word_of : List ℕ → ℕ → ℕ
word_of part i = number_at 8 part (8 * i)

-- the first n numbers of a part, k bytes each, and what `of` makes of each
unfoldable pub numbers_by : {A : Type 0} → (ℕ → A) → ℕ → ℕ → List ℕ → List A
numbers_by of k zero part = []
numbers_by of k (suc n) part = of (bytes_value (take k part)) ∷ numbers_by of k n (drop k part)

-- of those that stand in it whole
abbrev pub whole_by : {A : Type 0} → (ℕ → A) → ℕ → List ℕ → List A
whole_by of k part = numbers_by of k (length part / k) part

-- the numbers themselves, of 8 and of 4 bytes each
abbrev pub words_of : List ℕ → List ℕ
words_of part = whole_by (λ n. n) 8 part

abbrev pub halves_of : List ℕ → List ℕ
halves_of part = whole_by (λ n. n) 4 part
