-- What it is that a call leaves what a case knows: its numbers, and the contents of its buffers, which are filled before the call.
use Rattle.std.specs.Prelude.{ℕ, ◌-◌, Bool, true, false, ◌&&◌, List, [], ◌∷◌, ◌++◌, eqb, leb, drop, replicate}
use Rattle.std.specs.List.{list_all}
use Rattle.cases.specs.Cases.{number_at}

-- the numbers, k bytes each, are those that a part begins with, as `same` compares them
unfoldable pub begins_by : {A : Type 0} → (A → A → Bool) → (ℕ → A) → ℕ → List ℕ → List A → Bool
begins_by same of k part [] = true
begins_by same of k part (n ∷ ns) = same n (of (number_at k part 0)) && begins_by same of k (drop k part) ns

abbrev pub begins : List ℕ → List ℕ → Bool
begins part ns = begins_by eqb (λ n. n) 8 part ns

-- what a buffer of bytes is filled with before the call
abbrev pub fill : ℕ
fill = 0xa5

-- a buffer of n numbers before the call
unfoldable pub fresh : {A : Type 0} → ℕ → A → List A
fresh n x = replicate n x

-- the known numbers stand at the front, and after them everywhere what the buffer was filled with
unfoldable pub held_by : {A : Type 0} → (A → A → Bool) → A → List A → List A → Bool
held_by same f [] xs = list_all (λ x. same x f) xs
held_by same f (k ∷ ks) [] = false
held_by same f (k ∷ ks) (x ∷ xs) = same x k && held_by same f ks xs

abbrev pub held : ℕ → List ℕ → List ℕ → Bool
held f ks xs = held_by eqb f ks xs

-- of a buffer of `size` bytes a call was lent the first `room`, and left them as `lent`: there were so many, its answer's numbers are those that a part begins
-- with, and the buffer holds the known bytes
unfoldable pub known : ℕ → ℕ → List ℕ → List ℕ → List ℕ → List ℕ → Bool
known size room part numbers bytes lent = leb room size && (begins part numbers && held fill bytes (lent ++ fresh (size - room) fill))
