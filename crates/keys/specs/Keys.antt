-- The keys of code, and the positions where they stand.
use Rattle.std.specs.Prelude.{ℕ, Option, Some, None, ltb, ◌+◌, ◌≤◌, cond, ◌≡◌, List, [], map, eqb, length, take, drop}
use Rattle.slices.specs.Bytes.{All}
use Rattle.semantics.specs.declared.Command.{Command}
use Rattle.semantics.specs.Code.{command_row}
use Rattle.semantics.specs.Parse.{fold, instructions}
use Rattle.semantics.specs.Write.{index_of, with_key}

-- the key at a position, and those at the first n of some
abbrev pub key_at : List ℕ → ℕ → List ℕ
key_at code at = take 32 (drop at code)

abbrev pub keys_at : List ℕ → List ℕ → List (List ℕ)
keys_at code positions = map (key_at code) positions

-- at each position a whole key stands
abbrev pub Inside : List ℕ → List ℕ → Type 0
Inside code positions = All (λ p. p + 32 ≤ length code) positions

-- where a key stands among keys, if it does
abbrev pub place_among : List ℕ → List (List ℕ) → Option ℕ
place_among key ks = cond (ltb (index_of key ks) (length ks)) (Some (index_of key ks)) None

-- a command with 40 operand bytes has a key, its first 32
abbrev pub key_step : List (List ℕ) → Command → List ℕ → List (List ℕ)
key_step ks c n = cond (eqb (command_row c).width 40) (with_key ks (take 32 n)) ks

-- the keys that code names, equal keys once, in the order of the first command that names them
unfoldable pub code_keys : List ℕ → List (List ℕ)
code_keys code = fold key_step [] (instructions code)

-- m keys are noted, the one at `at` among them, if so many operand bytes have one; there were n
pub record OneMore (code : List ℕ) (width at : ℕ) (old : List ℕ) (n : ℕ) (new : List ℕ) (m : ℕ) : Type 0 where
  pub keys : keys_at code (take m new) ≡ cond (eqb width 40) (with_key (keys_at code (take n old)) (key_at code at)) (keys_at code (take n old))
  pub inside : Inside code (take m new)
  pub there : m ≤ length new
  pub few : m ≤ n + 1
  pub long : length new ≡ length old

-- the keys at these positions are those of the code
pub record KeysFound (code positions : List ℕ) : Type 0 where
  pub inside : Inside code positions
  pub keys : keys_at code positions ≡ code_keys code
