-- What reading the input promises.
use Rattle.std.specs.Prelude.{ℕ, ◌≤◌, ◌<◌, ◌≡◌, List, ◌++◌, length, take, Option, Result, Ok, Err}
use Rattle.std.specs.Io.KnownBytes.{Consumes, IsAtEnd}
use Rattle.sheet.specs.Sheet.{sheet}

-- no more bytes were read than the buffer has; where it is full, whatever comes after them leaves the sheet as it is
abbrev pub Read : {E : Type 0} → Result ℕ E → List ℕ → Type 0
Read (Ok n) buffer = (n ≤ length buffer) × (n ≡ length buffer → (more : List ℕ) → sheet (buffer ++ more) ≡ sheet buffer)
Read (Err e) buffer = Unit {0}

-- what a reader had left before and has left now: the bytes read are those that came next, and where they don't fill the buffer, none are left
abbrev pub Taken : {E : Type 0} → Option (List ℕ) → Option (List ℕ) → Result ℕ E → List ℕ → Type 0
Taken old new (Ok n) buffer = Consumes old new (take n buffer) × (n < length buffer → IsAtEnd new)
Taken old new (Err e) buffer = Unit {0}
