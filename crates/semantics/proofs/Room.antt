-- What Write and Decode make of the number of records: Write looks no further than a form reaches.
use Rattle.std.proofs.Common.{Err}
use Prim.Native.Nat.{ℕ, ◌*◌, ◌≤◌, ◌<◌}
use mathlib.Core.Bool.{Bool, true, false, ◌&&◌}
use mathlib.Core.Path.{◌≡◌, refl, ap}
use mathlib.Core.List.{List, [], ◌∷◌}
use native.Mathlib.Omega.{arith}
use borrow.Author.Tests.{leb-true, lt-leb}
use lib.ListN.{length}
use lib.Dec.{leb}
use Rattle.semantics.specs.Refusals.{first_of, unless}
use Rattle.slices.specs.Bytes.{Bytes}
use Rattle.semantics.specs.declared.Refusal.{Refusal}
use Rattle.semantics.specs.Check.{Condition, condition}
use Rattle.semantics.specs.Code.{max_tokens}
use Rattle.semantics.specs.Decode.{decoded}
use Rattle.semantics.specs.Records.{Records}
use Rattle.semantics.specs.Token.{form, narrow}
use Rattle.semantics.specs.Trees.{Arith}
use Rattle.semantics.specs.Write.{Writing, keys_of, room_for, writes_unless, writing, writing_by}
use Rattle.semantics.proofs.Passing.{passing}
use Rattle.semantics.proofs.Tests.{and_true}

-- 10 before 9, of an input that is too long to compute
pub too_many_records : (r : Records) (old : List ℕ) → max_tokens < length r.kinds
    → decoded r old ≡ record { answer = Err Refusal.TooManyRecords; buffer = old }
unfolding decoded
too_many_records r old h = rw (lt-leb (length r.kinds) max_tokens h)

-- how many records are written
abbrev pub count_of : Writing → ℕ
count_of (Writing.refused r) = 0
count_of (Writing.writes ts) = length ts

pub writing-alike : (b : List ℕ) → Bytes b → (r s : Records) → ((t n : ℕ) → t ≤ max_tokens → room_for t n r ≡ room_for t n s) → writing b r ≡ writing b s
unfolding writing
writing-alike b h r s same = go (condition b) refl
  where
    go : (k : Condition) → condition b ≡ k → writing_by k r ≡ writing_by k s
    go (Condition.refused x) e = refl
    go (Condition.passed a) e =
        ap (λ (t : Bool). writes_unless (first_of (unless (narrow (form a)) Refusal.IndexConstTooLarge ∷ unless t Refusal.BufferTooShort ∷ [])) (form a))
        (same (length (form a)) (length (keys_of (form a))) (passing b h a e).few)

-- what there is room for is there
pub has_room : (t n : ℕ) (r : Records) → room_for t n r ≡ true
    → (t ≤ length r.kinds) × (t ≤ length r.numbers) × (t ≤ length r.places) × (32 * n ≤ length r.keys)
has_room t n r e =
    let k = leb t (length r.kinds) in
    let m = leb t (length r.numbers) in
    let l = leb t (length r.places) in
    let p = and_true (k && m && l) (leb (32 * n) (length r.keys)) e in
    let q = and_true (k && m) l p.0 in
    let s = and_true k m q.0 in (
      leb-true t (length r.kinds) s.0,
      leb-true t (length r.numbers) s.1,
      leb-true t (length r.places) q.1,
      leb-true (32 * n) (length r.keys) p.1,
    )

-- what is written has room
pub writing-fits : (b : List ℕ) (r : Records) → (count_of (writing b r) ≤ length r.kinds) × (count_of (writing b r) ≤ length r.places)
unfolding writing
writing-fits b r = go (condition b)
  where
    by : (a : Arith) (p q : Bool) → room_for (length (form a)) (length (keys_of (form a))) r ≡ q
        → let w = writes_unless (first_of (unless p Refusal.IndexConstTooLarge ∷ unless q Refusal.BufferTooShort ∷ [])) (form a) in
        (count_of w ≤ length r.kinds) × (count_of w ≤ length r.places)
    by a true true e = let h = has_room (length (form a)) (length (keys_of (form a))) r e in (h.0, h.2)
    by a true false e = (omega arith, omega arith)
    by a false q e = (omega arith, omega arith)

    go : (k : Condition) → (count_of (writing_by k r) ≤ length r.kinds) × (count_of (writing_by k r) ≤ length r.places)
    go (Condition.refused x) = (omega arith, omega arith)
    go (Condition.passed a) = by a (narrow (form a)) (room_for (length (form a)) (length (keys_of (form a))) r) refl
