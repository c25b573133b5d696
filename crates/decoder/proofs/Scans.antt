-- Soundness of records: by fields (`sound_fields`), record after record (`unsound-here` ..), and what sound records are (`ready_numbered`, `ready_whole`).
use Prim.Native.Nat.{ℕ, zero, suc, ◌+◌, ◌-◌, ◌^◌, ◌≤◌, ◌<◌}
use mathlib.Core.Bool.{Bool, true, false, cond, not, ◌&&◌, ◌||◌}
use mathlib.Core.Option.{Option, none, some}
use mathlib.Core.Path.{◌≡◌, refl}
use native.Mathlib.Nat.{add-suc, add-zero, suc-add, zero-add}
use native.Mathlib.Numerals.{add-one}
use native.Mathlib.Omega.{arith}
use borrow.Author.Tests.{eq-eqb, le-ltb, leb-true, lt-ltb, ltb-false, ltb-true}
use lib.Dec.{eqb, leb, ltb}
use lib.ListN.{length, get_or, get_or-eq_default}
use Rattle.semantics.specs.Records.{Records, sound_at, unsound, unsound_from}
use Rattle.semantics.proofs.Tests.{and_true}
use Rattle.productions.specs.Before.{Numbered, Whole}
use Rattle.decoder.specs.Sound.{fields_sound}

-- a record is sound if its fields are there and sound
pub sound_fields : (r : Records) (i : ℕ) → i < length r.numbers → i < length r.places
    → sound_at r i ≡ fields_sound (get_or r.kinds i 0) (get_or r.numbers i 0) (get_or r.places i 0) (length r.keys)
sound_fields r i h g = rw (lt-ltb i (length r.numbers) h, lt-ltb i (length r.places) g)

-- where a field is not there, it is unsound
pub no_field : (r : Records) (i : ℕ) → (i < length r.numbers → i < length r.places → ⊥) → sound_at r i ≡ false
no_field r i absent = go (ltb i (length r.numbers)) refl
  where
    go : (b : Bool) → ltb i (length r.numbers) ≡ b → sound_at r i ≡ false
    go false e = rw (le-ltb i (length r.numbers) (ltb-false i (length r.numbers) e))
    go true e =
        let number = ltb-true i (length r.numbers) e in
        rw (lt-ltb i (length r.numbers) number, le-ltb i (length r.places) (omega (arith, absent number)))

-- one record after the other
pub unsound-here : (r : Records) (i n : ℕ) → i < n → sound_at r i ≡ false → unsound_from r i (n - i) ≡ some i
unfolding unsound_from
unsound-here r i n h e = let k : n - i ≡ suc (n - i - 1) = omega arith in rw (k, e)

pub unsound-next : (r : Records) (i n : ℕ) → i < n → sound_at r i ≡ true → unsound_from r i (n - i) ≡ unsound_from r (i + 1) (n - (i + 1))
unfolding unsound_from
unsound-next r i n h e = let k : n - i ≡ suc (n - (i + 1)) = omega arith in rw (k, e, add-one i)

pub unsound_none : (r : Records) (i n : ℕ) → n ≤ i → unsound_from r i (n - i) ≡ none
unfolding unsound_from
unsound_none r i n h = let k : n - i ≡ 0 = omega arith in rw k

-- where none is unsound, each is sound
first_sound : (b : Bool) (x : Option ℕ) (i : ℕ) → cond b x (some i) ≡ none → (b ≡ true) × (x ≡ none)
first_sound true x i e = (refl, e)
first_sound false x i e = (cc, cc)

all_sound : (r : Records) (i k : ℕ) → unsound_from r i k ≡ none → (j : ℕ) → j < k → sound_at r (i + j) ≡ true
unfolding unsound_from
all_sound r i zero e j h = absurd (omega arith)
all_sound r i (suc k) e zero h = rw (add-zero i) (first_sound (sound_at r i) (unsound_from r (suc i) k) i e).0
all_sound r i (suc k) e (suc j) h =
    rw (add-suc i j, ← suc-add i j) (all_sound r (suc i) k (first_sound (sound_at r i) (unsound_from r (suc i) k) i e).1 j (omega arith))

record Parts (r : Records) (i : ℕ) : Type 0 where
  number : i < length r.numbers
  place : i < length r.places
  kind : get_or r.kinds i 0 ≤ 35
  whole : get_or r.kinds i 0 ≡ 3 → get_or r.places i 0 + 32 ≤ length r.keys

sound_parts : (r : Records) (i : ℕ) → sound_at r i ≡ true → Parts r i
sound_parts r i e =
    let kind = get_or r.kinds i 0 in
    let there = ltb i (length r.numbers) && ltb i (length r.places) in
    let p = and_true (there && leb kind 35 && (not (eqb kind 1) || ltb (get_or r.numbers i 0) (2 ^ 32))) (not (eqb kind 3) || leb (get_or r.places i 0 + 32) (length r.keys)) e in
    let n = and_true (there && leb kind 35) (not (eqb kind 1) || ltb (get_or r.numbers i 0) (2 ^ 32)) p.0 in
    let k = and_true there (leb kind 35) n.0 in
    let t = and_true (ltb i (length r.numbers)) (ltb i (length r.places)) k.0 in
    record {
      number = ltb-true i (length r.numbers) t.0;
      place = ltb-true i (length r.places) t.1;
      kind = leb-true kind 35 k.1;
      whole = λ f. leb-true (get_or r.places i 0 + 32) (length r.keys) (rw (eq-eqb kind 3 f) at p.1);
    }

-- so the readers may be called
module _ (r : Records) (none_unsound : unsound r ≡ none) where
  each : (i : ℕ) → i < length r.kinds → Parts r i
  each i g = sound_parts r i (rw (zero-add i) at (all_sound r 0 (length r.kinds) none_unsound i g))

  pub ready_numbered : Numbered r.kinds r.numbers (length r.kinds)
  ready_numbered = record { known = λ i. known i (ltb i (length r.kinds)) refl; paired = paired (length r.kinds) refl; within = omega arith }
    where
      known : (i : ℕ) (b : Bool) → ltb i (length r.kinds) ≡ b → get_or r.kinds i 0 < 36
      known i true e = omega (arith, (each i (ltb-true i (length r.kinds) e)).kind)
      known i false e = rw (get_or-eq_default r.kinds 0 {n = i} (ltb-false i (length r.kinds) e)) (omega arith)

      paired : (n : ℕ) → length r.kinds ≡ n → length r.kinds ≤ length r.numbers
      paired zero e = omega arith
      paired (suc n) e = omega (arith, (each n (omega arith)).number)

  pub ready_whole : Whole r.kinds r.places r.keys
  ready_whole = record { placed = placed (length r.kinds) refl; whole = λ i g. (each i g).whole }
    where
      placed : (n : ℕ) → length r.kinds ≡ n → length r.kinds ≤ length r.places
      placed zero e = omega arith
      placed (suc n) e = omega (arith, (each n (omega arith)).place)
