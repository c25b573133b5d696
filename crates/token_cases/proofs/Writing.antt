-- The front of each buffer is lent, and the rest is kept; and a case agrees by what its call left.
use Prim.Native.Nat.{ℕ, ◌≤◌, min}
use mathlib.Core.Path.{◌≡◌, sym, ap, ap₂, ◌∙◌}
use mathlib.Core.List.{List, ◌++◌}
use native.Mathlib.Decide.{dec_le}
use native.Mathlib.Omega.{arith}
use lib.ListN.{length, take, drop, drop_of_length-le}
use lib.Seq.{take_all}
use Rattle.semantics.specs.Records.{Records, records_of}
use Rattle.semantics.specs.Write.{wrote}
use Rattle.answers.specs.declared.WriteAnswer.{WriteAnswer}
use Rattle.answers.specs.Answers.{write_answer}
use Rattle.cases.specs.Cases.{part_of, word_of}
use Rattle.token_cases.specs.Writing.{back, fresh_records, front, records_known, write_agrees}

-- no more is lent than there is
module _ (n m : ℕ) (xs : List ℕ) (e : m ≡ min n (length xs)) where
  take_most : take m xs ≡ take n xs
  take_most = go (dec_le n (length xs))
    where
      go : Dec (n ≤ length xs) → take m xs ≡ take n xs
      go (yes h) = let q : m ≡ n = omega arith in rw q
      go (no h) = take_all m xs (omega arith) ∙ sym (take_all n xs (omega arith))

  drop_most : drop m xs ≡ drop n xs
  drop_most = go (dec_le n (length xs))
    where
      go : Dec (n ≤ length xs) → drop m xs ≡ drop n xs
      go (yes h) = let q : m ≡ n = omega arith in rw q
      go (no h) = drop_of_length-le xs {i = m} (omega arith) ∙ sym (drop_of_length-le xs {i = n} (omega arith))

module _ (body code known kinds numbers places keys : List ℕ) (a b c d : ℕ) (is : code ≡ part_of body 0) (lists : known ≡ part_of body 1)
    (p : a ≡ min (word_of known 0) (length kinds)) (q : b ≡ min (word_of known 1) (length numbers))
    (r : c ≡ min (word_of known 2) (length places)) (s : d ≡ min (word_of known 3) (length keys)) where
  abbrev before : Records
  before = records_of kinds numbers places keys

  abbrev lent : Records
  lent = records_of (take a kinds) (take b numbers) (take c places) (take d keys)

  fronts : lent ≡ front (part_of body 1) before
  fronts =
      rw (
        take_most (word_of known 0) a kinds p,
        take_most (word_of known 1) b numbers q,
        take_most (word_of known 2) c places r,
        take_most (word_of known 3) d keys s,
        lists,
      )

  pub answered : (answer : WriteAnswer) → answer ≡ write_answer (wrote code lent).answer
      → answer ≡ write_answer (wrote (part_of body 0) (front (part_of body 1) before)).answer
  answered answer h = rw (is, fronts) at h

  pub left : (k n l e : List ℕ) → records_of k n l e ≡ (wrote code lent).records
      → records_of (k ++ drop a kinds) (n ++ drop b numbers) (l ++ drop c places) (e ++ drop d keys)
      ≡ back (part_of body 1) (wrote (part_of body 0) (front (part_of body 1) before)).records before
  left k n l e h =
      let all : records_of (k ++ drop a kinds) (n ++ drop b numbers) (l ++ drop c places) (e ++ drop d keys) ≡ back known (records_of k n l e) before =
      rw (
        drop_most (word_of known 0) a kinds p,
        drop_most (word_of known 1) b numbers q,
        drop_most (word_of known 2) c places r,
        drop_most (word_of known 3) d keys s,
      ) in
      all ∙ ap (λ (x : Records). back known x before) (h ∙ ap₂ (λ (x : List ℕ) (y : Records). (wrote x y).records) is fronts)
      ∙ ap (λ (x : List ℕ). back x (wrote (part_of body 0) (front (part_of body 1) before)).records before) lists

-- all that was left, compared
pub write-compared : (body : List ℕ) (a : WriteAnswer) (after : Records)
    → a ≡ write_answer (wrote (part_of body 0) (front (part_of body 1) fresh_records)).answer
    → after ≡ back (part_of body 1) (wrote (part_of body 0) (front (part_of body 1) fresh_records)).records fresh_records
    → records_known body a after ≡ write_agrees body
unfolding write_agrees
write-compared body a after e f = rw (e, f)
