-- The row that the tokens before a place end with, as the code finds it there: mark by mark (`ends_all` ..), and then as a row (`row-found` ..).
use Rattle.std.proofs.Common.{Option, Some, None}
use Rattle.std.specs.Option.{option_eq}
use Prim.Native.Nat.{ℕ, zero, suc, ◌+◌, ◌-◌, ◌<◌, ◌≤◌, zero-le, suc-le-suc}
use mathlib.Core.Bool.{Bool, true, false, cond, not, ◌&&◌, ◌||◌}
use mathlib.Core.Path.{◌≡◌, refl, sym, ap, ap₂, ◌∙◌, subst⁻¹}
use mathlib.Core.List.{List, [], ◌∷◌, reverse-append}
use native.Mathlib.Numerals.{add-one}
use native.Mathlib.Omega.{arith}
use borrow.Author.Tests.{eq-eqb, eqb-false, eqb-true, le-ltb, lt-ltb, ltb-false, ltb-true, ne_eqb}
use lib.Dec.{eqb, ltb}
use lib.ListN.{length, get_or, drop, take, get_or-eq_default}
use lib.Seq.{take-suc}
use Rattle.slices.specs.Bytes.{bytes_value}
use Rattle.semantics.specs.Operations.{Token, op}
use Rattle.semantics.specs.FromTokens.{Found, found, nothing}
use Rattle.semantics.specs.Records.{Records, records_of, token_at}
use Rattle.semantics.proofs.Tests.{and_true}
use Rattle.productions.specs.Before.{before, tokens_before}
use Rattle.productions.specs.Ending.{Row, blank, candidate_of, ends, fits, kind_at, kind_there, last_row, mark_of, row_at, row_found, row_numbered, rows, rows_before}
use Rattle.productions.proofs.Tokens.{before-step, drop-before, get_d_before, get_d_beyond, length_before}
use Rattle.productions.proofs.Endings.{last_row-ends}
use Rattle.productions.proofs.Table.{all, all_at, backwards, widths}

-- a Num's number alone is looked at
fits-number : (m kind number : ℕ) → fits m kind (cond (eqb kind 1 || eqb kind 2) number 0) ≡ fits m kind number
fits-number m kind number = go (eqb kind 1)
  where
    go : (b : Bool) → cond (eqb m 36) (b && eqb (cond (b || eqb kind 2) number 0) 1) (eqb kind m) ≡ cond (eqb m 36) (b && eqb number 1) (eqb kind m)
    go true = refl
    go false = refl

-- marks that fit are no more than the tokens
pub ends-length : (ms : List ℕ) (ts : List Token) → ends ms ts ≡ true → length ms ≤ length ts
unfolding ends
ends-length [] ts e = zero-le
ends-length (m ∷ ms) [] e = let z : ◌≡◌ {A = ℕ} 0 1 = cc in absurd (omega arith)
ends-length (m ∷ ms) (t ∷ ts) e = suc-le-suc (ends-length ms ts (and_true (fits m t.kind t.number) (ends ms ts) e).1)

pub ends_short : (ms : List ℕ) (t : ℕ → Token) (end : ℕ) → end < length ms → false ≡ ends ms (before t end)
ends_short ms t end h = go (ends ms (before t end)) refl
  where
    go : (b : Bool) → ends ms (before t end) ≡ b → false ≡ b
    go true e = absurd (omega (arith, ends-length ms (before t end) e, length_before t end))
    go false e = refl

-- one kind after the other, the last one first: all but the first i of a command's kinds have fitted
backwards-step : (own : List ℕ) (i : ℕ) → i < length own → backwards own (i + 1) ≡ mark_of (get_or own i 0) ∷ backwards own i
backwards-step own i h = rw (add-one i, take-suc own i 0 h, reverse-append (take i own) (get_or own i 0 ∷ []))

module _ (ms : List ℕ) (r : Records) (end : ℕ) (own : List ℕ) (start i : ℕ) (so_far : ends ms (before (token_at r) end) ≡ ends (backwards own i) (before (token_at r) (start + i))) where
  pub ends_all : i ≤ 0 → true ≡ ends ms (before (token_at r) end)
  unfolding ends
  ends_all h = let none : i ≡ 0 = omega arith in rw (so_far, none)

  -- b says whether the next one fits
  module _ (some : 0 < i) (there : i ≤ length own) (b : Bool) (tested : b ≡ fits (mark_of (get_or own (i - 1) 0)) (get_or r.kinds (start + (i - 1)) 0) (get_or r.numbers (start + (i - 1)) 0)) where
    step : ends ms (before (token_at r) end) ≡ (b && ends (backwards own (i - 1)) (before (token_at r) (start + (i - 1))))
    unfolding ends
    step =
        let back : i ≡ i - 1 + 1 = omega arith in
        let last : start + i - 1 ≡ start + (i - 1) = omega arith in
        so_far ∙ ap₂ ends (ap (backwards own) back ∙ backwards-step own (i - 1) (omega arith)) (before-step (token_at r) (start + i) (λ e. omega arith) ∙ ap (λ (n : ℕ). token_at r n ∷ before (token_at r) n) last)
        ∙ rw tested (ap (λ (x : Bool). x && ends (backwards own (i - 1)) (before (token_at r) (start + (i - 1)))) (fits-number (mark_of (get_or own (i - 1) 0)) (get_or r.kinds (start + (i - 1)) 0) (get_or r.numbers (start + (i - 1)) 0)))

    pub ends_miss : b ≡ false → false ≡ ends ms (before (token_at r) end)
    ends_miss e = rw (step, e)

    pub ends_more : b ≡ true → ends ms (before (token_at r) end) ≡ ends (backwards own (i - 1)) (before (token_at r) (start + (i - 1)))
    ends_more e = rw (step, e)

-- the kind of a token that is there, and of one that is not
pub kind_known : (kinds numbers places keys : List ℕ) (end k : ℕ) → k < end → kind_there (tokens_before kinds numbers places keys end) k ≡ Some (get_or kinds (end - 1 - k) 0)
kind_known kinds numbers places keys end k h =
    let t : ℕ → Token = token_at (records_of kinds numbers places keys) in
    rw (length_before t end, lt-ltb k end h) (ap (λ (x : Token). Some x.kind) (get_d_before t end k (op 0) h))

pub kind_beyond : (kinds numbers places keys : List ℕ) (end k : ℕ) → end ≤ k → kind_there (tokens_before kinds numbers places keys end) k ≡ None
kind_beyond kinds numbers places keys end k h =
    rw (length_before (token_at (records_of kinds numbers places keys)) end, le-ltb k end h)

-- a kind of the tokens is one of the records, or 0
pub known_kind : (kinds numbers places keys : List ℕ) (end k : ℕ) → ((i : ℕ) → get_or kinds i 0 < 36) → kind_at (tokens_before kinds numbers places keys end) k < 36
known_kind kinds numbers places keys end k h = go (ltb k end) refl
  where
    go : (b : Bool) → ltb k end ≡ b → kind_at (tokens_before kinds numbers places keys end) k < 36
    go true e =
        subst⁻¹ (λ (t : Token). t.kind < 36) (get_d_before (token_at (records_of kinds numbers places keys)) end k (op 0) (ltb-true k end e)) (h (end - 1 - k))
    go false e =
        subst⁻¹ (λ (t : Token). t.kind < 36) (get_d_beyond (token_at (records_of kinds numbers places keys)) end k (op 0) (ltb-false k end e)) (omega arith)

pub there_known : (kinds numbers places keys : List ℕ) (end k x : ℕ) → ((i : ℕ) → get_or kinds i 0 < 36)
    → kind_there (tokens_before kinds numbers places keys end) k ≡ Some x → x < 36
there_known kinds numbers places keys end k x h e =
    go (ltb k (length (tokens_before kinds numbers places keys end))) (known_kind kinds numbers places keys end k h) e
  where
    go : (b : Bool) {n : ℕ} → n < 36 → cond b (Some n) None ≡ Some x → x < 36
    go true {n = n} l q = let is : n ≡ x = cc in omega arith
    go false l q = let z : ◌≡◌ {A = ℕ} 0 1 = cc in absurd (omega arith)

some_none : {A : Type 0} {x : ℕ} → Some x ≡ None → A
some_none e = let z : ◌≡◌ {A = ℕ} 0 1 = cc in absurd (omega arith)

-- where a token that tells the row is not there, there is no row
pub no_token : (ts : List Token) → kind_there ts 0 ≡ None → row_numbered (candidate_of ts) ≡ None
unfolding rows bytes_value
no_token [] e = refl
no_token (t ∷ ts) e = some_none (rw (lt-ltb 0 (length (t ∷ ts)) (omega arith)) at e)

pub no_fourth_token : (ts : List Token) → kind_there ts 0 ≡ Some 15 → kind_there ts 3 ≡ None → row_numbered (candidate_of ts) ≡ None
unfolding rows bytes_value
no_fourth_token [] last e = refl
no_fourth_token (t ∷ []) last e = let is : t.kind ≡ 15 = cc in rw is
no_fourth_token (t ∷ t₁ ∷ []) last e = let is : t.kind ≡ 15 = cc in rw is
no_fourth_token (t ∷ t₁ ∷ t₂ ∷ []) last e = let is : t.kind ≡ 15 = cc in rw is
no_fourth_token (t ∷ t₁ ∷ t₂ ∷ t₃ ∷ ts) last e = some_none (rw (lt-ltb 3 (length (t ∷ t₁ ∷ t₂ ∷ t₃ ∷ ts)) (omega arith)) at e)

-- a row that was looked for by a mark has it
has_mark : (place m : ℕ) (rs : List Row) (k : ℕ) → k ≡ rows_before place m rs → k < length rs → get_or (get_or rs k blank).marks place 99 ≡ m
has_mark place m [] k e h = absurd (omega arith)
has_mark place m (r ∷ rs) k e h = go (has_mark place m rs) (eqb (get_or r.marks place 99) m) refl k e h
  where
    go : ((j : ℕ) → j ≡ rows_before place m rs → j < length rs → get_or (get_or rs j blank).marks place 99 ≡ m)
        → (b : Bool) → eqb (get_or r.marks place 99) m ≡ b → (j : ℕ) → j ≡ cond b 0 (suc (rows_before place m rs)) → j < suc (length rs)
        → get_or (get_or (r ∷ rs) j blank).marks place 99 ≡ m
    go later true q zero f g = eqb-true (get_or r.marks place 99) m q
    go later true q (suc j) f g = absurd (omega arith)
    go later false q zero f g = absurd (omega arith)
    go later false q (suc j) f g = later j (omega arith) (omega arith)

-- so the last kind alone tells a row of one token
one_mark : (ms : List ℕ) (ts : List Token) → length ms ≡ 1 → get_or ms 0 99 ≡ kind_at ts 0 → kind_at ts 0 < 36 → (ts ≡ [] → ⊥) → ends ms ts ≡ true
unfolding ends
one_mark [] ts l e h n = absurd (omega arith)
one_mark (m ∷ m₂ ∷ ms) ts l e h n = absurd (omega arith)
one_mark (m ∷ []) [] l e h n = absurd (n refl)
one_mark (m ∷ []) (t ∷ ts) l e h n = rw (ne_eqb m 36 (λ q. omega arith), eq-eqb t.kind m (sym e))

beyond_one : (ms : List ℕ) → length ms ≡ 1 → get_or ms 3 99 ≡ 99
beyond_one ms e = get_or-eq_default ms 99 {n = 3} (omega arith)

module _ (ts : List Token) (k : ℕ) (is : k ≡ candidate_of ts) (row : k < 29) (single : length (row_at k).marks ≡ 1)
    (last : kind_at ts 0 < 36) (fourth : kind_at ts 3 < 36) where
  single_ends : ends (row_at k).marks ts ≡ true
  unfolding rows bytes_value
  single_ends =
      go (eqb (kind_at ts 0) 15) (eqb (kind_at ts 0) 8 && eqb (kind_at ts 1) 16) (eqb (kind_at ts 0) 16 && eqb (kind_at ts 1) 15) is
    where
      no_rows : k ≡ rows_before 0 (kind_at ts 0) rows → ts ≡ [] → ⊥
      no_rows e n = let z : k ≡ 29 = e ∙ ap (λ (l : List Token). rows_before 0 (kind_at l 0) rows) n in omega arith

      go : (a b d : Bool) → k ≡ cond a (rows_before 3 (kind_at ts 3) rows) (cond b 22 (cond d 10 (rows_before 0 (kind_at ts 0) rows))) → ends (row_at k).marks ts ≡ true
      go true b d e =
          absurd (omega (arith, fourth, sym (has_mark 3 (kind_at ts 3) rows k e row) ∙ beyond_one (row_at k).marks single))
      go false true d e = let z : ◌≡◌ {A = ℕ} 7 1 = ap (λ (n : ℕ). length (row_at n).marks) (sym e) ∙ single in absurd (omega arith)
      go false false true e = let z : ◌≡◌ {A = ℕ} 5 1 = ap (λ (n : ℕ). length (row_at n).marks) (sym e) ∙ single in absurd (omega arith)
      go false false false e = one_mark (row_at k).marks ts single (has_mark 0 (kind_at ts 0) rows k e row) last (no_rows e)

-- and a Num of 1 with Equal and Verify behind it, and the fourth last kind, tell a row of four tokens
four_marks : (ms : List ℕ) (ts : List Token) → length ms ≡ 4 → get_or ms 0 99 ≡ 15 → get_or ms 1 99 ≡ 14 → get_or ms 2 99 ≡ 36 → get_or ms 3 99 ≡ kind_at ts 3
    → kind_at ts 0 ≡ 15 → kind_at ts 3 < 36 → (kind_at ts 3 ≡ 0 → ⊥) → ends ms ts ≡ ends (14 ∷ 36 ∷ []) (drop 1 ts)
unfolding ends
four_marks [] ts l a b c d e f n = absurd (omega arith)
four_marks (m ∷ []) ts l a b c d e f n = absurd (omega arith)
four_marks (m ∷ m₁ ∷ []) ts l a b c d e f n = absurd (omega arith)
four_marks (m ∷ m₁ ∷ m₂ ∷ []) ts l a b c d e f n = absurd (omega arith)
four_marks (m ∷ m₁ ∷ m₂ ∷ m₃ ∷ m₄ ∷ ms) ts l a b c d e f n = absurd (omega arith)
four_marks (m ∷ m₁ ∷ m₂ ∷ m₃ ∷ []) [] l a b c d e f n = absurd (n refl)
four_marks (m ∷ m₁ ∷ m₂ ∷ m₃ ∷ []) (t ∷ []) l a b c d e f n = absurd (n refl)
four_marks (m ∷ m₁ ∷ m₂ ∷ m₃ ∷ []) (t ∷ t₁ ∷ []) l a b c d e f n = absurd (n refl)
four_marks (m ∷ m₁ ∷ m₂ ∷ m₃ ∷ []) (t ∷ t₁ ∷ t₂ ∷ []) l a b c d e f n = absurd (n refl)
four_marks (m ∷ m₁ ∷ m₂ ∷ m₃ ∷ []) (t ∷ t₁ ∷ t₂ ∷ t₃ ∷ ts) l a b c d e f n =
    rw (a, b, c, e, ne_eqb m₃ 36 (λ q. omega arith), eq-eqb t₃.kind m₃ (sym d))

checked-row : (k : ℕ) → k < 29 → length (row_at k).marks ≡ 4 → (get_or (row_at k).marks 0 99 ≡ 15) × (get_or (row_at k).marks 1 99 ≡ 14) × (get_or (row_at k).marks 2 99 ≡ 36)
unfolding rows all bytes_value
checked-row k h four =
    let f : Row → Bool = λ r. not (eqb (length r.marks) 4) || (eqb (get_or r.marks 0 99) 15 && (eqb (get_or r.marks 1 99) 14 && eqb (get_or r.marks 2 99) 36)) in
    let test = rw (eq-eqb (length (row_at k).marks) 4 four) at (all_at f rows blank refl k h) in
    let a = and_true (eqb (get_or (row_at k).marks 0 99) 15) (eqb (get_or (row_at k).marks 1 99) 14 && eqb (get_or (row_at k).marks 2 99) 36) test in
    let b = and_true (eqb (get_or (row_at k).marks 1 99) 14) (eqb (get_or (row_at k).marks 2 99) 36) a.1 in
    (eqb-true (get_or (row_at k).marks 0 99) 15 a.0, eqb-true (get_or (row_at k).marks 1 99) 14 b.0, eqb-true (get_or (row_at k).marks 2 99) 36 b.1)

module _ (ts : List Token) (k : ℕ) (is : k ≡ candidate_of ts) (row : k < 29) (four : length (row_at k).marks ≡ 4) (fourth : kind_at ts 3 < 36) where
  four_end : ends (row_at k).marks ts ≡ ends (14 ∷ 36 ∷ []) (drop 1 ts)
  unfolding rows bytes_value
  four_end =
      go (eqb (kind_at ts 0) 15) refl (eqb (kind_at ts 0) 8 && eqb (kind_at ts 1) 16) (eqb (kind_at ts 0) 16 && eqb (kind_at ts 1) 15) is
    where
      no_fourth : k ≡ rows_before 3 (kind_at ts 3) rows → kind_at ts 3 ≡ 0 → ⊥
      no_fourth e n = let z : k ≡ 29 = e ∙ ap (λ (m : ℕ). rows_before 3 m rows) n in omega arith

      go : (a : Bool) → eqb (kind_at ts 0) 15 ≡ a → (b d : Bool)
          → k ≡ cond a (rows_before 3 (kind_at ts 3) rows) (cond b 22 (cond d 10 (rows_before 0 (kind_at ts 0) rows))) → ends (row_at k).marks ts ≡ ends (14 ∷ 36 ∷ []) (drop 1 ts)
      go true q b d e =
          let h = checked-row k row four in
          four_marks (row_at k).marks ts four h.0 h.1 h.2 (has_mark 3 (kind_at ts 3) rows k e row) (eqb-true (kind_at ts 0) 15 q) fourth (no_fourth e)
      go false q true d e = let z : ◌≡◌ {A = ℕ} 7 4 = ap (λ (n : ℕ). length (row_at n).marks) (sym e) ∙ four in absurd (omega arith)
      go false q false true e = let z : ◌≡◌ {A = ℕ} 5 4 = ap (λ (n : ℕ). length (row_at n).marks) (sym e) ∙ four in absurd (omega arith)
      go false q false false e =
          absurd (eqb-false (kind_at ts 0) 15 q (sym (has_mark 0 (kind_at ts 0) rows k e row) ∙ (checked-row k row four).0))

-- the two tokens that are looked at
module _ (r : Records) (end : ℕ) where
  pub one_equal_short : end < 3 → false ≡ ends (14 ∷ 36 ∷ []) (before (token_at r) (end - 1))
  unfolding ends before
  one_equal_short h = go (end - 1) (omega arith)
    where
      go : (n : ℕ) → n < 2 → false ≡ ends (14 ∷ 36 ∷ []) (before (token_at r) n)
      go zero g = refl
      go (suc zero) g = one_token (eqb (get_or r.kinds 0 0) 14)
        where
          one_token : (b : Bool) → false ≡ (b && false)
          one_token true = refl
          one_token false = refl
      go (suc (suc n)) g = absurd (omega arith)

  two_tokens : 3 ≤ end → ends (14 ∷ 36 ∷ []) (before (token_at r) (end - 1))
      ≡ (eqb (get_or r.kinds (end - 2) 0) 14 && fits 36 (get_or r.kinds (end - 3) 0) (get_or r.numbers (end - 3) 0))
  unfolding ends before
  two_tokens h = go (end - 3) refl
    where
      and_yes : (b : Bool) → (b && true) ≡ b
      and_yes true = refl
      and_yes false = refl

      go : (n : ℕ) → end - 3 ≡ n → ends (14 ∷ 36 ∷ []) (before (token_at r) (end - 1))
          ≡ (eqb (get_or r.kinds (end - 2) 0) 14 && fits 36 (get_or r.kinds (end - 3) 0) (get_or r.numbers (end - 3) 0))
      go n e =
          let one : end - 1 ≡ suc (suc n) = omega arith in
          let two : end - 2 ≡ suc n = omega arith in
          ap (λ (m : ℕ). ends (14 ∷ 36 ∷ []) (before (token_at r) m)) one
          ∙ rw (two, e) (ap (λ (b : Bool). eqb (get_or r.kinds (suc n) 0) 14 && b) (and_yes _ ∙ fits-number 36 (get_or r.kinds n 0) (get_or r.numbers n 0)))

  pub one_equal_no : 3 ≤ end → (get_or r.kinds (end - 2) 0 ≡ 14 → ⊥) → false ≡ ends (14 ∷ 36 ∷ []) (before (token_at r) (end - 1))
  one_equal_no h n = sym (two_tokens h ∙ rw (ne_eqb (get_or r.kinds (end - 2) 0) 14 n))

  pub one_equal_yes : 3 ≤ end → get_or r.kinds (end - 2) 0 ≡ 14 → (b : Bool) → b ≡ fits 36 (get_or r.kinds (end - 3) 0) (get_or r.numbers (end - 3) 0)
      → b ≡ ends (14 ∷ 36 ∷ []) (before (token_at r) (end - 1))
  one_equal_yes h e b f = f ∙ sym (two_tokens h ∙ rw e)

-- an option that is compared with another
pub same_some : (x : Option ℕ) (k : ℕ) → option_eq eqb x (Some k) ≡ true → x ≡ Some k
same_some (Some y) k e = ap Some (eqb-true y k e)
same_some None k e = let z : ◌≡◌ {A = ℕ} 0 1 = cc in absurd (omega arith)

pub some_same : (x : Option ℕ) (k : ℕ) → option_eq eqb x (Some k) ≡ false → x ≡ Some k → ⊥
some_same x k e is =
    let same : true ≡ false = sym (eq-eqb k k refl) ∙ ap (λ (y : Option ℕ). option_eq eqb y (Some k)) (sym is) ∙ e in
    let z : ◌≡◌ {A = ℕ} 0 1 = cc in absurd (omega arith)

-- a number of a row, or of none
pub numbered_row : (k row : ℕ) → row_numbered k ≡ Some row → (row ≡ k) × (row < 29)
numbered_row k row e = go (ltb k 29) refl e
  where
    go : (b : Bool) → ltb k 29 ≡ b → cond b (Some k) None ≡ Some row → (row ≡ k) × (row < 29)
    go true l q = let is : row ≡ k = cc in (is, rw is (ltb-true k 29 l))
    go false l q = let z : ◌≡◌ {A = ℕ} 0 1 = cc in absurd (omega arith)

pub numbered_none : (k : ℕ) → row_numbered k ≡ None → 29 ≤ k
numbered_none k e = go (ltb k 29) refl e
  where
    go : (b : Bool) → ltb k 29 ≡ b → cond b (Some k) None ≡ None → 29 ≤ k
    go true l q = some_none q
    go false l q = ltb-false k 29 l

-- the candidate's marks are those of one token, of four, or of others
module _ (kinds numbers places keys : List ℕ) (end k : ℕ) (known : (i : ℕ) → get_or kinds i 0 < 36)
    (row : k < 29) (is : k ≡ candidate_of (tokens_before kinds numbers places keys end)) where
  pub ends-single : (w : ℕ) → w ≡ length (row_at k).marks → w ≡ 1 → ends (row_at k).marks (tokens_before kinds numbers places keys end) ≡ true
  ends-single w wide one =
      single_ends (tokens_before kinds numbers places keys end) k is row (sym wide ∙ one) (known_kind kinds numbers places keys end 0 known)
      (known_kind kinds numbers places keys end 3 known)

  pub ends_four : (w : ℕ) → w ≡ length (row_at k).marks → w ≡ 4
      → ends (row_at k).marks (tokens_before kinds numbers places keys end) ≡ ends (14 ∷ 36 ∷ []) (tokens_before kinds numbers places keys (end - 1))
  ends_four w wide four =
      four_end (tokens_before kinds numbers places keys end) k is row (sym wide ∙ four) (known_kind kinds numbers places keys end 3 known)
      ∙ ap (ends (14 ∷ 36 ∷ [])) (drop-before (token_at (records_of kinds numbers places keys)) 1 end)

-- where there is no candidate, no row is found; else it is the candidate, if its marks fit
pub no_candidate : (ts : List Token) → row_numbered (candidate_of ts) ≡ None → row_numbered (row_found (last_row ts)) ≡ None
unfolding last_row
no_candidate ts e = go (ltb (candidate_of ts) 29) refl e
  where
    go : (b : Bool) → ltb (candidate_of ts) 29 ≡ b → cond b (Some (candidate_of ts)) None ≡ None → row_numbered (row_found (last_row ts)) ≡ None
    go true l q = some_none q
    go false l q = rw l refl

pub candidate_found : (ts : List Token) (k : ℕ) → k < 29 → k ≡ candidate_of ts → (b : Bool) → b ≡ ends (row_at k).marks ts → row_numbered (row_found (last_row ts)) ≡ cond b (Some k) None
unfolding last_row
candidate_found ts k row is true e = rw (← is, lt-ltb k 29 row, ← e, lt-ltb k 29 row)
candidate_found ts k row is false e = rw (← is, lt-ltb k 29 row, ← e)

-- what the code knows of a row that was found
pub record At (t : ℕ → Token) (end k start : ℕ) : Type 0 where
  pub is : last_row (before t end) ≡ found k (before t start)
  pub row : k < 29
  pub width : start + length (row_at k).marks ≡ end
  pub low : start < end

pub row-found : (t : ℕ → Token) (end k w : ℕ) → k ≡ row_found (last_row (before t end)) → k < 29 → w ≡ length (row_at k).marks → (w ≤ end) × At t end k (end - w)
row-found t end k w e low wide = go (last_row (before t end)) refl e
  where
    go : (g : Found ℕ) → last_row (before t end) ≡ g → k ≡ row_found g → (w ≤ end) × At t end k (end - w)
    go (found j r) q f =
        let h = last_row-ends (before t end) k r (q ∙ ap (λ (n : ℕ). found n r) (sym f)) in
        let one = (widths k low).0 in
        let l = ends-length (row_at k).marks (before t end) h.marked in
        let b = length_before t end in
        let there : r ≡ before t (end - w) = sym h.rest ∙ drop-before t (length (row_at k).marks) end ∙ ap (λ (n : ℕ). before t (end - n)) (sym wide) in (
          omega arith,
          record {
            is = q ∙ ap (λ (n : ℕ). found n r) (sym f) ∙ ap (found k) there;
            row = low;
            width = omega arith;
            low = omega arith;
          },
        )
    go nothing q f = absurd (omega arith)

pub row-missing : (ts : List Token) (k : ℕ) → k ≡ row_found (last_row ts) → 29 ≤ k → last_row ts ≡ nothing
row-missing ts k e h = go (last_row ts) refl e
  where
    go : (g : Found ℕ) → last_row ts ≡ g → k ≡ row_found g → g ≡ nothing
    go (found j r) q f = let l = (last_row-ends ts j r q).row in absurd (omega arith)
    go nothing q f = refl
