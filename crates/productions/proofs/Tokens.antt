-- The tokens before a place.
use Prim.Native.Nat.{ℕ, zero, suc, ◌+◌, ◌-◌, ◌<◌, ◌≤◌}
use mathlib.Core.Path.{◌≡◌, refl, sym, ap, ◌∙◌}
use mathlib.Core.List.{List, [], ◌∷◌, ◌++◌, append_assoc, append-nil, reverse, reverse-append}
use native.Mathlib.Nat.{add-zero, add-suc, suc-add, sub-zero, suc-sub-suc, zero-sub, zero-add}
use native.Mathlib.Omega.{arith}
use lib.ListN.{length, drop, get_or, get_or-eq_default}
use Rattle.slices.proofs.Stack.{length_stack, stack_one}
use Rattle.slices.specs.Bytes.{All}
use Rattle.semantics.specs.Operations.{Token}
use Rattle.semantics.specs.Records.{Records, token_at, token_of, tokens, tokens_from}
use Rattle.productions.specs.Before.{before}

pub before-step : (t : ℕ → Token) (n : ℕ) → (n ≡ 0 → ⊥) → before t n ≡ t (n - 1) ∷ before t (n - 1)
unfolding before
before-step t n h = stack_one t n (omega arith)

pub length_before : (t : ℕ → Token) (n : ℕ) → length (before t n) ≡ n
unfolding before
length_before t n = length_stack t n

pub drop-before : (t : ℕ → Token) (k n : ℕ) → drop k (before t n) ≡ before t (n - k)
unfolding before
drop-before t zero n = rw (sub-zero n)
drop-before t (suc k) zero = rw (zero-sub (suc k))
drop-before t (suc k) (suc n) = rw (suc-sub-suc n k) (drop-before t k n)

pub get_d_before : (t : ℕ → Token) (n k : ℕ) (d : Token) → k < n → get_or (before t n) k d ≡ t (n - 1 - k)
unfolding before
get_d_before t zero k d h = absurd (omega arith)
get_d_before t (suc n) zero d h = let e : n ≡ suc n - 1 - 0 = omega arith in ap t e
get_d_before t (suc n) (suc k) d h =
    let e : n - 1 - k ≡ suc n - 1 - suc k = omega arith in get_d_before t n k d (omega arith) ∙ ap t e

pub get_d_beyond : (t : ℕ → Token) (n k : ℕ) (d : Token) → n ≤ k → get_or (before t n) k d ≡ d
get_d_beyond t n k d h = get_or-eq_default (before t n) d (rw length_before h)

-- what is left of the tokens before a place are the tokens before another
pub tail_before : (t : ℕ → Token) (n k : ℕ) (rest : List Token) → rest ≡ drop k (before t n) → rest ≡ before t (length rest)
tail_before t n k rest e =
    let there : rest ≡ before t (n - k) = e ∙ drop-before t k n in
    there ∙ ap (before t) (sym (ap length there ∙ length_before t (n - k)))

-- all tokens of records, the last one first
reverse-from : (r : Records) (i k : ℕ) → reverse (tokens_from r i k) ++ before (token_at r) i ≡ before (token_at r) (i + k)
unfolding tokens_from before
reverse-from r i zero = ap (before (token_at r)) (sym (add-zero i))
reverse-from r i (suc k) =
    rw (reverse-append (token_at r i ∷ []) (tokens_from r (suc i) k), append_assoc) (reverse-from r (suc i) k ∙ ap (before (token_at r)) (suc-add i k ∙ sym (add-suc i k)))

pub reverse-tokens : (r : Records) → reverse (tokens r) ≡ before (token_at r) (length r.kinds)
unfolding before
reverse-tokens r = sym (append-nil (reverse (tokens r))) ∙ reverse-from r 0 (length r.kinds) ∙ ap (before (token_at r)) (zero-add (length r.kinds))

-- each is the token of a record's fields
abbrev pub Recorded : Token → Type 0
Recorded t = (kind : ℕ) × (number : ℕ) × (key : List ℕ) × (t ≡ token_of kind number key)

pub recorded : (r : Records) (n : ℕ) → All Recorded (before (token_at r) n)
unfolding before
recorded r zero = tt
recorded r (suc n) = ((get_or r.kinds n 0, get_or r.numbers n 0, _, refl), recorded r n)
