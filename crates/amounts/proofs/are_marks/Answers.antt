-- All are marks where each is.
use Rattle.std.proofs.Common.{rules, ◌≡◌, ◌≤◌, ◌↔◌, ℕ, zero, suc, true, List, [], ◌∷◌, IsTrue, leb, refl, arith}
use borrow.Author.Tests.{leb-true, le-leb}
use Rattle.std.specs.Cmp.{both_ways}
use Rattle.std.specs.List.{All}
use Rattle.semantics.specs.Evaluate.{are_marks}
use Rattle.semantics.proofs.Tests.{and_true}
use Rattle.amounts.proofs.are_marks.Goals as goal

each_small : (ms : List ℕ) → are_marks ms ≡ true → All (λ m. m ≤ 1) ms
each_small (m ∷ ms) e zero d h = leb-true m 1 (and_true (leb m 1) (are_marks ms) e).0
each_small (m ∷ ms) e (suc k) d h = each_small ms (and_true (leb m 1) (are_marks ms) e).1 k d (omega (arith, h))
each_small [] e k d h = absurd (omega (arith, h))

all_marks : (ms : List ℕ) → All (λ m. m ≤ 1) ms → are_marks ms ≡ true
all_marks [] h = refl
all_marks (m ∷ ms) h = rw (le-leb m 1 (h 0 0 (omega arith)), all_marks ms (λ k d l. h (suc k) d (omega (arith, l))))

pub returns : goal.returns
returns c =
    let marks = c.args.marks.now in
    let h : IsTrue c.all.result ↔ All (λ m. m ≤ 1) marks = search rules in
    both_ways c.all.result (are_marks marks) (λ e. all_marks marks (h.0 e)) (λ e. h.1 (each_small marks e))
