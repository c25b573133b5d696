-- A case agrees where the definition's answer on its parts is the known one, number by number, and the buffer then holds the known bytes and after them what
-- it was filled with. The parts stand in the order of tests/vectors/generate.py, whose words are quoted.
use Rattle.std.specs.Prelude.{ℕ, Bool, List, [], ◌∷◌, take}
use Rattle.semantics.specs.Check.{checked}
use Rattle.semantics.specs.Evaluate.{Lent, evaluated}
use Rattle.amounts.specs.Lists.{env_of}
use Rattle.answers.specs.Answers.{check_answer, evaluate_answer}
use Rattle.cases.specs.Cases.{halves_of, part_of, word_of, words_of}
use Rattle.cases.specs.Known.{begins, fill, fresh, known}

-- Check: "code; number, place"
unfoldable pub check_agrees : List ℕ → Bool
check_agrees body =
    let a = check_answer (checked (part_of body 0)) in
    begins (part_of body 1) (a.number ∷ a.place ∷ [])

-- Evaluate: "code; spent; marks; outputs; marks; issued; marks; reissued; marks; witness; ends (4 bytes each); current index, room for checks, number,
-- verdict, first, second, checks, left; check bytes". There is room for 16 amounts a list and for 512 ends.
abbrev pub amounts_of : List ℕ → List ℕ
amounts_of part = take 16 (words_of part)

abbrev pub evaluate_lent : List ℕ → List ℕ → Lent
evaluate_lent body buffer =
    record {
      env = env_of (amounts_of (part_of body 1)) (part_of body 2) (amounts_of (part_of body 3)) (part_of body 4) (amounts_of (part_of body 5)) (part_of body 6)
          (amounts_of (part_of body 7)) (part_of body 8) (word_of (part_of body 11) 0);
      witness = part_of body 9;
      ends = take 512 (halves_of (part_of body 10));
      buffer = buffer;
    }

-- the buffer has 12,288 bytes
unfoldable pub evaluate_agrees : List ℕ → Bool
evaluate_agrees body =
    let numbers = part_of body 11 in
    let room = word_of numbers 1 in
    let e = evaluated (part_of body 0) (evaluate_lent body (fresh room fill)) in
    let a = evaluate_answer e.answer in
    known 12288 room numbers (word_of numbers 0 ∷ room ∷ a.number ∷ a.verdict ∷ a.first ∷ a.second ∷ a.checks ∷ a.left ∷ []) (part_of body 12) e.buffer
