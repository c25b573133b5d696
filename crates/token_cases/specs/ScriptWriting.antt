-- A case of Write Script agrees where the definition's answer on its code is the known one, number by number, and the buffer then holds the known script and
-- after it what it was filled with.
use Rattle.std.specs.Prelude.{ℕ, Bool, List, [], ◌∷◌}
use Rattle.script.specs.WriteScript.{wrote_script}
use Rattle.answers.specs.Answers.{script_answer}
use Rattle.cases.specs.Cases.{part_of, word_of}
use Rattle.cases.specs.Known.{fill, fresh, known}

-- "code; room, number, place, script bytes; script" (tests/vectors/generate.py). The buffer has 5,200 bytes.
unfoldable pub script_agrees : List ℕ → Bool
script_agrees body =
    let numbers = part_of body 1 in
    let room = word_of numbers 0 in
    let w = wrote_script (part_of body 0) (fresh room fill) in
    let a = script_answer w.answer in
    known 5200 room numbers (room ∷ a.number ∷ a.place ∷ a.script_bytes ∷ []) (part_of body 2) w.buffer
