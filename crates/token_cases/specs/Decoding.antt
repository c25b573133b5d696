-- A case of Decode agrees where the definition's answer on its parts is the known one, number by number, and the buffer then holds the known bytes and after
-- them what it was filled with.
use Rattle.std.specs.Prelude.{ℕ, Bool, List, [], ◌∷◌, take}
use Rattle.semantics.specs.Decode.{decoded}
use Rattle.semantics.specs.Records.{Records, records_of}
use Rattle.answers.specs.Answers.{decode_answer}
use Rattle.cases.specs.Cases.{halves_of, part_of, word_of, words_of}
use Rattle.cases.specs.Known.{fill, fresh, known}

-- "kinds; numbers; places (4 bytes each); keys; room for code, number, place, code bytes, start; code" (tests/vectors/generate.py). There is room for 1,100
-- numbers and places.
abbrev pub decode_lent : List ℕ → Records
decode_lent body = records_of (part_of body 0) (take 1100 (words_of (part_of body 1))) (take 1100 (halves_of (part_of body 2))) (part_of body 3)

-- the buffer has 9,300 bytes
unfoldable pub decode_agrees : List ℕ → Bool
decode_agrees body =
    let numbers = part_of body 4 in
    let room = word_of numbers 0 in
    let d = decoded (decode_lent body) (fresh room fill) in
    let a = decode_answer d.answer in
    known 9300 room numbers (room ∷ a.number ∷ a.place ∷ a.code_bytes ∷ a.start ∷ []) (part_of body 5) d.buffer
