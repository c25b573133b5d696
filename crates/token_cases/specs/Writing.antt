-- A case of Write agrees where the definition's answer on its parts is the known one, number by number, and each buffer then holds the known records or key bytes
-- and after them what it was filled with.
use Rattle.std.specs.Prelude.{ℕ, Bool, ◌&&◌, List, [], ◌∷◌, ◌++◌, take, drop}
use Rattle.semantics.specs.Records.{Records, records_of}
use Rattle.semantics.specs.Write.{wrote}
use Rattle.answers.specs.declared.WriteAnswer.{WriteAnswer}
use Rattle.answers.specs.Answers.{write_answer}
use Rattle.cases.specs.Cases.{halves_of, part_of, word_of, words_of}
use Rattle.cases.specs.Known.{begins, fill, fresh, held}

-- what the buffers of numbers and of places are filled with before the call
abbrev pub fill_word : ℕ
fill_word = 0xa5a5

-- the buffers before the call
abbrev pub fresh_records : Records
fresh_records = records_of (fresh 1100 fill) (fresh 1100 fill_word) (fresh 1100 fill_word) (fresh 4096 fill)

-- what the call is lent of buffers: their front, as much as the case says
abbrev pub front : List ℕ → Records → Records
front known r =
    records_of (take (word_of known 0) r.kinds) (take (word_of known 1) r.numbers) (take (word_of known 2) r.places) (take (word_of known 3) r.keys)

-- the buffers once what was lent is back
abbrev pub back : List ℕ → Records → Records → Records
back known lent r =
    records_of (lent.kinds ++ drop (word_of known 0) r.kinds) (lent.numbers ++ drop (word_of known 1) r.numbers)
    (lent.places ++ drop (word_of known 2) r.places) (lent.keys ++ drop (word_of known 3) r.keys)

-- the answer is the known one, number by number, after the four numbers that say what there is room for
abbrev pub answer_known : List ℕ → WriteAnswer → Bool
answer_known known a =
    begins known (word_of known 0 ∷ word_of known 1 ∷ word_of known 2 ∷ word_of known 3 ∷ a.number ∷ a.place ∷ a.records ∷ a.key_bytes ∷ [])

-- "code; room of kinds, numbers, places and keys, number, place, records, key bytes; kinds; numbers; places (4 bytes each); keys" (tests/vectors/generate.py)
abbrev pub records_known : List ℕ → WriteAnswer → Records → Bool
records_known body a after =
    answer_known (part_of body 1) a
    && (held fill (part_of body 2) after.kinds
    && (held fill_word (words_of (part_of body 3)) after.numbers
    && (held fill_word (halves_of (part_of body 4)) after.places && held fill (part_of body 5) after.keys)))

unfoldable pub write_agrees : List ℕ → Bool
write_agrees body =
    let known = part_of body 1 in
    let w = wrote (part_of body 0) (front known fresh_records) in
    records_known body (write_answer w.answer) (back known w.records fresh_records)
