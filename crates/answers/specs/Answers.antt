-- "0 is success", "A refusal is a number with its data; place and data are 0 where none is named": each call's answer in document 01's numbers.
use Rattle.std.specs.Prelude.{Bool, ℕ, cond, ◌≡◌, List, length, take, Result, Ok, Err}
use Rattle.semantics.specs.declared.Refusal.{Refusal}
use Rattle.semantics.specs.declared.Checked.{Checked}
use Rattle.semantics.specs.declared.Decoded.{Decoded}
use Rattle.semantics.specs.declared.Evaluated.{Evaluated}
use Rattle.semantics.specs.declared.Written.{Written}
use Rattle.semantics.specs.Refusals.{numbered}
use Rattle.answers.specs.declared.CheckAnswer.{CheckAnswer}
use Rattle.answers.specs.declared.DecodeAnswer.{DecodeAnswer}
use Rattle.answers.specs.declared.EvaluateAnswer.{EvaluateAnswer}
use Rattle.answers.specs.declared.ScriptAnswer.{ScriptAnswer}
use Rattle.answers.specs.declared.WriteAnswer.{WriteAnswer}

-- "Check adds nothing"; `place` is refusal 2's offset
abbrev pub check_answer : Result Checked Refusal → CheckAnswer
check_answer (Ok a) = record { number = 0; place = 0 }
check_answer (Err r) = record { number = (numbered r).number; place = (numbered r).first }

-- "Evaluate true or false", 1 or 0; it "also returns the number of checks and of witness elements left"
abbrev pub verdict_answer : Result Bool Refusal → ℕ → ℕ → EvaluateAnswer
verdict_answer (Ok holds) checks left =
    record { number = 0; verdict = cond holds 1 0; first = 0; second = 0; checks = checks; left = left }
verdict_answer (Err r) checks left =
    record { number = (numbered r).number; verdict = 0; first = (numbered r).first; second = (numbered r).second; checks = checks; left = left }

abbrev pub evaluate_answer : Evaluated → EvaluateAnswer
evaluate_answer e = verdict_answer e.verdict e.checks e.left

-- "Write the records and key bytes written"
abbrev pub write_answer : Result Written Refusal → WriteAnswer
write_answer (Ok a) = record { number = 0; place = 0; records = a.records; key_bytes = a.key_bytes }
write_answer (Err r) = record { number = (numbered r).number; place = (numbered r).first; records = 0; key_bytes = 0 }

-- R-3: how many bytes the script has
abbrev pub script_answer : Result ℕ Refusal → ScriptAnswer
script_answer (Ok bytes) = record { number = 0; place = 0; script_bytes = bytes }
script_answer (Err r) = record { number = (numbered r).number; place = (numbered r).first; script_bytes = 0 }

-- "Decode the code length and the tail's start"; `place` is refusal 9's token
abbrev pub decode_answer : Result Decoded Refusal → DecodeAnswer
decode_answer (Ok a) = record { number = 0; place = 0; code_bytes = a.bytes; start = a.start }
decode_answer (Err r) = record { number = (numbered r).number; place = (numbered r).first; code_bytes = 0; start = 0 }

-- the struct that Decode gives back says that the code b was accepted, with the tail's start n, and b stands at the front of the buffer
abbrev pub AnswerAccepts : DecodeAnswer → List ℕ → List ℕ → ℕ → Type 0
AnswerAccepts r buffer b n = (r.number ≡ 0) × (r.code_bytes ≡ length b) × (r.start ≡ n) × (take (length b) buffer ≡ b)
