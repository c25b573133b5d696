-- Which commands are marked, by one pass over the commands with the index operands that wait; and refusal 6 by the same pass.
use Rattle.std.specs.Prelude.{ℕ, ◌<◌, ◌≤◌, Bool, true, false, ◌&&◌, cond, ◌≡◌, List, [], ◌∷◌, ◌++◌, eqb, ltb, length, get_or, take, drop, set, replicate, Option, Some, None, Result, Ok, Err, ⊤}
use Rattle.slices.specs.Stack.{stack_of}
use Rattle.slices.specs.Bytes.{All}
use Rattle.semantics.specs.declared.Command.{Command}
use Rattle.semantics.specs.Code.{Made, command_row, need_met, max_tokens}
use Rattle.semantics.specs.Parse.{after, command_at, fold, instructions, operands_at}
use Rattle.semantics.specs.Token.{narrow}
use Rattle.summary.specs.declared.Summary.{Summary}
use Rattle.semantics.specs.declared.Refusal.{Refusal}
use Rattle.conversions.specs.declared.Turn.{Turn}

-- whether a command has a token between its operands' tokens, which is SCRIPTNUMTOLE64
abbrev pub converts : Command → Bool
converts c = ltb 0 (length (command_row c).between)

-- after some commands: of each whether it is marked so far, and the commands that ended the index operands that wait, the last one first
pub record Marking : Type 0 where
  pub waiting : List ℕ
  pub marks : List Bool

-- a command that makes an index ends an operand
abbrev pub ending : Made → ℕ → List ℕ → List ℕ
ending Made.nothing k w = w
ending Made.index k w = k ∷ w
ending Made.value k w = w
ending Made.condition k w = w

-- what a command makes of them: an operation on two indexes settles whether the command that ended its left operand is marked
abbrev pub settled : Marking → Command → Marking
settled s c =
    let r = command_row c in
    record {
      waiting = ending r.makes (length s.marks) (drop r.indexes s.waiting);
      marks = cond (eqb r.indexes 2) (set s.marks (get_or s.waiting 1 0) (converts c)) s.marks;
    }

-- it is not marked itself so far
abbrev pub mark_step : Marking → Command → List ℕ → Marking
mark_step s c n = record { waiting = (settled s c).waiting; marks = (settled s c).marks ++ false ∷ [] }

abbrev pub unmarked : Marking
unmarked = record { waiting = []; marks = [] }

-- the marks of the commands of code
unfoldable pub marks_of : List ℕ → List Bool
marks_of code = (fold mark_step unmarked (instructions code)).marks

-- 6: "an index constant of 2^32 or more"
abbrev pub narrow_step : Bool → Command → List ℕ → Bool
narrow_step b c n = b && narrow ((command_row c).tokens n)

unfoldable pub narrow_code : List ℕ → Bool
narrow_code code = fold narrow_step true (instructions code)

-- the first n numbers of an array, the last one first
abbrev pub stack_in : List ℕ → ℕ → List ℕ
stack_in array n = stack_of (λ k. get_or array k 0) n

-- the state as the code holds it, after `count` commands with `indexes` operands that wait
abbrev pub marking_in : List ℕ → ℕ → List Bool → ℕ → Marking
marking_in waiting indexes marks count = record { waiting = stack_in waiting indexes; marks = take count marks }

-- what a command may go by: its operands wait, and there is room for its mark and for one operand more
pub record Ready (c : Command) (count indexes : ℕ) (waiting : List ℕ) (marks : List Bool) : Type 0 where
  pub values : ℕ
  pub met : need_met (command_row c) values indexes ≡ true
  pub count_fits : count < length marks
  pub few : count < max_tokens
  pub indexes_fit : indexes < length waiting
  pub earlier : All (λ k. k < count) (stack_in waiting indexes)

-- what one command does: the next stands after it, and it settles the state; or 6 turns it down
abbrev pub Turned : List ℕ → ℕ → Marking → List ℕ → List Bool → ℕ → Option Turn → Type 0
Turned code at old waiting marks count (Some t) =
    (narrow ((command_row (command_at code at)).tokens (operands_at code at)) ≡ true) × (t.next ≡ after code at)
    × (marking_in waiting t.indexes marks count ≡ settled old (command_at code at))
Turned code at old waiting marks count None = narrow ((command_row (command_at code at)).tokens (operands_at code at)) ≡ false

-- of code with so many lookups, for whose tokens there is room
abbrev pub Fits : ℕ → ℕ → ℕ → Summary → Type 0
Fits lookups waiting marks s = (s.lookups ≡ lookups) × (s.tokens ≤ waiting) × (s.tokens ≤ marks)

-- no mark is set
abbrev pub Unmarked : List Bool → Type 0
Unmarked marks = marks ≡ replicate (length marks) false

-- what the pass finds: 6 lets the code pass, and the marks of its commands stand at the front of the array; or 6 turns it down
abbrev pub Found : List ℕ → List Bool → Result ⊤ Refusal → Type 0
Found code marks (Ok _) = (narrow_code code ≡ true) × (marks ≡ marks_of code ++ drop (length (marks_of code)) marks)
Found code marks (Err r) = (r ≡ Refusal.IndexConstTooLarge) × (narrow_code code ≡ false)
