-- How far a loop over the commands has come: the tokens of those before a position are done, and those to come are the rest.
use Prim.Native.Nat.{ℕ, suc, ◌+◌, ◌≤◌, ◌<◌}
use mathlib.Core.Bool.{Bool, true, false}
use mathlib.Core.Path.{◌≡◌, refl, sym, ap, ◌∙◌}
use mathlib.Core.List.{List, [], ◌∷◌, ◌++◌, append_assoc, append-nil}
use native.Mathlib.Nat.{add-zero}
use native.Mathlib.Omega.{arith}
use lib.ListN.{length, get_or, drop}
use lib.Seq.{drop-drop, get_or-drop}
use Rattle.semantics.specs.declared.Command.{Command}
use Rattle.semantics.specs.Code.{command_of, command_row, known}
use Rattle.semantics.specs.Operations.{Token}
use Rattle.semantics.specs.Parse.{Instruction, after, command_at, fold, instructions, operand_bytes, operands_at}
use Rattle.semantics.proofs.Machine.{fold-ends, fold_takes}
use Rattle.summary.specs.declared.Summary.{Summary}
use Rattle.condition.specs.Walk.{Passed, next, start}
use Rattle.condition.proofs.Position.{Position, passes_on, position_below, position_known, position_next, position_start}
use Rattle.token_table.specs.TokenRows.{tokens_of}
use Rattle.forms.specs.Emitted.{Emission, emit_step, emitted}

-- what is emitted later stands behind
emitted_more : (ns : List Instruction) (s : Emission) → (more : List Token) × ((fold emit_step s ns).tokens ≡ s.tokens ++ more)
emitted_more [] s = ([], sym (append-nil s.tokens))
emitted_more (n ∷ ns) s =
    let r = emitted_more ns (emit_step s (command_of n.byte) n.operands) in
    (tokens_of (command_of n.byte) n.operands (get_or s.marks 0 false) ++ r.0, r.1 ∙ simp append_assoc)

-- at a position, after `count` commands, whose tokens are `done`
pub record Emitting (code : List ℕ) (marks : List Bool) (at count : ℕ) (done : List Token) : Type 0 where
  pub whole : Passed code (λ s. s.tokens ≤ length marks)
  pub here : Summary
  pub position : Position code whole.last here at count
  pub left : (fold emit_step (record { marks = drop count marks; tokens = done }) (instructions (drop at code))).tokens ≡ emitted code marks

pub none_emitted : (code : List ℕ) (marks : List Bool) → Passed code (λ s. s.tokens ≤ length marks) → Emitting code marks 0 0 []
unfolding emitted
none_emitted code marks p = record { whole = p; here = start; position = position_start code p.last p.walk; left = refl }

module _ (code : List ℕ) (marks : List Bool) (at count : ℕ) (done : List Token) (g : Emitting code marks at count done) where
  pub all_emitted : length code ≤ at → done ≡ emitted code marks
  all_emitted h = sym (ap (λ (s : Emission). s.tokens) (fold-ends emit_step code at h (record { marks = drop count marks; tokens = done }))) ∙ g.left

  -- the others stand behind
  pub then_more : (more : List Token) × (done ++ more ≡ emitted code marks)
  then_more =
      let m = emitted_more (instructions (drop at code)) (record { marks = drop count marks; tokens = done }) in
      (m.0, sym m.1 ∙ g.left)

  -- the command at the position
  module _ (inside : at < length code) where
    abbrev command : Command
    command = command_at code at

    pub command-known : known command ≡ true
    command-known = position_known code g.whole.last g.here at count g.position inside

    pub command-operands : at + 1 + (command_row command).width ≤ length code
    command-operands = (passes_on code g.whole.last g.here at count g.position inside).operands

    pub mark-inside : count < length marks
    mark-inside = omega (arith, position_below code g.whole.last g.here at count g.position inside, g.whole.known)

    -- its tokens
    abbrev pub tokens_here : List Token
    tokens_here = tokens_of command (operand_bytes command code (at + 1)) (get_or marks count false)

    pub one_emitted : Emitting code marks (after code at) (count + 1) (done ++ tokens_here)
    one_emitted =
        record {
          whole = g.whole;
          here = next command g.here;
          position = position_next code g.whole.last g.here at count g.position inside;
          left = left-now;
        }
      where
        left-now : (fold emit_step (record { marks = drop (count + 1) marks; tokens = done ++ tokens_here }) (instructions (drop (after code at) code))).tokens ≡ emitted code marks
        left-now =
            let mark : get_or (drop count marks) 0 false ≡ get_or marks count false = get_or-drop count marks 0 false ∙ ap (λ (i : ℕ). get_or marks i false) (add-zero count) in
            let one : at + 1 ≡ suc at = omega arith in
            let operands : operand_bytes command code (at + 1) ≡ operands_at code at = rw one in
            rw (← drop-drop 1 count marks, ← mark, operands)
            (ap (λ (s : Emission). s.tokens) (sym (fold_takes emit_step code at inside (record { marks = drop count marks; tokens = done }))) ∙ g.left)
