-- The invariant: the lines of the commands so far are written, and those to come are the rest (`Progress`).
use borrow.Author.Rules.{rules}
use Prim.Native.Nat.{ℕ, ◌+◌, ◌-◌, ◌≤◌, ◌<◌}
use mathlib.Core.Path.{◌≡◌}
use mathlib.Core.List.{List}
use native.Mathlib.Omega.{arith}
use lib.ListN.{length, length-drop, length-take}
use Rattle.slices.specs.Bytes.{Bytes}
use Rattle.slices.proofs.Bytes.{all_of}
use Rattle.slices.proofs.Front.{front_length}
use Rattle.sheet.proofs.Lines.{Progress, all_there, fewer, none_yet, one_more, progress_whole}
use Rattle.sheet.proofs.write_lines.Statement.{statement}
use Rattle.sheet.proofs.write_lines.Tie as tie

abbrev invariant-loop-at : tie.invariant-loop-at
invariant-loop-at code out₀ at₀ n₀ out at n = (n ≤ length out₀) × Progress code out₀ out at n

abbrev decreases-loop-at : tie.decreases-loop-at
decreases-loop-at code out₀ at₀ n₀ out at n = length code - at

module _ (a : tie.At-loop-at invariant-loop-at decreases-loop-at) where
  abbrev begin : tie.Start invariant-loop-at decreases-loop-at
  begin = a.before.before.before

  abbrev code : List ℕ
  code = begin.args.code.now

  abbrev old : List ℕ
  old = begin.args.out.now

  long : length a.loop-at.out ≡ length old
  long = front_length a.loop-at.invariant.1.front a.loop-at.invariant.0

  bytes : Bytes code
  bytes = all_of (λ x. x < 256) code 0 (λ i. (a.shared_slice_known-1.given i).fits)

-- in a turn a line more has room
room : (t : tie.In-loop-at invariant-loop-at decreases-loop-at) → let l = t.loop-at in l.n + 30 ≤ length (old t.before)
room t =
    let a = t.before in
    let l = a.loop-at in
    omega (arith, fewer (code a) (old a) l.out l.at l.n l.invariant.1 t.loop-at-test.true, (begin a).requires.2)

write-line-requires : tie.Need-write_line-at-requires invariant-loop-at decreases-loop-at
write-line-requires c κs =
    let t = c.before in
    let a = t.before in
    let l = a.loop-at in (
      simp (length-take, length-drop) (omega (arith, room t, long a)),
      progress_whole (code a) (old a) l.out l.at l.n l.invariant.1 t.loop-at-test.true,
    )

loop-again : tie.Need-loop-at-preserved invariant-loop-at decreases-loop-at
loop-again c =
    let w = c.before.before in
    let t = w.before.before in
    let a = t.before in
    let l = a.loop-at in
    let e = w.write_line-at.ensures in
    (room t, rw e.0 (one_more (code a) (old a) l.out l.at l.n l.invariant.1 t.loop-at-test.true (bytes a) _ e.1))

pub write_lines_spec : {M : Type 1} → statement M
write_lines_spec =
    tie.close
    (tie.spec
    invariant-loop-at
    decreases-loop-at
    (λ c. let s = c.before.before in (omega arith, none_yet s.args.code.now s.args.out.now s.requires.0 s.requires.1))
    (λ c. omega (arith, room c, (begin c.before).well_formed))
    (λ c. search rules)
    (λ c. omega (arith, room c, long c.before))
    (λ c. omega (arith, room c, long c.before))
    write-line-requires
    (λ c. let w = c.before.before in omega (arith, w.write_line-at.ensures.0, w.loop-at-test.true))
    loop-again
    (λ c. long c.before)
    (λ c. let a = c.before in let l = a.loop-at in all_there (code a) (old a) l.out l.at l.n l.invariant.1 c.loop-at-test.false))
