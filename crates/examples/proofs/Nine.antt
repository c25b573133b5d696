-- The nine bytes of a `Const`, and the bytes before and after them.
use Rattle.std.proofs.Common.{ℕ, ◌≡◌, ◌+◌, ◌≤◌, ◌<◌, ℤ, List, ◌++◌, length, get_or, take, drop, set, append_assoc, add-one, arith}
use Rattle.std.proofs.Math.Seq.{length-take-le, set_at, take-suc}
use borrow.Author.Tests.{le-leb, lt-leb}
use Rattle.slices.specs.Bytes.{little_endian}
use Rattle.word64.specs.Bits.{bits_of}
use Rattle.examples.specs.Const.{with_const}

module _ (code : List ℕ) (at : ℕ) (number : ℤ) where
  pub const-there : at + 9 ≤ length code
      → set (take (at + 1) code ++ little_endian 8 (bits_of number) ++ drop (at + 1 + 8) code) at 16 ≡ with_const code at number
  unfolding with_const
  const-there h =
      let nine : at + 1 + 8 ≡ at + 9 = omega arith in
      let rest = little_endian 8 (bits_of number) ++ drop (at + 9) code in
      rw (le-leb (at + 9) (length code) h, nine, add-one at, take-suc code at 0 (omega arith))
      (simp append_assoc (set_at (take at code) (get_or code at 0) rest 16 at (length-take-le at code (omega arith))))

  pub const_past : length code < at + 9 → code ≡ with_const code at number
  unfolding with_const
  const_past h = rw (lt-leb (at + 9) (length code) h)
