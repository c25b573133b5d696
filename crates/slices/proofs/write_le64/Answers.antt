-- The library's eight bytes of a number.
use Rattle.std.proofs.Common.{◌≡◌, ◌+◌, ◌-◌, append_assoc, arith, rules}
use lib.Seq.{drop-drop}
use Rattle.slices.specs.Bytes.{little_endian}
use Rattle.slices.proofs.Bytes.{written}
use Rattle.slices.proofs.write_le64.Goals as goal

pub returns : goal.returns
returns c =
    let e : c.copy_from_slice.new.self ≡ little_endian 8 c.args.n = written c.args.n (search rules) in
    let k : c.args.at + 8 - c.args.at ≡ 8 = omega arith in
    simp (e, k, drop-drop, append_assoc)
