-- The eight bytes are written after the command's place, and then the command; or there is no room, and nothing is.
use Rattle.std.proofs.Common.{◌+◌, ◌≤◌, ◌<◌, length, arith}
use mir.Facts.{to_z-of_z}
use Rattle.examples.proofs.Nine.{const_past, const-there}
use Rattle.examples.proofs.constant.Goals as goal

pub returns-then-code-at-ge9 : goal.returns-then-code-at-ge9
returns-then-code-at-ge9 c =
    let a = c.args in
    let room : a.at + 9 ≤ length a.code.now = omega arith in
    rw (c.write_le64.ensures, c.bits.ensures, to_z-of_z c.ranges.number) (const-there a.code.now a.at a.number room)

pub returns-else-code-at-ge9 : goal.returns-else-code-at-ge9
returns-else-code-at-ge9 c =
    let a = c.args in
    let past : length a.code.now < a.at + 9 = omega arith in
    const_past a.code.now a.at a.number past

pub returns-else-at-code : goal.returns-else-at-code
returns-else-at-code c =
    let a = c.args in
    let past : length a.code.now < a.at + 9 = omega arith in
    const_past a.code.now a.at a.number past
