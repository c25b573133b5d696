-- Where the key is found, 32 bytes for each key before it.
use borrow.Author.Tests.{eq-eqb}
use Rattle.keys.specs.Keys.{key_at}
use Rattle.keys.proofs.Noting.{place_or_end}
use Rattle.keys.proofs.place_of.Goals as goal

pub returns : goal.returns
returns c =
    rw (eq-eqb c.args.width 40 c.if-width-ne-KEY_AND_TIME_BYTES.false, c.unwrap_or.ensures, c.find_key-found.ensures, place_or_end c.args.code.now c.args.positions.now (key_at c.args.code.now c.args.at))
