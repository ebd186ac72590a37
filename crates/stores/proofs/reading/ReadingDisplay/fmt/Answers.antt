use Rattle.std.proofs.Common.{◌<◌, rules, arith, sym}
use Rattle.std.specs.Prelude.{false}
use Rattle.std.proofs.lemmas.Fmt.{hex_byte}
use Rattle.stores.proofs.reading.ReadingDisplay.fmt.Goals as goal

pub returns-clause-writes : goal.returns-clause-writes
returns-clause-writes g c =
    let small : c.args.self.now.leftover < 256 = omega arith in
    let byte = sym (hex_byte false c.args.self.now.leftover small) in
    rw (byte, sym c.state-state.ensures) (search rules)
