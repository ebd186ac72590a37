-- The register as a mark store: its mark is a number, and its capacity is 2^53. Assumes nothing.
use Rattle.std.proofs.Common.{arith}
use Rattle.std.specs.Prelude.{◌^◌}
use Rattle.stores.specs.Store.{Store, store, Lawful}
use Rattle.stores.specs.declared.register.Register.{Register}

abbrev pub register_store : Register → Store
register_store r = store r.mark (2 ^ 53) r.supply.power r.supply.leftover r.on

pub register_lawful : (r : Register) → Lawful (register_store r)
register_lawful r = record { within = r.within; small = omega arith }
