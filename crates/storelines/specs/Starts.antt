-- Stores to start with, as lines. Assumes nothing.
-- start_of cs: the store that a line tells: `register`, a mark (14 digits) and a supply, or `strip`, its cells in digits and
-- a supply, with single spaces between them.
use Rattle.std.specs.Prelude.{ℕ, cond, List, Some, None, vec_items, codes, Option}
use Rattle.std.specs.Str.{bytes_eq}
use Rattle.digits.specs.Digits.{number_of, digits_bytes}
use Rattle.storelines.specs.Orders.{supply_of}
use Rattle.words.specs.Splits.{Parts, parted}
use Rattle.stores.specs.declared.supply.Supply.{Supply}
use Rattle.storelines.specs.declared.start.Start.{Start}
use Rattle.storelines.specs.declared.start.Start.TheVariants as start

-- a register with its mark, or a strip with its cells
pub data ToldStart : Type 0 where
  a_register : ℕ → Supply → ToldStart
  a_strip : List ℕ → Supply → ToldStart

abbrev pub start_told : Start → ToldStart
start_told (start.Register m s) = a_register m s
start_told (start.Strip cells s) = a_strip (vec_items cells) s

abbrev pub register_from : Option ℕ → Option Supply → Option ToldStart
register_from None s = None
register_from (Some m) None = None
register_from (Some m) (Some s) = Some (a_register m s)

abbrev pub register_parts : Parts → Option ToldStart
register_parts None = None
register_parts (Some p) = register_from (number_of 14 p.0) (supply_of p.1)

abbrev pub strip_from : Option (List ℕ) → Option Supply → Option ToldStart
strip_from None s = None
strip_from (Some cs) None = None
strip_from (Some cs) (Some s) = Some (a_strip cs s)

abbrev pub strip_parts : Parts → Option ToldStart
strip_parts None = None
strip_parts (Some p) = strip_from (digits_bytes p.0) (supply_of p.1)

abbrev pub start_parts : Parts → Option ToldStart
start_parts None = None
start_parts (Some p) =
    cond (bytes_eq p.0 (codes "register")) (register_parts (parted p.1))
    (cond (bytes_eq p.0 (codes "strip")) (strip_parts (parted p.1)) None)

abbrev pub start_of : List ℕ → Option ToldStart
start_of cs = start_parts (parted cs)
