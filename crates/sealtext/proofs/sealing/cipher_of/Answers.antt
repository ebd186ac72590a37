-- A key of more bytes than any cipher's is not of the cipher's length.
use Rattle.std.proofs.Common.{◌≤◌, cond, length, Ok, Err, sym, ap, arith, ne_eqb}
use Rattle.cipherlines.specs.Chosen.{key_bytes, standard_of}
use Rattle.cipherlines.specs.declared.chosen.Name.{Name}
use Rattle.cipherlines.specs.declared.chosen.Name.TheVariants.{Practice, Aes, Speck}
use Rattle.ciphers.specs.Keys.{wrong_length}
use Rattle.digits.proofs.Hexes.{length-unhex}
use Rattle.digits.specs.Hex.{unhex}
use Rattle.sealtext.proofs.sealing.cipher_of.Goals as goal

short : (n : Name) → key_bytes n ≤ 32
short Practice = omega arith
short Aes = omega arith
short Speck = omega arith

pub returns-then-key-gt-LONGEST_KEY : goal.returns-then-key-gt-LONGEST_KEY
returns-then-key-gt-LONGEST_KEY c =
    let n = c.args.name in
    let key = unhex c.args.key.now in
    let l = length-unhex c.args.key.now in
    let s = short n in
    sym (ap (λ b. cond b (Ok (standard_of n key)) (Err wrong_length)) (ne_eqb (length key) (key_bytes n) (λ e. omega arith)))
