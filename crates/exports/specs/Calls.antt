-- Which cipher a call means, by the cipher's number and a key. Assumes nothing.
-- call_told: what each fault tells.
-- call_answer c key: the function that the key makes of the cipher, or why there is none.
use Rattle.std.specs.Prelude.{ℕ, List, [], Ok, Err, Option}
use Rattle.ciphers.specs.Keys.{key_told, wrong_length}
use Rattle.cipherlines.specs.declared.chosen.Name.{Name}
use Rattle.refusals.specs.Answers.{Told, Answer}
use Rattle.exports.specs.Sheets.{under}
use Rattle.exports.specs.declared.fault.CallFault.{CallFault}
use Rattle.exports.specs.declared.fault.CallFault.TheVariants.{NoCipher, Key}

abbrev pub no_cipher : Told
no_cipher = (255, [])

abbrev pub call_told : CallFault → Told
call_told NoCipher = no_cipher
call_told (Key f) = key_told f

abbrev pub call_answer : Option Name → List ℕ → Answer (ℕ → ℕ)
call_answer c key = under c key (Err no_cipher) (Err wrong_length) Ok
