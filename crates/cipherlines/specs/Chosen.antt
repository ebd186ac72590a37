-- A cipher that is chosen by its name. Assumes nothing.
-- name_of cs: the cipher that the text cs names.
-- word_of n: the text that names n.
-- key_bytes n, standard_of n: the length of the named cipher's keys, and the function that its standard gives for a key.
-- chosen_image c: the function that a chosen cipher means.
use Rattle.std.specs.Prelude.{ℕ, if◌then◌else◌, List, Some, None, codes, Option}
use Rattle.std.specs.Str.{bytes_eq}
use Rattle.ciphers.specs.Practices.{practice, xor_image}
use Rattle.aes.specs.Cipher.{aes_128}
use Rattle.aes.specs.Keyed as aes
use Rattle.speck.specs.Keyed as speck
use Rattle.speck.specs.Rounds.{speck as speck-128-256}
use Rattle.cipherlines.specs.declared.chosen.Name.{Name}
use Rattle.cipherlines.specs.declared.chosen.Name.TheVariants as name
use Rattle.cipherlines.specs.declared.chosen.Chosen.{Chosen}
use Rattle.cipherlines.specs.declared.chosen.Chosen.TheVariants as chosen

abbrev pub name_of : List ℕ → Option Name
name_of cs =
    if bytes_eq cs (codes "practice") then Some name.Practice
    else if bytes_eq cs (codes "aes") then Some name.Aes
    else if bytes_eq cs (codes "speck") then Some name.Speck
    else None

abbrev pub word_of : Name → List ℕ
word_of name.Practice = codes "practice"
word_of name.Aes = codes "aes"
word_of name.Speck = codes "speck"

abbrev pub key_bytes : Name → ℕ
key_bytes name.Practice = 16
key_bytes name.Aes = 16
key_bytes name.Speck = 32

abbrev pub standard_of : Name → List ℕ → ℕ → ℕ
standard_of name.Practice = practice
standard_of name.Aes = aes_128
standard_of name.Speck = speck-128-256

abbrev pub chosen_image : Chosen → ℕ → ℕ
chosen_image (chosen.Practice c) = xor_image c.key
chosen_image (chosen.Aes c) = aes.keys_image c.keys
chosen_image (chosen.Speck c) = speck.keys_image c.keys
