-- The round keys that a cipher holds. Assumes nothing.
-- held ks i: the round key i.
-- keys_image ks b: the image of the block b.
use Rattle.std.specs.Prelude.{ℕ, List, [], slice_index_or}
use Rattle.aes.specs.declared.RoundKey.{RoundKey}
use Rattle.aes.specs.Cipher.{image_with}
use Rattle.aes.specs.State.{State}

abbrev pub blank : RoundKey
blank = record { columns = [] }

abbrev pub held : List RoundKey → ℕ → State
held ks i = (slice_index_or ks i blank).columns

-- the image of a block under the round keys held
abbrev pub keys_image : List RoundKey → ℕ → ℕ
keys_image ks = image_with (held ks)
