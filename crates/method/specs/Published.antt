-- CHM as it is published: encryption, and decryption with its reject, over any function E from blocks to blocks. The nonce has
-- 63 bits, frames have 256 blocks, and a tag has t bytes. Assumes nothing.
-- keystream_for E N m: the keystream of a message of m bytes, a block and then one for every block of the message.
-- crypt E N m: the message xored with the keystream after its first block.
-- tag E t N h c: the tag of the header h and the ciphertext c.
-- encryption E t N h m: ciphertext and tag.
-- decryption E N h c t: the message, or nothing for reject.
use Rattle.std.specs.Prelude.{ℕ, ◌+◌, cond, List, [], ◌∷◌, length, take, drop, Some, None, Option, bit_xor, slice_index}
use Rattle.std.specs.List.{flat_map}
use Rattle.std.specs.Str.{bytes_eq}
use Rattle.blocks.specs.Blocks.{bytes_of}
use Rattle.keystream.specs.Counters.{counter, const0, const1}
use Rattle.keystream.specs.Published.{up, keystream}
use Rattle.polyhash.specs.Hash.{hash}

-- the initial counter is one zero bit, the nonce, and zeros
abbrev pub keystream_for : (ℕ → ℕ) → ℕ → ℕ → List ℕ
keystream_for E N m = keystream E (counter N 0) (up m 16 + 1)

-- two strings xored, as long as the shorter
abbrev pub xored : List ℕ → List ℕ → List ℕ
xored [] ys = []
xored (x ∷ xs) [] = []
xored (x ∷ xs) (y ∷ ys) = bit_xor x y ∷ xored xs ys

unfoldable pub crypt : (ℕ → ℕ) → ℕ → List ℕ → List ℕ
crypt E N m = xored m (take (length m) (flat_map (bytes_of 16) (drop 1 (keystream_for E N (length m)))))

-- the two hashes and the keystream's first block, xored
abbrev pub tag_block : ℕ → ℕ → ℕ → ℕ
tag_block c h b = bit_xor (bit_xor c h) b

-- the hash keys are the images of the two constants
unfoldable pub tag : (ℕ → ℕ) → ℕ → ℕ → List ℕ → List ℕ → List ℕ
tag E t N h c =
    take t (bytes_of 16 (tag_block (hash (E const0) c) (hash (E const1) h) (slice_index (keystream_for E N (length c)) 0)))

abbrev pub encryption : (ℕ → ℕ) → ℕ → ℕ → List ℕ → List ℕ → List ℕ × List ℕ
encryption E t N h m = (crypt E N m, tag E t N h (crypt E N m))

abbrev pub decryption : (ℕ → ℕ) → ℕ → List ℕ → List ℕ → List ℕ → Option (List ℕ)
decryption E N h c t = cond (bytes_eq (tag E (length t) N h c) t) (Some (crypt E N c)) None
