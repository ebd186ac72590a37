-- What is shown of the published method: its closed forms, and that decryption undoes encryption. Assumes nothing.
use Rattle.std.specs.Prelude.{◌≡◌, ℕ, ◌^◌, ◌<◌, ◌≤◌, List, length, take, Some}
use Rattle.blocks.specs.Blocks.{bytes_of}
use Rattle.keystream.specs.Counters.{block_at, ciphered, const0, const1}
use Rattle.polyhash.specs.Hash.{hash}
use Rattle.method.specs.Published.{crypt, tag, tag_block, decryption}

-- for every nonce, and every length that memory can hold
pub record MethodLaws : Type 0 where
  pub crypt_closed : (E : ℕ → ℕ) (N : ℕ) (m : List ℕ) → N < 2 ^ 63 → length m < 2 ^ 64 → crypt E N m ≡ ciphered E N 0 m
  pub tag_closed : (E : ℕ → ℕ) (t N : ℕ) (h c : List ℕ) → N < 2 ^ 63 → length c < 2 ^ 64
      → tag E t N h c ≡ take t (bytes_of 16 (tag_block (hash (E const0) c) (hash (E const1) h) (block_at E N 0)))
  pub undone : (E : ℕ → ℕ) (t N : ℕ) (h m : List ℕ) → t ≤ 16 → N < 2 ^ 63 → length m < 2 ^ 64
      → decryption E N h (crypt E N m) (tag E t N h (crypt E N m)) ≡ Some m
