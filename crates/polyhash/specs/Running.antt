-- The hash as it runs over bytes, in pieces of any length. Assumes nothing: each word is defined for any numbers.
-- Running: the key, the sum of the whole blocks so far, the part of the block that is being filled as a number, and how many
-- bytes fill it.
-- started k: no byte so far, under the key k.
-- rekeyed k s: the same, under the key k from here on.
-- stepped s b: a byte more.
-- absorbed s p: the bytes p more.
-- finished s: the hash, after the padding's bytes.
-- Laws: pieces may be cut anywhere, the key stays, and the running hash is the hash.
use Rattle.std.specs.Prelude.{◌≡◌, ℕ, ◌+◌, ◌-◌, ◌*◌, ◌%◌, ◌^◌, if◌then◌else◌, List, ◌∷◌, ◌++◌, replicate, fold, bit_xor, nat_lt}
use Rattle.blocks.specs.Blocks.{AllBytes}
use Rattle.polynomials.specs.Polynomials.{product}
use Rattle.polyhash.specs.declared.running.Running.{Running}
use Rattle.polyhash.specs.Hash.{hash}

abbrev pub started : ℕ → Running
started k = record { key = k; sum = 0; part = 0; fill = 0 }

abbrev pub rekeyed : ℕ → Running → Running
rekeyed k s = record { key = k; sum = s.sum; part = s.part; fill = s.fill }

-- the part with a byte more at its end
abbrev pub longer : ℕ → ℕ → ℕ
longer part b = (part * 256 + b) % 2 ^ 128

-- the sixteenth byte makes a block, which is added to the sum, and the sum is multiplied by the key
unfoldable pub stepped : Running → ℕ → Running
stepped s b =
    if nat_lt s.fill 15
    then record { key = s.key; sum = s.sum; part = longer s.part b; fill = s.fill + 1 }
    else record { key = s.key; sum = product (bit_xor s.sum (longer s.part b)) s.key; part = 0; fill = 0 }

unfoldable pub absorbed : Running → List ℕ → Running
absorbed s p = fold stepped s p

-- the byte 80 hexadecimal, and zeros to the end of the block
abbrev pub finished : Running → ℕ
finished s = (absorbed s (128 ∷ replicate (15 - s.fill) 0)).sum

pub record Laws : Type 0 where
  pub pieces : (s : Running) (p q : List ℕ) → absorbed (absorbed s p) q ≡ absorbed s (p ++ q)
  pub keyed : (s : Running) (p : List ℕ) → (absorbed s p).key ≡ s.key
  pub whole : (k : ℕ) (m : List ℕ) → AllBytes m → finished (absorbed (started k) m) ≡ hash k m
