-- The law on every history of a sealer. Assumes nothing.
-- Use: what a cipher input can lie behind: a hash key; the mask of frame f of seal s; keystream block i of seal s.
-- Used l u: the begun seals l have that use. A seal of n message blocks has keystream blocks 0 to n, and their frames' masks.
-- input l u: the cipher input behind a use: a constant, or a counter of the seal's nonce.
-- mask_value, block_value: the mask of a keystream block's frame, and the block.
-- Law E l: what holds of the begun seals l of a history, under a cipher that means E.
-- Histories E s cs rs: of the calls cs, answered rs, from set-up over the store s on.
use Rattle.std.specs.Prelude.{◌≡◌, ℕ, ◌+◌, ◌/◌, ◌^◌, ◌<◌, ◌≤◌, List, map, length, take, drop, Ok, ◌≢◌, slice_index, slice_index_or}
use Rattle.checks.specs.Checks.{check_answer, read_out}
use Rattle.keystream.specs.Counters.{counter, const0, mask_counter, block_counter, mask, block_at}
use Rattle.keystream.specs.Published.{up}
use Rattle.method.specs.Published.{crypt, tag}
use Rattle.stores.specs.Store.{Store}
use Rattle.history.specs.Ends.{Ends}
use Rattle.history.specs.Runs.{Asked, Said, Seal, History, set_up, Run}

pub data Use : Type 0 where
  hash_key : ℕ → Use
  mask_of : ℕ → ℕ → Use
  block_of : ℕ → ℕ → Use

abbrev pub nonce_of : List Seal → ℕ → ℕ
nonce_of l s = slice_index (map (λ x. x.nonce) l) s

-- the message blocks of seal s, the last perhaps short
abbrev pub blocks_of : List Seal → ℕ → ℕ
blocks_of l s = up (slice_index (map (λ x. length x.message) l) s) 16

abbrev pub Used : List Seal → Use → Type 0
Used l (hash_key k) = k < 2
Used l (mask_of s f) = (s < length l) × (f ≤ blocks_of l s / 256)
Used l (block_of s i) = (s < length l) × (i ≤ blocks_of l s)

-- the constants of the two hash keys follow one another
abbrev pub input : List Seal → Use → ℕ
input l (hash_key k) = const0 + k
input l (mask_of s f) = counter (nonce_of l s) (mask_counter f)
input l (block_of s i) = counter (nonce_of l s) (block_counter i)

abbrev pub mask_value : (ℕ → ℕ) → List Seal → ℕ → ℕ → ℕ
mask_value E l s i = mask E (nonce_of l s) (i / 256)

abbrev pub block_value : (ℕ → ℕ) → List Seal → ℕ → ℕ → ℕ
block_value E l s i = block_at E (nonce_of l s) i

pub record Law (E : ℕ → ℕ) (l : List Seal) : Type 0 where
  -- the nonces of begun seals are pairwise different, and below 2^63
  pub different : (s s' : ℕ) → s < length l → s' < length l → nonce_of l s ≡ nonce_of l s' → s ≡ s'
  pub below : (s : ℕ) → s < length l → nonce_of l s < 2 ^ 63
  -- no cipher input lies behind two uses
  pub once : (u v : Use) → Used l u → Used l v → input l u ≡ input l v → u ≡ v
  -- no value is the mask of more than 256 keystream blocks: of n different ones whose mask has the value v, n is at most 256
  pub few : (v n : ℕ) (s i : ℕ → ℕ) → ((k : ℕ) → k < n → Used l (block_of (s k) (i k)) × (mask_value E l (s k) (i k) ≡ v))
      → ((j k : ℕ) → j < n → k < n → block_of (s j) (i j) ≡ block_of (s k) (i k) → j ≡ k) → n ≤ 256
  -- no keystream block is zero
  pub nonzero : (s i : ℕ) → Used l (block_of s i) → block_value E l s i ≢ 0
  -- no two keystream blocks with one mask value are equal
  pub unlike : (s i s' i' : ℕ) → Used l (block_of s i) → Used l (block_of s' i') → mask_value E l s i ≡ mask_value E l s' i'
      → block_value E l s i ≡ block_value E l s' i' → block_of s i ≡ block_of s' i'
  -- what a seal's bodies wrote is the published ciphertext of its message, finished or not
  pub published : (n : ℕ) (d : Seal) → n < length l → let s = slice_index_or l n d in s.ciphertext ≡ crypt E s.nonce s.message
  -- check accepts it with the tag that finish gives
  pub accepted : (n : ℕ) (d : Seal) → n < length l →
      let s = slice_index_or l n d in check_answer E s.nonce s.header s.ciphertext (tag E s.tag_length s.nonce s.header s.ciphertext) ≡ Ok tt
  -- and a read within its end gives the bytes that the message has there
  pub read : (n o : ℕ) (d : Seal) (out : List ℕ) → n < length l →
      let s = slice_index_or l n d in o + length out ≤ length s.message
      → read_out E s.nonce s.ciphertext o out ≡ take (length out) (drop o s.message)

-- there is a run from set-up on with these calls and answers, of every such run the law holds, and the nonces end as they should
pub record Histories (E : ℕ → ℕ) (s : Store) (cs : List Asked) (rs : List Said) : Type 0 where
  pub end : History
  pub run : Run E (set_up s) cs rs end
  pub every : (h : History) → Run E (set_up s) cs rs h → Law E h.seals
  pub ends : Ends E s
