-- The words that a draft holds of its keystream: how many message bytes have passed, and the mask and the keystream block of the
-- last of them, so that small pieces cost no image twice. Assumes nothing.
-- turned E N w: the words for the next byte: at a block's start the next block's, at a frame's start with a new mask.
-- steps E N w k: the words after k more bytes.
-- sent E N w p: what the bytes p are xored to from the words w on.
-- held E N m: the words after m bytes of message.
use Rattle.std.specs.Prelude.{ℕ, zero, suc, ◌+◌, ◌-◌, ◌/◌, ◌%◌, if◌then◌else◌, ◌||◌, List, map, length, ◌==◌, bit_xor, slice_index}
use Rattle.std.specs.List.{range_with_len}
use Rattle.blocks.specs.Blocks.{bytes_of}
use Rattle.keystream.specs.Counters.{mask, block_under, block_at}
use Rattle.chm.specs.declared.words.KeyWords.{KeyWords}

abbrev pub key_words : ℕ → ℕ → ℕ → KeyWords
key_words l v w = record { len = l; veil = v; word = w }

abbrev pub more : ℕ → KeyWords → KeyWords
more n w = key_words (w.len + n) w.veil w.word

-- the mask for keystream block i: drawn at the message's start and at a frame's first block, and kept otherwise
abbrev pub veil_for : (ℕ → ℕ) → ℕ → KeyWords → ℕ → ℕ
veil_for E N w i = if w.len == 0 || i % 256 == 0 then mask E N (i / 256) else w.veil

unfoldable pub turned : (ℕ → ℕ) → ℕ → KeyWords → KeyWords
turned E N w =
    if w.len % 16 == 0
    then key_words w.len (veil_for E N w (1 + w.len / 16)) (block_under E N (veil_for E N w (1 + w.len / 16)) (1 + w.len / 16))
    else w

unfoldable pub steps : (ℕ → ℕ) → ℕ → KeyWords → ℕ → KeyWords
steps E N w zero = w
steps E N w (suc k) = more 1 (turned E N (steps E N w k))

-- the byte that the next byte but k is xored with
abbrev pub step_byte : (ℕ → ℕ) → ℕ → KeyWords → ℕ → ℕ
step_byte E N w k = slice_index (bytes_of 16 (steps E N w (k + 1)).word) ((w.len + k) % 16)

abbrev pub sent : (ℕ → ℕ) → ℕ → KeyWords → List ℕ → List ℕ
sent E N w p = map (λ k. bit_xor (slice_index p k) (step_byte E N w k)) (range_with_len 0 (length p))

unfoldable pub held : (ℕ → ℕ) → ℕ → ℕ → KeyWords
held E N m =
    if m == 0
    then key_words 0 0 0
    else key_words m (mask E N ((1 + (m - 1) / 16) / 256)) (block_at E N (1 + (m - 1) / 16))
