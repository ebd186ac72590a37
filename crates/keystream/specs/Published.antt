-- The keystream generation of CHM as it is published: a counter is incremented, each frame draws a mask and then its blocks.
-- Over any function E from blocks to blocks. Assumes nothing.
-- inc c: the next counter, modulo 2^128.
-- frame_blocks, frame, frames: the inner loop, a frame, and the outer loop, over the counter and the blocks so far.
-- keystream E c l: l blocks of keystream from the counter c.
use Rattle.std.specs.Prelude.{ℕ, zero, suc, ◌+◌, ◌-◌, ◌/◌, ◌%◌, ◌^◌, min, List, [], ◌∷◌, ◌++◌, bit_xor}

abbrev pub inc : ℕ → ℕ
inc c = (c + 1) % 2 ^ 128

-- a quotient, rounded up
abbrev pub up : ℕ → ℕ → ℕ
up a b = (a + (b - 1)) / b

-- the counter, and the keystream so far
pub record Run : Type 0 where
  pub ctr : ℕ
  pub made : List ℕ

abbrev pub run : ℕ → List ℕ → Run
run c s = record { ctr = c; made = s }

-- n times: append E(ctr) xor L, and increment
unfoldable pub frame_blocks : (ℕ → ℕ) → ℕ → ℕ → Run → Run
frame_blocks E L zero r = r
frame_blocks E L (suc n) r = frame_blocks E L n (run (inc r.ctr) (r.made ++ bit_xor (E r.ctr) L ∷ []))

-- the mask L is E(ctr); increment; then n blocks
abbrev pub frame : (ℕ → ℕ) → ℕ → Run → Run
frame E n r = frame_blocks E (E r.ctr) n (run (inc r.ctr) r.made)

-- for each of j frames, with l blocks still to make: 256 of them, or what is left
unfoldable pub frames : (ℕ → ℕ) → ℕ → ℕ → Run → Run
frames E zero l r = r
frames E (suc j) l r = frames E j (l - 256) (frame E (min 256 l) r)

unfoldable pub keystream : (ℕ → ℕ) → ℕ → ℕ → List ℕ
keystream E c l = (frames E (up l 256) l (run c [])).made
