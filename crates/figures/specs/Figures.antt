-- The worked figures, each from the rule that defines it. Assumes nothing.
-- cells, cut_cells v: the cells of a strip, and those after a cut that leaves v.
-- example_input, example_output: an input of sheetseal, and what it prints.
-- Figures: all of them.
use Rattle.std.specs.Prelude.{◌≡◌, ℕ, ◌^◌, true, List, [], ◌∷◌, length, Some, codes}
use Rattle.bytefield.specs.Substitution.{substitution}
use Rattle.chm.specs.Sealers.{batch, next_nonce}
use Rattle.keystream.specs.Laws.{PracticeFigures, last_counter}
use Rattle.polyhash.specs.Hash.{hash}
use Rattle.polynomials.specs.Polynomials.{product}
use Rattle.sealtext.specs.Texts.{sheetseal_text}
use Rattle.sheetlines.specs.Sheets.{frames_of}
use Rattle.stores.specs.Strips.{strip_mark, raised_cells}

-- five cells, of which the third is the last one written
abbrev pub cells : List ℕ
cells = 0x00 ∷ 0xff ∷ 0x00 ∷ 0xff ∷ 0xff ∷ []

-- the cells after a raise in which the power fails, with v left over
abbrev pub cut_cells : ℕ → List ℕ
cut_cells v = raised_cells cells true 0 v

-- five lines for sheetseal: the practice cipher, a key, mark 0, no header, and sixteen zero bytes
abbrev pub example_input : List ℕ
example_input = codes "practice\nfffffffffffffffffffffffffffffffc\n00000000000000\n\n00000000000000000000000000000000\n"

-- the lines that it prints
abbrev pub example_output : List ℕ
example_output = codes "000000000000000000000010000010\n\n00000000000000000000000000000002\n80000000000000000000000000000009\n"

pub record Figures : Type 0 where
  -- 80 00..00 times 00..02, and times itself
  pub doubled : product (2 ^ 127) 2 ≡ 0x87
  pub squared : product (2 ^ 127) (2 ^ 127) ≡ 0xc0000000000000000000000000001067
  -- the hash of the empty string under 00..02
  pub empty_hash : hash 2 [] ≡ 0x87
  -- keystream blocks 0, 255 and 256 of nonce 0 under the practice cipher
  pub stream : PracticeFigures
  -- the substitution of 00, 01 and 53
  pub substitution_0 : substitution 0x00 ≡ 0x63
  pub substitution_1 : substitution 0x01 ≡ 0x7c
  pub substitution_53 : substitution 0x53 ≡ 0xed
  -- the strip 00 ff 00 ff ff has mark 3; cut with 7f it has 4, with ff 3
  pub mark : strip_mark cells ≡ 3
  pub cut_7f : strip_mark (cut_cells 0x7f) ≡ 4
  pub cut_ff : strip_mark (cut_cells 0xff) ≡ 3
  -- the sixth nonce of batch 3, of which five were given out
  pub nonce : next_nonce (Some (batch 3 5)) ≡ 3077
  -- the last counter of a message of 65,536 blocks
  pub counter : last_counter 65536 ≡ 65793
  -- the ciphertext lines of messages of 0, 4,080 and 4,081 bytes
  pub lines_0 : length (frames_of 0) ≡ 0
  pub lines_4080 : length (frames_of 4080) ≡ 1
  pub lines_4081 : length (frames_of 4081) ≡ 2
  -- sheetseal's printed example, byte for byte
  pub sealed : sheetseal_text example_input ≡ example_output
