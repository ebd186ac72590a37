-- The worked figures, by computing. Assumes nothing.
use Rattle.std.proofs.Common.{◌≡◌, ◌^◌, [], refl}
use Rattle.bytefield.specs.Field.{inverse, found_below}
use Rattle.bytefield.specs.Field as byte
use Rattle.bytefield.specs.Substitution.{substitution}
use Rattle.blocks.specs.Blocks.{number_from, bytes_of}
use Rattle.keystream.proofs.Figures.{practice_figures}
use Rattle.digits.specs.Digits.{digits_from, digits_bytes}
use Rattle.inputlines.specs.Lines.{parted_line}
use Rattle.keystream.specs.Published as stream
use Rattle.keystream.specs.Published.{frame_blocks, keystream}
use Rattle.method.specs.Published.{crypt, tag}
use Rattle.polyhash.specs.Hash.{hash, chained, blocks_of}
use Rattle.sealtext.specs.Texts.{sheetseal_text}
use Rattle.polynomials.specs.Polynomials.{times_low, times, remainder_low, remainder, product}
use Rattle.figures.specs.Figures.{Figures, example_input, example_output}

doubled : product (2 ^ 127) 2 ≡ 0x87
unfolding product times times_low remainder remainder_low
doubled = refl

squared : product (2 ^ 127) (2 ^ 127) ≡ 0xc0000000000000000000000000001067
unfolding product times times_low remainder remainder_low
squared = refl

empty_hash : hash 2 [] ≡ 0x87
unfolding hash chained blocks_of number_from product times times_low remainder remainder_low
empty_hash = refl

substituted_0 : substitution 0x00 ≡ 0x63
unfolding substitution inverse found_below byte.times_low
substituted_0 = refl

substituted_1 : substitution 0x01 ≡ 0x7c
unfolding substitution inverse found_below byte.times_low
substituted_1 = refl

substituted_53 : substitution 0x53 ≡ 0xed
unfolding substitution inverse found_below byte.times_low
substituted_53 = refl

sealed : sheetseal_text example_input ≡ example_output
unfolding sheetseal_text parted_line digits_from digits_bytes number_from bytes_of frame_blocks stream.frames keystream crypt tag blocks_of chained hash times_low times remainder_low remainder product
sealed = refl

pub figures : Figures
figures = record {
  doubled = doubled;
  squared = squared;
  empty_hash = empty_hash;
  stream = practice_figures;
  substitution_0 = substituted_0;
  substitution_1 = substituted_1;
  substitution_53 = substituted_53;
  mark = refl;
  cut_7f = refl;
  cut_ff = refl;
  nonce = refl;
  counter = refl;
  lines_0 = refl;
  lines_4080 = refl;
  lines_4081 = refl;
  sealed = sealed;
}
