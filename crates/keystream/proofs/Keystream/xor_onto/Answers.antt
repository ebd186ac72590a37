-- A turn xors one part more, and the mask goes on to the next block.
use Rattle.std.proofs.Common.{◌≡◌, ◌+◌, ◌/◌, length, get_or, sym, ap, ◌∙◌, arith, rules}
use lib.Bits.{bit_xor}
use Rattle.std.proofs.lemmas.List.FromFn.{fill_by_all}
use Rattle.std.proofs.lemmas.List.Edits.{length-between}
use Rattle.keystream.specs.Counters.{mask, block_at, stream_byte}
use Rattle.keystream.proofs.Parts.{block_bytes, get_or-xored, masked, part_rest, part_step}
use Rattle.keystream.proofs.Keystream.xor_onto.Goals as goal

pub loop-at-preserved : goal.loop-at-preserved
loop-at-preserved g c =
    let E = g.C.Permutation.image c.args.self.now.cipher.now in
    let N = c.args.self.now.nonce in
    let o = c.args.offset in
    let p = c.args.bytes.now in
    let xs = c.loop-at.bytes in
    let ys = c.xor_part.new.part in
    let at = c.loop-at.at in
    let end = c.min-end.result in
    let veil : c.if-at-eq0.veil ≡ mask E N ((1 + (o + at) / 16) / 256) = search rules in
    let block : c.reached_block.result ≡ block_at E N (1 + (o + at) / 16) = masked E N _ c.if-at-eq0.veil _ (search rules) veil in
    let rest = c.loop-at.invariant.1 in (
      part_step (λ k. stream_byte E N (o + k)) at end p xs ys (omega arith) (omega arith) (omega arith) rest c.loop-at.invariant.0
          (λ k h.
          let from : o ≡ c.from.result = search rules in
          rw (← block_bytes E N o at k c.reached_block.result block (omega arith), from)
          (ap (λ l. get_or l k 0) c.xor_part.ensures ∙ get_or-xored _ _ _ k (omega (arith, length-between xs at end (omega arith))))),
      part_rest (λ k. stream_byte E N (o + k)) at end p xs ys (omega arith) (omega arith) (omega arith) rest,
      omega arith,
      (λ u v. omega arith),
      (λ u v. let e : (o + end) / 16 ≡ 1 + (o + at) / 16 = omega arith in
          veil ∙ ap (λ i. mask E N (i / 256)) (sym e)),
    )

pub returns : goal.returns
returns g c =
    let p = c.args.bytes.now in
    let long : length c.loop-at.bytes ≡ length p = omega arith in
    fill_by_all (λ k. bit_xor (get_or p k 0) (stream_byte (g.C.Permutation.image c.args.self.now.cipher.now) c.args.self.now.nonce (c.args.offset + k)))
    c.loop-at.bytes (length p) 0 long (λ k h. c.loop-at.invariant.0 k (omega arith))
