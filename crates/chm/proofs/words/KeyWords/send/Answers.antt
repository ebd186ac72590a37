-- A turn writes one part more, and the words go on over it.
use Rattle.std.proofs.Common.{◌≡◌, ◌+◌, ◌-◌, ◌%◌, length, get_or, sym, refl, ap, ◌∙◌, arith, below_none}
use lib.Bits.{bit_xor}
use Rattle.std.proofs.lemmas.List.FromFn.{fill_by_all}
use Rattle.std.proofs.lemmas.List.Edits.{length-between}
use Rattle.std.specs.List.{between}
use Rattle.blocks.specs.Blocks.{bytes_of}
use Rattle.keystream.proofs.Parts.{get_or-xored}
use Rattle.chm.proofs.Keeps.{steps_len, steps_add, steps_part, part_byte}
use Rattle.chm.proofs.Parts.{part_put}
use Rattle.chm.specs.Words.{more, turned, steps, step_byte}
use Rattle.chm.proofs.words.KeyWords.send.Goals as goal

pub loop-at-init : goal.loop-at-init
unfolding steps
loop-at-init g c = (below_none _, omega arith, refl, omega arith)

pub loop-at-preserved : goal.loop-at-preserved
loop-at-preserved g c =
    let E = g.C.Permutation.image c.args.stream.now.cipher.now in
    let N = c.args.stream.now.nonce in
    let s = c.args.self in
    let p = c.args.piece.now in
    let at = c.loop-at.at in
    let end = c.min-end.result in
    let next = c.turn-words.result in
    let was : next ≡ turned E N (steps E N s at) = c.turn-words.ensures.turns ∙ ap (turned E N) c.loop-at.invariant.2 in
    let lens : (steps E N s at).len ≡ s.len + at = steps_len E N s at in
    let skip : next.len % 16 ≡ (s.len + at) % 16 = ap (λ n. n % 16) (c.turn-words.ensures.stays ∙ c.loop-at.invariant.3) in
    let whole : at + (end - at) ≡ end = omega arith in (
      part_put (step_byte E N s) at end p c.loop-at.out c.put_part.new.out (omega arith) (omega arith) (omega arith) (omega arith) c.loop-at.invariant.0
          (λ k h. ap (λ l. get_or l k 0) c.put_part.ensures
          ∙ get_or-xored next.word (next.len % 16) (between at end p) k (omega (arith, length-between p at end (omega arith)))
          ∙ ap (bit_xor (get_or (between at end p) k 0))
          (ap (λ x. get_or (bytes_of 16 x.word) (next.len % 16 + k) 0) was
          ∙ ap (λ i. get_or (bytes_of 16 (turned E N (steps E N s at)).word) (i + k) 0) skip
          ∙ part_byte E N s at k (omega arith))),
      omega arith,
      ap (more (end - at)) was
          ∙ sym (steps_part E N (steps E N s at) (end - at) (omega arith) (omega arith))
          ∙ sym (steps_add E N s at (end - at)) ∙ ap (steps E N s) whole,
      omega arith,
    )

pub returns : goal.returns
returns g c =
    let E = g.C.Permutation.image c.args.stream.now.cipher.now in
    let N = c.args.stream.now.nonce in
    let p = c.args.piece.now in
    let long : length c.loop-at.out ≡ length p = omega arith in
    let all : c.loop-at.at ≡ length p = omega arith in
    record {
      wrote = fill_by_all (λ k. bit_xor (get_or p k 0) (step_byte E N c.args.self k)) c.loop-at.out (length p) 0 long
          (λ k h. c.loop-at.invariant.0 k (omega arith));
      words = c.loop-at.invariant.2 ∙ ap (steps E N c.args.self) all;
    }
