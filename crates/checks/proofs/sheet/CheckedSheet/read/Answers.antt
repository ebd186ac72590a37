-- A read is a part of the whole, deciphered.
use Rattle.std.proofs.Common.{◌≡◌, ◌+◌, ◌-◌, length, take, drop, refl, ap, ◌∙◌, arith}
use Rattle.std.proofs.lemmas.Bool.{le-leb}
use Rattle.keystream.specs.Counters.{ciphered}
use Rattle.checks.proofs.Parts.{ciphered_part}
use Rattle.checks.proofs.sheet.CheckedSheet.read.Goals as goal

pub returns : goal.returns
returns g c =
    let E = g.C.Permutation.image c.args.cipher.now in
    let N = c.args.self.now.nonce in
    let text = c.args.self.now.ciphertext.now in
    let o = c.args.offset in
    let n = length c.args.out.now in
    let fits = le-leb (o + n) (length text) (omega arith) in
    let same : o + n - o ≡ n = omega arith in
    let got : c.xor_onto.new.bytes ≡ take n (drop o (ciphered E N 0 text)) =
    c.xor_onto.ensures
    ∙ (λ i. ciphered (g.C.Permutation.image (c.new.ensures.cipher i)) (c.new.ensures.nonce i) o c.copy_from_slice.new.self)
    ∙ ap (ciphered E N o) (c.copy_from_slice.ensures.after ∙ ap (λ k. take k (drop o text)) same)
    ∙ ciphered_part E N o n text (omega arith) in
    record { answer = rw fits refl; wrote = rw fits got }
