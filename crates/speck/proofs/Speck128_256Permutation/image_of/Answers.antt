-- The block in two words, the rounds, and the words put together again.
use mathlib.Core.Path.{◌≡◌, ap, ◌∙◌}
use Prim.Native.Nat.{ℕ, ◌-◌, ◌*◌, ◌/◌, ◌%◌, ◌^◌, ◌<◌}
use native.Mathlib.Omega.{arith}
use lib.Bits.{bit_and, bit_or, or_shifted, and_mask}
use lib.ListN.{get_or}
use borrow.Author.Rules.{rules}
use Rattle.speck.specs.Rounds.{Words, rounds, joined}
use Rattle.speck.proofs.Speck128_256Permutation.image_of.Goals as goal

joins : (a b : ℕ) (v : Words) → a ≡ v.0 → b ≡ v.1 → v.0 < 2 ^ 64 → v.1 < 2 ^ 64 → bit_or ((a * 2 ^ 64) % 2 ^ 128) b ≡ joined v
joins a b v ea eb ha hb =
    let e : (a * 2 ^ 64) % 2 ^ 128 ≡ v.0 * 2 ^ 64 = omega arith in
    ap (λ n. bit_or n b) e ∙ ap (bit_or (v.0 * 2 ^ 64)) eb ∙ or_shifted v.0 64 v.1 hb

low : (w : ℕ → ℕ) (b : ℕ) → rounds 34 w (b / 2 ^ 64, bit_and b (2 ^ 64 - 1)) ≡ rounds 34 w (b / 2 ^ 64, b % 2 ^ 64)
low w b = ap (λ n. rounds 34 w (b / 2 ^ 64, n)) (and_mask b 64)

pub returns : goal.returns
returns c =
    let v = c.all_rounds-a.result in
    let hx : v.0 < 2 ^ 64 = search rules in
    let hy : v.1 < 2 ^ 64 = search rules in
    joins c.from.result c.from-2.result v c.from.ensures c.from-2.ensures hx hy
    ∙ ap joined (c.all_rounds-a.ensures ∙ low (λ i. get_or c.args.self.now.keys i 0) c.args.block)
