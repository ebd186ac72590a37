-- The digits of a block: two of each byte in turn, and text. Assumes nothing.
use Rattle.std.proofs.Common.{◌≡◌, ℕ, zero, suc, ◌/◌, ◌%◌, ◌<◌, List, [], ◌∷◌, ◌++◌, length, get_or, refl, ap, ◌∙◌, arith}
use Rattle.std.specs.List.{flat_map}
use Rattle.std.specs.Str.{IsAscii, IsUtf8}
use Rattle.std.proofs.lemmas.Bool.Decides.{nat_tests}
use Rattle.std.proofs.lemmas.Str.{IsUtf8-from_ascii}
use Rattle.blocks.specs.Blocks.{AllBytes, bytes_of}
use Rattle.blocks.proofs.Numbers.{bytes_of_bytes}
use Rattle.digits.specs.Hex.{digit, hex, block_text}

pub hex-pairs : (bs : List ℕ) (ps : List (List ℕ)) → length ps ≡ length bs
    → ((i : ℕ) → i < length bs → get_or ps i [] ≡ digit (get_or bs i 0 / 16) ∷ digit (get_or bs i 0 % 16) ∷ [])
    → flat_map (λ p. p) ps ≡ hex bs
hex-pairs [] [] l h = refl
hex-pairs [] (p ∷ ps) l h = absurd (omega arith)
hex-pairs (b ∷ bs) [] l h = absurd (omega arith)
hex-pairs (b ∷ bs) (p ∷ ps) l h =
    ap (λ (x : List ℕ). x ++ flat_map (λ p. p) ps) (h 0 (omega arith))
    ∙ ap (λ (x : List ℕ). digit (b / 16) ∷ digit (b % 16) ∷ x) (hex-pairs bs ps (omega arith) (λ i k. h (suc i) (omega arith)))

digit_ascii : (d : ℕ) → d < 16 → digit d < 128
digit_ascii d h = grind (arith, nat_tests)

hex_ascii : (bs : List ℕ) → AllBytes bs → IsAscii (hex bs)
hex_ascii [] h i = omega arith
hex_ascii (b ∷ bs) h zero = let k = h.0 in digit_ascii (b / 16) (omega arith)
hex_ascii (b ∷ bs) h (suc zero) = digit_ascii (b % 16) (omega arith)
hex_ascii (b ∷ bs) h (suc (suc i)) = hex_ascii bs h.1 i

pub block_text-IsUtf8 : (b : ℕ) → IsUtf8 (block_text b)
block_text-IsUtf8 b = IsUtf8-from_ascii (block_text b) (hex_ascii (bytes_of 16 b) (bytes_of_bytes 16 b))
