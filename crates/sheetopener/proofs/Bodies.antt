-- The lines of a ciphertext read one after another: what they tell. Assumes nothing.
use Rattle.std.proofs.Common.{◌≡◌, ℕ, ◌+◌, ◌*◌, ◌≤◌, List, [], ◌∷◌, length, take, drop, refl, ap, ◌∙◌, arith}
use Rattle.std.proofs.lemmas.List.{length-take-le}
use Rattle.blocks.proofs.Bytes.{bytes_append}
use Rattle.blocks.specs.Blocks.{AllBytes}
use Rattle.digits.proofs.Hexes.{length-unhex, decoded_all, unhex_bytes}
use Rattle.digits.specs.Hex.{unhex, decoded}
use Rattle.polyhash.specs.Running.{absorbed}
use Rattle.polyhash.specs.declared.running.Running.{Running}
use Rattle.sheetlines.specs.Lines.{bytes_in}

pub length-told : (w : ℕ) (text : List ℕ) → 2 * w ≤ length text → length (unhex (take (2 * w) text)) ≡ w
length-told w text h =
    let long = length-take-le (2 * w) text h in
    length-unhex (take (2 * w) text) ∙ omega arith

-- the digits of a line, decoded into a buffer of its width
pub line_decoded : (w : ℕ) (text ds out new : List ℕ) → new ≡ decoded ds out → ds ≡ take (2 * w) text → 2 * w ≤ length text → length out ≡ w
    → new ≡ unhex (take (2 * w) text)
line_decoded w text ds out new is e h l =
    let long = length-take-le (2 * w) text h in
    is ∙ ap (λ (xs : List ℕ). decoded xs out) e ∙ decoded_all (take (2 * w) text) out (omega arith)

-- what lines tell are bytes
pub told_bytes : (ws text : List ℕ) → AllBytes (bytes_in ws text)
told_bytes [] text = tt
told_bytes (w ∷ ws) text =
    bytes_append (unhex (take (2 * w) text)) (bytes_in ws (drop (2 * w + 1) text)) (unhex_bytes (take (2 * w) text)) (told_bytes ws (drop (2 * w + 1) text))

pub absorbed_none : (s : Running) → s ≡ absorbed s []
unfolding absorbed
absorbed_none s = refl
