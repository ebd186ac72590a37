-- Digits decoded into a buffer of half their number. Assumes nothing.
use Rattle.std.proofs.Common.{◌≡◌, ℕ, ◌/◌, ◌≤◌, List, ◌++◌, length, take, drop, ap, ◌∙◌, arith}
use Rattle.std.proofs.lemmas.List.{take_all, drop_all, take_at, append-nil, length-take-le}
use Rattle.digits.proofs.Hexes.{length-unhex}
use Rattle.digits.specs.Hex.{unhex, decoded}

decoded_half : (cs out : List ℕ) → length out ≡ length cs / 2 → decoded cs out ≡ unhex cs
decoded_half cs out h =
    let l = length-unhex cs in
    ap (λ (y : List ℕ). y ++ drop (length (unhex cs)) out) (take_all (length out) (unhex cs) (omega arith))
    ∙ ap (λ (y : List ℕ). unhex cs ++ y) (drop_all (length (unhex cs)) out (omega arith)) ∙ append-nil (unhex cs)

-- the front of the room holds the bytes
pub decoded_in : (cs room made : List ℕ) → length cs / 2 ≤ length room → made ≡ decoded cs (take (length cs / 2) room)
    → take (length cs / 2) (made ++ drop (length cs / 2) room) ≡ unhex cs
decoded_in cs room made h e =
    let k = length cs / 2 in
    let is : made ≡ unhex cs = e ∙ decoded_half cs (take k room) (length-take-le k room h) in
    ap (λ (y : List ℕ). take k (y ++ drop k room)) is ∙ take_at (unhex cs) (drop k room) k (length-unhex cs)
