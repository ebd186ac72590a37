-- A turn reads two digits and puts one byte more at the buffer's front.
use Rattle.std.proofs.Common.{◌≡◌, ℕ, ◌/◌, ◌<◌, List, [], ◌++◌, map, length, get_or, take, drop, set, refl, sym, ap, ◌∙◌, arith}
use Rattle.std.proofs.lemmas.List.{get_or-map, get_or-take, length-take-le}
use Rattle.std.specs.Simd.{first_chunks}
use Rattle.digits.specs.Hex.{unhex}
use Rattle.digits.proofs.Hexes.{pair_value, length-unhex, unhex_pairs, front-more, front_all}
use Rattle.digits.proofs.codec.decode.Goals as goal

pair_at : (cs : List ℕ) (ps : List (List ℕ)) (n i : ℕ) → ps ≡ first_chunks 2 (length cs / 2) cs → i < n → i < length ps
    → pair_value (get_or (take n ps) i []) ≡ get_or (unhex cs) i 0
pair_at cs ps n i e h l =
    ap pair_value (get_or-take n ps i [] h)
    ∙ sym (get_or-map pair_value ps i [] 0 l)
    ∙ ap (λ qs. get_or (map pair_value qs) i 0) e
    ∙ ap (λ bs. get_or bs i 0) (unhex_pairs cs (length cs / 2) refl)

pub loop-i-preserved : goal.loop-i-preserved
loop-i-preserved c =
    let cs = c.args.text.now in
    let out = c.args.out.now in
    let ps = c.as_chunks.result.0.now in
    let n = c.min-count.result in
    let i = c.loop-i.i in
    let u = length-unhex cs in
    let all : length (take n ps) ≡ n = length-take-le n ps (omega arith) in
    ap (λ (y : List ℕ). set y i c.byte_at.result) c.loop-i.invariant
    ∙ ap (set (take i (unhex cs) ++ drop i out) i) (c.byte_at.ensures ∙ pair_at cs ps n i c.as_chunks.ensures.front (omega arith) (omega arith))
    ∙ front-more (unhex cs) out i (omega arith) (omega arith)

pub returns : goal.returns
returns c =
    let cs = c.args.text.now in
    let ps = c.as_chunks.result.0.now in
    let n = c.min-count.result in
    let u = length-unhex cs in
    let all : length (take n ps) ≡ n = length-take-le n ps (omega arith) in
    c.loop-i.invariant ∙ front_all (unhex cs) c.args.out.now c.loop-i.i (omega arith)
