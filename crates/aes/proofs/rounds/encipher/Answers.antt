-- A turn is a round more.
use Rattle.std.proofs.Common.{◌≡◌, ℕ, suc, ◌+◌, ◌<◌, List, take, drop, get_or, refl, ap, ◌∙◌, arith}
use Rattle.std.proofs.lemmas.List.{get_or-take}
use Rattle.std.proofs.lemmas.Grind.{get_or_after_one}
use Rattle.aes.specs.declared.RoundKey.{RoundKey}
use Rattle.aes.specs.Cipher.{round, final_round, rounds}
use Rattle.aes.specs.Keyed.{blank, held}
use Rattle.aes.specs.State.{State}
use Rattle.aes.proofs.rounds.encipher.Goals as goal

rounds_turn : (ks : List RoundKey) (s t u : State) (i : ℕ) → i < 9
    → u ≡ round (get_or (take 9 (drop 1 ks)) i blank).columns t → t ≡ rounds i (held ks) s → u ≡ rounds (i + 1) (held ks) s
unfolding rounds
rounds_turn ks s t u i h e before =
    let one : 1 + i ≡ suc i = omega arith in
    let at : get_or (take 9 (drop 1 ks)) i blank ≡ get_or ks (suc i) blank =
    get_or-take 9 (drop 1 ks) i blank h ∙ get_or_after_one ks i blank ∙ ap (λ n. get_or ks n blank) one in
    let next : suc i ≡ i + 1 = omega arith in
    e ∙ (λ j. round (at j).columns (before j)) ∙ ap (λ n. rounds n (held ks) s) next

pub loop-key-init : goal.loop-key-init
unfolding rounds
loop-key-init c = refl

pub loop-key-preserved : goal.loop-key-preserved
loop-key-preserved c =
    rounds_turn c.args.keys.now c.add_round_key-t.result c.loop-key.t c.round-next.result c.loop-key.key-index (omega arith)
    c.round-next.ensures c.loop-key.invariant

pub returns : goal.returns
returns c =
    let w = held c.args.keys.now in
    let done : c.loop-key.key-index ≡ 9 = omega arith in
    c.final_round.ensures
    ∙ ap (final_round (w 10)) (c.loop-key.invariant ∙ (λ j. rounds (done j) w (c.add_round_key-t.ensures j)))
