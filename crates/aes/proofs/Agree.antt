-- Round keys that agree with those of a key give its images. Assumes nothing.
use Rattle.std.proofs.Common.{◌≡◌, ℕ, zero, suc, ◌<◌, List, refl, ap, ◌∙◌, arith}
use Rattle.blocks.specs.Blocks.{number, bytes_of}
use Rattle.aes.specs.declared.RoundKey.{RoundKey}
use Rattle.aes.specs.Cipher.{round, final_round, rounds, cipher, round_key, aes_128}
use Rattle.aes.specs.Keyed.{held, keys_image}
use Rattle.aes.specs.State.{State, input, output, add_round_key}

rounds_agree : (n : ℕ) (w v : ℕ → State) → ((i : ℕ) → i < suc n → w i ≡ v i) → (s : State) → rounds n w s ≡ rounds n v s
unfolding rounds
rounds_agree zero w v e s = refl
rounds_agree (suc n) w v e s = λ i. round (e (suc n) (omega arith) i) (rounds_agree n w v (λ j h. e j (omega arith)) s i)

cipher_agree : (w v : ℕ → State) → ((i : ℕ) → i < 11 → w i ≡ v i) → (s : State) → cipher w s ≡ cipher v s
cipher_agree w v e s =
    let nine : rounds 9 w (add_round_key (w 0) s) ≡ rounds 9 v (add_round_key (v 0) s) =
    rounds_agree 9 w v (λ j h. e j (omega arith)) (add_round_key (w 0) s)
    ∙ ap (λ k. rounds 9 v (add_round_key k s)) (e 0 (omega arith)) in
    λ i. final_round (e 10 (omega arith) i) (nine i)

pub expanded_image : (key : List ℕ) (ks : List RoundKey) → ((i : ℕ) → i < 11 → held ks i ≡ round_key key i) → keys_image ks ≡ aes_128 key
expanded_image key ks e = λ i b. number (output (cipher_agree (held ks) (round_key key) e (input (bytes_of 16 b)) i))
