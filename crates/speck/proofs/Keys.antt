-- A cipher that holds the round keys of a key means what the standard says of that key. Assumes nothing.
use mathlib.Core.Path.{◌≡◌, refl, ap, ◌∙◌}
use mathlib.Core.List.{List}
use Prim.Native.Nat.{ℕ, zero, suc, ◌<◌}
use native.Mathlib.Omega.{arith}
use lib.ListN.{get_or}
use Rattle.speck.specs.Keyed.{keys_image}
use Rattle.speck.specs.Rounds.{Words, Schedule, round, rounds, scheduled, schedule, first_schedule, words, joined, round_key, speck}

pub rounds_none : (w : ℕ → ℕ) (v : Words) → rounds 0 w v ≡ v
unfolding rounds
rounds_none w v = refl

pub rounds-more : (n : ℕ) (w : ℕ → ℕ) (v : Words) → rounds (suc n) w v ≡ round (w n) (rounds n w v)
unfolding rounds
rounds-more n w v = refl

pub schedule_none : (key : List ℕ) → first_schedule key ≡ schedule key 0
unfolding schedule
schedule_none key = refl

pub schedule-more : (key : List ℕ) (i : ℕ) (s : Schedule) (w : Words) → s ≡ schedule key i → w ≡ round i (s.l, s.k)
    → record { k = w.1; l = s.l1; l1 = s.l2; l2 = w.0 } ≡ schedule key (suc i)
unfolding schedule scheduled
schedule-more key i s w e f =
    ap (λ (v : Words). record { k = v.1; l = s.l1; l1 = s.l2; l2 = v.0 }) f ∙ ap (scheduled i) e

-- rounds with equal round keys are equal
rounds_same : (n : ℕ) (w u : ℕ → ℕ) (v : Words) → ((i : ℕ) → i < n → w i ≡ u i) → rounds n w v ≡ rounds n u v
unfolding rounds
rounds_same zero w u v h = refl
rounds_same (suc n) w u v h =
    ap (round (w n)) (rounds_same n w u v (λ i l. h i (omega arith))) ∙ ap (λ k. round k (rounds n u v)) (h n (omega arith))

pub keyed : (key keys : List ℕ) → ((i : ℕ) → i < 34 → get_or keys i 0 ≡ round_key key i) → keys_image keys ≡ speck key
keyed key keys h = λ i b. joined (rounds_same 34 (λ j. get_or keys j 0) (round_key key) (words b) h i)
