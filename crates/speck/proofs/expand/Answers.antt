-- A turn writes one round key, and takes the schedule one round on.
use mathlib.Core.Path.{◌≡◌, refl, sym, ap, ◌∙◌}
use mathlib.Core.List.{List}
use Prim.Native.Nat.{ℕ, ◌+◌, ◌<◌}
use native.Mathlib.Numerals.{add-one}
use native.Mathlib.Omega.{arith}
use borrow.Author.Count.{below_more}
use lib.ListN.{length, get_or, set, length-set}
use lib.Seq.{get_or-set_same, get_or-set_other}
use mathlib.Core.Logic.{◌≢◌}
use Rattle.speck.specs.Rounds.{Schedule, schedule, first_schedule, round_key}
use Rattle.speck.proofs.Keys.{schedule_none, schedule-more, keyed}
use Rattle.speck.proofs.expand.Goals as goal

-- the places so far, and one more
more_keys : (key keys : List ℕ) (i : ℕ) (s : Schedule) → i < length keys → s ≡ schedule key i → ((j : ℕ) → j < i → get_or keys j 0 ≡ round_key key j)
    → (j : ℕ) → j < i + 1 → get_or (set keys i s.k) j 0 ≡ round_key key j
more_keys key keys i s h e before =
    below_more (λ j. get_or (set keys i s.k) j 0 ≡ round_key key j) i
    (λ j l. let ne : j ≢ i = omega arith in rw get_or-set_other (before j l))
    (rw get_or-set_same (ap (λ (t : Schedule). t.k) e))

pub loop-i-init : goal.loop-i-init
loop-i-init c =
    let first : Schedule = record { k = c.word_of-k.result; l = c.word_of-l.result; l1 = c.word_of-l1.result; l2 = c.word_of-l2.result } in
    let is : first ≡ first_schedule c.args.key.now =
    λ i. record { k = c.word_of-k.ensures i; l = c.word_of-l.ensures i; l1 = c.word_of-l1.ensures i; l2 = c.word_of-l2.ensures i } in
    (refl, λ j h. let z : ⊥ = omega arith in absurd z, is ∙ schedule_none c.args.key.now)

pub loop-i-preserved : goal.loop-i-preserved
loop-i-preserved c =
    let p = c.loop-i in
    let s : Schedule = record { k = p.k; l = p.l; l1 = p.l1; l2 = p.l2 } in
    let key = c.args.key.now in (
      simp length-set p.invariant.0,
      more_keys key p.key-items p.i s (omega arith) p.invariant.2 p.invariant.1,
      schedule-more key p.i s c.next_words-next_l.result p.invariant.2 c.next_words-next_l.ensures ∙ ap (schedule key) (sym (add-one p.i)),
    )

pub returns : goal.returns
returns c =
    let p = c.loop-i in
    keyed c.args.key.now p.key-items (λ j h. p.invariant.1 j (omega arith))
