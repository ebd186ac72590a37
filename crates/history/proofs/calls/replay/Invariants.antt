-- The calls so far are a run that sealer and drafts hold; the calls to come have their buffers, and there is space for all.
use Rattle.std.proofs.Common.{◌≡◌, ◌≤◌, map, length, take, vec_items, vec_len, vec_capacity}
use Rattle.chm.specs.Sealers.{sealer_standing}
use Rattle.history.specs.Held.{Reached}
use Rattle.history.specs.Runs.{asked, said}
use Rattle.history.proofs.calls.replay.Given as goal

abbrev pub invariant-loop-call : goal.invariant-loop-call
invariant-loop-call g l =
    Reached (g.C.Permutation.image l.initial.sealer.cipher) (sealer_standing g.S.MarkStore.meaning l.initial.sealer).store
    (map asked (take (length l.yielded) l.calls)) (map said (vec_items l.replies))
    (sealer_standing g.S.MarkStore.meaning l.sealer) (vec_items l.drafts)
    × (l.sealer.cipher ≡ l.initial.sealer.cipher)
    × (vec_len l.drafts ≤ length l.yielded) × (length l.calls ≤ vec_capacity l.drafts)
    × (vec_len l.replies ≡ length l.yielded) × (length l.calls ≤ vec_capacity l.replies)
