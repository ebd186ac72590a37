-- A turn of the loop is one call more of the run; at the end every run with these calls and answers is known to keep the law.
use Rattle.std.proofs.Common.{◌≡◌, true, ◌++◌, ◌∷◌, [], map, length, take, None, vec_items, sym, refl, ap, ◌∙◌, subst, arith, rules}
use Rattle.std.proofs.lemmas.Iterator.{YieldsList-from_slice, YieldsList-from_zip}
use Rattle.std.proofs.lemmas.Iterator.Adapters.{YieldsList-from_vec}
use Rattle.std.proofs.lemmas.Iterator.Consumers.{YieldsList-turn, YieldsList-end}
use Rattle.std.proofs.lemmas.List.{take_all, map_more, map_push, length_push}
use Rattle.std.proofs.lemmas.Slice.Zip.{length-zip, AllZip-long}
use Rattle.chm.specs.Sealers.{sealer_standing, standing}
use Rattle.history.proofs.Reach.{reached_none, reached_more, reached_all}
use Rattle.history.proofs.Rooms.{zipped_at, AllZip-at}
use Rattle.history.specs.Held.{Answered}
use Rattle.history.specs.Laws.{Histories}
use Rattle.history.specs.Runs.{asked, said}
use Rattle.history.specs.Slots.{RoomFor}
use Rattle.history.proofs.calls.replay.Goals as goal

pub loop-call-init : goal.loop-call-init
loop-call-init g c =
    let d = c.in_ok-drafts.ensures in
    let r = c.in_ok-replies.ensures in
    let m = g.S.MarkStore.meaning in
    let s = c.new-sealer.result in
    let stands = c.new-sealer.ensures.stands in (
      reached_none (g.C.Permutation.image s.cipher) (m s.store) _ _ _ (ap (map said) r.items) (stands ∙ ap (λ x. standing x.store true None) (sym stands)) d.items,
      refl,
      omega arith,
      omega arith,
      r.len,
      omega arith,
    )

-- the buffer of the turn's call is that which was made for it
pub answer-requires-clause-room : goal.answer-requires-clause-room
answer-requires-clause-room g c =
    let calls = c.args.calls.now in
    let outs = vec_items c.in_ok-outs.outs in
    let n = length c.loop-call.yielded in
    let call = c.in-Some.call.now in
    let at = zipped_at calls outs (call, c.in-Some.out) n (YieldsList-turn (YieldsList-from_zip (YieldsList-from_slice calls (search rules)) (YieldsList-from_vec outs (search rules) (search rules)))
    c.loop-call.yielded _ c.loop-call.yielded_by _ c.next.new.self (c.in-Some.call, c.in-Some.out) c.in-Some.is c.next.ensures.steps) in
    rw (at.1, at.2) (AllZip-at (λ k o. RoomFor (asked k) o) calls outs n call c.in-Some.out c.in_ok-outs.ensures at.0)

pub loop-call-preserved : goal.loop-call-preserved
loop-call-preserved g c =
    let i = c.loop-call.invariant in
    let a = c.answer.ensures in
    let p = c.push_reserved.ensures in
    let m = g.S.MarkStore.meaning in
    let image = g.C.Permutation.image in
    let calls = c.args.calls.now in
    let outs = vec_items c.in_ok-outs.outs in
    let so_far = c.loop-call.yielded in
    let n = length so_far in
    let call = c.in-Some.call.now in
    let out = c.in-Some.out in
    let at = zipped_at calls outs (call, out) n (YieldsList-turn (YieldsList-from_zip (YieldsList-from_slice calls (search rules)) (YieldsList-from_vec outs (search rules) (search rules)))
    so_far _ c.loop-call.yielded_by _ c.next.new.self (c.in-Some.call, out) c.in-Some.is c.next.ensures.steps) in
    let first = c.new-sealer.result in
    let was = sealer_standing m c.loop-call.sealer in
    let stands = sealer_standing m c.answer.new.sealer in
    let ds = vec_items c.loop-call.drafts in
    let ds' = vec_items c.answer.new.drafts in
    let reply = c.answer.result in
    let answered : Answered (image first.cipher) was ds (asked call) (said reply) stands ds' =
    subst (λ k. Answered (image k) was ds (asked call) (said reply) stands ds') i.1 a.answered in
    let long = length_push so_far (c.in-Some.call, out) in (
      reached_more (image first.cipher) (m first.store) (map asked (take n calls)) _ (map said (vec_items c.loop-call.replies)) _ was stands ds ds' (asked call) (said reply)
          (g.met.S.MarkStore.lawful first.store) i.0 answered
          (ap (λ k. map asked (take k calls)) long ∙ map_more asked calls n call at.0 ∙ ap (λ x. map asked (take n calls) ++ asked x ∷ []) (sym at.1))
          (ap (map said) p.items ∙ map_push said (vec_items c.loop-call.replies) reply),
      a.cipher ∙ i.1,
      omega (arith, long),
      omega arith,
      omega (arith, long),
      omega arith,
    )

pub returns : goal.returns
returns g c =
    let i = c.loop-call.invariant in
    let m = g.S.MarkStore.meaning in
    let image = g.C.Permutation.image in
    let calls = c.args.calls.now in
    let outs = vec_items c.in_ok-outs.outs in
    let n = length c.loop-call.yielded in
    let end = YieldsList-end (YieldsList-from_zip (YieldsList-from_slice calls (search rules)) (YieldsList-from_vec outs (search rules) (search rules)))
    c.loop-call.yielded _ c.loop-call.yielded_by _ c.next.new.self c.in-None.is c.next.ensures.steps in
    let first = c.new-sealer.result in
    let rs = map said (vec_items c.loop-call.replies) in
    let all = take_all n calls (omega (arith, end.1, length-zip calls outs, AllZip-long (λ k o. RoomFor (asked k) o) calls outs c.in_ok-outs.ensures)) in
    let over : m first.store ≡ m c.args.store = ap (λ s. s.store) c.new-sealer.ensures.stands in
    let done = reached_all (image first.cipher) (m first.store) (map asked (take n calls)) rs _ _ (g.met.C.Permutation.apart first.cipher) (g.met.S.MarkStore.lawful first.store) i.0 in
    subst (λ k. Histories (image k) (m c.args.store) (map asked calls) rs) c.new-sealer.ensures.cipher
    (subst (λ s. Histories (image first.cipher) s (map asked calls) rs) over
    (subst (λ l. Histories (image first.cipher) (m first.store) (map asked l) rs) all done))
