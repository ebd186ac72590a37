-- Each arm is the answer of one call.
use Rattle.std.proofs.Common.{◌≡◌, ℕ, List, length, get_or, set, Some, None, vec_items, vec_len, Option, Vec, sym, ap, ◌∙◌, subst, arith}
use Rattle.std.proofs.lemmas.List.{length-append, length-set, with_items_is}
use Rattle.std.specs.Vec.{with_items}
use Rattle.std.specs.declared.alloc.Global.{Global}
use Rattle.chm.specs.Sealers.{sealer_standing, begin_answer}
use Rattle.chm.specs.declared.draft.Draft.{Draft}
use Rattle.history.proofs.Answered.{begin-answered, head-answered, body-answered, finish-answered, restart-answered, new_slot_le}
use Rattle.history.specs.Runs.{asked, body}
use Rattle.history.specs.Slots.{new_slot, head_said, head_slot, body_said, body_slot, finish_said, RoomFor}
use Rattle.history.proofs.calls.answer.Goals as goal

-- the places that were lent as a slice are those that the vector holds after
given_back : (v : Vec (Option Draft) Global) (ds l : List (Option Draft)) (n : ℕ) (x : Option Draft) → ds ≡ set l n x → l ≡ vec_items v
    → vec_items (with_items v ds) ≡ set l n x
given_back v ds l n x e lent =
    with_items_is v ds (omega (arith, v.ok.0, simp length-set at (ap length e), ap length lent)) ∙ e

pub returns-in-Begin-clause-answered : goal.returns-in-Begin-clause-answered
returns-in-Begin-clause-answered g c =
    let E = g.C.Permutation.image c.args.sealer.now.cipher in
    let s = sealer_standing g.S.MarkStore.meaning c.args.sealer.now in
    let k = c.begin_one.ensures in
    begin-answered E s _ (vec_items c.args.drafts.now) _ _ c.in-Begin.tag_len _ _ (ap asked c.in-Begin.is) c.args.drafts.now.ok.0 k.answer k.stands k.items

pub returns-in-Begin-clause-longer : goal.returns-in-Begin-clause-longer
returns-in-Begin-clause-longer g c =
    let b = begin_answer (g.C.Permutation.image c.args.sealer.now.cipher) (sealer_standing g.S.MarkStore.meaning c.args.sealer.now) c.in-Begin.tag_len in
    omega (arith, c.args.drafts.now.ok.0, c.begin_one.new.drafts.ok.0, ap length c.begin_one.ensures.items, length-append (vec_items c.args.drafts.now) (new_slot b), new_slot_le b)

pub returns-in-Head-clause-answered : goal.returns-in-Head-clause-answered
returns-in-Head-clause-answered g c =
    let E = g.C.Permutation.image c.args.sealer.now.cipher in
    let n = c.in-Head.draft in
    let P = c.in-Head.piece.now in
    let k = c.head_one.ensures in
    let lent = c.deref_mut.ensures.value in
    head-answered E _ _ _ n P _ _ k.bytes (ap asked c.in-Head.is)
    (k.answer ∙ ap (λ l. head_said (get_or l n None) P) lent)
    (given_back c.args.drafts.now c.head_one.new.drafts _ n _ k.items lent ∙ ap (λ l. set l n (head_slot (get_or l n None) P)) lent)

-- the buffer that was handed in has the length that was asked for
room_is : (n : ℕ) (P : List ℕ) (room : ℕ) (o : Option (Vec ℕ Global)) (v : Vec ℕ Global) → RoomFor (body n P room) o → o ≡ Some v → vec_len v ≡ room
room_is n P room o v w e = let same : w.0 ≡ v = cc in ap vec_len (sym same) ∙ w.2

pub returns-in-Some-clause-answered : goal.returns-in-Some-clause-answered
returns-in-Some-clause-answered g c =
    let E = g.C.Permutation.image c.args.sealer.now.cipher in
    let n = c.in-Body.draft in
    let P = c.in-Body.piece.now in
    let k = c.body_one.ensures in
    let is = ap asked c.in-Body.is in
    let room = room_is n P _ c.args.out c.in-Some.out (subst (λ a. RoomFor a c.args.out) is c.requires.room) c.in-Some.is in
    let same = ap g.C.Permutation.image c.cipher.ensures in
    let lent = c.deref_mut-in-Some.ensures.value in
    body-answered E _ _ _ n P c.in-Body.room _ _ k.bytes is
    (k.answer ∙ (λ i. body_said (same i) (get_or (lent i) n None) P (room i)))
    (given_back c.args.drafts.now c.body_one.new.drafts _ n _ k.items lent ∙ (λ i. set (lent i) n (body_slot (same i) (get_or (lent i) n None) P (room i))))

pub returns-in-Finish-clause-answered : goal.returns-in-Finish-clause-answered
returns-in-Finish-clause-answered g c =
    let E = g.C.Permutation.image c.args.sealer.now.cipher in
    let n = c.in-Finish.draft in
    let k = c.finish_one.ensures in
    let lent = c.deref_mut-in-Finish.ensures.value in
    finish-answered E _ _ _ n _ _ (ap asked c.in-Finish.is)
    (k.answer ∙ ap (λ l. finish_said (get_or l n None)) lent)
    (given_back c.args.drafts.now c.finish_one.new.drafts _ n _ k.items lent ∙ ap (λ l. set l n None) lent)

pub returns-in-Restart-clause-answered : goal.returns-in-Restart-clause-answered
returns-in-Restart-clause-answered g c =
    let E = g.C.Permutation.image c.args.sealer.now.cipher in
    let supply = c.in-Restart.supply in
    restart-answered E _ _ _ supply.power supply.leftover _ (ap asked c.in-Restart.is) c.restart.ensures.after
