-- A loop over the calls, and the run that it makes. Assumes nothing.
use Rattle.std.proofs.Common.{◌≡◌, ℕ, ◌^◌, ◌<◌, true, List, [], ◌∷◌, ◌++◌, None, Option}
use Rattle.chm.specs.Sealers.{Standing, standing}
use Rattle.chm.specs.declared.draft.Draft.{Draft}
use Rattle.stores.specs.Store.{Store, Lawful}
use Rattle.history.proofs.Ended.{ends}
use Rattle.history.proofs.Proved.{law}
use Rattle.history.proofs.Soundness.{run_sound}
use Rattle.history.specs.Held.{Answered, Reached}
use Rattle.history.specs.Laws.{Histories}
use Rattle.history.specs.Runs.{Asked, Said, set_up, no_call, one_more}

pub reached_none : (E : ℕ → ℕ) (s : Store) (rs : List Said) (st : Standing) (ds : List (Option Draft)) → rs ≡ [] → st ≡ standing s true None → ds ≡ []
    → Reached E s [] rs st ds
reached_none E s rs st ds er es ed = rw er record {
  at = set_up s;
  run = no_call;
  held = record { stands = es; drafts = ed };
}

pub reached_more : (E : ℕ → ℕ) (s : Store) (cs cs' : List Asked) (rs rs' : List Said) (st st' : Standing) (ds ds' : List (Option Draft)) (c : Asked) (r : Said)
    → Lawful s → Reached E s cs rs st ds → Answered E st ds c r st' ds' → cs' ≡ cs ++ c ∷ [] → rs' ≡ rs ++ r ∷ [] → Reached E s cs' rs' st' ds'
reached_more E s cs cs' rs rs' st st' ds ds' c r w x a ec er =
    let n = a x.at (run_sound E s w cs rs x.at x.run) x.held in
    record { at = n.after; run = rw (ec, er) (one_more x.run n.answers); held = n.held }

-- the run that the code made, and the law on every run with its calls and answers
pub reached_all : (E : ℕ → ℕ) (s : Store) (cs : List Asked) (rs : List Said) (st : Standing) (ds : List (Option Draft))
    → ((a b : ℕ) → a < 2 ^ 128 → b < 2 ^ 128 → E a ≡ E b → a ≡ b) → Lawful s → Reached E s cs rs st ds → Histories E s cs rs
reached_all E s cs rs st ds apart w x = record {
  end = x.at;
  run = x.run;
  every = λ h q. law E h (run_sound E s w cs rs h q) apart;
  ends = ends E s;
}
