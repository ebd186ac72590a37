-- The drafts that a caller keeps, by number: what a call on one of them answers, and what it makes of its place. Assumes nothing.
use Rattle.std.specs.Prelude.{◌≡◌, ℕ, List, [], ◌∷◌, Some, None, Ok, Err, vec_len, Option, Vec}
use Rattle.std.specs.declared.alloc.Global.{Global}
use Rattle.chm.specs.Drafts.{head_answer, headed, body_answer, bodied, sealed}
use Rattle.chm.specs.Words.{sent}
use Rattle.chm.specs.declared.draft.Draft.{Draft}
use Rattle.refusals.specs.Answers.{Answer}
use Rattle.history.specs.Runs.{Asked, begin, head, body, finish, restart, Said, begun, refused, taken, wrote, finished, no_draft}

abbrev pub begin_said : ℕ → Answer Draft → Said
begin_said n (Ok d) = begun n
begin_said n (Err t) = refused t

abbrev pub new_slot : Answer Draft → List (Option Draft)
new_slot (Ok d) = Some d ∷ []
new_slot (Err t) = []

abbrev pub done_said : Said → Answer (Unit {0}) → Said
done_said s (Ok u) = s
done_said s (Err t) = refused t

abbrev pub head_said : Option Draft → List ℕ → Said
head_said None p = no_draft
head_said (Some d) p = done_said taken (head_answer d p)

abbrev pub head_slot : Option Draft → List ℕ → Option Draft
head_slot None p = None
head_slot (Some d) p = Some (headed d p)

abbrev pub body_said : (ℕ → ℕ) → Option Draft → List ℕ → ℕ → Said
body_said E None p room = no_draft
body_said E (Some d) p room = done_said (wrote (sent E d.nonce d.words p)) (body_answer d p room)

abbrev pub body_slot : (ℕ → ℕ) → Option Draft → List ℕ → ℕ → Option Draft
body_slot E None p room = None
body_slot E (Some d) p room = Some (bodied E d p room)

abbrev pub finish_said : Option Draft → Said
finish_said None = no_draft
finish_said (Some d) = finished (sealed d).nonce (sealed d).tag_len (sealed d).tag

-- a body has a buffer of the length that it asks for
abbrev pub RoomFor : Asked → Option (Vec ℕ Global) → Type 0
RoomFor (begin t) o = Unit {0}
RoomFor (head n p) o = Unit {0}
RoomFor (body n p room) o = (v : Vec ℕ Global) × (o ≡ Some v) × (vec_len v ≡ room)
RoomFor (finish n) o = Unit {0}
RoomFor (restart p v) o = Unit {0}
