-- Orders to a mark store, as lines, and what they do. Assumes nothing.
-- supply_of cs: what a text of power (8 digits), a space and leftover (2 digits) hands to a store.
-- order_of cs: the order that a line gives, `raise` or `restart` with a supply.
-- reply_text r: a reply as it is printed.
-- order_answer o s, obeyed o s: what the store s answers to an order, and what it then is.
use Rattle.std.specs.Prelude.{ℕ, cond, List, ◌++◌, Some, None, Ok, Err, codes, decimal, Option}
use Rattle.std.specs.Str.{bytes_eq}
use Rattle.digits.specs.Digits.{number_of}
use Rattle.refusals.specs.Answers.{Answer, answered}
use Rattle.stores.specs.Store.{Store, raise_told, raise_answer, raised, restarted}
use Rattle.words.specs.Splits.{Parts, parted}
use Rattle.storelines.specs.declared.order.Order.{Order}
use Rattle.storelines.specs.declared.order.Order.TheVariants as order
use Rattle.storelines.specs.declared.order.Reply.{Reply}
use Rattle.storelines.specs.declared.order.Reply.TheVariants as reply
use Rattle.stores.specs.declared.supply.Supply.{Supply}

abbrev pub supply_from : Option ℕ → Option ℕ → Option Supply
supply_from None v = None
supply_from (Some p) None = None
supply_from (Some p) (Some v) = Some record { power = p; leftover = v }

abbrev pub supply_parts : Parts → Option Supply
supply_parts None = None
supply_parts (Some p) = supply_from (number_of 8 p.0) (number_of 2 p.1)

abbrev pub supply_of : List ℕ → Option Supply
supply_of cs = supply_parts (parted cs)

abbrev pub restart_with : Option Supply → Option Order
restart_with None = None
restart_with (Some s) = Some (order.Restart s)

abbrev pub order_parts : Parts → Option Order
order_parts None = None
order_parts (Some p) = cond (bytes_eq p.0 (codes "restart")) (restart_with (supply_of p.1)) None

abbrev pub order_of : List ℕ → Option Order
order_of cs = cond (bytes_eq cs (codes "raise")) (Some order.Raise) (order_parts (parted cs))

abbrev pub some_mark : Answer ℕ → Answer (Option ℕ)
some_mark (Ok m) = Ok (Some m)
some_mark (Err t) = Err t

-- a reply, by the mark that it tells, if any
abbrev pub reply_answer : Reply → Answer (Option ℕ)
reply_answer (reply.Raised r) = some_mark (answered raise_told r)
reply_answer reply.Restarted = Ok None

-- a reply, as it is printed
abbrev pub reply_text : Reply → List ℕ
reply_text (reply.Raised (Ok m)) = codes "raised from " ++ decimal m
reply_text (reply.Raised (Err f)) = codes "refused " ++ decimal (raise_told f).0
reply_text reply.Restarted = codes "restarted"

abbrev pub order_answer : Order → Store → Answer (Option ℕ)
order_answer order.Raise s = some_mark (raise_answer s)
order_answer (order.Restart p) s = Ok None

abbrev pub obeyed : Order → Store → Store
obeyed order.Raise s = raised s
obeyed (order.Restart p) s = restarted s p.power p.leftover
