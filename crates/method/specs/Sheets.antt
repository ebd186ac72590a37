-- The limits of a sheet, tested one after another. Assumes nothing.
-- within N h c t x: x for a sheet of nonce N with a header of h bytes, a message of c and a tag of t, or the first limit that it
-- does not keep: of the tag's length, the nonce, the header's length, and the message's.
use Rattle.std.specs.Prelude.{ℕ, if◌then◌else◌, Ok, Err, nat_le}
use Rattle.refusals.specs.Answers.{Answer}
use Rattle.method.specs.Limits.{header_limit, message_limit, tag_fits, nonce_fits, header_too_long, message_too_long, bad_tag_length, bad_nonce}

abbrev pub within : {A : Type 0} → ℕ → ℕ → ℕ → ℕ → Answer A → Answer A
within N h c t x =
    if tag_fits t
    then (if nonce_fits N
    then (if nat_le h header_limit
    then (if nat_le c message_limit then x else Err message_too_long)
    else Err header_too_long)
    else Err bad_nonce)
    else Err bad_tag_length

abbrev pub limits_answer : ℕ → ℕ → ℕ → ℕ → Answer (Unit {0})
limits_answer N h c t = within N h c t (Ok tt)
