-- The word, then a byte after another.
use Rattle.std.proofs.Common.{◌≡◌, ◌∙◌, arith}
use Rattle.sealtext.proofs.Fronts.{put_one, put_two}
use Rattle.sealtext.proofs.text.put_told.Goals as goal

pub returns-then-number-lt10 : goal.returns-then-number-lt10
returns-then-number-lt10 c =
    let s = c.copy_from_slice in
    let copied : s.new.self ≡ c.args.word.now = s.ensures.after ∙ c.as_bytes.ensures.value in
    let p = put_one c.args.word.now s.new.self c.args.out.now c.args.number copied c.requires.room (omega arith) in
    record { count = p.count_is; wrote = p.buffer_is }

pub returns-else-number-lt10 : goal.returns-else-number-lt10
returns-else-number-lt10 c =
    let s = c.copy_from_slice in
    let copied : s.new.self ≡ c.args.word.now = s.ensures.after ∙ c.as_bytes.ensures.value in
    let p =
    put_two c.args.word.now s.new.self c.args.out.now c.args.number copied c.requires.room (omega arith) (omega arith) in
    record { count = p.count_is; wrote = p.buffer_is }
