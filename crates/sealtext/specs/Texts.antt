-- The text that an input is answered with. Assumes nothing.
-- told_line word n: a word, a number in decimal digits, and a line feed.
-- sheetseal_text cs: the answer to the input cs: the lines of a sheet, or one line that tells the bad line or the refusal.
-- on_front text out: a buffer with a text at its front, and the rest as it was.
use Rattle.std.specs.Prelude.{ℕ, List, [], ◌∷◌, ◌++◌, length, drop, Ok, Err, codes, decimal, Result}
use Rattle.refusals.specs.Answers.{Answer}
use Rattle.inputlines.specs.Lines.{feed}
use Rattle.sealtext.specs.Inputs.{Input, parsed}
use Rattle.sealtext.specs.Seals.{seal_input}

abbrev pub told_line : List ℕ → ℕ → List ℕ
told_line word n = word ++ (decimal n ++ feed ∷ [])

-- the lines, or the number of the refusal
abbrev pub answer_text : Answer (List ℕ) → List ℕ
answer_text (Ok lines) = lines
answer_text (Err t) = told_line (codes "refused ") t.0

-- the number of the bad line, or what the input is sealed to
abbrev pub input_text : Result Input ℕ → List ℕ
input_text (Ok i) = answer_text (seal_input i)
input_text (Err n) = told_line (codes "bad line ") n

unfoldable pub sheetseal_text : List ℕ → List ℕ
sheetseal_text cs = input_text (parsed cs)

abbrev pub on_front : List ℕ → List ℕ → List ℕ
on_front text out = text ++ drop (length text) out

-- the lines to the front; a refusal leaves the buffer
abbrev pub answer_front : Answer (List ℕ) → List ℕ → List ℕ
answer_front (Ok lines) out = on_front lines out
answer_front (Err t) out = out
