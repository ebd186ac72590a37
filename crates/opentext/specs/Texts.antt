-- The text that an input with a sheet's lines is answered with. Assumes nothing.
-- told_line word n tail: a word, a number in decimal digits, what else is told, and a line feed.
-- values_of n vs: the values vs that refusal n tells, each after its name; a layer is told by its name.
-- refused_text t: the line that tells a refusal.
-- opened_text E text: header and message of the sheet's lines under a cipher that means E, or the refusal.
-- keyed_text n standard key text: the same under a cipher with keys of n bytes, of which `standard` makes its function.
-- sheetopen_text cs: the answer to the input cs.
use Rattle.std.specs.Prelude.{ℕ, cond, List, [], ◌∷◌, ◌++◌, length, Ok, Err, codes, decimal, Result, ◌==◌, slice_index}
use Rattle.cipherlines.specs.Chosen.{key_bytes, standard_of}
use Rattle.ciphers.specs.Keys.{wrong_length}
use Rattle.inputlines.specs.Openings.{Opened, opened}
use Rattle.method.specs.Limits.{header_limit, message_limit}
use Rattle.method.specs.Published.{crypt}
use Rattle.refusals.specs.Answers.{Told, Answer}
use Rattle.refusals.specs.Layers.{line_layer, sheet_layer}
use Rattle.sheetlines.specs.Lines.{feed, line_of}
use Rattle.sheetlines.specs.Sheets.{header_of, cipher_of}
use Rattle.sheetlines.specs.declared.fields.Fields.{Fields}
use Rattle.sheetopener.specs.Opens.{open_answer}

abbrev pub told_line : List ℕ → ℕ → List ℕ → List ℕ
told_line word n tail = word ++ (decimal n ++ (tail ++ feed ∷ []))

abbrev pub layer_text : ℕ → List ℕ
layer_text v = cond (v == line_layer) (codes " layer line") (cond (v == sheet_layer) (codes " layer sheet") (codes " layer seal"))

-- line, column and layer
abbrev pub place_values : List ℕ → List ℕ
place_values vs = codes " line " ++ (decimal (slice_index vs 0) ++ (codes " column " ++ (decimal (slice_index vs 1) ++ layer_text (slice_index vs 2))))

-- field and layer
abbrev pub field_values : List ℕ → List ℕ
field_values vs = codes " field " ++ (decimal (slice_index vs 0) ++ layer_text (slice_index vs 1))

abbrev pub values_of : ℕ → List ℕ → List ℕ
values_of n vs =
    cond (n == 8) (codes " buffer " ++ decimal (slice_index vs 0))
    (cond (n == 11) (place_values vs)
    (cond (n == 12) (place_values vs)
    (cond (n == 13) (field_values vs)
    (cond (n == 14) (layer_text (slice_index vs 0))
    (cond (n == 15) (layer_text (slice_index vs 0)) [])))))

abbrev pub refused_text : Told → List ℕ
refused_text t = told_line (codes "refused ") t.0 (values_of t.0 t.1)

-- header and message, a line of digits each
abbrev pub sheet_text : (ℕ → ℕ) → List ℕ → Answer Fields → List ℕ
sheet_text E text (Ok f) = line_of (header_of f text) ++ line_of (crypt E f.nonce (cipher_of f text))
sheet_text E text (Err t) = refused_text t

-- the buffers are as long as header and message can be
abbrev pub opened_text : (ℕ → ℕ) → List ℕ → List ℕ
opened_text E text = sheet_text E text (open_answer E text header_limit message_limit)

-- the key is judged first
abbrev pub keyed_text : ℕ → (List ℕ → ℕ → ℕ) → List ℕ → List ℕ → List ℕ
keyed_text n standard key text = cond (length key == n) (opened_text (standard key) text) (refused_text wrong_length)

abbrev pub named_text : Opened → List ℕ
named_text o = keyed_text (key_bytes o.name) (standard_of o.name) o.key o.rest

-- the number of the first bad line, or what the rest opens to
abbrev pub input_text : Result Opened ℕ → List ℕ
input_text (Ok o) = named_text o
input_text (Err n) = told_line (codes "bad line ") n []

unfoldable pub sheetopen_text : List ℕ → List ℕ
sheetopen_text cs = input_text (opened cs)
