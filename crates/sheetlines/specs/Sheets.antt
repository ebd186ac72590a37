-- The lines of a sheet, and what reading a text as such lines answers. Assumes nothing.
-- frames_of m: how many bytes of a ciphertext of m bytes stand on each line: a frame a line.
-- first_bytes N m h t: the fifteen bytes that line 1 tells: the nonce, the lengths of message and header, and that of the tag.
-- lines_of N h c t: the lines of the sheet with nonce N, header h, ciphertext c and tag t.
-- fields_of text: the fields that line 1 tells.
-- field_fault f: the first field that is outside its range.
-- sheet_answer text: the fields of line 1 where the text is the lines of a sheet, and else its first fault.
-- header_of, cipher_of, tag_of f text: what the other lines tell, by the fields f of line 1.
use Rattle.std.specs.Prelude.{ℕ, zero, suc, ◌+◌, ◌-◌, ◌*◌, min, cond, List, [], ◌∷◌, ◌++◌, length, take, drop, Some, None, Ok, Err, Option, Result, ◌==◌, nat_le, nat_lt}
use Rattle.blocks.specs.Blocks.{number, bytes_of}
use Rattle.digits.specs.Hex.{unhex}
use Rattle.method.specs.Limits.{header_limit, message_limit, tag_fits, nonce_fits}
use Rattle.sheetlines.specs.Lines.{line_of, lines_size, fault_in, lines_fault, bytes_in}
use Rattle.sheetlines.specs.declared.fault.Field.{Field}
use Rattle.sheetlines.specs.declared.fault.Field.TheVariants.{Nonce, MessageLength, HeaderLength, TagLength}
use Rattle.sheetlines.specs.declared.fault.LineFault.{LineFault}
use Rattle.sheetlines.specs.declared.fault.SheetFault.{SheetFault}
use Rattle.sheetlines.specs.declared.fault.SheetFault.TheVariants.{InLine, OutOfRange, MoreBytes}
use Rattle.sheetlines.specs.declared.fields.Fields.{Fields}

-- ## Writing

-- a frame has 256 blocks; the first one's block 0 is for the tag, so 255 blocks of message are on the first line
abbrev pub first_frame : ℕ
first_frame = 4080

abbrev pub later_frame : ℕ
later_frame = 4096

-- the widths for `left` bytes, of which the first line takes `room` at the most; k is at least their number
abbrev pub frames : ℕ → ℕ → ℕ → List ℕ
frames zero room left = []
frames (suc k) room left = cond (left == 0) [] (min left room ∷ frames k later_frame (left - room))

abbrev pub frames_of : ℕ → List ℕ
frames_of m = frames m first_frame m

-- bytes as lines of these widths
abbrev pub body_lines : List ℕ → List ℕ → List ℕ
body_lines [] bs = []
body_lines (w ∷ ws) bs = line_of (take w bs) ++ body_lines ws (drop w bs)

abbrev pub first_bytes : ℕ → ℕ → ℕ → ℕ → List ℕ
first_bytes N m h t = bytes_of 8 N ++ (bytes_of 4 m ++ (bytes_of 2 h ++ bytes_of 1 t))

abbrev pub lines_of : ℕ → List ℕ → List ℕ → List ℕ → List ℕ
lines_of N h c t =
    line_of (first_bytes N (length c) (length h) (length t)) ++ (line_of h ++ (body_lines (frames_of (length c)) c ++ line_of t))

-- ## Reading

abbrev pub fields : ℕ → ℕ → ℕ → ℕ → Fields
fields N m h t = record { nonce = N; message_len = m; header_len = h; tag_len = t }

abbrev pub fields_told : List ℕ → Fields
fields_told bs = fields (number (take 8 bs)) (number (take 4 (drop 8 bs))) (number (take 2 (drop 12 bs))) (number (take 1 (drop 14 bs)))

-- line 1 has thirty digits and a line feed
abbrev pub first_digits : ℕ
first_digits = 30

abbrev pub fields_of : List ℕ → Fields
fields_of text = fields_told (unhex (take first_digits text))

abbrev pub field_fault : Fields → Option Field
field_fault f =
    cond (nonce_fits f.nonce)
    (cond (nat_le f.message_len message_limit)
    (cond (nat_le f.header_len header_limit)
    (cond (tag_fits f.tag_len) None (Some TagLength))
    (Some HeaderLength))
    (Some MessageLength))
    (Some Nonce)

-- how many bytes each line after the first tells
abbrev pub widths : Fields → List ℕ
widths f = f.header_len ∷ (frames_of f.message_len ++ f.tag_len ∷ [])

-- where the header's line begins, the ciphertext's, and the tag's
abbrev pub header_at : ℕ
header_at = 31

abbrev pub cipher_at : Fields → ℕ
cipher_at f = 32 + 2 * f.header_len

abbrev pub tag_at : Fields → ℕ
tag_at f = cipher_at f + lines_size (frames_of f.message_len)

-- all lines were read: no byte may follow
abbrev pub at_end : Fields → List ℕ → Option LineFault → Result Fields SheetFault
at_end f text (Some e) = Err (InLine e)
at_end f text None = cond (nat_lt (header_at + lines_size (widths f)) (length text)) (Err MoreBytes) (Ok f)

-- line 1 was read, and is judged before any other
abbrev pub at_rest : Fields → List ℕ → Option Field → Result Fields SheetFault
at_rest f text (Some e) = Err (OutOfRange e)
at_rest f text None = at_end f text (lines_fault 2 (widths f) (drop header_at text))

abbrev pub at_first : List ℕ → Option LineFault → Result Fields SheetFault
at_first text (Some e) = Err (InLine e)
at_first text None = at_rest (fields_of text) text (field_fault (fields_of text))

abbrev pub sheet_answer : List ℕ → Result Fields SheetFault
sheet_answer text = at_first text (fault_in 1 1 first_digits text)

abbrev pub header_of : Fields → List ℕ → List ℕ
header_of f text = unhex (take (2 * f.header_len) (drop header_at text))

abbrev pub cipher_of : Fields → List ℕ → List ℕ
cipher_of f text = bytes_in (frames_of f.message_len) (drop (cipher_at f) text)

abbrev pub tag_of : Fields → List ℕ → List ℕ
tag_of f text = unhex (take (2 * f.tag_len) (drop (tag_at f) text))
