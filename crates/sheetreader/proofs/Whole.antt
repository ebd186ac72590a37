-- What reading a whole text answers, case by case: what was found in line 1, in the lines after it, and after them. Assumes nothing.
use Rattle.std.proofs.Common.{◌≡◌, ℕ, ◌+◌, ◌-◌, ◌<◌, ltb, List, length, drop, Some, None, Ok, Err, sym, ap, ◌∙◌, arith}
use Rattle.std.proofs.lemmas.List.{drop-drop, length-drop}
use Rattle.std.proofs.lemmas.Bool.{cond-true, cond-false, lt-ltb, le-ltb}
use Rattle.sheetlines.specs.Lines.{lines_size, fault_in, lines_fault}
use Rattle.sheetlines.specs.Sheets.{first_digits, fields_of, field_fault, widths, header_at, at_end, at_rest, at_first, sheet_answer}
use Rattle.sheetlines.specs.declared.fault.Field.{Field}
use Rattle.sheetlines.specs.declared.fault.LineFault.{LineFault}
use Rattle.sheetlines.specs.declared.fault.SheetFault.TheVariants.{InLine, OutOfRange, MoreBytes}
use Rattle.sheetlines.specs.declared.fields.Fields.{Fields}

-- line 1 has a fault
pub first_faulty : (text : List ℕ) (e : LineFault) → fault_in 1 1 first_digits text ≡ Some e → Err (InLine e) ≡ sheet_answer text
first_faulty text e h = ap (at_first text) (sym h)

-- line 1 has none, and tells the fields f
module _ (text : List ℕ) (f : Fields) (first : fault_in 1 1 first_digits text ≡ None) (is : f ≡ fields_of text) where
  past_first : at_rest f text (field_fault f) ≡ sheet_answer text
  past_first = ap (λ (g : Fields). at_rest g text (field_fault g)) is ∙ ap (at_first text) (sym first)

  pub field_faulty : (e : Field) → Some e ≡ field_fault f → Err (OutOfRange e) ≡ sheet_answer text
  field_faulty e h = ap (at_rest f text) h ∙ past_first

  -- which are in range
  module _ (judged : None ≡ field_fault f) where
    past_fields : at_end f text (lines_fault 2 (widths f) (drop header_at text)) ≡ sheet_answer text
    past_fields = ap (at_rest f text) judged ∙ past_first

    pub rest_faulty : (e : LineFault) → lines_fault 2 (widths f) (drop header_at text) ≡ Some e → Err (InLine e) ≡ sheet_answer text
    rest_faulty e h = ap (at_end f text) (sym h) ∙ past_fields

    -- and no later line has a fault
    module _ (rest : lines_fault 2 (widths f) (drop header_at text) ≡ None) where
      -- then what is left of the text decides
      module _ (left : List ℕ) (behind : left ≡ drop (lines_size (widths f)) (drop header_at text)) where
        length-left : length left ≡ length text - (header_at + lines_size (widths f))
        length-left =
            ap length behind ∙ ap length (drop-drop (lines_size (widths f)) header_at text)
            ∙ length-drop (header_at + lines_size (widths f)) text

        pub more_bytes : 0 < length left → Err MoreBytes ≡ sheet_answer text
        more_bytes h =
            let end = header_at + lines_size (widths f) in
            sym (cond-true (ltb end (length text)) _ _ (lt-ltb end (length text) (omega (arith, length-left))))
            ∙ ap (at_end f text) (sym rest) ∙ past_fields

        pub no_more : length left ≡ 0 → Ok f ≡ sheet_answer text
        no_more h =
            let end = header_at + lines_size (widths f) in
            sym (cond-false (ltb end (length text)) _ _ (le-ltb end (length text) (omega (arith, length-left))))
            ∙ ap (at_end f text) (sym rest) ∙ past_fields
