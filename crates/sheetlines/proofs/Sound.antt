-- What is read without a fault is lines: one line, lines one after another, line 1, and a whole text. Assumes nothing.
use Rattle.std.proofs.Common.{◌≡◌, ℕ, zero, suc, ◌+◌, ◌*◌, ◌≤◌, Bool, true, false, cond, eqb, ltb, List, [], ◌∷◌, ◌++◌, length, take, drop, Some, None, Ok, Err, Option, Result, sym, refl, ap, ◌∙◌, subst, arith}
use Rattle.std.proofs.lemmas.List.{append_assoc, append-nil, take-append-drop, drop-drop, take_at, drop_at, length-append, length-take-le, length-drop, drop_all}
use Rattle.std.proofs.lemmas.Bool.{eqb-true, ltb-false}
use Rattle.blocks.specs.Blocks.{AllBytes, number, bytes_of}
use Rattle.blocks.proofs.Bytes.{bytes_append, bytes_take, bytes_drop}
use Rattle.blocks.proofs.Numbers.{bytes_of-number}
use Rattle.digits.specs.Hex.{is_digit, hex, unhex}
use Rattle.digits.proofs.Hexes.{Digital, hex-unhex, unhex_bytes}
use Rattle.sheetlines.specs.Laws.{Parts}
use Rattle.sheetlines.specs.Lines.{feed, line_of, lines_size, place, fault_in, lines_fault, bytes_in}
use Rattle.sheetlines.specs.Sheets.{frames_of, body_lines, first_bytes, lines_of, fields_told, first_digits, fields_of, field_fault, widths, header_at, cipher_at, tag_at, at_end, at_rest, at_first, sheet_answer, header_of, cipher_of, tag_of}
use Rattle.sheetlines.specs.declared.fault.Field.{Field}
use Rattle.sheetlines.specs.declared.fault.LineFault.{LineFault}
use Rattle.sheetlines.specs.declared.fault.LineFault.TheVariants.{NoDigit, WrongEnd}
use Rattle.sheetlines.specs.declared.fault.SheetFault.{SheetFault}
use Rattle.sheetlines.specs.declared.fault.SheetFault.TheVariants.{MoreBytes}
use Rattle.sheetlines.specs.declared.fields.Fields.{Fields}
use Rattle.sheetlines.proofs.Ranges.{in_range}
use Rattle.sheetlines.proofs.Widths.{total, total_frames_of, size_append, none_both, fault_append}

none_some : {X : Type 0} {e : LineFault} → Some e ≡ None → X
none_some h = let z : ◌≡◌ {A = ℕ} 0 1 = cc in let b : ⊥ = omega arith in absurd b

-- ## One line

-- n digits, and then a line feed
record Good (n : ℕ) (xs : List ℕ) : Type 0 where
  digital : Digital (take n xs)
  split : xs ≡ take n xs ++ feed ∷ drop (n + 1) xs
  long : length (take n xs) ≡ n

good_line : (l k n : ℕ) (xs : List ℕ) → fault_in l k n xs ≡ None → Good n xs
good_line l k zero [] h = none_some h
good_line l k zero (c ∷ xs) h = go (eqb c feed) refl h
  where
    go : (b : Bool) → eqb c feed ≡ b → cond b None (Some (WrongEnd (place l k))) ≡ None → Good zero (c ∷ xs)
    go true e i = record { digital = tt; split = ap (λ x. x ∷ xs) (eqb-true c feed e); long = refl }
    go false e i = none_some i
good_line l k (suc n) [] h = none_some h
good_line l k (suc n) (c ∷ xs) h = go (is_digit c) refl (good_line l (k + 1) n xs) h
  where
    go : (b : Bool) → is_digit c ≡ b → (fault_in l (k + 1) n xs ≡ None → Good n xs)
        → cond b (fault_in l (k + 1) n xs) (Some (cond (eqb c feed) (WrongEnd (place l k)) (NoDigit (place l k)))) ≡ None → Good (suc n) (c ∷ xs)
    go true e r i =
        let g = r i in
        let m : suc n + 1 ≡ suc (n + 1) = omega arith in
        record {
          digital = (e, g.digital);
          split = ap (λ (y : List ℕ). c ∷ y) g.split ∙ ap (λ x. c ∷ (take n xs ++ feed ∷ drop x (c ∷ xs))) (sym m);
          long = ap suc g.long;
        }
    go false e r i = none_some i

-- a line of w bytes without a fault is the line of the bytes that it tells
pub line_sound : (l w : ℕ) (xs : List ℕ) → fault_in l 1 (2 * w) xs ≡ None
    → (xs ≡ line_of (unhex (take (2 * w) xs)) ++ drop (2 * w + 1) xs) × (length (unhex (take (2 * w) xs)) ≡ w)
line_sound l w xs h =
    let g = good_line l 1 (2 * w) xs h in
    let r = hex-unhex w (take (2 * w) xs) g.digital g.long in
    let rest = drop (2 * w + 1) xs in (
      g.split ∙ ap (λ (y : List ℕ). y ++ feed ∷ rest) (sym r.0) ∙ sym (append_assoc (hex (unhex (take (2 * w) xs))) (feed ∷ []) rest),
      r.1,
    )

-- ## Lines

-- the lines are those of the bytes that they tell
pub rows_sound : (l : ℕ) (ws xs : List ℕ) → lines_fault l ws xs ≡ None
    → (xs ≡ body_lines ws (bytes_in ws xs) ++ drop (lines_size ws) xs) × (length (bytes_in ws xs) ≡ total ws)
rows_sound l [] xs h = (refl, refl)
rows_sound l (w ∷ ws) xs h =
    let n = none_both (fault_in l 1 (2 * w) xs) (lines_fault (l + 1) ws (drop (2 * w + 1) xs)) h in
    let g = line_sound l w xs n.0 in
    let r = rows_sound (l + 1) ws (drop (2 * w + 1) xs) n.1 in
    let u = unhex (take (2 * w) xs) in
    let b = bytes_in ws (drop (2 * w + 1) xs) in
    let rest = drop (2 * w + 1 + lines_size ws) xs in
    let lu = g.1 in
    let lr = r.1 in (
      g.0 ∙ ap (λ (y : List ℕ). line_of u ++ y) r.0
          ∙ ap (λ (y : List ℕ). line_of u ++ (body_lines ws b ++ y)) (drop-drop (lines_size ws) (2 * w + 1) xs)
          ∙ sym (append_assoc (line_of u) (body_lines ws b) rest)
          ∙ ap (λ (y : List ℕ). (line_of y ++ body_lines ws b) ++ rest) (sym (take_at u b w lu))
          ∙ ap (λ (y : List ℕ). (line_of (take w (u ++ b)) ++ body_lines ws y) ++ rest) (sym (drop_at u b w lu)),
      length-append u b ∙ omega arith,
    )

bytes_in_bytes : (ws xs : List ℕ) → AllBytes (bytes_in ws xs)
bytes_in_bytes [] xs = tt
bytes_in_bytes (w ∷ ws) xs =
    let ds = take (2 * w) xs in
    let rest = drop (2 * w + 1) xs in
    bytes_append (unhex ds) (bytes_in ws rest) (unhex_bytes ds) (bytes_in_bytes ws rest)

-- ## Line 1

-- the first n bytes are those of the number that they tell
front : (n : ℕ) (xs : List ℕ) → AllBytes xs → n ≤ length xs → bytes_of n (number (take n xs)) ++ drop n xs ≡ xs
front n xs b h =
    ap (λ k. bytes_of k (number (take n xs)) ++ drop n xs) (sym (length-take-le n xs h))
    ∙ ap (λ (y : List ℕ). y ++ drop n xs) (bytes_of-number (take n xs) (bytes_take n xs b)) ∙ take-append-drop n xs

-- the same of the bytes from p on, where q is the place after them
part : (p n q : ℕ) (xs : List ℕ) → AllBytes xs → q ≡ p + n → q ≤ length xs → bytes_of n (number (take n (drop p xs))) ++ drop q xs ≡ drop p xs
part p n q xs b e h =
    let x = number (take n (drop p xs)) in
    let l = length-drop p xs in
    ap (λ k. bytes_of n x ++ drop k xs) e ∙ ap (λ (y : List ℕ). bytes_of n x ++ y) (sym (drop-drop n p xs))
    ∙ front n (drop p xs) (bytes_drop p xs b) (omega arith)

abbrev told : Fields → List ℕ
told f = first_bytes f.nonce f.message_len f.header_len f.tag_len

-- fifteen bytes are those of the fields that they tell
fields_sound : (bs : List ℕ) → AllBytes bs → length bs ≡ 15 → told (fields_told bs) ≡ bs
fields_sound bs b l =
    let N = bytes_of 8 (number (take 8 bs)) in
    let m = bytes_of 4 (number (take 4 (drop 8 bs))) in
    let h = bytes_of 2 (number (take 2 (drop 12 bs))) in
    let t = bytes_of 1 (number (take 1 (drop 14 bs))) in
    let last : t ≡ drop 14 bs =
    sym (append-nil t) ∙ ap (λ (y : List ℕ). t ++ y) (sym (drop_all 15 bs (omega arith))) ∙ part 14 1 15 bs b refl (omega arith) in
    ap (λ (y : List ℕ). N ++ (m ++ (h ++ y))) last ∙ ap (λ (y : List ℕ). N ++ (m ++ y)) (part 12 2 14 bs b refl (omega arith))
    ∙ ap (λ (y : List ℕ). N ++ y) (part 8 4 12 bs b refl (omega arith)) ∙ front 8 bs b (omega arith)

first_sound : (text : List ℕ) → fault_in 1 1 first_digits text ≡ None → text ≡ line_of (told (fields_of text)) ++ drop header_at text
first_sound text h =
    let ds = take first_digits text in
    let g = line_sound 1 15 text h in
    g.0 ∙ ap (λ (y : List ℕ). line_of y ++ drop header_at text) (sym (fields_sound (unhex ds) (unhex_bytes ds) g.1))

-- ## The whole

-- what an answer `Ok f` says of the text
record Read (text : List ℕ) (f : Fields) : Type 0 where
  first : fault_in 1 1 first_digits text ≡ None
  is : f ≡ fields_of text
  ranges : field_fault f ≡ None
  rest : lines_fault 2 (widths f) (drop header_at text) ≡ None
  end : length text ≤ header_at + lines_size (widths f)

err_ok : {X T E : Type 0} {e : E} {x : T} → Err e ≡ Ok x → X
err_ok h = let z : ◌≡◌ {A = ℕ} 0 1 = cc in let b : ⊥ = omega arith in absurd b

-- such an answer comes past each test
module _ (text : List ℕ) (f : Fields) where
  no_fault_first : (o : Option LineFault) → at_first text o ≡ Ok f → o ≡ None
  no_fault_first None h = refl
  no_fault_first (Some e) h = err_ok h

  no_fault_fields : (g : Fields) (o : Option Field) → at_rest g text o ≡ Ok f → o ≡ None
  no_fault_fields g None h = refl
  no_fault_fields g (Some e) h = err_ok h

  no_fault_rest : (g : Fields) (o : Option LineFault) → at_end g text o ≡ Ok f → o ≡ None
  no_fault_rest g None h = refl
  no_fault_rest g (Some e) h = err_ok h

  no_more : (g : Fields) (b : Bool) → ◌≡◌ {A = Result Fields SheetFault} (cond b (Err MoreBytes) (Ok g)) (Ok f) → (b ≡ false) × (g ≡ f)
  no_more g true h = err_ok h
  no_more g false h = (refl, cc)

  was_read : sheet_answer text ≡ Ok f → Read text f
  was_read answer =
      let g = fields_of text in
      let first = no_fault_first (fault_in 1 1 first_digits text) answer in
      let judged : at_rest g text (field_fault g) ≡ Ok f = ap (at_first text) (sym first) ∙ answer in
      let ranges = no_fault_fields g (field_fault g) judged in
      let followed : at_end g text (lines_fault 2 (widths g) (drop header_at text)) ≡ Ok f = ap (at_rest g text) (sym ranges) ∙ judged in
      let rest = no_fault_rest g (lines_fault 2 (widths g) (drop header_at text)) followed in
      let size = header_at + lines_size (widths g) in
      let ended = no_more g (ltb size (length text)) (ap (at_end g text) (sym rest) ∙ followed) in
      subst (λ (x : Fields). Read text x) ended.1
      (record { first = first; is = refl; ranges = ranges; rest = rest; end = ltb-false size (length text) ended.0 })

-- line 1 may tell the parts' lengths in place of the fields
as_lengths : (f : Fields) (h c t : List ℕ) → length h ≡ f.header_len → length c ≡ f.message_len → length t ≡ f.tag_len
    → line_of (told f) ++ (line_of h ++ (body_lines (frames_of f.message_len) c ++ line_of t)) ≡ lines_of f.nonce h c t
as_lengths f h c t eh ec et = cc

pub canonical : (text : List ℕ) (f : Fields) → sheet_answer text ≡ Ok f → Parts text f
canonical text f answer =
    let r = was_read text f answer in
    let h = f.header_len in
    let t = f.tag_len in
    let m = f.message_len in
    let fr = frames_of m in
    let xs = drop header_at text in
    let ys = drop (cipher_at f) text in
    let zs = drop (tag_at f) text in
    let H = header_of f text in
    let C = cipher_of f text in
    let T = tag_of f text in
    -- each part begins where the line before it ends
    let e : header_at + (2 * h + 1) ≡ cipher_at f = omega arith in
    let y : drop (2 * h + 1) xs ≡ ys = drop-drop (2 * h + 1) header_at text ∙ ap (λ k. drop k text) e in
    let z : drop (lines_size fr) ys ≡ zs = drop-drop (lines_size fr) (cipher_at f) text in
    -- no line has a fault, so each is the line of what it tells
    let n = none_both (fault_in 2 1 (2 * h) xs) (lines_fault 3 (fr ++ t ∷ []) (drop (2 * h + 1) xs)) r.rest in
    let b = fault_append 3 fr (t ∷ []) ys (ap (lines_fault 3 (fr ++ t ∷ [])) (sym y) ∙ n.1) in
    let d = none_both (fault_in (3 + length fr) 1 (2 * t) zs) None (ap (lines_fault (3 + length fr) (t ∷ [])) (sym z) ∙ b.1) in
    let header-line = line_sound 2 h xs n.0 in
    let cipher-lines = rows_sound 3 fr ys b.0 in
    let tag-line = line_sound (3 + length fr) t zs d.0 in
    -- nothing follows the tag's line
    let size = size_append fr (t ∷ []) in
    let end : length text ≤ header_at + (2 * h + 1 + lines_size (fr ++ t ∷ [])) = r.end in
    let left = length-drop (tag_at f) text in
    let last : zs ≡ line_of T =
    tag-line.0 ∙ ap (λ (v : List ℕ). line_of T ++ v) (drop_all (2 * t + 1) zs (omega arith)) ∙ append-nil (line_of T) in
    let first : text ≡ line_of (told f) ++ xs =
    first_sound text r.first ∙ ap (λ (v : Fields). line_of (told v) ++ xs) (sym r.is) in
    let eh : length H ≡ h = header-line.1 in
    let ec : length C ≡ m = cipher-lines.1 ∙ total_frames_of m in
    let et : length T ≡ t = tag-line.1 in
    let inside = in_range f r.ranges in
    record {
      lines = first ∙ ap (λ (v : List ℕ). line_of (told f) ++ v)
          (header-line.0 ∙ ap (λ (v : List ℕ). line_of H ++ v) (y ∙ cipher-lines.0 ∙ ap (λ (v : List ℕ). body_lines fr C ++ v) (z ∙ last)))
          ∙ as_lengths f H C T eh ec et;
      header = eh;
      cipher = ec;
      tag = et;
      within = record {
        nonce = inside.nonce;
        header = omega arith;
        message = omega arith;
        least = omega arith;
        most = omega arith;
        header_bytes = unhex_bytes (take (2 * h) xs);
        cipher_bytes = bytes_in_bytes fr ys;
        tag_bytes = unhex_bytes (take (2 * t) zs);
      };
    }
