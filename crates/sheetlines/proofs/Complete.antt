-- Lines are read without a fault, as the bytes that they are of: one line, lines one after another, line 1, and a whole sheet. Assumes nothing.
use Rattle.std.proofs.Common.{◌≡◌, ℕ, zero, suc, ◌+◌, ◌*◌, ◌^◌, ◌<◌, ◌≤◌, ltb, List, [], ◌∷◌, ◌++◌, length, take, drop, None, Ok, Option, sym, refl, ap, ◌∙◌, mod-eq_of_lt, arith}
use Rattle.std.proofs.lemmas.List.{append_assoc, append-nil, take-append-drop, drop-drop, take_at, drop_at, length-take-le, length-drop}
use Rattle.std.proofs.lemmas.Bool.{cond-true, cond-false, le-ltb}
use Rattle.blocks.specs.Blocks.{AllBytes, number, bytes_of}
use Rattle.blocks.proofs.Bytes.{bytes_append, bytes_take, bytes_drop}
use Rattle.blocks.proofs.Numbers.{bytes_of_bytes, length-bytes_of, number-bytes_of}
use Rattle.digits.specs.Hex.{is_digit, hex, unhex}
use Rattle.digits.proofs.Hexes.{Digital, length-hex, hex_digital, unhex-hex}
use Rattle.sheetlines.specs.Laws.{sheet_fields, Within, ReadBack}
use Rattle.sheetlines.specs.Lines.{feed, line_of, lines_size, fault_in, or_else, lines_fault, bytes_in}
use Rattle.sheetlines.specs.Sheets.{frames_of, body_lines, first_bytes, lines_of, fields, fields_told, first_digits, fields_of, field_fault, widths, header_at, cipher_at, tag_at, at_end, at_rest, at_first, sheet_answer}
use Rattle.sheetlines.specs.declared.fault.LineFault.{LineFault}
use Rattle.sheetlines.specs.declared.fields.Fields.{Fields}
use Rattle.sheetlines.proofs.Ranges.{no_fault}
use Rattle.sheetlines.proofs.Widths.{total, total_frames_of, none_both}
use Rattle.sheetlines.proofs.Sizes.{length_line, length-first_bytes, length-lines-widths}

-- ## One line

faultless : (l k n : ℕ) (ds rest : List ℕ) → Digital ds → length ds ≡ n → fault_in l k n (ds ++ feed ∷ rest) ≡ None
faultless l k zero [] rest h e = refl
faultless l k zero (c ∷ ds) rest h e = let z : ⊥ = omega arith in absurd z
faultless l k (suc n) [] rest h e = let z : ⊥ = omega arith in absurd z
faultless l k (suc n) (c ∷ ds) rest h e = cond-true (is_digit c) _ _ h.0 ∙ faultless l (k + 1) n ds rest h.1 (omega arith)

-- how the line of w bytes bs is read
record Row (l w : ℕ) (bs rest : List ℕ) : Type 0 where
  fault : fault_in l 1 (2 * w) (line_of bs ++ rest) ≡ None
  bytes : unhex (take (2 * w) (line_of bs ++ rest)) ≡ bs
  after : drop (2 * w + 1) (line_of bs ++ rest) ≡ rest

row : (l w : ℕ) (bs rest : List ℕ) → AllBytes bs → length bs ≡ w → Row l w bs rest
row l w bs rest b e =
    let lh = length-hex bs in
    let ll = length_line bs in
    let x : line_of bs ++ rest ≡ hex bs ++ feed ∷ rest = append_assoc (hex bs) (feed ∷ []) rest in
    record {
      fault = ap (fault_in l 1 (2 * w)) x ∙ faultless l 1 (2 * w) (hex bs) rest (hex_digital bs b) (omega arith);
      bytes = ap (λ (y : List ℕ). unhex (take (2 * w) y)) x ∙ ap unhex (take_at (hex bs) (feed ∷ rest) (2 * w) (omega arith)) ∙ unhex-hex bs b;
      after = drop_at (line_of bs) rest (2 * w + 1) (omega arith);
    }

-- ## Lines

-- how the lines of the bytes bs are read
record Rows (l : ℕ) (ws bs rest : List ℕ) : Type 0 where
  fault : lines_fault l ws (body_lines ws bs ++ rest) ≡ None
  bytes : bytes_in ws (body_lines ws bs ++ rest) ≡ bs
  after : drop (lines_size ws) (body_lines ws bs ++ rest) ≡ rest

rows : (l : ℕ) (ws bs rest : List ℕ) → AllBytes bs → total ws ≡ length bs → Rows l ws bs rest
rows l [] [] rest h e = record { fault = refl; bytes = refl; after = refl }
rows l [] (b ∷ bs) rest h e = let z : ⊥ = omega arith in absurd z
rows l (w ∷ ws) bs rest h e =
    let u = take w bs in
    let b = body_lines ws (drop w bs) in
    let m : w ≤ length bs = omega arith in
    let lu = length-take-le w bs m in
    let ld = length-drop w bs in
    let r = row l w u (b ++ rest) (bytes_take w bs h) lu in
    let i = rows (l + 1) ws (drop w bs) rest (bytes_drop w bs h) (omega arith) in
    let xs = line_of u ++ (b ++ rest) in
    let x : (line_of u ++ b) ++ rest ≡ xs = append_assoc (line_of u) b rest in
    record {
      fault = ap (lines_fault l (w ∷ ws)) x ∙ ap (λ (o : Option LineFault). or_else o (lines_fault (l + 1) ws (drop (2 * w + 1) xs))) r.fault
          ∙ ap (lines_fault (l + 1) ws) r.after ∙ i.fault;
      bytes = ap (bytes_in (w ∷ ws)) x ∙ ap (λ (y : List ℕ). y ++ bytes_in ws (drop (2 * w + 1) xs)) r.bytes
          ∙ ap (λ (y : List ℕ). u ++ bytes_in ws y) r.after ∙ ap (λ (y : List ℕ). u ++ y) i.bytes ∙ take-append-drop w bs;
      after = ap (drop (2 * w + 1 + lines_size ws)) x ∙ sym (drop-drop (lines_size ws) (2 * w + 1) xs)
          ∙ ap (drop (lines_size ws)) r.after ∙ i.after;
    }

-- lines without a fault, and more of them after
join_faults : (l : ℕ) (ws vs xs : List ℕ) → lines_fault l ws xs ≡ None → lines_fault (l + length ws) vs (drop (lines_size ws) xs) ≡ None
    → lines_fault l (ws ++ vs) xs ≡ None
join_faults l [] vs xs h k = let e : l ≡ l + 0 = omega arith in ap (λ x. lines_fault x vs xs) e ∙ k
join_faults l (w ∷ ws) vs xs h k =
    let rest = drop (2 * w + 1) xs in
    let n = none_both (fault_in l 1 (2 * w) xs) (lines_fault (l + 1) ws rest) h in
    let e : l + 1 + length ws ≡ l + suc (length ws) = omega arith in
    ap (λ (o : Option LineFault). or_else o (lines_fault (l + 1) (ws ++ vs) rest)) n.0
    ∙ join_faults (l + 1) ws vs rest n.1
    (ap (λ x. lines_fault x vs (drop (lines_size ws) rest)) e
    ∙ ap (lines_fault (l + suc (length ws)) vs) (drop-drop (lines_size ws) (2 * w + 1) xs) ∙ k)

-- ## Line 1

first_bytes_bytes : (N m h t : ℕ) → AllBytes (first_bytes N m h t)
first_bytes_bytes N m h t =
    bytes_append (bytes_of 8 N) (bytes_of 4 m ++ (bytes_of 2 h ++ bytes_of 1 t)) (bytes_of_bytes 8 N)
    (bytes_append (bytes_of 4 m) (bytes_of 2 h ++ bytes_of 1 t) (bytes_of_bytes 4 m)
    (bytes_append (bytes_of 2 h) (bytes_of 1 t) (bytes_of_bytes 2 h) (bytes_of_bytes 1 t)))

-- the first n bytes tell their number, and the rest is after them
number-front : (n x : ℕ) (rest : List ℕ) → x < 256 ^ n → number (take n (bytes_of n x ++ rest)) ≡ x
number-front n x rest h = ap number (take_at (bytes_of n x) rest n (length-bytes_of n x)) ∙ number-bytes_of n x ∙ mod-eq_of_lt h

after_front : (n x : ℕ) (rest : List ℕ) → drop n (bytes_of n x ++ rest) ≡ rest
after_front n x rest = drop_at (bytes_of n x) rest n (length-bytes_of n x)

-- the same of the bytes from p on, where q is the place after them
number_part : (p n x : ℕ) (bs rest : List ℕ) → drop p bs ≡ bytes_of n x ++ rest → x < 256 ^ n → number (take n (drop p bs)) ≡ x
number_part p n x bs rest e h = ap (λ (y : List ℕ). number (take n y)) e ∙ number-front n x rest h

after_part : (p n q x : ℕ) (bs rest : List ℕ) → drop p bs ≡ bytes_of n x ++ rest → q ≡ p + n → drop q bs ≡ rest
after_part p n q x bs rest e i = ap (λ k. drop k bs) i ∙ sym (drop-drop n p bs) ∙ ap (drop n) e ∙ after_front n x rest

same_fields : (N N' m m' h h' t t' : ℕ) → N ≡ N' → m ≡ m' → h ≡ h' → t ≡ t' → fields N m h t ≡ fields N' m' h' t'
same_fields N N' m m' h h' t t' p q r s = cc

-- the fifteen bytes of the fields tell them
fields_complete : (N m h t : ℕ) → N < 256 ^ 8 → m < 256 ^ 4 → h < 256 ^ 2 → t < 256 ^ 1 → fields_told (first_bytes N m h t) ≡ fields N m h t
fields_complete N m h t hN hm hh ht =
    let bs = first_bytes N m h t in
    let hs = bytes_of 2 h ++ bytes_of 1 t in
    let from-8 : drop 8 bs ≡ bytes_of 4 m ++ hs = after_front 8 N (bytes_of 4 m ++ hs) in
    let from-12 : drop 12 bs ≡ hs = after_part 8 4 12 m bs hs from-8 refl in
    let from-14 : drop 14 bs ≡ bytes_of 1 t ++ [] = after_part 12 2 14 h bs (bytes_of 1 t) from-12 refl ∙ sym (append-nil (bytes_of 1 t)) in
    same_fields (number (take 8 bs)) N (number (take 4 (drop 8 bs))) m (number (take 2 (drop 12 bs))) h (number (take 1 (drop 14 bs))) t
    (number-front 8 N (bytes_of 4 m ++ hs) hN) (number_part 8 4 m bs hs from-8 hm)
    (number_part 12 2 h bs (bytes_of 1 t) from-12 hh) (number_part 14 1 t bs [] from-14 ht)

-- ## The whole

answered : (text : List ℕ) (f : Fields) → fault_in 1 1 first_digits text ≡ None → fields_of text ≡ f → field_fault f ≡ None
    → lines_fault 2 (widths f) (drop header_at text) ≡ None → length text ≤ header_at + lines_size (widths f) → sheet_answer text ≡ Ok f
answered text f first is ranges rest end =
    ap (at_first text) first ∙ ap (λ (g : Fields). at_rest g text (field_fault g)) is ∙ ap (at_rest f text) ranges ∙ ap (at_end f text) rest
    ∙ cond-false (ltb (header_at + lines_size (widths f)) (length text)) _ _ (le-ltb (header_at + lines_size (widths f)) (length text) end)

pub read_back : (N : ℕ) (h c t : List ℕ) → Within N h c t → ReadBack N h c t
read_back N h c t w =
    let m = length c in
    let x = length h in
    let y = length t in
    let f = sheet_fields N h c t in
    let fr = frames_of m in
    let text = lines_of N h c t in
    let body = body_lines fr c ++ line_of t in
    let tw = total_frames_of m in
    -- each line by itself
    let one = row 1 15 (first_bytes N m x y) (line_of h ++ body) (first_bytes_bytes N m x y) (length-first_bytes N m x y) in
    let two = row 2 x h body w.header_bytes refl in
    let three = rows 3 fr c (line_of t) w.cipher_bytes tw in
    let four = row (3 + length fr) y t [] w.tag_bytes refl in
    let nil = append-nil (line_of t) in
    -- where the parts begin
    let e : cipher_at f ≡ header_at + (2 * x + 1) = omega arith in
    let at-cipher : drop (cipher_at f) text ≡ body =
    ap (λ k. drop k text) e ∙ sym (drop-drop (2 * x + 1) header_at text) ∙ ap (drop (2 * x + 1)) one.after ∙ two.after in
    let at_tag : drop (tag_at f) text ≡ line_of t =
    sym (drop-drop (lines_size fr) (cipher_at f) text) ∙ ap (drop (lines_size fr)) at-cipher ∙ three.after in
    -- what line 1 tells, and that no later line has a fault
    let told : fields_of text ≡ f = ap fields_told one.bytes ∙ fields_complete N m x y (omega arith) (omega arith) (omega arith) (omega arith) in
    let tag-fault : lines_fault (3 + length fr) (y ∷ []) (line_of t) ≡ None =
    ap (lines_fault (3 + length fr) (y ∷ [])) (sym nil) ∙ ap (λ (o : Option LineFault). or_else o None) four.fault in
    let body-fault : lines_fault 3 (fr ++ y ∷ []) body ≡ None =
    join_faults 3 fr (y ∷ []) body three.fault (ap (lines_fault (3 + length fr) (y ∷ [])) three.after ∙ tag-fault) in
    let rest-fault : lines_fault 2 (widths f) (drop header_at text) ≡ None =
    ap (lines_fault 2 (widths f)) one.after
    ∙ ap (λ (o : Option LineFault). or_else o (lines_fault 3 (fr ++ y ∷ []) (drop (2 * x + 1) (line_of h ++ body)))) two.fault
    ∙ ap (lines_fault 3 (fr ++ y ∷ [])) two.after ∙ body-fault in
    -- and nothing follows the tag's line
    let size = length-lines-widths N h c t in
    record {
      answer = answered text f one.fault told (no_fault f (record { nonce = w.nonce; message = w.message; header = w.header; least = w.least; most = w.most })) rest-fault (omega arith);
      header = ap (λ (v : List ℕ). unhex (take (2 * x) v)) one.after ∙ two.bytes;
      cipher = ap (bytes_in fr) at-cipher ∙ three.bytes;
      tag = ap (λ (v : List ℕ). unhex (take (2 * y) v)) (at_tag ∙ sym nil) ∙ four.bytes;
    }
