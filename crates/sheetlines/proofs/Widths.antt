-- The widths of a ciphertext's lines, and lines one after another: how many bytes they have, and the first fault of them. Assumes nothing.
-- total ws: how many bytes lines of these widths tell.
use Rattle.std.proofs.Common.{◌≡◌, ℕ, zero, suc, ◌+◌, ◌-◌, ◌*◌, ◌<◌, ◌≤◌, min, Bool, true, false, cond, eqb, List, [], ◌∷◌, ◌++◌, length, drop, Some, None, Option, sym, refl, ap, ◌∙◌, arith, lit<}
use Rattle.std.proofs.lemmas.List.{drop-drop}
use Rattle.std.proofs.lemmas.Bool.{cond-true, cond-false, eq-eqb, ne_eqb, eqb-true, eqb-false}
use Rattle.sheetlines.specs.Lines.{lines_size, fault_in, or_else, lines_fault}
use Rattle.sheetlines.specs.Sheets.{first_frame, later_frame, frames, frames_of}
use Rattle.sheetlines.specs.declared.fault.LineFault.{LineFault}

-- ## Widths

-- more turns than lines change nothing
pub frames_fuel : (j k room left : ℕ) → left ≤ j → left ≤ k → 0 < room → frames j room left ≡ frames k room left
frames_fuel zero zero room left h i r = refl
frames_fuel zero (suc k) room left h i r = sym (cond-true (eqb left 0) _ _ (eq-eqb left 0 (omega arith)))
frames_fuel (suc j) zero room left h i r = cond-true (eqb left 0) _ _ (eq-eqb left 0 (omega arith))
frames_fuel (suc j) (suc k) room left h i r =
    ap (λ (ws : List ℕ). cond (eqb left 0) [] (min left room ∷ ws))
    (frames_fuel j k later_frame (left - room) (omega arith) (omega arith) (lit< tt))

-- a line takes what there is room for, and what is left stands on later lines
pub frames-more : (left room w : ℕ) → 0 < left → 0 < room → w ≡ min left room
    → frames left room left ≡ w ∷ frames (left - w) later_frame (left - w)
frames-more zero room w h r e = let z : ⊥ = omega arith in absurd z
frames-more (suc k) room w h r e =
    cond-false (eqb (suc k) 0) _ _ (ne_eqb (suc k) 0 (λ z. omega arith))
    ∙ ap (λ (ws : List ℕ). min (suc k) room ∷ ws)
    (frames_fuel k (suc k - w) later_frame (suc k - room) (omega arith) (omega arith) (lit< tt))
    ∙ ap (λ x. min (suc k) room ∷ frames (suc k - w) later_frame x) (omega arith)
    ∙ ap (λ x. x ∷ frames (suc k - w) later_frame (suc k - w)) (sym e)

abbrev pub total : List ℕ → ℕ
total [] = 0
total (w ∷ ws) = w + total ws

-- the lines tell all bytes
pub total-frames : (k room left : ℕ) → left ≤ k → 0 < room → total (frames k room left) ≡ left
total-frames zero room left h r = omega arith
total-frames (suc k) room left h r = go (eqb left 0) refl (total-frames k later_frame (left - room) (omega arith) (lit< tt))
  where
    go : (b : Bool) → eqb left 0 ≡ b → total (frames k later_frame (left - room)) ≡ left - room
        → total (cond b [] (min left room ∷ frames k later_frame (left - room))) ≡ left
    go true e i = let z = eqb-true left 0 e in omega arith
    go false e i = omega arith

pub total_frames_of : (m : ℕ) → total (frames_of m) ≡ m
total_frames_of m = total-frames m first_frame m (omega arith) (lit< tt)

-- no line tells more bytes than a frame has
abbrev pub Narrow : List ℕ → Type 0
Narrow [] = Unit {0}
Narrow (w ∷ ws) = (w ≤ later_frame) × Narrow ws

narrow-frames : (k room left : ℕ) → room ≤ later_frame → Narrow (frames k room left)
narrow-frames zero room left r = tt
narrow-frames (suc k) room left r = go (eqb left 0) (narrow-frames k later_frame (left - room) (omega arith))
  where
    go : (b : Bool) → Narrow (frames k later_frame (left - room)) → Narrow (cond b [] (min left room ∷ frames k later_frame (left - room)))
    go true i = tt
    go false i = (omega arith, i)

pub narrow_frames_of : (m : ℕ) → Narrow (frames_of m)
narrow_frames_of m = narrow-frames m first_frame m (omega arith)

-- no line is empty, so there are no more lines than bytes
pub length-frames : (k room left : ℕ) → 0 < room → length (frames k room left) ≤ left
length-frames zero room left r = omega arith
length-frames (suc k) room left r = go (eqb left 0) refl (length-frames k later_frame (left - room) (lit< tt))
  where
    go : (b : Bool) → eqb left 0 ≡ b → length (frames k later_frame (left - room)) ≤ left - room
        → length (cond b [] (min left room ∷ frames k later_frame (left - room))) ≤ left
    go true e i = omega arith
    go false e i = let z = eqb-false left 0 e in omega arith

-- ## Sizes

pub size_append : (ws vs : List ℕ) → lines_size (ws ++ vs) ≡ lines_size ws + lines_size vs
size_append [] vs = omega arith
size_append (w ∷ ws) vs = let r = size_append ws vs in omega arith

-- two digits a byte, and a line feed a line
pub size_total : (ws : List ℕ) → lines_size ws ≡ 2 * total ws + length ws
size_total [] = refl
size_total (w ∷ ws) = let r = size_total ws in omega arith

-- the lines of a ciphertext: there are no more of them than it has bytes
pub size_frames_of : (m : ℕ) → (lines_size (frames_of m) ≡ 2 * m + length (frames_of m)) × (length (frames_of m) ≤ m)
size_frames_of m =
    let t = total_frames_of m in
    (size_total (frames_of m) ∙ omega arith, length-frames m first_frame m (lit< tt))

-- ## Faults

-- the first line has a fault
pub fault_here : (l w : ℕ) (ws text : List ℕ) (e : LineFault) → fault_in l 1 (2 * w) text ≡ Some e → lines_fault l (w ∷ ws) text ≡ Some e
fault_here l w ws text e h = ap (λ (o : Option LineFault). or_else o (lines_fault (l + 1) ws (drop (2 * w + 1) text))) h

-- the first line has none
pub fault_later : (l w : ℕ) (ws text : List ℕ) → fault_in l 1 (2 * w) text ≡ None
    → lines_fault l (w ∷ ws) text ≡ lines_fault (l + 1) ws (drop (2 * w + 1) text)
fault_later l w ws text h = ap (λ (o : Option LineFault). or_else o (lines_fault (l + 1) ws (drop (2 * w + 1) text))) h

-- there is but one line
pub fault_only : (l w : ℕ) (text : List ℕ) → lines_fault l (w ∷ []) text ≡ fault_in l 1 (2 * w) text
fault_only l w text = alone (fault_in l 1 (2 * w) text)
  where
    alone : (o : Option LineFault) → or_else o None ≡ o
    alone None = refl
    alone (Some e) = refl

-- two that are none
pub none_both : (o p : Option LineFault) → or_else o p ≡ None → (o ≡ None) × (p ≡ None)
none_both None p h = (refl, h)
none_both (Some e) p h = let z : ◌≡◌ {A = ℕ} 0 1 = cc in let b : ⊥ = omega arith in absurd b

-- lines without a fault, and more lines after them
pub fault_append : (l : ℕ) (ws vs xs : List ℕ) → lines_fault l (ws ++ vs) xs ≡ None
    → (lines_fault l ws xs ≡ None) × (lines_fault (l + length ws) vs (drop (lines_size ws) xs) ≡ None)
fault_append l [] vs xs h = let e : l ≡ l + 0 = omega arith in (refl, ap (λ x. lines_fault x vs xs) (sym e) ∙ h)
fault_append l (w ∷ ws) vs xs h =
    let n = none_both (fault_in l 1 (2 * w) xs) (lines_fault (l + 1) (ws ++ vs) (drop (2 * w + 1) xs)) h in
    let r = fault_append (l + 1) ws vs (drop (2 * w + 1) xs) n.1 in
    let e : l + suc (length ws) ≡ l + 1 + length ws = omega arith in (
      ap (λ (o : Option LineFault). or_else o (lines_fault (l + 1) ws (drop (2 * w + 1) xs))) n.0 ∙ r.0,
      ap (λ x. lines_fault x vs (drop (2 * w + 1 + lines_size ws) xs)) e
          ∙ ap (λ (y : List ℕ). lines_fault (l + 1 + length ws) vs y) (sym (drop-drop (lines_size ws) (2 * w + 1) xs)) ∙ r.1,
    )
