-- Puts into a buffer one after another. Assumes nothing.
use Rattle.std.proofs.Common.{◌≡◌, ℕ, ◌+◌, ◌<◌, ◌≤◌, List, [], ◌∷◌, ◌++◌, length, get_or, take, drop, set, sym, ap, ◌∙◌, arith}
use Rattle.std.proofs.lemmas.List.{append_assoc, take-append-drop, length-append, length-take, take_at, drop_at, drop-drop, set_at, drop_more}
use borrow.Rule.Slice.PartMut.{put_mid}
use Rattle.sheetwriter.specs.Puts.{put}

pub put_none : (d : List ℕ) (p : ℕ) → put d p [] ≡ d
put_none d p = let e : p + 0 ≡ p = omega arith in ap (λ n. take p d ++ drop n d) e ∙ take-append-drop p d

-- a put where the last one ended
pub put-put : (d : List ℕ) (p q : ℕ) (s t : List ℕ) → q ≡ p + length s → q ≤ length d → put (put d p s) q t ≡ put d p (s ++ t)
put-put d p q s t e h =
    let front = take p d ++ s in
    let l : length front ≡ q = simp (length-append, length-take) (omega arith) in
    let x : put d p s ≡ front ++ drop q d = ap (λ n. take p d ++ (s ++ drop n d)) (sym e) ∙ sym (append_assoc (take p d) s (drop q d)) in
    let a : take q (put d p s) ≡ front = ap (take q) x ∙ take_at front (drop q d) q l in
    let b : drop q (put d p s) ≡ drop q d = ap (drop q) x ∙ drop_at front (drop q d) q l in
    let f : drop (q + length t) (put d p s) ≡ drop (p + length (s ++ t)) d =
    sym (drop-drop (length t) q (put d p s)) ∙ ap (drop (length t)) b ∙ drop-drop (length t) q d
    ∙ ap (λ n. drop n d) (simp length-append (omega arith)) in
    ap (λ (y : List ℕ). y ++ (t ++ drop (q + length t) (put d p s))) a
    ∙ ap (λ (y : List ℕ). front ++ (t ++ y)) f
    ∙ append_assoc (take p d) s (t ++ drop (p + length (s ++ t)) d)
    ∙ ap (λ (y : List ℕ). take p d ++ y) (sym (append_assoc s t (drop (p + length (s ++ t)) d)))

-- one byte where the last put ended
pub put_one : (d : List ℕ) (p q : ℕ) (s : List ℕ) (v : ℕ) → q ≡ p + length s → q < length d → set (put d p s) q v ≡ put d p (s ++ v ∷ [])
put_one d p q s v e h =
    let front = take p d ++ s in
    let l : length front ≡ q = simp (length-append, length-take) (omega arith) in
    let x : put d p s ≡ front ++ (get_or d q 0 ∷ drop (q + 1) d) =
    ap (λ n. take p d ++ (s ++ drop n d)) (sym e)
    ∙ sym (append_assoc (take p d) s (drop q d))
    ∙ ap (λ (y : List ℕ). front ++ y) (drop_more d q 0 h) in
    ap (λ (y : List ℕ). set y q v) x
    ∙ set_at front (get_or d q 0) (drop (q + 1) d) v q l
    ∙ append_assoc (take p d) s (v ∷ drop (q + 1) d)
    ∙ ap (λ (y : List ℕ). take p d ++ y) (sym (append_assoc s (v ∷ []) (drop (q + 1) d)))
    ∙ ap (λ n. take p d ++ ((s ++ v ∷ []) ++ drop n d)) (simp length-append (omega arith))

-- bytes written over a part of the buffer
pub put_part : (d s : List ℕ) (p k : ℕ) → k ≡ length s → put_mid p k d s ≡ put d p s
put_part d s p k e = ap (λ (y : List ℕ). take p d ++ (s ++ y)) (drop-drop k p d ∙ ap (λ n. drop (p + n) d) e)

-- bytes after those at the buffer's front
pub put-after : (d o n s t : List ℕ) (q : ℕ) → o ≡ put d 0 s → q ≡ length s → q ≤ length d → n ≡ put o q t → n ≡ put d 0 (s ++ t)
put-after d o n s t q front e h next = next ∙ ap (λ (y : List ℕ). put y q t) front ∙ put-put d 0 q s t (omega arith) h
