-- What an answer of opening says: the text was read, and check accepted what it tells. Assumes nothing.
use Rattle.std.proofs.Common.{◌≡◌, ℕ, Bool, true, false, cond, ltb, List, Ok, Err, Result, sym, refl, ap, ◌∙◌, arith}
use Rattle.checks.specs.Checks.{check_answer}
use Rattle.refusals.specs.Answers.{Told, Answer}
use Rattle.sheetlines.specs.Sheets.{sheet_answer, header_of, cipher_of, tag_of}
use Rattle.sheetlines.specs.declared.fault.SheetFault.{SheetFault}
use Rattle.sheetlines.specs.declared.fields.Fields.{Fields}
use Rattle.sheetopener.specs.Opens.{if_checked, open_read, open_answer}

-- an accepted answer comes from where a refusing test has failed
unrefused : (b : Bool) (x : Answer Fields) (e : Told) (f : Fields) → cond b (Err e) x ≡ Ok f → x ≡ Ok f
unrefused true x e f h = let z : ◌≡◌ {A = ℕ} 0 1 = cc in let y : ⊥ = omega arith in absurd y
unrefused false x e f h = h

-- and check had the last word
checked : (g f : Fields) (x : Answer (Unit {0})) → if_checked g x ≡ Ok f → (g ≡ f) × (x ≡ Ok tt)
checked g f (Ok u) h = (cc, refl)
checked g f (Err e) h = let z : ◌≡◌ {A = ℕ} 0 1 = cc in let y : ⊥ = omega arith in absurd y

-- what check answers to the parts that a text tells
abbrev pub check_parts : (ℕ → ℕ) → List ℕ → Fields → Answer (Unit {0})
check_parts E text f = check_answer E f.nonce (header_of f text) (cipher_of f text) (tag_of f text)

pub record Opened (E : ℕ → ℕ) (text : List ℕ) (f : Fields) : Type 0 where
  pub read : sheet_answer text ≡ Ok f
  pub genuine : check_parts E text f ≡ Ok tt

pub opened : (E : ℕ → ℕ) (text : List ℕ) (hs ms : ℕ) (f : Fields) → open_answer E text hs ms ≡ Ok f → Opened E text f
opened E text hs ms f a = go (sheet_answer text) refl a
  where
    go : (r : Result Fields SheetFault) → sheet_answer text ≡ r → open_read E text hs ms r ≡ Ok f → Opened E text f
    go (Err e) i h = let z : ◌≡◌ {A = ℕ} 0 1 = cc in let y : ⊥ = omega arith in absurd y
    go (Ok g) i h =
        let fits = unrefused (ltb hs g.header_len) _ _ f h in
        let k = checked g f (check_parts E text g) (unrefused (ltb ms g.message_len) _ _ f fits) in
        record { read = i ∙ ap Ok k.0; genuine = ap (check_parts E text) (sym k.0) ∙ k.1 }
