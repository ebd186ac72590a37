-- The line that a refusal is told in, by the number and the values that the code writes. Assumes nothing.
use Rattle.std.proofs.Common.{◌≡◌, ℕ, List, [], ◌∷◌, IfOk, vec_items, codes, Result, Vec, refl, ◌∙◌}
use Rattle.std.proofs.lemmas.Result.{IfOk-weaker}
use Rattle.std.specs.declared.alloc.AllocError.{AllocError}
use Rattle.std.specs.declared.alloc.Global.{Global}
use Rattle.refusals.specs.Answers.{Told}
use Rattle.refusals.specs.Layers.{line_layer}
use Rattle.sheetlines.specs.Faults.{line_told, fault_place}
use Rattle.sheetlines.specs.declared.fault.LineFault.{LineFault}
use Rattle.sheetlines.specs.declared.fault.LineFault.TheVariants.{NoDigit, WrongEnd}
use Rattle.opentext.specs.Texts.{told_line, place_values, values_of, refused_text}

-- a text, where it was made
abbrev pub Text : Result (Vec ℕ Global) AllocError → List ℕ → Type 0
Text r xs = IfOk r (λ v. vec_items v ≡ xs)

-- a text that is another
pub told_as : (r : Result (Vec ℕ Global) AllocError) (x y : List ℕ) → x ≡ y → Text r x → Text r y
told_as r x y e = IfOk-weaker r (λ v. vec_items v ≡ x) (λ v. vec_items v ≡ y) (λ v h. h ∙ e)

-- a number and values that are those of a refusal
pub refused_as : (r : Result (Vec ℕ Global) AllocError) (t : Told) (n : ℕ) (values : List ℕ) → n ≡ t.0 → values ≡ values_of t.0 t.1
    → Text r (told_line (codes "refused ") n values) → Text r (refused_text t)
refused_as r t n values e v = told_as r _ (refused_text t) (λ i. told_line (codes "refused ") (e i) (v i))

-- both faults of a line tell its place
pub place-told : (f : LineFault) → place_values ((fault_place f).line ∷ (fault_place f).column ∷ line_layer ∷ []) ≡ values_of (line_told f).0 (line_told f).1
place-told (NoDigit p) = refl
place-told (WrongEnd p) = refl
