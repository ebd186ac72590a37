-- A text that is no UTF-8 names no cipher, since each name is ASCII.
use Rattle.std.proofs.Common.{rules, arith, ◌≡◌, ℕ, false, List, None, codes, refl, sym, subst}
use Rattle.std.proofs.lemmas.Grind.{common_steps}
use Rattle.std.proofs.lemmas.Slice.Eq.{bytes_eq-Decides}
use Rattle.std.specs.Str.{IsUtf8, bytes_eq}
use Rattle.cipherlines.specs.Chosen.{name_of}
use Rattle.cipherlines.proofs.chosen.NameTryFromRefSliceU8.try_from.Goals as goal

differs : (cs w : List ℕ) → IsUtf8 w → (IsUtf8 cs → ⊥) → bytes_eq cs w ≡ false
differs cs w u h = grind (arith, common_steps, bytes_eq-Decides, λ (e : cs ≡ w). h (subst IsUtf8 (sym e) u))

unnamed : (cs : List ℕ) → (IsUtf8 cs → ⊥) → name_of cs ≡ None
unnamed cs h =
    rw (differs cs (codes "practice") (search rules) h, differs cs (codes "aes") (search rules) h, differs cs (codes "speck") (search rules) h) refl

pub returns-in_err-map_err : goal.returns-in_err-map_err
returns-in_err-map_err c = search (rules, unnamed)
