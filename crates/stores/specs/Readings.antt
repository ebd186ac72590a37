-- A reading, as the store that it tells and as the text that is printed of it. Assumes nothing.
use Rattle.std.specs.Prelude.{ℕ, ◌/◌, ◌%◌, Bool, false, cond, List, [], ◌∷◌, ◌++◌, codes, decimal}
use Rattle.std.specs.Fmt.{digit_glyph}
use Rattle.stores.specs.Store.{Store, store}
use Rattle.stores.specs.declared.reading.Reading.{Reading}

abbrev pub reading_store : Reading → Store
reading_store r = store r.mark r.capacity r.power r.leftover r.on

-- a byte in two digits
abbrev pub byte_text : ℕ → List ℕ
byte_text b = digit_glyph false (b / 16) ∷ digit_glyph false (b % 16) ∷ []

abbrev pub state_text : Bool → List ℕ
state_text on = cond on (codes "on") (codes "off")

-- as `on, mark 3 of 65536, power 7, leftover 0f`
abbrev pub reading_text : Reading → List ℕ
reading_text r =
    state_text r.on ++ (codes ", mark " ++ (decimal r.mark ++ (codes " of " ++ (decimal r.capacity
    ++ (codes ", power " ++ (decimal r.power ++ (codes ", leftover " ++ byte_text r.leftover)))))))
