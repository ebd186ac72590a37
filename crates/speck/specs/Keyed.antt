-- What a Speck cipher means: the image with the round keys that it holds. Assumes nothing.
use Rattle.std.specs.Prelude.{List, ℕ, get_or}
use Rattle.speck.specs.Rounds.{image_with}

abbrev pub keys_image : List ℕ → ℕ → ℕ
keys_image keys b = image_with (λ i. get_or keys i 0) b
