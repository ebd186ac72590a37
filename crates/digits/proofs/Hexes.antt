-- Bytes as digits and back: lengths, places, and that each way undoes the other. Assumes nothing.
use Rattle.std.proofs.Common.{◌≡◌, ℕ, zero, suc, ◌+◌, ◌*◌, ◌/◌, ◌%◌, ◌<◌, min, true, List, [], ◌∷◌, ◌++◌, map, length, get_or, take, drop, set, refl, ap, ◌∙◌, append_assoc, arith, rules}
use Rattle.std.proofs.lemmas.List.{set_at, take_more, drop_more, length-take-le}
use Rattle.std.proofs.lemmas.Grind.{common_steps}
use Rattle.std.proofs.lemmas.Bool.Decides.{nat_tests}
use Rattle.std.specs.Simd.{first_chunks}
use Rattle.blocks.specs.Blocks.{AllBytes}
use Rattle.digits.specs.Hex.{digit, hex, is_digit, value, unhex, decoded}

pub value-small : (c : ℕ) → value c < 16
value-small c = search rules

-- ## Lengths and places

pub length-hex : (bs : List ℕ) → length (hex bs) ≡ 2 * length bs
length-hex [] = refl
length-hex (b ∷ bs) = let r = length-hex bs in omega arith

hex_append : (bs cs : List ℕ) → hex (bs ++ cs) ≡ hex bs ++ hex cs
hex_append [] cs = refl
hex_append (b ∷ bs) cs = ap (λ (y : List ℕ). digit (b / 16) ∷ digit (b % 16) ∷ y) (hex_append bs cs)

-- one byte more
pub hex-more : (bs : List ℕ) (i : ℕ) → i < length bs → hex (take (i + 1) bs) ≡ hex (take i bs) ++ hex (get_or bs i 0 ∷ [])
hex-more bs i h = ap hex (take_more bs i 0 h) ∙ hex_append (take i bs) (get_or bs i 0 ∷ [])

pub length-unhex : (cs : List ℕ) → length (unhex cs) ≡ length cs / 2
length-unhex [] = refl
length-unhex (a ∷ []) = refl
length-unhex (a ∷ b ∷ cs) = let r = length-unhex cs in omega arith

-- the byte that a pair of characters is
abbrev pub pair_value : List ℕ → ℕ
pair_value p = 16 * value (get_or p 0 0) + value (get_or p 1 0)

pub unhex_pairs : (cs : List ℕ) (k : ℕ) → length cs / 2 ≡ k → map pair_value (first_chunks 2 k cs) ≡ unhex cs
unhex_pairs [] zero h = refl
unhex_pairs [] (suc k) h = absurd (omega arith)
unhex_pairs (a ∷ []) zero h = refl
unhex_pairs (a ∷ []) (suc k) h = absurd (omega arith)
unhex_pairs (a ∷ b ∷ cs) zero h = absurd (omega arith)
unhex_pairs (a ∷ b ∷ cs) (suc k) h = ap (λ (v : List ℕ). (16 * value a + value b) ∷ v) (unhex_pairs cs k (omega arith))

-- ## A buffer that is filled

-- one byte more at the front of a buffer
pub front-more : (u out : List ℕ) (i : ℕ) → i < length u → i < length out → set (take i u ++ drop i out) i (get_or u i 0) ≡ take (i + 1) u ++ drop (i + 1) out
front-more u out i h k =
    let l = length-take-le i u (omega arith) in
    let d = drop_more out i 0 k in
    let t = take_more u i 0 h in
    grind (arith, set_at, append_assoc)

-- as many bytes as there are, or as the buffer has room for
pub front_all : (u out : List ℕ) (i : ℕ) → i ≡ min (length out) (length u) → take i u ++ drop i out ≡ take (length out) u ++ drop (length u) out
front_all u out i e = grind (arith, common_steps)

-- a buffer that the bytes just fill
pub decoded_fits : (cs out : List ℕ) → length (unhex cs) ≡ length out → decoded cs out ≡ unhex cs
decoded_fits cs out h = grind (arith, common_steps)

pub decoded_all : (cs out : List ℕ) → length cs ≡ 2 * length out → decoded cs out ≡ unhex cs
decoded_all cs out h = decoded_fits cs out (omega (arith, length-unhex cs))

-- ## Each way undoes the other

-- every character is a digit
abbrev pub Digital : List ℕ → Type 0
Digital [] = Unit {0}
Digital (c ∷ cs) = (is_digit c ≡ true) × Digital cs

pub digit_value : (c : ℕ) → is_digit c ≡ true → digit (value c) ≡ c
digit_value c h = grind (arith, nat_tests)

pub value-digit : (d : ℕ) → d < 16 → value (digit d) ≡ d
value-digit d h = grind (arith, nat_tests)

pub digit_is : (d : ℕ) → d < 16 → is_digit (digit d) ≡ true
digit_is d h = grind (arith, nat_tests)

pub hex-unhex : (k : ℕ) (ds : List ℕ) → Digital ds → length ds ≡ 2 * k → (hex (unhex ds) ≡ ds) × (length (unhex ds) ≡ k)
hex-unhex k [] h l = (refl, omega arith)
hex-unhex k (a ∷ []) h l = absurd (omega arith)
hex-unhex zero (a ∷ b ∷ cs) h l = absurd (omega arith)
hex-unhex (suc k) (a ∷ b ∷ cs) h l =
    let x = value-small a in
    let y = value-small b in
    let e : (16 * value a + value b) / 16 ≡ value a = omega arith in
    let f : (16 * value a + value b) % 16 ≡ value b = omega arith in
    let m : length cs ≡ 2 * k = omega arith in
    let r = hex-unhex k cs h.1.1 m in (
      ap (λ v. digit v ∷ digit ((16 * value a + value b) % 16) ∷ hex (unhex cs)) e ∙ ap (λ v. digit (value a) ∷ digit v ∷ hex (unhex cs)) f
          ∙ ap (λ v. v ∷ digit (value b) ∷ hex (unhex cs)) (digit_value a h.0) ∙ ap (λ v. a ∷ v ∷ hex (unhex cs)) (digit_value b h.1.0)
          ∙ ap (λ (v : List ℕ). a ∷ b ∷ v) r.0,
      ap suc r.1,
    )

pub hex_digital : (bs : List ℕ) → AllBytes bs → Digital (hex bs)
hex_digital [] h = tt
hex_digital (b ∷ bs) h = let i = h.0 in (digit_is (b / 16) (omega arith), (digit_is (b % 16) (omega arith), hex_digital bs h.1))

pub unhex-hex : (bs : List ℕ) → AllBytes bs → unhex (hex bs) ≡ bs
unhex-hex [] h = refl
unhex-hex (b ∷ bs) h =
    let i = h.0 in
    let x = value-digit (b / 16) (omega arith) in
    let y = value-digit (b % 16) (omega arith) in
    let e : 16 * value (digit (b / 16)) + value (digit (b % 16)) ≡ b =
    ap (λ v. 16 * v + value (digit (b % 16))) x ∙ ap (λ v. 16 * (b / 16) + v) y ∙ omega arith in
    ap (λ v. v ∷ unhex (hex bs)) e ∙ ap (λ (v : List ℕ). b ∷ v) (unhex-hex bs h.1)

-- what digits tell are bytes
pub unhex_bytes : (cs : List ℕ) → AllBytes (unhex cs)
unhex_bytes [] = tt
unhex_bytes (a ∷ []) = tt
unhex_bytes (a ∷ b ∷ cs) = let x = value-small a in let y = value-small b in (omega arith, unhex_bytes cs)
