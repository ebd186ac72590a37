-- The text of an answer, by what parsing and sealing said. Assumes nothing.
use Rattle.std.proofs.Common.{◌≡◌, ℕ, min, List, length, take, Ok, Err, codes, sym, refl, ap, ◌∙◌, inl, inr, arith}
use Rattle.std.proofs.lemmas.List.{take_all}
use Rattle.std.proofs.lemmas.Bool.{cases_lt}
use Rattle.refusals.specs.Answers.{Told, Answer}
use Rattle.sealtext.specs.Inputs.{Input, parsed}
use Rattle.sealtext.specs.Seals.{seal_input, counted}
use Rattle.sealtext.specs.Texts.{told_line, answer_text, input_text, sheetseal_text, on_front, answer_front}

pub bad_text : (cs : List ℕ) (n : ℕ) → parsed cs ≡ Err n → sheetseal_text cs ≡ told_line (codes "bad line ") n
unfolding sheetseal_text
bad_text cs n e = ap input_text e

sealed_text : (cs : List ℕ) (i : Input) (a : Answer (List ℕ)) → parsed cs ≡ Ok i → seal_input i ≡ a → sheetseal_text cs ≡ answer_text a
unfolding sheetseal_text
sealed_text cs i a e f = ap input_text e ∙ ap answer_text f

-- a text at the front of an output, and its length
pub record Fronted (text : List ℕ) (count : ℕ) (out buffer : List ℕ) : Type 0 where
  pub count_is : count ≡ length text
  pub buffer_is : buffer ≡ on_front text out

-- what was told of one text is told of an equal one
pub fronted : (text said : List ℕ) (count : ℕ) (out buffer : List ℕ) → text ≡ said → count ≡ length said → buffer ≡ on_front said out
    → Fronted text count out buffer
fronted text said count out buffer e c b = record { count_is = c ∙ ap length (sym e); buffer_is = b ∙ ap (λ t. on_front t out) (sym e) }

-- the lines stand in the output already
pub lines_fronted : (cs : List ℕ) (i : Input) (count : ℕ) (out buffer : List ℕ) → parsed cs ≡ Ok i
    → ◌≡◌ {A = Answer ℕ} (Ok count) (counted (seal_input i)) → buffer ≡ answer_front (seal_input i) out
    → Fronted (sheetseal_text cs) count out buffer
lines_fronted cs i count out buffer e c b = go (seal_input i) refl c b
  where
    go : (a : Answer (List ℕ)) → seal_input i ≡ a → ◌≡◌ {A = Answer ℕ} (Ok count) (counted a) → buffer ≡ answer_front a out
        → Fronted (sheetseal_text cs) count out buffer
    go (Ok lines) f c b =
        let is : count ≡ length lines = cc in
        fronted (sheetseal_text cs) lines count out buffer (sealed_text cs i (Ok lines) e f) is b
    go (Err t) f c b = absurd (let z : ◌≡◌ {A = ℕ} 0 1 = cc in omega arith)

-- a refusal has left the output, and its number is told there
pub refusal_fronted : (cs : List ℕ) (i : Input) (t : Told) (n count : ℕ) (out left buffer : List ℕ) → parsed cs ≡ Ok i
    → ◌≡◌ {A = Answer ℕ} (Err t) (counted (seal_input i)) → left ≡ answer_front (seal_input i) out → n ≡ t.0
    → count ≡ length (told_line (codes "refused ") n) → buffer ≡ on_front (told_line (codes "refused ") n) left
    → Fronted (sheetseal_text cs) count out buffer
refusal_fronted cs i t n count out left buffer e c l m k b = go (seal_input i) refl c l
  where
    go : (a : Answer (List ℕ)) → seal_input i ≡ a → ◌≡◌ {A = Answer ℕ} (Err t) (counted a) → left ≡ answer_front a out
        → Fronted (sheetseal_text cs) count out buffer
    go (Ok lines) f c l = absurd (let z : ◌≡◌ {A = ℕ} 0 1 = cc in omega arith)
    go (Err u) f c l =
        let same : t ≡ u = cc in
        let is : n ≡ u.0 = m ∙ ap (λ v. v.0) same in
        fronted (sheetseal_text cs) (told_line (codes "refused ") n) count out buffer
        (sealed_text cs i (Err u) e f ∙ ap (told_line (codes "refused ")) (sym is)) k (b ∙ ap (on_front (told_line (codes "refused ") n)) l)

-- as far as the text goes
pub take_min : (xs : List ℕ) (k n : ℕ) → k ≡ min (length xs) n → take k xs ≡ take n xs
take_min xs k n e =
    elim (cases_lt n (length xs)) [
      | inl h ↦ let is : k ≡ n = omega arith in ap (λ j. take j xs) is
      | inr h ↦ take_all k xs (omega arith) ∙ sym (take_all n xs h)
    ]
