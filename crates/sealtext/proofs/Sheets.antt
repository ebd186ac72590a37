-- The lines of a sheet that an input is sealed to fit the output, so that writing them is not refused. Assumes nothing.
use Rattle.std.proofs.Common.{◌≡◌, ℕ, ◌*◌, ◌^◌, ◌<◌, ◌≤◌, List, ◌++◌, length, drop, Ok, Err, Result, refl, ap, ◌∙◌, arith}
use Rattle.std.proofs.lemmas.Bool.{le-leb, lt-ltb}
use Rattle.std.specs.Result.{result_unwrap_or}
use Rattle.refusals.specs.Answers.{answered}
use Rattle.method.proofs.Undone.{length-crypt, length-tag}
use Rattle.method.proofs.Kept.{Kept}
use Rattle.method.specs.Limits.{header_limit, message_limit}
use Rattle.method.specs.Published.{crypt, tag}
use Rattle.sheetlines.proofs.Widths.{size_total, total-frames, length-frames}
use Rattle.sheetlines.proofs.Sizes.{length-lines}
use Rattle.sheetlines.specs.Lines.{lines_size}
use Rattle.sheetlines.specs.Sheets.{first_frame, frames_of, lines_of}
use Rattle.sheetwriter.specs.Writes.{write_told, write_answer, written}
use Rattle.sheetwriter.specs.declared.fault.WriteFault.{WriteFault}
use Rattle.sealtext.specs.Inputs.{longest_message}
use Rattle.sealtext.specs.Seals.{tag_bytes, sheet_lines}
use Rattle.sealtext.specs.Texts.{on_front}

pub record Written (E : ℕ → ℕ) (h m : List ℕ) (N count : ℕ) (out buffer : List ℕ) : Type 0 where
  pub count_is : count ≡ length (sheet_lines E h m N)
  pub buffer_is : buffer ≡ on_front (sheet_lines E h m N) out

-- a byte of ciphertext takes three bytes of text at the most
body_size : (k : ℕ) → lines_size (frames_of k) ≤ 3 * k
body_size k =
    let total = total-frames k first_frame k (omega arith) (omega arith) in
    let lines = length-frames k first_frame k (omega arith) in
    omega (arith, size_total (frames_of k))

value_of_ok : (r : Result ℕ WriteFault) (n : ℕ) → answered write_told r ≡ Ok n → result_unwrap_or r 0 ≡ n
value_of_ok (Ok k) n e = cc
value_of_ok (Err f) n e = absurd (let z : ◌≡◌ {A = ℕ} 0 1 = cc in omega arith)

-- a sheet within the limits is written where there is room for its lines
write_fits : (N : ℕ) (h c t : List ℕ) (room : ℕ) → Kept N (length h) (length c) (length t) → length (lines_of N h c t) ≤ room
    → write_answer N h c t room ≡ Ok (length (lines_of N h c t))
write_fits N h c t room k fits =
    rw (
      le-leb 12 (length t) k.least,
      le-leb (length t) 16 k.most,
      lt-ltb N (2 ^ 63) k.nonce,
      le-leb (length h) header_limit k.header,
      le-leb (length c) message_limit k.message,
      le-leb (length (lines_of N h c t)) room fits,
    )
    refl

-- the whole text is far below the output's 65,536 bytes
sheet_small : (E : ℕ → ℕ) (N : ℕ) (h m : List ℕ) → N < 2 ^ 63 → length h ≤ header_limit → length m ≤ longest_message
    → length (sheet_lines E h m N) ≤ 65536
sheet_small E N h m nonce header message =
    let c = crypt E N m in
    let t = tag E tag_bytes N h c in
    let lc = length-crypt E N m nonce (omega arith) in
    let lt = length-tag E tag_bytes N h c (omega arith) in
    omega (arith, length-lines N h c t, body_size (length c))

-- what was handed to the writer is the sheet's, so its lines are at the output's front
pub sheet_written : (E : ℕ → ℕ) (N : ℕ) (h m out : List ℕ) → N < 2 ^ 63 → length h ≤ header_limit → length m ≤ longest_message
    → length out ≡ 65536
    → (n : ℕ) (g p c t : List ℕ) → n ≡ N → g ≡ h → p ≡ m → c ≡ crypt E N p → t ≡ tag E tag_bytes N g (crypt E N p)
    → (r : Result ℕ WriteFault) (count : ℕ) (buffer : List ℕ) → answered write_told r ≡ write_answer n g c t (length out)
    → count ≡ result_unwrap_or r 0 → buffer ≡ written (write_answer n g c t (length out)) (lines_of n g c t) out
    → Written E h m N count out buffer
sheet_written E N h m out nonce header message room n g p c t en eg ep ec et r count buffer answer counts writes =
    let C = crypt E N m in
    let T = tag E tag_bytes N h C in
    let lc = length-crypt E N m nonce (omega arith) in
    let lt = length-tag E tag_bytes N h C (omega arith) in
    let small = sheet_small E N h m nonce header message in
    let taken : write_answer N h C T (length out) ≡ Ok (length (lines_of N h C T)) =
    write_fits N h C T (length out)
    record { least = omega arith; most = omega arith; nonce = nonce; header = header; message = omega arith }
    (omega arith) in
    let fc : c ≡ C = ec ∙ ap (crypt E N) ep in
    let ft : t ≡ T = et ∙ (λ i. tag E tag_bytes N (eg i) (crypt E N (ep i))) in
    let same : write_answer n g c t (length out) ≡ Ok (length (lines_of N h C T)) =
    (λ i. write_answer (en i) (eg i) (fc i) (ft i) (length out)) ∙ taken in
    record {
      count_is = counts ∙ value_of_ok r (length (lines_of N h C T)) (answer ∙ same);
      buffer_is =
          writes ∙ ap (λ a. written a (lines_of n g c t) out) same
          ∙ (λ i. lines_of (en i) (eg i) (fc i) (ft i) ++ drop (length (lines_of N h C T)) out);
    }
