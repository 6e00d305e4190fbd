-- Lines, piece by piece.
use Rattle.std.proofs.Common.{◌≡◌, ◌∙◌, ◌++◌, ap, append_assoc, codes, decimal, Err, List, Ok, OnOk, refl, Result, sym, ℕ}
use Rattle.emtp_machine.specs.End.{cause_text, cause_word, measured_text}
use Rattle.emtp_machine.specs.declared.end.End.{End}
use Rattle.emtp_run.specs.Note.{counts_text, ended_note}

-- the end of a line behind its front
pub line-ended : {A E : Type 0} (r : Result A E) (old text new front end : List ℕ) → text ≡ old ++ front → OnOk r (new ≡ text ++ end)
    → OnOk r (new ≡ old ++ (front ++ end))
line-ended (Ok x) old text new front end was put = put ∙ ap (λ (t : List ℕ). t ++ end) was ∙ append_assoc old front end
line-ended (Err e) old text new front end was put = tt

-- one part more behind a text
part : (old front text more : List ℕ) → old ++ front ≡ text → old ++ (front ++ more) ≡ text ++ more
part old front text more is = sym (append_assoc old front more) ∙ ap (λ (t : List ℕ). t ++ more) is

-- four parts behind a text, one by one or together
together : (text a b c d : List ℕ) → text ++ a ++ b ++ c ++ d ≡ text ++ (a ++ b ++ c ++ d)
together text a b c d =
    sym (part text (a ++ b ++ c) (text ++ a ++ b ++ c) d (part text (a ++ b) (text ++ a ++ b) c (part text a (text ++ a) b refl)))

-- the cause of an early end behind a text, part by part
cause-put : (end : End) (text : List ℕ)
    → text ++ cause_word end.cause ++ codes " " ++ end.name ++ measured_text end.cause end.measured ≡ text ++ cause_text end.cause end.name end.measured
unfolding cause_text
cause-put end text = together text (cause_word end.cause) (codes " ") end.name (measured_text end.cause end.measured)

-- the note of an early end, put part by part
all-put : (end : End) (samples redone : ℕ) (old begun stepped parted caused counted new : List ℕ)
    → begun ≡ old ++ codes "ENDED STEP " → stepped ≡ begun ++ decimal end.step → parted ≡ stepped ++ codes " "
    → caused ≡ parted ++ cause_text end.cause end.name end.measured → counted ≡ caused ++ counts_text samples redone
    → new ≡ counted ++ codes "\n" → old ++ ended_note end samples redone ≡ new
unfolding ended_note
all-put end samples redone old begun stepped parted caused counted new a b c d e f =
    let word = cause_word end.cause in
    let measured = measured_text end.cause end.measured in
    let first = codes "ENDED STEP " ++ decimal end.step in
    let front = first ++ codes " " in
    let cause = front ++ word ++ codes " " ++ end.name ++ measured in
    let ahead : old ++ front ≡ parted = part old first stepped (codes " ") (part old (codes "ENDED STEP ") begun (decimal end.step) (sym a) ∙ sym b) ∙ sym c in
    let one : old ++ (front ++ word) ≡ parted ++ word = part old front parted word ahead in
    let two : old ++ (front ++ word ++ codes " ") ≡ parted ++ word ++ codes " " = part old (front ++ word) (parted ++ word) (codes " ") one in
    let three : old ++ (front ++ word ++ codes " " ++ end.name) ≡ parted ++ word ++ codes " " ++ end.name = part old (front ++ word ++ codes " ") (parted ++ word ++ codes " ") end.name two in
    let four : old ++ cause ≡ caused = part old (front ++ word ++ codes " " ++ end.name) (parted ++ word ++ codes " " ++ end.name) measured three ∙ cause-put end parted ∙ sym d in
    part old (cause ++ counts_text samples redone) counted (codes "\n") (part old cause caused (counts_text samples redone) four ∙ sym e) ∙ sym f

pub ended-put : {A E : Type 0} (r : Result A E) (end : End) (samples redone : ℕ) (old begun stepped parted caused counted new : List ℕ)
    → begun ≡ old ++ codes "ENDED STEP " → stepped ≡ begun ++ decimal end.step → parted ≡ stepped ++ codes " "
    → caused ≡ parted ++ cause_text end.cause end.name end.measured → counted ≡ caused ++ counts_text samples redone
    → OnOk r (new ≡ counted ++ codes "\n") → OnOk r (new ≡ old ++ ended_note end samples redone)
ended-put (Ok x) end samples redone old begun stepped parted caused counted new a b c d e put =
    sym (all-put end samples redone old begun stepped parted caused counted new a b c d e put)
ended-put (Err fault) end samples redone old begun stepped parted caused counted new a b c d e put = tt
