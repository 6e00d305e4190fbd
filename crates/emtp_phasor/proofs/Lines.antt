-- The lines of a scan, one after another.
use Rattle.std.proofs.Common.{◌≡◌, ◌∙◌, sym, ap, ℕ, ◌+◌, ◌≤◌, ℤ, List, [], ◌∷◌, ◌++◌, map, Some, arith}
use Rattle.std.specs.List.{range_with_len}
use Rattle.std.proofs.lemmas.List.FromFn.{map-range_with_len_more}
use Rattle.emtp_admittance.specs.Refusals.{judged_frequency}
use Rattle.emtp_admittance.specs.declared.probe.Probe.{Probe}
use Rattle.emtp_case.specs.declared.case.Parts.{Parts}
use Rattle.emtp_phasor.specs.Scanning.{answer_by, frequency_at, frequency_count, line_at, scan_lines}
use Rattle.emtp_phasor.specs.declared.line.ScanAnswer.{ScanAnswer}
use Rattle.emtp_phasor.specs.declared.line.ScanLine.{ScanLine}

-- one line more
pub lines_more : (case : Parts) (probe : Probe) (first by : ℤ) (k : ℕ) (freq : ℤ) (answer : ScanAnswer) (old new : List ScanLine) → freq ≡ frequency_at first by k → answer ≡ answer_by case probe (judged_frequency case (Some freq))
    → new ≡ old ++ (record { freq = freq; answer = answer }) ∷ []
    → old ≡ map (λ k. line_at case probe (frequency_at first by k)) (range_with_len 0 k)
    → new ≡ map (λ k. line_at case probe (frequency_at first by k)) (range_with_len 0 (k + 1))
lines_more case probe first by k freq answer old new is found pushed so_far =
    let F : ℕ → ScanLine = λ k. line_at case probe (frequency_at first by k) in
    let made : ScanAnswer → ScanLine = λ a. record { freq = freq; answer = a } in
    let here : made answer ≡ F k = ap made found ∙ ap (line_at case probe) is in
    pushed ∙ ap (λ x. old ++ x ∷ []) here ∙ ap (λ xs. xs ++ F k ∷ []) so_far ∙ sym (map-range_with_len_more F 0 k k (omega arith))

-- all lines
pub lines_all : (case : Parts) (probe : Probe) (first last by : ℤ) (k count : ℕ) (lines : List ScanLine) → count ≡ frequency_count first last by → k ≤ count → count ≤ k → lines ≡ map (λ k. line_at case probe (frequency_at first by k)) (range_with_len 0 k)
    → lines ≡ scan_lines case probe first last by
lines_all case probe first last by k count lines is within past so_far =
    let same : k ≡ frequency_count first last by = omega (arith, is, within, past) in
    so_far ∙ ap (λ n. map (λ k. line_at case probe (frequency_at first by k)) (range_with_len 0 n)) same
