-- Over the files that a run makes, the audit says that they are the case's record.
use Rattle.std.proofs.Common.{◌≡◌, ◌∙◌, ◌+◌, ◌++◌, ap, sym, subst, refl, ℕ, Bool, true, false, List, [], ◌∷◌, length, take, Option, Some, None, option_map, Ok}
use Rattle.std.proofs.lemmas.List.{take_all}
use Rattle.std.specs.Prelude.{◌&&◌, if◌then◌else◌, codes}
use Rattle.emtp_audit.proofs.AuditSame.{record-same}
use Rattle.emtp_audit.specs.Note.{same_text}
use Rattle.emtp_card.specs.declared.cards.TheConstants.{MAX_BYTES}
use Rattle.emtp_case.specs.held.Case.{IsCase}
use Rattle.emtp_case.specs.declared.case.Parts.{Parts}
use Rattle.emtp_comtrade.specs.Record.{cfg_text, dat_text}
use Rattle.emtp_machine.proofs.RecordRanges.{samples_in_range}
use Rattle.emtp_machine.specs.History.{history, samples}
use Rattle.emtp_run.specs.Command.{answer_by, audit_by, audit_outcome, outcome, outcome_for, outcome_of, record_file}
use Rattle.emtp_run.specs.Inputs.{and_content, content, contents}
use Rattle.emtp_run.specs.Outcome.{Outcome, ran, record_writes, summarised}
use Rattle.emtp_run.specs.Reading.{deck}
use Rattle.emtp_run.specs.Words.{Audit, Run, RunFiles, differ, fits, is_name, of_three}
use Rattle.emtp_run.specs.declared.reading.TheConstants.{RECORD_BOUND}
use Rattle.emtp_laws_of_commands.specs.Files.{HoldsFiles, audit_words, run_words}
use Rattle.emtp_laws_of_commands.proofs.ShortRecords.{cfg_short, dat_short}

-- where three files fit `run`, they fit `audit`
audit_fits : (f : RunFiles) → fits (run_words f) ≡ Some (Run f) → fits (audit_words f) ≡ Some (Audit f)
audit_fits f e = by_test (is_name f.case && is_name f.cfg && is_name f.dat && differ f.case f.cfg f.dat) e
  where
    by_test : (b : Bool) → (if b then of_three (codes "run") f else None) ≡ Some (Run f) → (if b then of_three (codes "audit") f else None) ≡ Some (Audit f)
    by_test true e = refl
    by_test false e = absurd (cc)

-- what is read of a file that is there
read_of : (files : List ℕ → Option (List ℕ)) (name text : List ℕ) (bound : ℕ) → files name ≡ Some text → content files (record { name = name; bound = bound }) ≡ Some (take bound text)
read_of files name text bound is = ap (option_map (λ bytes. take bound bytes)) is

-- what a run comes to over these files
pub run_made : (f : RunFiles) (files : List ℕ → Option (List ℕ)) (text : List ℕ) (p : Parts) → fits (run_words f) ≡ Some (Run f) → files f.case ≡ Some text → deck (take (MAX_BYTES + 1) text) ≡ Ok p
    → outcome (run_words f) files ≡ Some (ran p (record_writes f p (history p)))
run_made f files text p e there is =
    ap (λ t. outcome_for t files) e
    ∙ ap (λ o. option_map (outcome_of (Run f)) (option_map (λ texts. [] ++ texts) (and_content o (Some [])))) (read_of files f.case text (MAX_BYTES + 1) there)
    ∙ ap (λ r. Some (answer_by (Run f) (take (MAX_BYTES + 1) text ∷ []) r)) is

-- what an audit comes to over these files
audit_made : (f : RunFiles) (files : List ℕ → Option (List ℕ)) (text cfg dat : List ℕ) (p : Parts) → fits (audit_words f) ≡ Some (Audit f) → files f.case ≡ Some text → files f.cfg ≡ Some cfg → files f.dat ≡ Some dat → deck (take (MAX_BYTES + 1) text) ≡ Ok p
    → outcome (audit_words f) files ≡ Some (audit_outcome p (take RECORD_BOUND cfg) (take RECORD_BOUND dat))
audit_made f files text cfg dat p e there cfg_there dat_there is =
    ap (λ t. outcome_for t files) e
    ∙ ap (λ o. option_map (outcome_of (Audit f)) (option_map (λ texts. [] ++ texts) (and_content o (contents files (record_file f.cfg ∷ record_file f.dat ∷ []))))) (read_of files f.case text (MAX_BYTES + 1) there)
    ∙ ap (λ o. option_map (outcome_of (Audit f)) (option_map (λ texts. [] ++ texts) (and_content (Some (take (MAX_BYTES + 1) text)) (and_content o (contents files (record_file f.dat ∷ [])))))) (read_of files f.cfg cfg RECORD_BOUND cfg_there)
    ∙ ap (λ o. option_map (outcome_of (Audit f)) (option_map (λ texts. [] ++ texts) (and_content (Some (take (MAX_BYTES + 1) text)) (and_content (Some (take RECORD_BOUND cfg)) (and_content o (Some [])))))) (read_of files f.dat dat RECORD_BOUND dat_there)
    ∙ ap (λ r. Some (answer_by (Audit f) (take (MAX_BYTES + 1) text ∷ take RECORD_BOUND cfg ∷ take RECORD_BOUND dat ∷ []) r)) is

pub some_same : {A : Type 0} (x y : A) → Some x ≡ Some y → x ≡ y
some_same x y e = cc

pub audited_same : (p : Parts) → IsCase p → (f : RunFiles) (files : List ℕ → Option (List ℕ)) (text : List ℕ) (made : Outcome) → fits (run_words f) ≡ Some (Run f) → files f.case ≡ Some text → deck (take (MAX_BYTES + 1) text) ≡ Ok p
    → outcome (run_words f) files ≡ Some made → HoldsFiles files made.writes → outcome (audit_words f) files ≡ Some (summarised (same_text (length (samples p (history p)))))
audited_same p fits_case f files text made e there is came held =
    let rows = samples p (history p) in
    let same : made ≡ ran p (record_writes f p (history p)) = some_same made (ran p (record_writes f p (history p))) (sym came ∙ run_made f files text p e there is) in
    let files_held = subst (λ (o : Outcome). HoldsFiles files o.writes) same held in
    audit_made f files text (cfg_text p rows) (dat_text p rows) p (audit_fits f e) there files_held.0 files_held.1.0 is
    ∙ ap (λ c. Some (audit_outcome p c (take RECORD_BOUND (dat_text p rows)))) (take_all RECORD_BOUND (cfg_text p rows) (cfg_short p fits_case))
    ∙ ap (λ d. Some (audit_outcome p (cfg_text p rows) d)) (take_all RECORD_BOUND (dat_text p rows) (dat_short p fits_case))
    ∙ ap (λ o. Some (audit_by p o)) (record-same p rows fits_case (samples_in_range p fits_case))
