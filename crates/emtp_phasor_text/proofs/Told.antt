-- What is told of the answers.
use Rattle.std.proofs.Common.{◌≡◌, ◌∙◌, sym, ap, ℕ, ℤ, pos, unsigned_abs, List, Option, Err, arith}
use Rattle.std.proofs.lemmas.Int.{ints}
use Rattle.emtp_admittance.specs.Refusals.{judged_frequency}
use Rattle.emtp_admittance.specs.declared.refusal.Refusal.{Refusal}
use Rattle.emtp_case.specs.declared.case.Parts.{Parts}
use Rattle.emtp_machine.specs.Next.{node_name}
use Rattle.emtp_machine.specs.declared.end.Cause.{Cause}
use Rattle.emtp_phasor.specs.held.Solving.{EndsSolution, IsSolved}
use Rattle.emtp_phasor.specs.declared.steady_state.Phasors.{Phasors}
use Rattle.emtp_phasor_text.specs.Reports.{steady_report, told_frequency, told_state}
use Rattle.emtp_phasor_text.specs.Texts.{refusal_note, steady_end_note, steady_summary}
use Rattle.emtp_phasor_text.specs.declared.report.Report.TheVariants.{Ended as TellsEnd, Refused as TellsRefusal, Summary}

pub refused_told : (case : Parts) (given : Option ℤ) (line : ℕ) (reason : Refusal) (text : List ℕ) → judged_frequency case given ≡ Err (record { line = line; reason = reason }) → text ≡ refusal_note line reason → TellsRefusal text ≡ steady_report case given
unfolding steady_report
refused_told case given line reason text judges is = ap TellsRefusal is ∙ ap (told_frequency case) (sym judges)

pub end_told : (case : Parts) (given : Option ℤ) (name : List ℕ) (cause : Cause) (measured : ℤ) (text : List ℕ) → EndsSolution case given name cause measured → text ≡ steady_end_note cause name measured → TellsEnd text ≡ steady_report case given
unfolding steady_report
end_told case given name cause measured text ends is =
    let node : List ℕ = node_name case ends.end.node in
    let note : steady_end_note cause name measured ≡ steady_end_note ends.end.cause node ends.end.measured =
    ap (λ n. steady_end_note cause n measured) ends.told.name_is ∙ ap (λ k. steady_end_note k node measured) ends.told.cause_is ∙ ap (steady_end_note ends.end.cause node) ends.told.measured_is in
    ap TellsEnd (is ∙ note) ∙ ap (told_state case ends.freq) (sym ends.is) ∙ ap (told_frequency case) (sym ends.good)

pub state_told : (case : Parts) (given : Option ℤ) (p : Phasors) (text : List ℕ) → IsSolved case given p → text ≡ steady_summary case.nodes p.freq p.residual p.volts.items → Summary text ≡ steady_report case given
unfolding steady_report
state_told case given p text solved is =
    let same : p.residual ≡ pos (unsigned_abs p.residual) = omega (arith, ints, solved.steady.1) in
    ap Summary (is ∙ ap (λ r. steady_summary case.nodes p.freq r p.volts.items) same) ∙ ap (told_state case p.freq) (sym solved.steady.0) ∙ ap (told_frequency case) (sym solved.good)
