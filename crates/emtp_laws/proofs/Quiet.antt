-- A network whose sources are all 0 stays at rest: it is its own mirror image.
use Rattle.std.proofs.Common.{◌≡◌, ◌∙◌, ℕ, ℤ, pos, neg_ℤ, List, [], ◌∷◌, All, map, refl, ap, sym, arith}
use Rattle.std.proofs.lemmas.Int.{ints}
use Rattle.std.proofs.lemmas.List.Elements.{All-head, All-tail}
use Rattle.emtp_case.specs.held.Case.{HasNoControl}
use Rattle.emtp_case.specs.StepRecord.{StepRecord, branch_current_at, current_of, record_back, switch_current_at, voltage_at}
use Rattle.emtp_case.specs.declared.case.Parts.{Parts}
use Rattle.emtp_case.specs.declared.source.Source.{Source}
use Rattle.emtp_machine.specs.History.{History, history_upto}
use Rattle.emtp_machine.specs.Laws.{records_upto}
use Rattle.emtp_laws.specs.Mirror.{HasNoSign, IsQuiet, mirror_image, mirrored_record, mirrored_records, mirrored_source}
use Rattle.emtp_laws.proofs.MirroredSteps.{back, history_mirrored}
use Rattle.emtp_laws.proofs.MirroredSamples.{current_turned}
use Rattle.emtp_laws.proofs.MirroredPart.{HasCurves}
use Rattle.emtp_laws.proofs.MirroredRecords.{kept_at}
use Rattle.emtp_elim.proofs.Opposites.{item_turned}

quiet_source : (s : Source) → s.amplitude ≡ pos 0 → mirrored_source s ≡ s
quiet_source s e = ap (λ (a : ℤ). let t : Source = record s { amplitude = a } in t) (ap neg_ℤ e ∙ sym e)

quiet_sources : (ss : List Source) → All (λ (s : Source). s.amplitude ≡ pos 0) ss → map mirrored_source ss ≡ ss
quiet_sources [] all = refl
quiet_sources (s ∷ ss) all =
    ap (λ t. t ∷ map mirrored_source ss) (quiet_source s (All-head (λ (s : Source). s.amplitude ≡ pos 0) s ss all))
    ∙ ap (λ ts. s ∷ ts) (quiet_sources ss (All-tail (λ (s : Source). s.amplitude ≡ pos 0) s ss all))

own_image : (case : Parts) → All (λ (s : Source). s.amplitude ≡ pos 0) case.sources → mirror_image case ≡ case
own_image case all = ap (λ (ss : List Source). let p : Parts = record case { sources = ss } in p) (quiet_sources case.sources all)

own_opposite : (x : ℤ) → x ≡ neg_ℤ x → x ≡ pos 0
own_opposite x e = omega (arith, ints, e)

pub stays_at_rest : (case : Parts) (n k : ℕ) → HasNoSign case → HasCurves case → HasNoControl case → All (λ (s : Source). s.amplitude ≡ pos 0) case.sources → IsQuiet (record_back (records_upto case n) k)
stays_at_rest case n k plain curves none quiet =
    let H = records_upto case n in
    let r = record_back H k in
    let alike : H ≡ mirrored_records H =
    ap (λ (p : Parts). (history_upto p n).records) (sym (own_image case quiet)) ∙ ap (λ (h : History). h.records) (history_mirrored case n plain curves none) in
    let same : r ≡ mirrored_record r = ap (λ hs. record_back hs k) alike ∙ back H k in record {
      voltages = λ node. own_opposite (voltage_at node r) (ap (voltage_at node) same ∙ item_turned r.voltages node);
      currents = λ b. own_opposite (branch_current_at b r) (ap (branch_current_at b) same ∙ kept_at current_of neg_ℤ (pos 0) current_turned b r.branches);
      switch_currents = λ s. own_opposite (switch_current_at s r) (ap (switch_current_at s) same ∙ item_turned r.switch_currents s);
      branches = sym (ap (λ (q : StepRecord). q.branches) same);
    }
