-- With a control of its own, a mirrored network has the mirrored records as long as both runs go on.
use Rattle.std.proofs.Common.{◌≡◌, ◌∙◌, ℕ, zero, suc, List, [], ◌∷◌, None, Result, Ok, Err, ap, sym}
use Rattle.emtp_case.specs.StepRecord.{StepRecord}
use Rattle.emtp_case.specs.declared.case.Parts.{Parts}
use Rattle.emtp_machine.proofs.Histories.{is_made}
use Rattle.emtp_machine.specs.History.{history_upto}
use Rattle.emtp_machine.specs.Laws.{records_upto}
use Rattle.emtp_net.specs.Part.{NetworkPart}
use Rattle.emtp_net.specs.held.Part.{network_of}
use Rattle.emtp_net.specs.Step.{network_part}
use Rattle.emtp_net.specs.declared.fault.NetFault.{NetFault}
use Rattle.emtp_laws.specs.Mirror.{HasNoSign, bare, bare_records, mirror_image, mirrored_bare, mirrored_part, mirrored_step, without_control}
use Rattle.emtp_laws.proofs.MirroredSteps.{part_opposite_of, rest_mirrored}
use Rattle.emtp_laws.proofs.MirroredPart.{HasCurves}
use Rattle.emtp_laws.proofs.SolvedSteps.{next_made}

-- the record of a network's part alone
abbrev bare_of : NetworkPart → StepRecord
bare_of p = record { voltages = p.voltages; branches = p.branches; switch_states = p.switch_states; switch_currents = p.switch_currents; values = []; blocks = []; devices = [] }

one_part : (a b : NetworkPart) (o : Result NetworkPart NetFault) → o ≡ Ok a → mirrored_step o ≡ Ok b → b ≡ mirrored_part a
one_part a b (Ok p) e h = cc
one_part a b (Err fault) e h = absurd (cc)

image : (a b : NetworkPart) (r s : StepRecord) → network_of r ≡ a → network_of s ≡ b → b ≡ mirrored_part a → bare s ≡ mirrored_bare r
image a b r s e h is = ap bare_of (h ∙ is ∙ sym (ap mirrored_part e))

pub records_opposite : (case : Parts) (n : ℕ) → HasNoSign case → HasCurves case → (history_upto case n).end ≡ None → (history_upto (mirror_image case) n).end ≡ None → without_control (records_upto (mirror_image case) n) ≡ bare_records (records_upto case n)
unfolding history_upto
records_opposite case zero plain curves running there = ap (λ (r : StepRecord). bare r ∷ []) (sym (rest_mirrored case))
records_opposite case (suc n) plain curves running there =
    let a = is_made case n running in
    let b = is_made (mirror_image case) n there in
    let before = records_opposite case n plain curves a.running b.running in
    let p = next_made case (records_upto case n) a.r a.next_is in
    let q = next_made (mirror_image case) (records_upto (mirror_image case) n) b.r b.next_is in
    let step = part_opposite_of case (records_upto case n) (records_upto (mirror_image case) n) plain curves before in
    let same = image p.part q.part a.r b.r p.is q.is (one_part p.part q.part (network_part case (records_upto case n)) p.made (sym step ∙ q.made)) in
    ap without_control b.records_are
    ∙ ap (λ (r : StepRecord). r ∷ without_control (records_upto (mirror_image case) n)) same
    ∙ ap (λ (rs : List StepRecord). mirrored_bare a.r ∷ rs) before
    ∙ sym (ap bare_records a.records_are)
