-- The numbers of a record, one branch or switch after another.
use Rattle.std.proofs.Common.{◌≡◌, ◌+◌, ◌<◌, ◌∙◌, ap, sym, ℕ, ℤ, Bool, true, false, List, length, drop, get_or, pos, ◌≤ℤ◌, ◌+ℤ◌, ◌*ℤ◌, ◌*◌, ◌^◌, Option, arith, refl}
use Rattle.std.proofs.lemmas.Int.{ints}
use Rattle.std.proofs.lemmas.List.{at_drop_more}
use Rattle.std.specs.Ordering.{int_eq}
use Rattle.std.specs.Prelude.{if◌then◌else◌}
use Rattle.emtp_case.specs.Branch.{capacitor_impedance, inductor_impedance, series_impedance}
use Rattle.emtp_case.specs.StepRecord.{StepRecord}
use Rattle.emtp_case.specs.declared.branch.Branch.{Branch}
use Rattle.emtp_case.specs.declared.branch.Lumped.{Lumped}
use Rattle.emtp_case.specs.declared.case.Parts.{Parts}
use Rattle.emtp_case.specs.declared.switch.Switch.{Switch}
use Rattle.emtp_case.specs.held.Branch.{HasSeriesNumbers}
use Rattle.emtp_case.specs.held.Range.{IsBetween}
use Rattle.emtp_case.specs.held.RunData.{IsTimeStep}
use Rattle.emtp_fix.proofs.Quotients.{near-nonneg}
use Rattle.emtp_fix.specs.Rounding.{near}
use Rattle.emtp_fix.specs.declared.limit.TheConstants.{LARGEST_CAPACITANCE, LARGEST_IMPEDANCE}
use Rattle.emtp_worth.specs.Nearest.{with_branch, with_branches, with_switch, with_switches}
use Rattle.emtp_worth.specs.declared.nearest.Reached.{Reached}

-- ---- one more

pub branches_next : (case : Parts) (node : ℕ) (r : StepRecord) (bs : List Branch) (at : ℕ) (d : Branch) (best new whole : Option Reached) → at < length bs
    → new ≡ with_branch case node r at (get_or bs at d) best → with_branches case node r at (drop at bs) best ≡ whole
    → with_branches case node r (at + 1) (drop (at + 1) bs) new ≡ whole
branches_next case node r bs at d best new whole within is was =
    ap (with_branches case node r (at + 1) (drop (at + 1) bs)) is
    ∙ sym (at_drop_more (λ (rest : List Branch). with_branches case node r at rest best) bs at d within) ∙ was

pub switches_next : (case : Parts) (node : ℕ) (r : StepRecord) (ss : List Switch) (at : ℕ) (d : Switch) (best new whole : Option Reached) → at < length ss
    → new ≡ with_switch case node r at (get_or ss at d) best → with_switches case node r at (drop at ss) best ≡ whole
    → with_switches case node r (at + 1) (drop (at + 1) ss) new ≡ whole
switches_next case node r ss at d best new whole within is was =
    ap (with_switches case node r (at + 1) (drop (at + 1) ss)) is
    ∙ sym (at_drop_more (λ (rest : List Switch). with_switches case node r at rest best) ss at d within) ∙ was

-- ---- the impedance of an inductance is no larger than that of its branch

capacitor_from_zero : (dt c : ℤ) → IsTimeStep dt → IsBetween 0 LARGEST_CAPACITANCE c → pos 0 ≤ℤ capacitor_impedance dt c
unfolding capacitor_impedance
capacitor_from_zero dt c h h' = either (int_eq c (pos 0))
  where
    either : (none : Bool) → pos 0 ≤ℤ (if none then pos 0 else near (dt *ℤ pos (10 ^ 9)) (pos 2 *ℤ c))
    either true = omega (arith, ints)
    either false = near-nonneg (dt *ℤ pos (10 ^ 9)) (pos 2 *ℤ c) (omega (arith, ints, h.least)) (omega (arith, ints, h'.least))

pub inductor_small : (dt : ℤ) (b : Lumped) → IsTimeStep dt → HasSeriesNumbers dt b.r b.l b.c → IsBetween 0 LARGEST_IMPEDANCE (inductor_impedance dt b.l)
inductor_small dt b step h =
    let whole : series_impedance dt b.r b.l b.c ≡ b.r +ℤ inductor_impedance dt b.l +ℤ capacitor_impedance dt b.c = refl in
    let inductor : pos 0 ≤ℤ inductor_impedance dt b.l = near-nonneg (pos (2 * 10 ^ 9) *ℤ b.l) dt (omega (arith, ints, h.inductance.least)) (omega (arith, ints, step.least)) in
    let capacitor = capacitor_from_zero dt b.c step h.capacitance in
    record { least = inductor; most = omega (arith, ints, whole, h.impedance.most, h.resistance.least, inductor, capacitor) }
