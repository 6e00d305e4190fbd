-- The records of a run: each branch makes its steps.
use Rattle.std.proofs.Common.{◌≡◌, ◌≢◌, ◌∙◌, ◌+◌, ap, sym, refl, ℕ, ℤ, pos, ◌-ℤ◌, ◌≤ℤ◌, List, [], ◌∷◌, length, slice_get, Some, arith}
use Rattle.std.proofs.lemmas.Int.{ints}
use Rattle.emtp_case.specs.StepRecord.{StepRecord, lumped_at, lumped_of, no_lumped, no_pseudo, pseudo_at, pseudo_of, rest_of, voltage_at}
use Rattle.emtp_case.specs.held.Case.{IsCase}
use Rattle.emtp_case.specs.declared.branch.Branch.TheVariants.{Lumped as OfLumped, Pseudo as OfPseudo}
use Rattle.emtp_case.specs.declared.branch.Lumped.{Lumped}
use Rattle.emtp_case.specs.declared.branch.Pseudo.{Pseudo}
use Rattle.emtp_case.specs.declared.case.Parts.{Parts}
use Rattle.emtp_lumped.proofs.Chain.{rest_stays}
use Rattle.emtp_lumped.specs.Companion.{companion_of}
use Rattle.emtp_lumped.specs.Step.{next_state}
use Rattle.emtp_machine.proofs.Chains.{chain}
use Rattle.emtp_machine.specs.Laws.{records_upto}
use Rattle.emtp_machine.specs.held.Laws.{IsChain}
use Rattle.emtp_pseudo.proofs.Chain.{rest_stays as reactor_rests}
use Rattle.emtp_pseudo.proofs.Holding.{pseudo_fits}
use Rattle.emtp_pseudo.specs.Pseudos as pseudo
use Rattle.emtp_laws_of_energy.proofs.Energies.{balances}
use Rattle.emtp_laws_of_energy.specs.Coil as coil
use Rattle.emtp_laws_of_energy.specs.Course.{AreSteps}
use Rattle.emtp_laws_of_energy.specs.Energy.{BalancesItsEnergy}
use Rattle.emtp_laws_of_energy.specs.Runs.{moments_of}
use Rattle.emtp_laws_of_energy.proofs.BranchSteps.{lumped_stepped, pseudo_stepped}
use Rattle.emtp_laws.proofs.SolvedSteps.{next_made}
use Rattle.emtp_laws_of_units.proofs.LineSteps.{is_next, part_moved}
use Rattle.emtp_laws_of_units.proofs.SameReadings.{lumped_rests, nothing_at, pseudo_rests, rest_reads}

-- ---- record 0

none_across : (a b : ℤ) → a ≡ pos 0 → b ≡ pos 0 → a -ℤ b ≡ pos 0
none_across a b e f = omega (arith, ints, e, f)

rest_across : (case : Parts) («from» to : ℕ) → voltage_at «from» (rest_of case) -ℤ voltage_at to (rest_of case) ≡ pos 0
rest_across case f t = none_across (voltage_at f (rest_of case)) (voltage_at t (rest_of case)) (nothing_at (length case.nodes + 1) f) (nothing_at (length case.nodes + 1) t)

-- ---- the steps

chain_steps : (case : Parts) (H : List StepRecord) (b : ℕ) (x : Lumped) → slice_get case.branches b ≡ Some (OfLumped x) → IsChain case H → AreSteps case.run.dt x (moments_of b x H)
chain_steps case [] b x there is = absurd is
chain_steps case (r ∷ []) b x there is =
    let c = companion_of case.run.dt x in
    let v : voltage_at x.from r -ℤ voltage_at x.to r ≡ pos 0 = ap (λ (s : StepRecord). voltage_at x.from s -ℤ voltage_at x.to s) is ∙ rest_across case x.from x.to in
    let s : lumped_at b r ≡ no_lumped = ap (lumped_at b) is ∙ rest_reads lumped_of no_lumped lumped_rests case.branches b in
    (ap (next_state c no_lumped) v ∙ rest_stays c ∙ ap Some (sym s), tt)
chain_steps case (r ∷ s ∷ past) b x there is =
    let from = next_made case (s ∷ past) r is.0 in
    let by = part_moved case (s ∷ past) from.part from.made in
    (lumped_stepped case (s ∷ past) from.part.voltages r b x by.in_range (is_next case (s ∷ past) from.part r by from.is) there, chain_steps case (s ∷ past) b x there is.1)

pub run_steps : (case : Parts) → IsCase case → (n b : ℕ) (x : Lumped) → slice_get case.branches b ≡ Some (OfLumped x) → AreSteps case.run.dt x (moments_of b x (records_upto case n))
run_steps case fits n b x there = chain_steps case (records_upto case n) b x there (chain case n)

pub run_balances : (case : Parts) → IsCase case → (n b : ℕ) (x : Lumped) → slice_get case.branches b ≡ Some (OfLumped x) → BalancesItsEnergy case.run.dt x (moments_of b x (records_upto case n))
run_balances case fits n b x there = balances case.run.dt x (moments_of b x (records_upto case n)) (some case.run.dt fits.draft.run.dt.least) (run_steps case fits n b x there)
  where
    some : (z : ℤ) → pos 1000 ≤ℤ z → z ≢ pos 0
    some z l none = omega (arith, ints, l, none)

reactor_steps : (case : Parts) → IsCase case → (H : List StepRecord) (b : ℕ) (x : Pseudo) → slice_get case.branches b ≡ Some (OfPseudo x) → IsChain case H → coil.AreSteps case x (pseudo.moments_of x b H)
reactor_steps case fits [] b x there is = absurd is
reactor_steps case fits (r ∷ []) b x there is =
    let v : voltage_at x.from r -ℤ voltage_at x.to r ≡ pos 0 = ap (λ (s : StepRecord). voltage_at x.from s -ℤ voltage_at x.to s) is ∙ rest_across case x.from x.to in
    let s : pseudo_at b r ≡ no_pseudo = ap (pseudo_at b) is ∙ rest_reads pseudo_of no_pseudo pseudo_rests case.branches b in
    (ap (pseudo.next_of case x []) v ∙ reactor_rests case x [] (pseudo_fits case b x fits there) refl ∙ ap Some (sym s), tt)
reactor_steps case fits (r ∷ s ∷ past) b x there is =
    let from = next_made case (s ∷ past) r is.0 in
    let by = part_moved case (s ∷ past) from.part from.made in
    (pseudo_stepped case (s ∷ past) from.part.voltages r b x by.in_range (is_next case (s ∷ past) from.part r by from.is) there, reactor_steps case fits (s ∷ past) b x there is.1)

pub run_reactor_steps : (case : Parts) → IsCase case → (n b : ℕ) (x : Pseudo) → slice_get case.branches b ≡ Some (OfPseudo x) → coil.AreSteps case x (pseudo.moments_of x b (records_upto case n))
run_reactor_steps case fits n b x there = reactor_steps case fits (records_upto case n) b x there (chain case n)
