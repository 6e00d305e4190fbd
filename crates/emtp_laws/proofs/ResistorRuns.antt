-- A resistor takes power in each record of a run.
use Rattle.std.proofs.Common.{◌≡◌, ◌∙◌, ◌<◌, ◌≤ℤ◌, ◌-ℤ◌, ◌*ℤ◌, ℕ, zero, suc, ℤ, pos, List, [], ◌∷◌, length, map, slice_get, slice_index_or, Option, Some, None, Ok, option_map, unwrap_or, refl, ap, sym, subst, arith}
use Rattle.std.specs.List.{range_with_len}
use Rattle.std.proofs.lemmas.Int.{ints}
use Rattle.std.proofs.lemmas.List.FromFn.{get_or-map-range_with_len}
use Rattle.std.proofs.lemmas.Option.{slice_get_within}
use Rattle.std.proofs.lemmas.Simd.{map-map}
use Rattle.emtp_case.specs.Branch.{capacitor_impedance, inductor_impedance}
use Rattle.emtp_case.specs.held.Case.{IsCase}
use Rattle.emtp_case.specs.StepRecord.{BranchState, LumpedBranch, StepRecord, branch_at_rest, branch_current_at, current_of, latest, lumped_at, lumped_of, no_lumped, rest_of, voltage_at}
use Rattle.emtp_case.specs.declared.branch.Branch.{Branch}
use Rattle.emtp_case.specs.declared.branch.Branch.TheVariants.{Lumped as OfLumped, Line as OfLine, Pseudo as OfPseudo, Phase as OfPhase}
use Rattle.emtp_case.specs.declared.branch.Lumped.{Lumped}
use Rattle.emtp_case.specs.declared.branch.LumpedState.{LumpedState}
use Rattle.emtp_case.specs.declared.case.Parts.{Parts}
use Rattle.emtp_fix.proofs.Quotients.{near-zero_times}
use Rattle.emtp_fix.proofs.Ranges.{in_range-is}
use Rattle.emtp_fix.specs.Limit.{in_range, ◌>>=◌}
use Rattle.emtp_fix.specs.Rounding.{near}
use Rattle.emtp_fix.specs.declared.limit.TheConstants.{PICO}
use Rattle.emtp_lumped.proofs.Bounds.{companion-fits}
use Rattle.emtp_lumped.proofs.Chain.{resistor_forgets}
use Rattle.emtp_lumped.specs.Companion.{companion_of}
use Rattle.emtp_lumped.specs.held.Companion.{IsCompanion, IsResistor}
use Rattle.emtp_lumped.specs.Lumps as lumped
use Rattle.emtp_lumped.specs.Step.{next_state}
use Rattle.emtp_lumped.specs.held.Step.{HasNoHistory}
use Rattle.emtp_lumped.specs.declared.companion.Companion.{Companion}
use Rattle.emtp_machine.proofs.Chains.{chain}
use Rattle.emtp_machine.specs.Laws.{records_upto}
use Rattle.emtp_machine.specs.held.Laws.{IsChain}
use Rattle.emtp_machine.specs.Next.{next}
use Rattle.emtp_net.proofs.LineCurrents.{currents_rest}
use Rattle.emtp_net.proofs.Nodes.{branch_fits}
use Rattle.emtp_net.specs.Part.{NetworkPart, state_at, state_by, states_at}
use Rattle.emtp_laws.specs.Branches.{IsResistorAt, TakesPower}
use Rattle.emtp_laws.proofs.Resistors.{takes_power}
use Rattle.emtp_laws.proofs.SolvedSteps.{next_made, step_solved}

-- ---- one step

-- what is kept of a resistor: no history, and a power that isn't below 0
record IsTaking (v : ℤ) (s : BranchState) : Type 0 where
  none : HasNoHistory (lumped_of s)
  power : pos 0 ≤ℤ (v *ℤ current_of s)

no_power : (v : ℤ) → pos 0 ≤ℤ (v *ℤ pos 0)
no_power v = omega (arith, ints)

taking_by : (g v : ℤ) (o : Option ℤ) → pos 0 ≤ℤ g → in_range (near (g *ℤ v) PICO) ≡ o
    → IsTaking v (unwrap_or (option_map LumpedBranch (o >>= (λ i. Some (let s : LumpedState = record { current = i; v_l = pos 0; v_c = pos 0; history_voltage = pos 0 } in s)))) (LumpedBranch no_lumped))
taking_by g v None low is = record { none = record { no_v_l = refl; no_v_c = refl; no_history = refl }; power = no_power v }
taking_by g v (Some i) low is = record {
  none = record { no_v_l = refl; no_v_c = refl; no_history = refl };
  power = subst (λ y. pos 0 ≤ℤ (v *ℤ y)) (sym (in_range-is (near (g *ℤ v) PICO) i is)) (takes_power g v low);
}

taking : (c : Companion) (old : LumpedState) (v : ℤ) → IsCompanion c → IsResistor c → HasNoHistory old → IsTaking v (unwrap_or (option_map LumpedBranch (next_state c old v)) (LumpedBranch no_lumped))
taking c old v ranges plain none =
    subst (λ o. IsTaking v (unwrap_or (option_map LumpedBranch o) (LumpedBranch no_lumped))) (sym (resistor_forgets c old v plain none))
    (taking_by c.conductance v (in_range (near (c.conductance *ℤ v) PICO)) ranges.conductance.least refl)

-- ---- a record

plain_companion : (dt : ℤ) (x : Lumped) → x.l ≡ pos 0 → x.c ≡ pos 0 → IsResistor (companion_of dt x)
unfolding capacitor_impedance
plain_companion dt x no_l no_c = record {
  no_inductor = ap (inductor_impedance dt) no_l ∙ none dt;
  no_capacitor = ap (capacitor_impedance dt) no_c;
}
  where
    none : (dt : ℤ) → inductor_impedance dt (pos 0) ≡ pos 0
    none dt = near-zero_times (pos 1) dt

-- what a record says of a branch
read : {S : Type 0} (f : BranchState → S) (d : S) (case : Parts) (H : List StepRecord) (vs : List ℤ) (b : ℕ) (o : Option Branch) → b < length case.branches → slice_get case.branches b ≡ o
    → slice_index_or (map f (states_at case H vs)) b d ≡ f (unwrap_or (state_by case H vs b o) (LumpedBranch no_lumped))
read f d case H vs b o inside is =
    let g : ℕ → BranchState = λ k. unwrap_or (state_at case H vs k) (LumpedBranch no_lumped) in
    ap (λ xs. slice_index_or xs b d) (map-map f g (range_with_len 0 (length case.branches)))
    ∙ get_or-map-range_with_len (λ k. f (g k)) 0 (length case.branches) b b d inside (omega arith)
    ∙ ap (λ q. f (unwrap_or (state_by case H vs b q) (LumpedBranch no_lumped))) is

-- what is kept of a resistor in a record
record IsKeptRight (b : ℕ) (x : Lumped) (r : StepRecord) : Type 0 where
  none : HasNoHistory (lumped_at b r)
  power : TakesPower b x r

companion_ranges : (case : Parts) (b : ℕ) (x : Lumped) → IsCase case → slice_get case.branches b ≡ Some (OfLumped x) → IsCompanion (companion_of case.run.dt x)
companion_ranges case b x fits is =
    let here = branch_fits case b (OfLumped x) fits.draft.network.branches (slice_get_within case.branches b (OfLumped x) is) is in
    companion-fits case.run.dt x fits.draft.run.dt here.numbers

next_kept : (case : Parts) (H : List StepRecord) (r : StepRecord) (b : ℕ) (x : Lumped) → IsCase case → IsResistorAt case b x → next case H ≡ Ok r → HasNoHistory (lumped.newest (lumped.states_of b H)) → IsKeptRight b x r
next_kept case H r b x fits at is none =
    let from = next_made case H r is in
    let solved = step_solved case H from.part from.made in
    let voltages : r.voltages ≡ from.part.voltages = ap (λ (p : NetworkPart). p.voltages) from.is in
    let branches : r.branches ≡ states_at case H r.voltages = ap (λ (p : NetworkPart). p.branches) from.is ∙ solved.branches ∙ ap (states_at case H) (sym (voltages ∙ solved.voltages)) in
    let inside = slice_get_within case.branches b (OfLumped x) at.there in
    let v = voltage_at x.from r -ℤ voltage_at x.to r in
    let taken = taking (companion_of case.run.dt x) (lumped.newest (lumped.states_of b H)) v (companion_ranges case b x fits at.there) (plain_companion case.run.dt x at.no_inductance at.no_capacitance) none in
    let state : lumped_at b r ≡ lumped_of (unwrap_or (state_by case H r.voltages b (Some (OfLumped x))) (LumpedBranch no_lumped)) =
    ap (λ bs. slice_index_or (map lumped_of bs) b no_lumped) branches ∙ read lumped_of no_lumped case H r.voltages b (Some (OfLumped x)) inside at.there in
    let current : branch_current_at b r ≡ current_of (unwrap_or (state_by case H r.voltages b (Some (OfLumped x))) (LumpedBranch no_lumped)) =
    ap (λ bs. slice_index_or (map current_of bs) b (pos 0)) branches ∙ read current_of (pos 0) case H r.voltages b (Some (OfLumped x)) inside at.there in
    record { none = subst HasNoHistory (sym state) taken.none; power = subst (λ i. pos 0 ≤ℤ (v *ℤ i)) (sym current) taken.power }

-- ---- the records of a run

rest_lumped : (bs : List Branch) (b : ℕ) → slice_index_or (map lumped_of (map branch_at_rest bs)) b no_lumped ≡ no_lumped
rest_lumped [] b = refl
rest_lumped (y ∷ bs) zero = one y
  where
    one : (y : Branch) → lumped_of (branch_at_rest y) ≡ no_lumped
    one (OfLumped x) = refl
    one (OfLine x) = refl
    one (OfPseudo x) = refl
    one (OfPhase x) = refl
rest_lumped (y ∷ bs) (suc b) = rest_lumped bs b

rest_kept : (case : Parts) (b : ℕ) (x : Lumped) → IsKeptRight b x (rest_of case)
rest_kept case b x = record {
  none = subst HasNoHistory (sym (rest_lumped case.branches b)) (record { no_v_l = refl; no_v_c = refl; no_history = refl });
  power =
      let v = voltage_at x.from (rest_of case) -ℤ voltage_at x.to (rest_of case) in
      subst (λ i. pos 0 ≤ℤ (v *ℤ i)) (sym (currents_rest case.branches b)) (no_power v);
}

chain_kept : (case : Parts) (H : List StepRecord) (b : ℕ) (x : Lumped) → IsCase case → IsResistorAt case b x → IsChain case H → IsKeptRight b x (latest H)
chain_kept case [] b x fits at is = absurd is
chain_kept case (r ∷ []) b x fits at is = subst (IsKeptRight b x) (sym is) (rest_kept case b x)
chain_kept case (r ∷ s ∷ past) b x fits at is = next_kept case (s ∷ past) r b x fits at is.0 (chain_kept case (s ∷ past) b x fits at is.1).none

pub run_takes : (case : Parts) (n b : ℕ) (x : Lumped) → IsCase case → IsResistorAt case b x → TakesPower b x (latest (records_upto case n))
run_takes case n b x fits at = (chain_kept case (records_upto case n) b x fits at (chain case n)).power
