-- The voltage of a node that one resistance leads to ground.
use Rattle.std.proofs.Common.{◌≡◌, ◌≢◌, ◌∙◌, ◌+◌, ◌*◌, ◌^◌, ◌≤◌, ◌==◌, ◌||◌, ap, sym, subst, refl, ℕ, zero, suc, ℤ, pos, neg_ℤ, ◌+ℤ◌, ◌-ℤ◌, ◌*ℤ◌, unsigned_abs, if◌then◌else◌, Bool, true, false, List, [], ◌∷◌, length, map, slice_get, slice_index, slice_index_or, ◌≤ℤ◌, Some, Ok, inl, inr, arith}
use Rattle.std.specs.List.{range_with_len}
use Rattle.std.proofs.Math.IntN.{*ℤ_comm}
use Rattle.std.proofs.lemmas.Bool.{eq-eqb, ne_eqb}
use Rattle.std.proofs.lemmas.Int.{ints, unsigned_abs-mul}
use Rattle.std.proofs.lemmas.List.FromFn.{get_or-range_with_len}
use Rattle.std.proofs.lemmas.Nat.{mul-le}
use Rattle.std.proofs.lemmas.Option.{slice_get_cases, slice_get_within}
use Rattle.emtp_case.proofs.NodeOrder.{length-order_of}
use Rattle.emtp_case.specs.Branch.{capacitor_impedance, from_of, inductor_impedance, series_impedance, to_of}
use Rattle.emtp_case.specs.RowOrder.{has_source, order_of}
use Rattle.emtp_case.specs.StepRecord.{BranchState, LumpedBranch, StepRecord, voltage_at}
use Rattle.emtp_case.specs.Sums.{sum_below}
use Rattle.emtp_case.specs.held.Case.{IsCase}
use Rattle.emtp_case.specs.declared.branch.Branch.{Branch}
use Rattle.emtp_case.specs.declared.branch.Branch.TheVariants.{Lumped as OfLumped}
use Rattle.emtp_case.specs.declared.branch.Lumped.{Lumped}
use Rattle.emtp_case.specs.declared.branch.LumpedState.{LumpedState}
use Rattle.emtp_case.specs.declared.case.Parts.{Parts}
use Rattle.emtp_case.specs.declared.switch.Switch.{Switch}
use Rattle.emtp_fix.proofs.Nearest.{near-rest}
use Rattle.emtp_fix.proofs.Quotients.{near-zero_times}
use Rattle.emtp_fix.proofs.Wide.{abs-add-le}
use Rattle.emtp_fix.specs.Rounding.{near}
use Rattle.emtp_fix.specs.declared.limit.TheConstants.{ATTO, LEAST_IMPEDANCE, PICO}
use Rattle.emtp_laws.proofs.NodeCurrents.{run_law}
use Rattle.emtp_laws.proofs.Products.{mul_assoc, mul_sub, sub_mul}
use Rattle.emtp_laws.proofs.SolvedSteps.{next_made, step_solved}
use Rattle.emtp_laws.specs.Nodes.{HasUnknownVoltage, KeepsCurrentLaw, labels_next}
use Rattle.emtp_machine.proofs.Chains.{chain}
use Rattle.emtp_machine.specs.Laws.{records_upto}
use Rattle.emtp_machine.specs.Next.{next}
use Rattle.emtp_machine.specs.held.Laws.{IsChain}
use Rattle.emtp_net.proofs.Nodes.{branch_fits}
use Rattle.emtp_net.specs.Part.{NetworkPart, brought_by, voltages_of}
use Rattle.emtp_net.specs.System.{at_node, branch_sum, sources_into}
use Rattle.emtp_net.specs.held.Part.{network_of}
use Rattle.emtp_switch.proofs.Flows.{sum_below-none, sum_below-one}
use Rattle.emtp_switch.specs.Groups.{alone, labels_of}
use Rattle.emtp_switch.specs.Kinds.{is_branch_at}
use Rattle.emtp_switch.specs.States.{next_state}
use Rattle.emtp_switch.specs.held.Currents.{through_switches}
use Rattle.emtp_laws_of_units.specs.Resistor.{HasOhmsVoltage, LeadsAlone, ObeysOhm}
use Rattle.emtp_laws_of_units.proofs.CommonTimes.{chain_history, keeps_current, lone_current, plain_current}
use Rattle.emtp_laws_of_units.proofs.Memoryless.{plain_of}

-- ---- V by R and I

-- 10^12 (10^6 v - r i) where i is g v in 10^-12, and g is 10^18 / r
ohm : (r g v i : ℤ) → 2 * unsigned_abs (ATTO -ℤ g *ℤ r) ≤ unsigned_abs r → 2 * unsigned_abs (g *ℤ v -ℤ i *ℤ PICO) ≤ 10 ^ 12 → 2 * 10 ^ 12 * unsigned_abs (pos (10 ^ 6) *ℤ v -ℤ r *ℤ i) ≤ unsigned_abs r * (10 ^ 12 + unsigned_abs v)
ohm r g v i in_g in_i =
    let p = ATTO -ℤ g *ℤ r in
    let q = g *ℤ v -ℤ i *ℤ PICO in
    let first : p *ℤ v ≡ ATTO *ℤ v -ℤ r *ℤ (g *ℤ v) = sub_mul ATTO (g *ℤ r) v ∙ ap (λ z. ATTO *ℤ v -ℤ z) (ap (λ z. z *ℤ v) (*ℤ_comm g r) ∙ mul_assoc r g v) in
    let second : r *ℤ q ≡ r *ℤ (g *ℤ v) -ℤ r *ℤ i *ℤ PICO = mul_sub r (g *ℤ v) (i *ℤ PICO) ∙ ap (λ z. r *ℤ (g *ℤ v) -ℤ z) (sym (mul_assoc r i PICO)) in
    let left : 2 * unsigned_abs p * unsigned_abs v ≤ unsigned_abs r * unsigned_abs v = mul-le (2 * unsigned_abs p) (unsigned_abs v) (unsigned_abs r) (unsigned_abs v) in_g (omega arith) in
    let right : unsigned_abs r * (2 * unsigned_abs q) ≤ unsigned_abs r * 10 ^ 12 = mul-le (unsigned_abs r) (2 * unsigned_abs q) (unsigned_abs r) (10 ^ 12) (omega arith) in_i in
    joined (p *ℤ v) (r *ℤ q) (r *ℤ (g *ℤ v)) (r *ℤ i) (unsigned_abs p) (unsigned_abs q) (unsigned_abs r) (unsigned_abs v) first second (unsigned_abs-mul p v) (unsigned_abs-mul r q) left right
  where
    joined : (a b m ri : ℤ) (p q r n : ℕ) → a ≡ ATTO *ℤ v -ℤ m → b ≡ m -ℤ ri *ℤ PICO → unsigned_abs a ≡ p * n → unsigned_abs b ≡ r * q → 2 * p * n ≤ r * n → r * (2 * q) ≤ r * 10 ^ 12
        → 2 * 10 ^ 12 * unsigned_abs (pos (10 ^ 6) *ℤ v -ℤ ri) ≤ r * (10 ^ 12 + n)
    joined a b m ri p q r n e f h k left right =
        let all : pos (10 ^ 12) *ℤ (pos (10 ^ 6) *ℤ v -ℤ ri) ≡ a +ℤ b = omega (arith, ints, e, f) in
        let size = unsigned_abs-mul (pos (10 ^ 12)) (pos (10 ^ 6) *ℤ v -ℤ ri) in
        let apart = abs-add-le a b in
        omega (arith, ap unsigned_abs all, size, apart, h, k, left, right)

-- and a current that is off by at most so much
ohm_within : (r g v i j : ℤ) (tolerance : ℕ) → 2 * unsigned_abs (ATTO -ℤ g *ℤ r) ≤ unsigned_abs r → 2 * unsigned_abs (g *ℤ v -ℤ i *ℤ PICO) ≤ 10 ^ 12 → unsigned_abs (i -ℤ j) ≤ tolerance → HasOhmsVoltage tolerance r v j
ohm_within r g v i j tolerance in_g in_i off =
    let exact = ohm r g v i in_g in_i in
    let times : r *ℤ (i -ℤ j) ≡ r *ℤ i -ℤ r *ℤ j = mul_sub r i j in
    let few : unsigned_abs r * unsigned_abs (i -ℤ j) ≤ unsigned_abs r * tolerance = mul-le (unsigned_abs r) (unsigned_abs (i -ℤ j)) (unsigned_abs r) tolerance (omega arith) off in
    joined (pos (10 ^ 6) *ℤ v) (r *ℤ i) (r *ℤ j) (r *ℤ (i -ℤ j)) (unsigned_abs r) (unsigned_abs v) (unsigned_abs (i -ℤ j)) times (unsigned_abs-mul r (i -ℤ j)) few exact
  where
    joined : (v ri rj d : ℤ) (r n o : ℕ) → d ≡ ri -ℤ rj → unsigned_abs d ≡ r * o → r * o ≤ r * tolerance → 2 * 10 ^ 12 * unsigned_abs (v -ℤ ri) ≤ r * (10 ^ 12 + n) → 2 * 10 ^ 12 * unsigned_abs (v -ℤ rj) ≤ r * (10 ^ 12 + 2 * 10 ^ 12 * tolerance + n)
    joined v ri rj d r n o e f h k =
        let all : v -ℤ rj ≡ (v -ℤ ri) +ℤ d = omega (arith, ints, e) in
        let apart = abs-add-le (v -ℤ ri) d in
        omega (arith, ap unsigned_abs all, apart, f, h, k)

-- ---- the current of the resistance

-- what a resistance keeps of a step
record IsKept (b : ℕ) (x : Lumped) (r : StepRecord) : Type 0 where
  state : LumpedState
  read : slice_get r.branches b ≡ Some (LumpedBranch state)
  current : state.current ≡ near (near ATTO x.r *ℤ (voltage_at x.from r -ℤ voltage_at x.to r)) PICO

kept : (case : Parts) (H : List StepRecord) (r : StepRecord) (b : ℕ) (x : Lumped) → next case H ≡ Ok r → IsChain case H → slice_get case.branches b ≡ Some (OfLumped x) → x.l ≡ pos 0 → x.c ≡ pos 0 → IsKept b x r
kept case H r b x is past there no_l no_c = record {
  state = lone_current (plain_current x r);
  read = (keeps_current case H r b x is there (no_l, no_c) (chain_history case H b x (no_l, no_c) past there)).there;
  current = ap (λ g. near (g *ℤ (voltage_at x.from r -ℤ voltage_at x.to r)) PICO) (plain_is x no_l no_c);
}
  where
    twice : (r : ℤ) → r +ℤ pos 0 +ℤ pos 0 ≡ r
    twice r = omega (arith, ints)

    plain_is : (x : Lumped) → x.l ≡ pos 0 → x.c ≡ pos 0 → (plain_of x).conductance ≡ near ATTO x.r
    plain_is x no_l no_c = ap (near ATTO) (twice x.r)

-- ---- what leaves the node

quiet : (n : ℕ) (y : Branch) (ends : ℤ × ℤ) → is_branch_at n y ≡ false → at_node n (Some y) ends ≡ pos 0
quiet n y ends e = by (from_of y == n) (to_of y == n) e
  where
    by : (a b : Bool) → (a || b) ≡ false → (if a then ends.0 else pos 0) +ℤ (if b then ends.1 else pos 0) ≡ pos 0
    by true b e = absurd (cc)
    by false true e = absurd (cc)
    by false false e = refl

-- at its own node a resistance brings the opposite of its current
own : (n : ℕ) (x : Lumped) (i : ℤ) → x.from ≡ n → x.to ≡ 0 → n ≢ 0 → at_node n (Some (OfLumped x)) (neg_ℤ i, i) ≡ pos 0 +ℤ neg_ℤ i
own n x i from to off =
    ap (λ (b : Bool). (if b then neg_ℤ i else pos 0) +ℤ (if x.to == n then i else pos 0)) (eq-eqb x.from n from)
    ∙ ap (λ (b : Bool). neg_ℤ i +ℤ (if b then i else pos 0)) (ne_eqb x.to n (λ e. off (sym e ∙ to))) ∙ turned (neg_ℤ i)
  where
    turned : (z : ℤ) → z +ℤ pos 0 ≡ pos 0 +ℤ z
    turned z = omega (arith, ints)

brought : (case : Parts) (branches : List BranchState) (b n : ℕ) (x : Lumped) (s : LumpedState) → LeadsAlone case b n x → slice_get branches b ≡ Some (LumpedBranch s) → branch_sum case (λ k. brought_by (slice_get branches k)) n ≡ neg_ℤ s.current
brought case branches b n x s only is =
    let f : ℕ → ℤ × ℤ = λ k. brought_by (slice_get branches k) in
    let none = sum_below-none (length case.branches) (λ k. pos 0) (λ k below. refl) in
    let one = sum_below-one (length case.branches) b (λ k. pos 0) (λ k. at_node n (slice_get case.branches k) (f k)) (neg_ℤ s.current) (slice_get_within case.branches b (OfLumped x) only.there)
    (ap (λ o. at_node n o (f b)) only.there ∙ ap (λ o. at_node n (Some (OfLumped x)) (brought_by o)) is ∙ own n x s.current only.at_node only.to_ground only.off_ground)
    (λ k below other. elim ((slice_get_cases case.branches k).1) [
      | inl at ↦ ap (λ o. at_node n o (f k)) at.2 ∙ quiet n at.0 (f k) (only.alone k at.0 other at.2)
      | inr past ↦ absurd (omega (arith, below, past.0))
    ]) in
    summed (sum_below (length case.branches) (λ k. pos 0)) (sum_below (length case.branches) (λ k. at_node n (slice_get case.branches k) (f k))) (neg_ℤ s.current) none one
  where
    summed : (zero' all i : ℤ) → zero' ≡ pos 0 → all ≡ zero' +ℤ i → all ≡ i
    summed zero' all i e f = omega (arith, ints, e, f)

-- without switches nothing goes through them, and each node is a group of its own
none_through : (switches : List Switch) (currents : List ℤ) (n : ℕ) → switches ≡ [] → through_switches switches currents n ≡ pos 0
none_through switches currents n e = ap (λ ss. through_switches ss currents n) e

own_labels : (case : Parts) (H : List StepRecord) → case.switches ≡ [] → labels_next case H ≡ alone (length (order_of case).nodes)
own_labels case H e = ap (λ states. labels_of case.switches (order_of case) states) (no_states (length case.switches) (ap length e))
  where
    no_states : (n : ℕ) → n ≡ 0 → map (λ s. next_state case H s) (range_with_len 0 n) ≡ []
    no_states zero e = refl
    no_states (suc n) e = absurd (omega (arith, e))

label_is : (case : Parts) (H : List StepRecord) (n : ℕ) → case.switches ≡ [] → n ≤ length case.nodes → slice_index (labels_next case H) n ≡ n
label_is case H n none high =
    let size : length (order_of case).nodes ≡ length case.nodes = length-order_of case in
    ap (λ ls. slice_index ls n) (own_labels case H none) ∙ omega (arith, get_or-range_with_len 0 (length (order_of case).nodes + 1) n 0 (omega (arith, high, size)))

unknown : (case : Parts) (H : List StepRecord) (b n : ℕ) (x : Lumped) → LeadsAlone case b n x → n ≤ length case.nodes → HasUnknownVoltage case H n
unknown case H b n x only high = record {
  off_ground = λ e. only.off_ground (sym (sym (label_is case H 0 only.no_switches (omega arith)) ∙ e ∙ label_is case H n only.no_switches high));
  off_sources = λ m low below fed e. differ (sym (label_is case H m only.no_switches below) ∙ e ∙ label_is case H n only.no_switches high) fed only.free;
}
  where
    differ : {m k : ℕ} → m ≡ k → has_source case m ≡ true → has_source case k ≡ false → ⊥
    differ {m} {k} same fed free = let both : true ≡ false = sym fed ∙ ap (has_source case) same ∙ free in absurd (cc)

-- ---- a record of a run

-- ground is at 0
grounded : (case : Parts) (H : List StepRecord) (r : StepRecord) → next case H ≡ Ok r → voltage_at 0 r ≡ pos 0
unfolding voltages_of
grounded case H r is =
    let made = next_made case H r is in
    ap (λ vs. slice_index_or vs 0 (pos 0)) (ap (λ (p : NetworkPart). p.voltages) made.is ∙ (step_solved case H made.part made.made).voltages)

at_ends : (case : Parts) (H : List StepRecord) (r : StepRecord) (b n : ℕ) (x : Lumped) → LeadsAlone case b n x → next case H ≡ Ok r → voltage_at x.from r -ℤ voltage_at x.to r ≡ voltage_at n r
at_ends case H r b n x only is =
    ap (λ k. voltage_at k r -ℤ voltage_at x.to r) only.at_node ∙ ap (λ k. voltage_at n r -ℤ voltage_at k r) only.to_ground ∙ ap (λ z. voltage_at n r -ℤ z) (grounded case H r is) ∙ nothing_less (voltage_at n r)
  where
    nothing_less : (z : ℤ) → z -ℤ pos 0 ≡ z
    nothing_less z = omega (arith, ints)

obeys : (case : Parts) (H : List StepRecord) (b n : ℕ) (x : Lumped) → IsCase case → LeadsAlone case b n x → n ≤ length case.nodes → x.r ≢ pos 0 → IsChain case H → KeepsCurrentLaw case H → ObeysOhm case n x H
obeys case [] b n x fits only high some is law = tt
obeys case (r ∷ []) b n x fits only high some is law = tt
obeys case (r ∷ s ∷ past) b n x fits only high some is law =
    let H = s ∷ past in
    let k = kept case H r b x is.0 is.1 only.there only.no_inductance only.no_capacitance in
    let i = k.state.current in
    let v = voltage_at n r in
    let within = law.within n (omega (arith, only.off_ground)) high (unknown case H b n x only high) in
    let sum = brought case r.branches b n x k.state only k.read in
    let none = none_through case.switches (network_of r).switch_currents n only.no_switches in
    let off : unsigned_abs (i -ℤ sources_into case H n) ≤ unsigned_abs case.run.tolerance = left (branch_sum case (λ j. brought_by (slice_get r.branches j)) n) (sources_into case H n) (through_switches case.switches (network_of r).switch_currents n) i sum none within in
    let across : voltage_at x.from r -ℤ voltage_at x.to r ≡ v = at_ends case H r b n x only is.0 in
    let current : i ≡ near (near ATTO x.r *ℤ v) PICO = k.current ∙ ap (λ z. near (near ATTO x.r *ℤ z) PICO) across in
    ohm_within x.r (near ATTO x.r) v i (sources_into case H n) (unsigned_abs case.run.tolerance) (near-rest ATTO x.r some)
    (subst (λ y. 2 * unsigned_abs (near ATTO x.r *ℤ v -ℤ y *ℤ PICO) ≤ 10 ^ 12) (sym current) (near-rest (near ATTO x.r *ℤ v) PICO (λ none. cc))) off
  where
    left : (sum into through i : ℤ) → sum ≡ neg_ℤ i → through ≡ pos 0 → unsigned_abs (neg_ℤ (sum +ℤ into) +ℤ through) ≤ unsigned_abs case.run.tolerance → unsigned_abs (i -ℤ into) ≤ unsigned_abs case.run.tolerance
    left sum into through i e f h = let same : i -ℤ into ≡ neg_ℤ (sum +ℤ into) +ℤ through = omega (arith, ints, e, f) in omega (arith, ap unsigned_abs same, h)

impedance_is : (dt : ℤ) (x : Lumped) → x.l ≡ pos 0 → x.c ≡ pos 0 → series_impedance dt x.r x.l x.c ≡ x.r
unfolding capacitor_impedance
impedance_is dt x no_l no_c =
    ap (λ z. x.r +ℤ z +ℤ capacitor_impedance dt x.c) (ap (inductor_impedance dt) no_l ∙ near-zero_times (pos 1) dt) ∙ ap (λ z. x.r +ℤ pos 0 +ℤ z) (ap (capacitor_impedance dt) no_c) ∙ twice x.r
  where
    twice : (r : ℤ) → r +ℤ pos 0 +ℤ pos 0 ≡ r
    twice r = omega (arith, ints)

pub run_obeys : (case : Parts) → IsCase case → (m b n : ℕ) (x : Lumped) → LeadsAlone case b n x → ObeysOhm case n x (records_upto case m)
run_obeys case fits m b n x only =
    let here = branch_fits case b (OfLumped x) fits.draft.network.branches (slice_get_within case.branches b (OfLumped x) only.there) only.there in
    let high : n ≤ length case.nodes = omega (arith, here.ends.from_there, only.at_node) in
    let some : x.r ≢ pos 0 = λ none. least x.r (series_impedance case.run.dt x.r x.l x.c) (impedance_is case.run.dt x only.no_inductance only.no_capacitance) here.numbers.impedance.least none in
    obeys case (records_upto case m) b n x fits only high some (chain case m) (run_law case m fits)
  where
    least : (r z : ℤ) → z ≡ r → pos LEAST_IMPEDANCE ≤ℤ z → r ≡ pos 0 → ⊥
    least r z e low none = omega (arith, ints, e, low, none)
