-- What a scan sees of a case of one series branch.
use Rattle.std.proofs.Common.{◌≡◌, ◌∙◌, sym, ap, subst, ℕ, ◌*◌, ◌^◌, ◌<◌, ◌≤◌, ◌==◌, ◌&&◌, ◌⊎◌, ℤ, pos, ◌<ℤ◌, ◌+ℤ◌, ◌-ℤ◌, ◌*ℤ◌, neg_ℤ, int_lt, max, unsigned_abs, nat_le, nat_lt, Bool, true, false, if◌then◌else◌, List, [], ◌∷◌, length, slice_get, Option, Some, None, Result, Ok, Err, IfSome, refl, inl, inr, arith}
use Rattle.std.specs.Option.{ok_or}
use Rattle.std.specs.Result.{result_err}
use Rattle.std.proofs.lemmas.Bool.{cases_lt}
use Rattle.std.proofs.lemmas.Bool.Decides.{Decides-int_eq, nat_tests}
use Rattle.std.proofs.lemmas.Int.{ints}
use Rattle.std.proofs.lemmas.List.{get_or_past}
use Rattle.std.proofs.lemmas.List.Sums.{passes_at_first}
use Rattle.emtp_fix.proofs.Chaining.{same_ok, unless_ok}
use Rattle.emtp_fix.proofs.Quotients.{near-exact, near-times_zero}
use Rattle.emtp_fix.proofs.Ranges.{in_range-is}
use Rattle.emtp_fix.specs.Limit.{in_range}
use Rattle.emtp_fix.specs.Rounding.{near, near_abs}
use Rattle.emtp_fix.specs.declared.limit.TheConstants.{NANO, PICO}
use Rattle.emtp_case.proofs.NodeOrder.{length-order_of}
use Rattle.emtp_case.proofs.RowsOfNodes.{is_number, isnt_number, node_low}
use Rattle.emtp_case.specs.NodeRows.{kind_at, node_at, row_at}
use Rattle.emtp_case.specs.RowOrder.{order_of}
use Rattle.emtp_case.specs.Sums.{sum_below, total}
use Rattle.emtp_case.specs.declared.branch.Branch.{Branch}
use Rattle.emtp_case.specs.declared.branch.Branch.TheVariants.{Lumped as OfLumped}
use Rattle.emtp_case.specs.declared.branch.Lumped.{Lumped}
use Rattle.emtp_case.specs.declared.case.Parts.{Parts}
use Rattle.emtp_case.specs.declared.row_kind.RowKind.TheVariants.{Ground, Kcl}
use Rattle.emtp_case.specs.declared.source.Shape.{Shape}
use Rattle.emtp_case.specs.declared.source.Shape.TheVariants.{Cosine, NodeVoltage, Pulse, Ramp, Saw, Step, SwitchCurrent, SwitchStatus, Tacs}
use Rattle.emtp_case.specs.declared.source.Source.{Source}
use Rattle.emtp_wave.proofs.Worked.{last}
use Rattle.emtp_wave.specs.Cosine.{cosine, direction, in_quarter}
use Rattle.emtp_admittance.proofs.InverseRests.{series_inverse}
use Rattle.emtp_admittance.specs.Admittances.{port_at}
use Rattle.emtp_admittance.specs.Impedance.{across_ends, angular_frequency, ports_of, series_port}
use Rattle.emtp_admittance.specs.Inverses.{IsInverseAcross}
use Rattle.emtp_admittance.specs.Probes.{card_barred, is_plain_cosine, is_probe, judged_probe, probe_in, scanned_by}
use Rattle.emtp_admittance.specs.Refusals.{branch_refused, control_cards, judged_at, judged_frequency, least_refusal, least_refused, refused_in, sooner, source_refused, switch_refused}
use Rattle.emtp_admittance.specs.declared.admittance.Admittance.{Admittance}
use Rattle.emtp_admittance.specs.declared.admittance.TwoPort.{TwoPort}
use Rattle.emtp_admittance.specs.declared.limit.TheConstants.{MOST_PHASOR_NODES}
use Rattle.emtp_admittance.specs.declared.probe.Probe.{Probe}
use Rattle.emtp_admittance.specs.declared.refusal.Refusal.TheVariants.{Impedance as BadImpedance}
use Rattle.emtp_admittance.specs.declared.refusal.Refused.{Refused}
use Rattle.emtp_phasor.proofs.Balancing.{made_of, row_small}
use Rattle.emtp_phasor.proofs.OhmsLaw.{seen}
use Rattle.emtp_phasor.proofs.PhasorLaws.{imaginary_current, real_current}
use Rattle.emtp_phasor.proofs.Volting.{kinds_size}
use Rattle.emtp_phasor.specs.Scanning.{answer_by, answer_of_state, impedance_or_range, impedance_seen, line_at, over_amplitude}
use Rattle.emtp_phasor.specs.SingleBranch.{IsBranchToGround, IsSeen, reactance_at}
use Rattle.emtp_phasor.specs.Steady.{State, entering, first_residual_above, leaving_node, leaving_through, resting_kinds, steady}
use Rattle.emtp_phasor.specs.Volts.{nothing, part_phase, cosine_phase, phasors_of, source_part, source_phasors_into, volt_at}
use Rattle.emtp_phasor.specs.declared.ending.Ending.{Ending}
use Rattle.emtp_phasor.specs.declared.line.ScanAnswer.TheVariants.{Impedance}
use Rattle.emtp_phasor.specs.declared.phasor.Phasor.{Phasor}

-- ---- what a line that has an impedance was made of

past_size : (b : Bool) (r : Refused) (q : Result ℤ Refused) (f : ℤ) → (if b then Err r else q) ≡ Ok f → q ≡ Ok f
past_size false r q f e = e
past_size true r q f e = absurd (cc)

-- a frequency that was given is kept, and no card is refused
judged_is : (case : Parts) (freq f : ℤ) → judged_frequency case (Some freq) ≡ Ok f → (least_refused case freq None ≡ None) × (freq ≡ f)
unfolding judged_frequency
judged_is case freq f e =
    let judged = past_size (nat_lt MOST_PHASOR_NODES (length case.nodes)) _ (judged_at case (Some freq) (Ok freq)) f e in
    let kept = unless_ok (least_refused case freq None) (λ refused. refused) (Ok freq) f judged in
    (kept.0, same_ok freq f kept.1)

by_state : (case : Parts) (probe : Probe) (r : Result State Ending) (re im : ℤ) → answer_of_state case probe r ≡ Impedance re im → (s : State) × (r ≡ Ok s) × (impedance_seen case probe (volt_at s.volts probe.node) ≡ Impedance re im)
by_state case probe (Ok s) re im e = (s, refl, e)
by_state case probe (Err end) re im e = absurd (cc)

by_frequency : (case : Parts) (probe : Probe) (r : Result ℤ Refused) (re im : ℤ) → answer_by case probe r ≡ Impedance re im → (f : ℤ) × (r ≡ Ok f) × (answer_of_state case probe (steady case f) ≡ Impedance re im)
by_frequency case probe (Ok f) re im e = (f, refl, e)
by_frequency case probe (Err refused) re im e = absurd (cc)

same_parts : (a b c d : ℤ) → Impedance a b ≡ Impedance c d → (a ≡ c) × (b ≡ d)
same_parts a b c d e = (cc, cc)

by_range : (case : Parts) (node : ℕ) (o p : Option ℤ) (re im : ℤ) → impedance_or_range case node o p ≡ Impedance re im → (o ≡ Some re) × (p ≡ Some im)
by_range case node None p re im e = absurd (cc)
by_range case node (Some a) None re im e = absurd (cc)
by_range case node (Some a) (Some b) re im e = let both = same_parts a b re im e in (ap Some both.0, ap Some both.1)

-- ---- the row of the node

-- a row that has Kirchhoff's current law is one of the case
row_there : (case : Parts) (row : ℕ) → kind_at (resting_kinds case) row ≡ Kcl → row < length case.nodes
row_there case row is =
    let size : length (resting_kinds case) ≡ length case.nodes = kinds_size case in
    elim (cases_lt row (length case.nodes)) [
      | inl below ↦ below
      | inr past ↦ absurd (ground_isnt (sym (get_or_past (resting_kinds case) row Ground (omega (arith, past, size))) ∙ is))
    ]
  where
    ground_isnt : Ground ≡ Kcl → ⊥
    ground_isnt e = cc

-- and its node is the one that was looked for
node_there : (case : Parts) (n : ℕ) → row_at case n < length case.nodes → node_at case (row_at case n) ≡ n
node_there case n below = same (node_at case (row_at case n)) n (passes_at_first (λ m. m == n) (order_of case).nodes 0 (omega (arith, below, length-order_of case)))
  where
    same : (a b : ℕ) → (a == b) ≡ true → a ≡ b
    same a b e = grind (arith, nat_tests)

both_small : (case : Parts) (ports : List TwoPort) (volts : List Phasor) (n : ℕ) → first_residual_above case ports volts ≡ None → kind_at (resting_kinds case) (row_at case n) ≡ Kcl
    → (unsigned_abs (leaving_node case ports volts false n) ≤ unsigned_abs case.run.tolerance) × (unsigned_abs (leaving_node case ports volts true n) ≤ unsigned_abs case.run.tolerance)
both_small case ports volts n none is =
    let row = row_at case n in
    let below = row_there case row is in
    let there : node_at case row ≡ n = node_there case n below in
    let small = row_small case ports volts row none below in
    let greater : max (unsigned_abs (leaving_node case ports volts false (node_at case row))) (unsigned_abs (leaving_node case ports volts true (node_at case row))) ≤ unsigned_abs case.run.tolerance = rw is at small in
    let known = rw there at greater in
    (omega (arith, known), omega (arith, known))

-- ---- the branch

sooner_none : (a b : Option Refused) → sooner a b ≡ None → (a ≡ None) × (b ≡ None)
sooner_none None b e = (refl, e)
sooner_none (Some a) None e = absurd (cc)
sooner_none (Some a) (Some b) e = absurd (by_line (nat_le a.line b.line) a b e)
  where
    by_line : (t : Bool) (a b : Refused) → (if t then Some a else Some b) ≡ None → ⊥
    by_line true a b e = cc
    by_line false a b e = cc

taken : (line : ℕ) (o : Option TwoPort) → refused_in line (result_err (ok_or o BadImpedance)) ≡ None → (y : TwoPort) × (o ≡ Some y)
taken line (Some y) e = (y, refl)
taken line None e = absurd (cc)

-- a branch that isn't refused has its admittance
admitted : (case : Parts) (b : Lumped) (freq : ℤ) → least_refused case freq None ≡ None → case.branches ≡ OfLumped b ∷ [] → (y : TwoPort) × (series_port (angular_frequency freq) b ≡ Some y)
admitted case b freq none alone =
    let all = sooner_none (control_cards case) _ none in
    let network = sooner_none (least_refusal switch_refused case.switches) _ all.1 in
    let branches = sooner_none (least_refusal (branch_refused freq) case.branches) (least_refusal (source_refused None) case.sources) network.1 in
    let one : least_refusal (branch_refused freq) (OfLumped b ∷ []) ≡ None = rw alone at branches.0 in
    taken b.line (series_port (angular_frequency freq) b) (sooner_none (branch_refused freq (OfLumped b)) None one).0

port_is : (case : Parts) (b : Lumped) (freq : ℤ) (y : TwoPort) → case.branches ≡ OfLumped b ∷ [] → series_port (angular_frequency freq) b ≡ Some y → port_at (ports_of case freq) 0 ≡ y
port_is case b freq y alone is = rw (alone, is) refl

plus_zero : (z : ℤ) → z +ℤ pos 0 ≡ z
plus_zero z = omega (arith, ints)

zero_plus : (z : ℤ) → pos 0 +ℤ z ≡ z
zero_plus z = omega (arith, ints)

-- what leaves a node through a branch to ground
leaves : (b : Lumped) (y : TwoPort) (volts : List Phasor) (n : ℕ) (part : Bool) → 1 ≤ n → ((b.from ≡ n) × (b.to ≡ 0)) ⊎ ((b.from ≡ 0) × (b.to ≡ n)) → leaving_through part y volts n (Some (OfLumped b)) ≡ entering part y (volt_at volts n) (volt_at volts 0)
leaves b y volts n part some (inl e) =
    let here : (b.from == n) ≡ true = is_number b.from n e.0 in
    let there : (b.to == n) ≡ false = isnt_number b.to n (λ same. omega (arith, some, same, e.1)) in
    rw (here, there) (plus_zero (entering part y (volt_at volts b.from) (volt_at volts b.to)) ∙ ap (λ k. entering part y (volt_at volts k) (volt_at volts b.to)) e.0 ∙ ap (λ k. entering part y (volt_at volts n) (volt_at volts k)) e.1)
leaves b y volts n part some (inr e) =
    let here : (b.to == n) ≡ true = is_number b.to n e.1 in
    let there : (b.from == n) ≡ false = isnt_number b.from n (λ same. omega (arith, some, same, e.0)) in
    rw (here, there) (zero_plus (entering part y (volt_at volts b.to) (volt_at volts b.from)) ∙ ap (λ k. entering part y (volt_at volts k) (volt_at volts b.from)) e.1 ∙ ap (λ k. entering part y (volt_at volts n) (volt_at volts k)) e.0)

only_one : (branches : List Branch) (b : Branch) (ports : List TwoPort) (volts : List Phasor) (n : ℕ) (part : Bool) → branches ≡ b ∷ []
    → sum_below (length branches) (λ k. leaving_through part (port_at ports k) volts n (slice_get branches k)) ≡ leaving_through part (port_at ports 0) volts n (Some b)
only_one branches b ports volts n part is = rw is (zero_plus (leaving_through part (port_at ports 0) volts n (Some b)))

leaves_alone : (case : Parts) (b : Lumped) (freq : ℤ) (y : TwoPort) (volts : List Phasor) (n : ℕ) (part : Bool) → IsBranchToGround case b n → 1 ≤ n → series_port (angular_frequency freq) b ≡ Some y → volt_at volts 0 ≡ nothing
    → leaving_node case (ports_of case freq) volts part n ≡ entering part y (volt_at volts n) nothing -ℤ source_phasors_into case part n
leaves_alone case b freq y volts n part is some port ground =
    ap (λ z. z -ℤ source_phasors_into case part n)
    (only_one case.branches (OfLumped b) (ports_of case freq) volts n part is.alone
    ∙ ap (λ y. leaving_through part y volts n (Some (OfLumped b))) (port_is case b freq y is.alone port)
    ∙ leaves b y volts n part some is.ends
    ∙ ap (λ u. entering part y (volt_at volts n) u) ground)

-- ---- the source

both : (a b : Bool) → (a && b) ≡ true → (a ≡ true) × (b ≡ true)
both true b e = (refl, e)
both false b e = absurd (cc)

no_phase : (s : Shape) → is_plain_cosine s ≡ true → cosine_phase s ≡ pos 0
no_phase Step e = refl
no_phase (Ramp rise) e = refl
no_phase (Cosine freq phase) e = (Decides-int_eq phase (pos 0)).0 e
no_phase (Tacs var) e = refl
no_phase (Pulse period width) e = refl
no_phase (Saw period) e = refl
no_phase (NodeVoltage node) e = refl
no_phase (SwitchCurrent switch) e = refl
no_phase (SwitchStatus switch) e = refl

one : cosine (pos 0) ≡ pos (10 ^ 12)
unfolding direction in_quarter near near_abs
one = refl

none : cosine (pos 0 -ℤ pos (25 * 10 ^ 16)) ≡ pos 0
unfolding in_quarter
none = ap neg_ℤ last

part_of : Bool → ℤ → ℤ
part_of false a = a
part_of true a = pos 0

brought : (part : Bool) (a : ℤ) → near (a *ℤ cosine (part_phase part (pos 0))) PICO ≡ part_of part a
unfolding part_of
brought false a = ap (λ z. near (a *ℤ z) PICO) one ∙ near-exact a (10 ^ 12) (omega arith)
brought true a = ap (λ z. near (a *ℤ z) PICO) none ∙ near-times_zero a PICO

-- the source of a scan brings its amplitude to its node
by_probe : (s : Source) (p : Probe) (part t : Bool) → is_probe s ≡ t → (if t then Some (record { node = s.node; amplitude = s.amplitude }) else None) ≡ Some p
    → (total (λ (s : Source). if s.current && (s.node == p.node) then source_part part s else pos 0) (s ∷ []) ≡ part_of part p.amplitude) × (pos 0 <ℤ p.amplitude)
by_probe s p part false is e = absurd (cc)
by_probe s p part true is e =
    let made : Probe = record { node = s.node; amplitude = s.amplitude } in
    let same : made ≡ p = cc in
    let facts = both (s.current && is_plain_cosine s.shape) (int_lt (pos 0) s.amplitude) is in
    let kinds = both s.current (is_plain_cosine s.shape) facts.0 in
    let phase = no_phase s.shape kinds.1 in
    let node : (s.node == s.node) ≡ true = is_number s.node s.node refl in
    let current = kinds.0 in
    let value : total (λ (s' : Source). if s'.current && (s'.node == s.node) then source_part part s' else pos 0) (s ∷ []) ≡ part_of part s.amplitude =
    rw (current, node, phase) (plus_zero (near (s.amplitude *ℤ cosine (part_phase part (pos 0))) PICO) ∙ brought part s.amplitude) in
    subst (λ (p : Probe). (total (λ (s : Source). if s.current && (s.node == p.node) then source_part part s else pos 0) (s ∷ []) ≡ part_of part p.amplitude) × (pos 0 <ℤ p.amplitude)) same (value, larger s.amplitude facts.1)
  where
    larger : (a : ℤ) → int_lt (pos 0) a ≡ true → pos 0 <ℤ a
    larger a e = grind (arith, ints)

by_sources : (sources : List Source) (p : Probe) (part : Bool) → probe_in sources ≡ Some p
    → (total (λ (s : Source). if s.current && (s.node == p.node) then source_part part s else pos 0) sources ≡ part_of part p.amplitude) × (pos 0 <ℤ p.amplitude)
by_sources [] p part e = absurd (cc)
by_sources (s ∷ []) p part e = by_probe s p part (is_probe s) refl e
by_sources (s ∷ other ∷ rest) p part e = absurd (cc)

found : (case : Parts) (o : Option Probe) (p : Probe) → scanned_by case o ≡ Ok p → o ≡ Some p
found case None p e = absurd (cc)
found case (Some q) p e = ap Some (same_ok q p (unless_ok (card_barred case) (λ refused. refused) (Ok q) p e).1)

probe_is : (case : Parts) (p : Probe) → judged_probe case ≡ Ok p → probe_in case.sources ≡ Some p
unfolding judged_probe
probe_is case p e = found case (probe_in case.sources) p (past (nat_lt MOST_PHASOR_NODES (length case.nodes)) _ _ p e)
  where
    past : (b : Bool) (r : Refused) (q : Result Probe Refused) (p : Probe) → (if b then Err r else q) ≡ Ok p → q ≡ Ok p
    past false r q p e = e
    past true r q p e = absurd (cc)

-- ---- what is seen

ground_is : (case : Parts) (x : List ℤ) (volts : List Phasor) → volts ≡ phasors_of case x → volt_at volts 0 ≡ nothing
unfolding phasors_of
ground_is case x volts is = rw is refl

real_alone : (y : Admittance) (v : Phasor) → entering false (across_ends y) v nothing ≡ near (y.conductance *ℤ v.re -ℤ y.susceptance *ℤ v.im) PICO
real_alone y v = real_current y v nothing ∙ ap (λ z. near (y.conductance *ℤ z -ℤ y.susceptance *ℤ (v.im -ℤ pos 0)) PICO) (minus_zero v.re) ∙ ap (λ z. near (y.conductance *ℤ v.re -ℤ y.susceptance *ℤ z) PICO) (minus_zero v.im)
  where
    minus_zero : (z : ℤ) → z -ℤ pos 0 ≡ z
    minus_zero z = omega (arith, ints)

imaginary_alone : (y : Admittance) (v : Phasor) → entering true (across_ends y) v nothing ≡ near (y.susceptance *ℤ v.re +ℤ y.conductance *ℤ v.im) PICO
imaginary_alone y v = imaginary_current y v nothing ∙ ap (λ z. near (y.susceptance *ℤ z +ℤ y.conductance *ℤ (v.im -ℤ pos 0)) PICO) (minus_zero v.re) ∙ ap (λ z. near (y.susceptance *ℤ v.re +ℤ y.conductance *ℤ z) PICO) (minus_zero v.im)
  where
    minus_zero : (z : ℤ) → z -ℤ pos 0 ≡ z
    minus_zero z = omega (arith, ints)

-- of a state of this admittance
by_port : (case : Parts) (probe : Probe) (b : Lumped) (freq re im : ℤ) (y : TwoPort) (x : List ℤ) (volts : List Phasor) → IsBranchToGround case b probe.node → probe_in case.sources ≡ Some probe → series_port (angular_frequency freq) b ≡ Some y
    → IsInverseAcross b.r (reactance_at freq b) y → volts ≡ phasors_of case x → first_residual_above case (ports_of case freq) volts ≡ None
    → in_range (near ((volt_at volts probe.node).re *ℤ NANO) probe.amplitude) ≡ Some re → in_range (near ((volt_at volts probe.node).im *ℤ NANO) probe.amplitude) ≡ Some im → IsSeen b.r (reactance_at freq b) case.run.tolerance probe.amplitude re im
unfolding part_of
by_port case probe b freq re im y x volts is source port inverse are residuals in_re in_im =
    let n = probe.node in
    let v = volt_at volts n in
    let small = both_small case (ports_of case freq) volts n residuals is.own_row in
    let below = row_there case (row_at case n) is.own_row in
    let some : 1 ≤ n = omega (arith, node_low case (row_at case n) below, node_there case n below) in
    let ground = ground_is case x volts are in
    let real_source = by_sources case.sources probe false source in
    let imaginary_source = by_sources case.sources probe true source in
    let across : y ≡ across_ends y.own = inverse.across in
    let real : leaving_node case (ports_of case freq) volts false n ≡ near (y.own.conductance *ℤ v.re -ℤ y.own.susceptance *ℤ v.im) PICO -ℤ probe.amplitude =
    leaves_alone case b freq y volts n false is some port ground
    ∙ ap (λ z. z -ℤ source_phasors_into case false n) (ap (λ p. entering false p v nothing) across ∙ real_alone y.own v)
    ∙ ap (λ z. near (y.own.conductance *ℤ v.re -ℤ y.own.susceptance *ℤ v.im) PICO -ℤ z) real_source.0 in
    let imaginary : leaving_node case (ports_of case freq) volts true n ≡ near (y.own.susceptance *ℤ v.re +ℤ y.own.conductance *ℤ v.im) PICO -ℤ pos 0 =
    leaves_alone case b freq y volts n true is some port ground
    ∙ ap (λ z. z -ℤ source_phasors_into case true n) (ap (λ p. entering true p v nothing) across ∙ imaginary_alone y.own v)
    ∙ ap (λ z. near (y.own.susceptance *ℤ v.re +ℤ y.own.conductance *ℤ v.im) PICO -ℤ z) imaginary_source.0 in
    seen b.r (reactance_at freq b) probe.amplitude v.re v.im re im case.run.tolerance y.own real_source.1 inverse.inverse
    (subst (λ z. unsigned_abs z ≤ unsigned_abs case.run.tolerance) real small.0)
    (subst (λ z. unsigned_abs z ≤ unsigned_abs case.run.tolerance) imaginary small.1)
    (in_range-is (near (v.re *ℤ NANO) probe.amplitude) re in_re) (in_range-is (near (v.im *ℤ NANO) probe.amplitude) im in_im)

if_there : {X : Type 0} (o : Option X) (x : X) (P : X → Type 0) → o ≡ Some x → IfSome o P → P x
if_there o x P is holds = rw is at holds

pub single_branch_seen : (case : Parts) (probe : Probe) (b : Lumped) (freq re im : ℤ) → judged_probe case ≡ Ok probe → IsBranchToGround case b probe.node → (line_at case probe freq).answer ≡ Impedance re im
    → IsSeen b.r (reactance_at freq b) case.run.tolerance probe.amplitude re im
single_branch_seen case probe b freq re im judged is answered =
    let good = by_frequency case probe (judged_frequency case (Some freq)) re im answered in
    let state = by_state case probe (steady case good.0) re im good.2 in
    let asked = judged_is case freq good.0 good.1 in
    let port = admitted case b freq asked.0 is.alone in
    let made = made_of case freq state.0 (ap (steady case) asked.1 ∙ state.1) in
    let inverse = if_there (series_port (angular_frequency freq) b) port.0 (IsInverseAcross b.r (reactance_at freq b)) port.1 (series_inverse (angular_frequency freq) b) in
    let parts = by_range case probe.node (over_amplitude (volt_at state.0.volts probe.node).re probe) (over_amplitude (volt_at state.0.volts probe.node).im probe) re im state.2 in
    by_port case probe b freq re im port.0 made.0 state.0.volts is (probe_is case probe judged) port.1 inverse made.1 made.2 parts.0 parts.1
