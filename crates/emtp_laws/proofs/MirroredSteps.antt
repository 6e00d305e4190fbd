-- Each step of a mirrored case is the mirror image of that of the case, and so is the whole run.
use Rattle.std.proofs.Common.{◌≡◌, ◌∙◌, ◌++◌, drop, ℕ, zero, suc, ℤ, pos, nat_lt, unsigned_abs, List, [], ◌∷◌, map, length, replicate, Option, Some, None, Result, Ok, Err, refl, ap, sym}
use Rattle.std.specs.List.{position, range_with_len}
use Rattle.std.proofs.Math.Path.{fun_ext}
use Rattle.std.proofs.lemmas.List.{length-map}
use Rattle.std.proofs.lemmas.Simd.{map-map}
use Rattle.emtp_case.specs.held.Case.{HasNoControl}
use Rattle.emtp_case.specs.RowOrder.{Rows, order_of}
use Rattle.emtp_case.specs.StepRecord.{BranchState, StepRecord, branch_at_rest, latest, record_back, rest_of}
use Rattle.emtp_case.specs.declared.branch.Branch.{Branch}
use Rattle.emtp_case.specs.declared.branch.Branch.TheVariants.{Lumped as OfLumped, Line as OfLine, Pseudo as OfPseudo, Phase as OfPhase}
use Rattle.emtp_case.specs.declared.case.Parts.{Parts}
use Rattle.emtp_case.specs.declared.switch.SwitchState.{SwitchState}
use Rattle.emtp_elim.specs.Matrix.{Matrix}
use Rattle.emtp_elim.specs.held.Matrix.{opposites}
use Rattle.emtp_elim.specs.Outcome.{outcome}
use Rattle.emtp_elim.specs.held.Outcome.{opposite_end}
use Rattle.emtp_elim.specs.declared.fault.PlainFault.{PlainFault}
use Rattle.emtp_elim.specs.declared.fault.PlainFault.TheVariants.{NoMemory, Row, Solve}
use Rattle.emtp_machine.specs.History.{History, advanced, after_step, end_at, history_upto}
use Rattle.emtp_machine.specs.Next.{Fault, joined, measured_of, network_fault, next, record_of, with_control}
use Rattle.emtp_machine.specs.declared.end.End.{End}
use Rattle.emtp_net.specs.Part.{NetworkPart, first_out, node_of_branch, part_at, voltages_of}
use Rattle.emtp_net.specs.Residual.{residual_of}
use Rattle.emtp_fix.specs.Chain.{◌>>=◌, unless}
use Rattle.emtp_net.specs.Step.{balanced, fault_by, fault_of, first_beyond, first_unbalanced, moved, node_of_switch, named, network_part, solution, switched, untied}
use Rattle.emtp_net.specs.System.{matrix, right}
use Rattle.emtp_net.specs.declared.fault.NetFault.{NetFault}
use Rattle.emtp_net.specs.declared.fault.NetFault.TheVariants.{Range, Residual, Tied, ZeroPivot}
use Rattle.emtp_rows.specs.Nodal.{node_at}
use Rattle.emtp_switch.specs.Groups.{tied_of}
use Rattle.emtp_switch.specs.States.{next_states}
use Rattle.emtp_tacs.proofs.NoCards.{no_cards}
use Rattle.emtp_tacs.specs.Part.{ControlPart, standing_values}
use Rattle.emtp_tacs.specs.declared.fault.TacsFault.{TacsFault}
use Rattle.emtp_laws.specs.Mirror.{HasNoSign, mirror_image, mirrored_history, mirrored_part, mirrored_record, mirrored_records, bare, bare_records, mirrored_bare, without_control, mirrored_source, is_plain_shape, mirrored_branch, mirrored_step}
use Rattle.emtp_laws.proofs.MirroredSwitches.{states_same}
use Rattle.emtp_laws.proofs.MirroredPart.{HasCurves, beyond_same, out_same, part_opposite, residuals_same, voltages_opposite}
use Rattle.emtp_laws.proofs.MirroredSystem.{matrix_alike, right_opposite}
use Rattle.emtp_laws.proofs.MirroredCase.{mirrored_twice}
use Rattle.emtp_elim.proofs.Opposites.{place_map}
use Rattle.std.proofs.Math.IntN.{neg_ℤ-neg_ℤ}
use Rattle.std.proofs.lemmas.List.{map-id}
use Rattle.std.proofs.lemmas.List.Elements.{All-map}
use Rattle.emtp_case.specs.StepRecord.{LumpedBranch, LineBranch, PseudoBranch, PhaseBranch, before_start}
use Rattle.emtp_case.specs.declared.source.Source.{Source}
use Rattle.emtp_pseudo.specs.Laws as odd
use Rattle.std.proofs.Common.{neg_ℤ, true}
use Rattle.emtp_case.specs.declared.branch.LumpedState.{LumpedState}
use Rattle.emtp_case.specs.declared.branch.LineState.{LineState}
use Rattle.emtp_case.specs.declared.branch.PseudoState.{PseudoState}
use Rattle.emtp_case.specs.declared.branch.PhaseState.{PhaseState}
use Rattle.emtp_laws.specs.Mirror.{mirrored_lumped, mirrored_line, mirrored_phase}
use Rattle.emtp_laws.proofs.MirroredRows.{nodes_same, order_same}
use Rattle.emtp_elim.proofs.OddSolutions.{outcome_turned}

-- ---- the stages of a step

-- what there is goes through t, a fault stays
abbrev over : {A : Type 0} → (A → A) → Result A NetFault → Result A NetFault
over t (Ok x) = Ok (t x)
over t (Err fault) = Err fault

chain : {A : Type 0} (t : A → A) (o p : Result A NetFault) (f g : A → Result NetworkPart NetFault) → p ≡ over t o → ((x : A) → g (t x) ≡ mirrored_step (f x)) → p >>= g ≡ mirrored_step (o >>= f)
chain {A = A} t o p f g e h = ap (λ q. q >>= g) e ∙ by_cases o
  where
    by_cases : (o : Result A NetFault) → over t o >>= g ≡ mirrored_step (o >>= f)
    by_cases (Ok x) = h x
    by_cases (Err fault) = refl

same_unit : (o : Result (Unit {0}) NetFault) → o ≡ over (λ u. u) o
same_unit (Ok u) = refl
same_unit (Err fault) = refl

untied_same : (case : Parts) (H : List StepRecord) → HasNoSign case → untied (mirror_image case) (bare_records H) ≡ untied case H
untied_same case H plain =
    ap (λ (r : Rows). unless (tied_of case.switches r (next_states (mirror_image case) (bare_records H))) (λ s. Tied (node_of_switch case s)) (Ok tt)) (order_same case)
    ∙ ap (λ (ss : List SwitchState). unless (tied_of case.switches (order_of case) ss) (λ s. Tied (node_of_switch case s)) (Ok tt)) (states_same case H plain)

fault_same : (case : Parts) (fault : PlainFault) → fault_of (mirror_image case) fault ≡ fault_of case fault
fault_same case (Row fault) = ap (λ (at : ℕ → ℕ). fault_by fault.cause (at fault.row)) (nodes_same case)
fault_same case (Solve fault) = ap (λ (at : ℕ → ℕ). Range (at fault.row)) (nodes_same case)
fault_same case NoMemory = refl

named_turned : (case : Parts) (o : Result (List ℤ) PlainFault) → named (mirror_image case) (opposite_end o) ≡ over opposites (named case o)
named_turned case (Ok x) = refl
named_turned case (Err fault) = ap Err (fault_same case fault)

solution_opposite : (case : Parts) (H : List StepRecord) → HasNoSign case → solution (mirror_image case) (bare_records H) ≡ over opposites (solution case H)
solution_opposite case H plain =
    ap (λ (m : Matrix). named (mirror_image case) (outcome m (right (mirror_image case) (bare_records H)))) (matrix_alike case H plain)
    ∙ ap (λ r. named (mirror_image case) (outcome (matrix case H) r)) (right_opposite case H plain)
    ∙ ap (named (mirror_image case)) (outcome_turned (matrix case H) (right case H))
    ∙ named_turned case (outcome (matrix case H) (right case H))

unless_over : {A : Type 0} (t : A → A) (o : Option ℕ) (f : ℕ → NetFault) (x : A) → unless o f (Ok (t x)) ≡ over t (unless o f (Ok x))
unless_over t None f x = refl
unless_over t (Some at) f x = refl

moved_opposite : (case : Parts) (H : List StepRecord) (vs : List ℤ) → HasNoSign case → HasCurves case → moved (mirror_image case) (bare_records H) (opposites vs) ≡ over mirrored_part (moved case H vs)
moved_opposite case H vs plain curves =
    ap (λ o. unless o (λ b. Range (node_of_branch case b)) (Ok (part_at (mirror_image case) (bare_records H) (opposites vs)))) (out_same case H vs curves)
    ∙ ap (λ (p : NetworkPart). unless (first_out case H vs) (λ b. Range (node_of_branch case b)) (Ok p)) (part_opposite case H vs plain curves)
    ∙ unless_over mirrored_part (first_out case H vs) (λ b. Range (node_of_branch case b)) (part_at case H vs)

switched_opposite : (case : Parts) (part : NetworkPart) → switched (mirror_image case) (mirrored_part part) ≡ over mirrored_part (switched case part)
switched_opposite case part =
    ap (λ o. unless o (λ s. Range (node_of_switch case s)) (Ok (mirrored_part part))) (beyond_same part.switch_currents)
    ∙ unless_over mirrored_part (first_beyond part.switch_currents) (λ s. Range (node_of_switch case s)) part

as_step : (o : Result NetworkPart NetFault) → over mirrored_part o ≡ mirrored_step o
as_step (Ok x) = refl
as_step (Err fault) = refl

abbrev balanced_by : Parts → (ℕ → ℕ) → (ℕ → ℕ) → NetworkPart → Result NetworkPart NetFault
balanced_by case f at part =
    unless (position (λ i. nat_lt (unsigned_abs case.run.tolerance) (f i)) (range_with_len 0 (length case.nodes))) (λ i. Residual (at i) (pos (f i))) (Ok part)

balanced_opposite : (case : Parts) (H : List StepRecord) (part : NetworkPart) → HasNoSign case → balanced (mirror_image case) (bare_records H) (mirrored_part part) ≡ mirrored_step (balanced case H part)
balanced_opposite case H part plain =
    let f = residual_of case H part.branches in
    ap (λ (g : ℕ → ℕ). balanced_by case g (node_at (mirror_image case)) (mirrored_part part)) (residuals_same case H part.branches plain)
    ∙ ap (λ (at : ℕ → ℕ). balanced_by case f at (mirrored_part part)) (nodes_same case)
    ∙ unless_over mirrored_part (first_unbalanced case H part.branches) (λ i. Residual (node_at case i) (pos (f i))) part
    ∙ as_step (balanced case H part)

-- ---- a step

pub part_bare : (case : Parts) (H : List StepRecord) → HasNoSign case → HasCurves case → network_part (mirror_image case) (bare_records H) ≡ mirrored_step (network_part case H)
unfolding network_part
part_bare case H plain curves =
    chain (λ u. u) _ _ _ _ (untied_same case H plain ∙ same_unit (untied case H)) (λ u.
    chain opposites _ _ _ _ (solution_opposite case H plain) (λ x.
    chain mirrored_part _ _ _ _ (ap (moved (mirror_image case) (bare_records H)) (voltages_opposite case x) ∙ moved_opposite case H (voltages_of case x) plain curves) (λ part.
    chain mirrored_part _ _ _ _ (switched_opposite case part) (λ within. balanced_opposite case H within plain))))

-- ---- twice

numbers_twice : (xs : List ℤ) → opposites (opposites xs) ≡ xs
numbers_twice xs = map-map neg_ℤ neg_ℤ xs ∙ ap (λ (f : ℤ → ℤ). map f xs) (fun_ext neg_ℤ-neg_ℤ) ∙ map-id xs

lumped_twice : (s : LumpedState) → mirrored_lumped (mirrored_lumped s) ≡ s
lumped_twice s = rw (neg_ℤ-neg_ℤ s.current, neg_ℤ-neg_ℤ s.v_l, neg_ℤ-neg_ℤ s.v_c, neg_ℤ-neg_ℤ s.history_voltage) refl

line_twice : (s : LineState) → mirrored_line (mirrored_line s) ≡ s
line_twice s = rw (neg_ℤ-neg_ℤ s.from_current, neg_ℤ-neg_ℤ s.to_current, neg_ℤ-neg_ℤ s.from_wave, neg_ℤ-neg_ℤ s.to_wave) refl

pseudo_twice : (s : PseudoState) → odd.mirrored_state (odd.mirrored_state s) ≡ s
pseudo_twice s = rw (neg_ℤ-neg_ℤ s.current, neg_ℤ-neg_ℤ s.segment, neg_ℤ-neg_ℤ s.flux) refl

phase_twice : (s : PhaseState) → mirrored_phase (mirrored_phase s) ≡ s
phase_twice s = rw (neg_ℤ-neg_ℤ s.from_current, neg_ℤ-neg_ℤ s.to_current, neg_ℤ-neg_ℤ s.from_wave, neg_ℤ-neg_ℤ s.to_wave, neg_ℤ-neg_ℤ s.from_zero_wave, neg_ℤ-neg_ℤ s.to_zero_wave) refl

state_twice : (s : BranchState) → mirrored_branch (mirrored_branch s) ≡ s
state_twice (LumpedBranch s) = ap LumpedBranch (lumped_twice s)
state_twice (LineBranch s) = ap LineBranch (line_twice s)
state_twice (PseudoBranch s) = ap PseudoBranch (pseudo_twice s)
state_twice (PhaseBranch s) = ap PhaseBranch (phase_twice s)

all_twice : (bs : List BranchState) → map mirrored_branch (map mirrored_branch bs) ≡ bs
all_twice bs = map-map mirrored_branch mirrored_branch bs ∙ ap (λ (f : BranchState → BranchState). map f bs) (fun_ext state_twice) ∙ map-id bs

abbrev bare_with : StepRecord → List ℤ → List BranchState → List ℤ → StepRecord
bare_with r vs bs is = record { voltages = vs; branches = bs; switch_states = r.switch_states; switch_currents = is; values = []; blocks = []; devices = [] }

bare_twice : (r : StepRecord) → mirrored_bare (mirrored_bare r) ≡ bare r
bare_twice r =
    ap (λ vs. bare_with r vs (map mirrored_branch (map mirrored_branch r.branches)) (opposites (opposites r.switch_currents))) (numbers_twice r.voltages)
    ∙ ap (λ bs. bare_with r r.voltages bs (opposites (opposites r.switch_currents))) (all_twice r.branches)
    ∙ ap (λ is. bare_with r r.voltages r.branches is) (numbers_twice r.switch_currents)

records_twice : (H : List StepRecord) → bare_records (bare_records H) ≡ without_control H
records_twice H = map-map mirrored_bare mirrored_bare H ∙ ap (λ (f : StepRecord → StepRecord). map f H) (fun_ext bare_twice)

abbrev part_with : NetworkPart → List ℤ → List BranchState → List ℤ → NetworkPart
part_with p vs bs is = record p { voltages = vs; branches = bs; switch_currents = is }

step_twice : (o : Result NetworkPart NetFault) → mirrored_step (mirrored_step o) ≡ o
step_twice (Ok p) = ap Ok (
    ap (λ vs. part_with p vs (map mirrored_branch (map mirrored_branch p.branches)) (opposites (opposites p.switch_currents))) (numbers_twice p.voltages)
    ∙ ap (λ bs. part_with p p.voltages bs (opposites (opposites p.switch_currents))) (all_twice p.branches)
    ∙ ap (λ is. part_with p p.voltages p.branches is) (numbers_twice p.switch_currents)
    )
step_twice (Err fault) = refl

-- ---- the control doesn't matter

pub no_sign : (case : Parts) → HasNoSign case → HasNoSign (mirror_image case)
no_sign case h = record { switches = h.switches; sources = All-map (λ (s : Source). is_plain_shape s.shape ≡ true) mirrored_source case.sources h.sources }

-- a network that doesn't go by the control takes the same step whatever the control keeps
pub blind : (case : Parts) (H : List StepRecord) → HasNoSign case → HasCurves case → network_part case (without_control H) ≡ network_part case H
blind case H plain curves =
    ap (λ (hs : List StepRecord). network_part case hs) (sym (records_twice H))
    ∙ ap (λ (p : Parts). network_part p (bare_records (bare_records H))) (sym (mirrored_twice case))
    ∙ part_bare (mirror_image case) (bare_records H) (no_sign case plain) curves
    ∙ ap mirrored_step (part_bare case H plain curves)
    ∙ step_twice (network_part case H)

-- so the step is the mirror image after any records of which the network's part is
pub part_opposite_of : (case : Parts) (H K : List StepRecord) → HasNoSign case → HasCurves case → without_control K ≡ bare_records H → network_part (mirror_image case) K ≡ mirrored_step (network_part case H)
part_opposite_of case H K plain curves alike =
    sym (blind (mirror_image case) K (no_sign case plain) curves)
    ∙ ap (network_part (mirror_image case)) alike
    ∙ part_bare case H plain curves

pub part_mirrored : (case : Parts) (H : List StepRecord) → HasNoSign case → HasCurves case → network_part (mirror_image case) (mirrored_records H) ≡ mirrored_step (network_part case H)
part_mirrored case H plain curves = part_opposite_of case H (mirrored_records H) plain curves (map-map bare mirrored_record H)

pub back : (H : List StepRecord) (k : ℕ) → record_back (mirrored_records H) k ≡ mirrored_record (record_back H k)
back H k = place_map mirrored_record H k before_start

-- ---- a record

abbrev pub mirrored_next : Result StepRecord Fault → Result StepRecord Fault
mirrored_next (Ok r) = Ok (mirrored_record r)
mirrored_next (Err fault) = Err fault

no_control : (case : Parts) → HasNoControl case → HasNoControl (mirror_image case)
no_control case h = record { vars = h.vars; tacs_sources = h.tacs_sources; blocks = h.blocks; extras = h.extras }

net_fault_same : (case : Parts) (fault : NetFault) → network_fault (mirror_image case) fault ≡ network_fault case fault
net_fault_same case (Tied node) = refl
net_fault_same case (ZeroPivot node) = refl
net_fault_same case (Range node) = refl
net_fault_same case (Residual node x) = refl

abbrev control_after : Parts → ℕ → StepRecord → ControlPart
control_after case n r = record { values = standing_values case.run n ++ drop 6 r.values; blocks = []; devices = r.devices }

with_control_mirrored : (case : Parts) (H : List StepRecord) (o : Result NetworkPart NetFault) → HasNoControl case → with_control (mirror_image case) (mirrored_records H) (mirrored_step o) ≡ mirrored_next (with_control case H o)
with_control_mirrored case H (Ok part) none =
    ap (joined (mirror_image case) (mirrored_part part)) (no_cards (mirror_image case) (mirrored_records H) (measured_of (mirrored_part part)) (no_control case none))
    ∙ ap (λ (n : ℕ). let r : Result StepRecord Fault = Ok (record_of (mirrored_part part) (control_after case n (latest (mirrored_records H)))) in r) (length-map H mirrored_record)
    ∙ ap (λ (s : StepRecord). let r : Result StepRecord Fault = Ok (record_of (mirrored_part part) (control_after case (length H) s)) in r) (back H 0)
    ∙ sym (ap (λ (q : Result ControlPart TacsFault). mirrored_next (joined case part q)) (no_cards case H (measured_of part) none))
with_control_mirrored case H (Err fault) none = ap Err (net_fault_same case fault)

pub next_mirrored : (case : Parts) (H : List StepRecord) → HasNoSign case → HasCurves case → HasNoControl case → next (mirror_image case) (mirrored_records H) ≡ mirrored_next (next case H)
unfolding next
next_mirrored case H plain curves none =
    ap (with_control (mirror_image case) (mirrored_records H)) (part_mirrored case H plain curves) ∙ with_control_mirrored case H (network_part case H) none

-- ---- a run

zeros_turned : (n : ℕ) → opposites (replicate n (pos 0)) ≡ replicate n (pos 0)
zeros_turned zero = refl
zeros_turned (suc n) = ap (λ xs. pos 0 ∷ xs) (zeros_turned n)

at_rest : (x : Branch) → mirrored_branch (branch_at_rest x) ≡ branch_at_rest x
at_rest (OfLumped x) = refl
at_rest (OfLine x) = refl
at_rest (OfPseudo x) = refl
at_rest (OfPhase x) = refl

pub rest_mirrored : (case : Parts) → mirrored_record (rest_of case) ≡ rest_of case
rest_mirrored case =
    let r = rest_of case in
    ap (λ (vs : List ℤ). let s : StepRecord = record r { voltages = vs; branches = map mirrored_branch r.branches; switch_currents = opposites r.switch_currents } in s) (zeros_turned _)
    ∙ ap (λ (bs : List BranchState). let s : StepRecord = record r { branches = bs; switch_currents = opposites r.switch_currents } in s) (map-map mirrored_branch branch_at_rest case.branches ∙ ap (λ (f : Branch → BranchState). map f case.branches) (fun_ext at_rest))
    ∙ ap (λ (is : List ℤ). let s : StepRecord = record r { switch_currents = is } in s) (zeros_turned (length case.switches))

after_mirrored : (h : History) (made : Result StepRecord Fault) → after_step (mirrored_history h) (mirrored_next made) ≡ mirrored_history (after_step h made)
after_mirrored h (Ok r) = refl
after_mirrored h (Err fault) = ap (λ (n : ℕ). let k : History = record (mirrored_history h) { end = Some (end_at n fault) } in k) (length-map h.records mirrored_record)

advanced_mirrored : (case : Parts) (h : History) (end : Option End) → HasNoSign case → HasCurves case → HasNoControl case → advanced (mirror_image case) (mirrored_history h) end ≡ mirrored_history (advanced case h end)
advanced_mirrored case h None plain curves none = ap (after_step (mirrored_history h)) (next_mirrored case h.records plain curves none) ∙ after_mirrored h (next case h.records)
advanced_mirrored case h (Some end) plain curves none = refl

pub history_mirrored : (case : Parts) (n : ℕ) → HasNoSign case → HasCurves case → HasNoControl case → history_upto (mirror_image case) n ≡ mirrored_history (history_upto case n)
unfolding history_upto
history_mirrored case zero plain curves none = ap (λ (r : StepRecord). let h : History = record { records = r ∷ []; end = None } in h) (sym (rest_mirrored case))
history_mirrored case (suc n) plain curves none =
    ap (λ (h : History). advanced (mirror_image case) h h.end) (history_mirrored case n plain curves none)
    ∙ advanced_mirrored case (history_upto case n) (history_upto case n).end plain curves none
