-- A step, from what its stages answer.
use Rattle.emtp_case.specs.declared.limit.TheConstants.{MOST_NODES}
use Rattle.std.proofs.Common.{◌≡◌, ◌∙◌, sym, ap, subst, ℕ, ◌+◌, ◌≤◌, ℤ, List, ◌∷◌, length, map, Result, Ok, Err, MatchResult, OnOk, IfErr, IsErrAnd, refl, arith}
use Rattle.std.proofs.lemmas.Result.{err_from_is_err_and}
use Rattle.emtp_case.specs.StepRecord.{StepRecord, is_closed}
use Rattle.emtp_case.specs.declared.case.Parts.{Parts}
use Rattle.emtp_case.specs.declared.row_kind.RowKind.{RowKind}
use Rattle.emtp_rows.specs.held.Touched.{NodalRows}
use Rattle.emtp_switch.specs.States.{next_states}
use Rattle.emtp_switch.specs.held.Switching as switching
use Rattle.emtp_tail.proofs.RedoneRows.{matrix_before_is}
use Rattle.emtp_tail.specs.held.Good.{Good}
use Rattle.emtp_net.specs.held.Fault.{NamesNode}
use Rattle.emtp_net.specs.held.Moving.{AreCurrents, AreLineCurrents, HaveMoved, IsNext}
use Rattle.emtp_net.specs.held.Network.{HasCounted, HasEliminated, MakesStep, Net, StandsFor, StandsWith, StepsTo, TicksStep}
use Rattle.emtp_net.specs.Part.{NetworkPart, part_at, states_at, switch_currents_at}
use Rattle.emtp_net.specs.held.Part.{network_of}
use Rattle.emtp_net.specs.Redone.{net_redone, step_redone}
use Rattle.emtp_net.specs.held.Redone.{last_matrix, step_ticks}
use Rattle.emtp_net.specs.held.Stages.{AreVoltages, Ends, HasCurrents, IsBalanced, IsDecided, IsFactored, IsPosed, IsReady, IsUntied, step_adds}
use Rattle.emtp_net.specs.Step.{network_part}
use Rattle.emtp_net.specs.System.{matrix}
use Rattle.emtp_net.specs.held.System.{source_values}
use Rattle.emtp_net.specs.declared.factor.NodalMatrix.{NodalMatrix}
use Rattle.emtp_net.specs.declared.fault.NetFault.{NetFault}
use Rattle.emtp_net.specs.declared.nodal_system.NodalSystem.{NodalSystem}
use Rattle.emtp_net.proofs.Ending.{part_branches, part_currents, part_made, part_states, part_voltages}
use Rattle.emtp_net.proofs.LineCurrents.{line_currents_next}
use Rattle.emtp_net.proofs.Switching.{states_next}
use Rattle.emtp_net.proofs.Tying.{free_isnt_tied}

-- ---- what a stage gives to the next one

pub latest_is : (s : Net) (H : List StepRecord) (voltages currents tacs : List ℤ) → StandsWith s tacs H → voltages ≡ s.voltages → currents ≡ s.switch_currents → switching.AreLatest (s.made + 1) voltages currents tacs H
latest_is s H voltages currents tacs stands first second = record { step_is = stands.network.steps; voltages_are = first ∙ stands.network.voltages; currents_are = second ∙ stands.network.switch_currents; values_are = stands.control }

pub ready_is : (s : Net) (H : List StepRecord) (kinds : List RowKind) (rows : NodalRows) (switches : switching.Switching) → StandsFor s H → IsDecided s.case H kinds rows switches → IsReady s.case H s.branches rows s.kept s.made
ready_is s H kinds rows switches stands decided = record { stands = stands.branches; free = decided.free; kinds = decided.rows_are; kept_is = stands.kept; steps = stands.steps }

-- the switches that moved stand for whatever record has their next states
pub switches_next : (s now : Net) (H : List StepRecord) (voltages currents tacs : List ℤ) (switches : switching.Switching) → switching.MovesSwitches s.switches switches (s.made + 1) voltages currents tacs → s.switches.case ≡ s.case
    → s ≡ now → StandsWith now tacs H → voltages ≡ s.voltages → currents ≡ s.switch_currents → (r : StepRecord) → r.switch_states ≡ next_states s.case H → switching.StandsFor switches (r ∷ H)
switches_next s now H voltages currents tacs switches moves case_is same stands first second r is =
    let stood = subst (λ (n : Net). StandsWith n tacs H) (sym same) stands in
    moves H r stood.network.switches (latest_is s H voltages currents tacs stood first second) (is ∙ ap (λ (p : Parts). next_states p H) (sym case_is))

pub states_here : (s now : Net) (H : List StepRecord) (voltages currents tacs : List ℤ) (switches : switching.Switching) → switching.MovesSwitches s.switches switches (s.made + 1) voltages currents tacs → s.switches.case ≡ s.case
    → s ≡ now → StandsWith now tacs H → voltages ≡ s.voltages → currents ≡ s.switch_currents → switches.states ≡ next_states s.case H
states_here s now H voltages currents tacs switches moves case_is same stands first second = states_next s.case H switches (switches_next s now H voltages currents tacs switches moves case_is same stands first second)

-- a step whose kinds are decided, from what its first stages answer
pub record HasBegun (s : Net) (H : List StepRecord) (kinds : List RowKind) (rows : NodalRows) (switches : switching.Switching) : Type 0 where
  pub stood : StandsFor s H
  pub moves : (r : StepRecord) → r.switch_states ≡ next_states s.case H → switching.StandsFor switches (r ∷ H)
  pub states : switches.states ≡ next_states s.case H
  pub decided : IsDecided s.case H kinds rows switches
  pub ready : IsReady s.case H s.branches rows s.kept s.made

pub begun : (s now : Net) (H : List StepRecord) (voltages currents tacs : List ℤ) (kinds : List RowKind) (rows : NodalRows) (switches : switching.Switching) → switching.MovesSwitches s.switches switches (s.made + 1) voltages currents tacs → s.switches.case ≡ s.case
    → s ≡ now → StandsWith now tacs H → voltages ≡ s.voltages → currents ≡ s.switch_currents → ((H : List StepRecord) → switches.states ≡ next_states s.case H → IsDecided s.case H kinds rows switches) → HasBegun s H kinds rows switches
begun s now H voltages currents tacs kinds rows switches moves case_is same stands first second decides =
    let stood = subst (λ (n : Net). StandsFor n H) (sym same) stands.network in
    let moved = switches_next s now H voltages currents tacs switches moves case_is same stands first second in
    let states = states_next s.case H switches moved in
    let decided = decides H states in
    record { stood = stood; moves = moved; states = states; decided = decided; ready = ready_is s H kinds rows switches stood decided }

pub posed_is : (s : Net) (H : List StepRecord) (rows : NodalRows) (switches : switching.Switching) (old system : NodalSystem) (kept : Good) → StandsFor s H → IsDecided s.case H old.kinds.items rows switches → system.kinds ≡ old.kinds → system.values.items ≡ source_values s.case H → kept.rows ≡ matrix s.case H
    → IsPosed s.case H s.branches system kept
posed_is s H rows switches old system kept stands decided kinds values made = record { stands = stands.branches; free = decided.free; kinds = ap (λ k. k.items) kinds ∙ decided.kinds_are; values = values; kept_is = made }

-- ---- the end

-- a fault names a node, and claims nothing of what follows an `Ok`, where it is returned as it came
pub err_names : (s now : Net) (result : Result (Unit {0}) NetFault) (e : NetFault) → s ≡ now → IsErrAnd result (λ y. y ≡ e) → NamesNode s.case e → IfErr result (NamesNode now.case)
err_names s now (Ok u) e same is names = absurd is
err_names s now (Err y) e same is names = subst (λ (n : Net). NamesNode n.case y) same (subst (NamesNode s.case) (sym is) names)

pub err_claims : (P : Type 0) (result : Result (Unit {0}) NetFault) (e : NetFault) → IsErrAnd result (λ y. y ≡ e) → OnOk result P
err_claims P (Ok u) e is = absurd is
err_claims P (Err y) e is = tt

pub ok_claims : (P : Type 0) (result : Result (Unit {0}) NetFault) → P → OnOk result P
ok_claims P (Ok u) holds = holds
ok_claims P (Err e) holds = tt

pub err_steps : (s now left : Net) (H : List StepRecord) (result : Result (Unit {0}) NetFault) (e : NetFault) (redone : ℕ) → s ≡ now → StandsFor s H → left.case ≡ s.case → left.redone ≡ s.redone + redone → result ≡ Err e → Ends s.case H redone e → StepsTo result left H (network_part now.case H)
err_steps s now left H result e redone same stands kept count is ends =
    let reached : network_part now.case H ≡ Err e = ap (λ (n : Net). network_part n.case H) (sym same) ∙ ends.is in
    let counted : left.redone ≡ net_redone left.case H + step_adds e left.case H = omega (arith, count, stands.redone, ends.adds, ap (λ (p : Parts). net_redone p H) kept, ap (λ (p : Parts). step_adds e p H) kept) in
    subst (λ r. StepsTo r left H (network_part now.case H)) (sym is) (subst (StepsTo (Err e) left H) (sym reached) (refl, counted))

-- a step is counted, whatever follows once its factor was made or refused
pub counted : (s now left : Net) (before after : ℕ) → s ≡ now → left.case ≡ s.case → left.made ≡ s.made + 1 → left.redone ≤ s.redone + MOST_NODES → after ≤ before + MOST_NODES → HasCounted now left before after
counted s now left before after same case made few few_ticks =
    subst (λ (n : Net). HasCounted n left before after) same (record { case = case; made = made; few = few; few_ticks = few_ticks })

pub counted_still : (s now left : Net) (ticks : ℕ) → s ≡ now → left.case ≡ s.case → left.made ≡ s.made + 1 → left.redone ≡ s.redone → HasCounted now left ticks ticks
counted_still s now left ticks same case made redone = counted s now left ticks ticks same case made (omega (arith, redone)) (omega arith)

-- what a step eliminated, once its factor was made or refused: then no two known voltages are tied
pub ticked : (s now : Net) (H : List StepRecord) (result : Result (Unit {0}) NetFault) (before after : ℕ) → s ≡ now → IsUntied s.case H → after ≤ before + step_ticks s.case H → OnOk result (after ≡ before + step_ticks s.case H) → HasEliminated result now.case H before after
ticked s now H result before after same free most made =
    subst (λ (n : Net). HasEliminated result n.case H before after) same (record {
      made = made;
      most = most;
      tied = λ node is. absurd (free_isnt_tied s.case H node free is);
    })

-- what a step promises
abbrev pub Promises : Result (Unit {0}) NetFault → Net → Net → List ℤ → ℕ → ℕ → Type 0
Promises result old new tacs before after = record {
  counts : HasCounted old new before after;
  capacities : new.capacities ≡ old.capacities;
  step : MakesStep result old new tacs;
  ticks : TicksStep result old tacs before after;
  node : IfErr result (NamesNode old.case);
}

-- it ends by a fault of the factor, or of a later stage
pub ends_by : (s now left : Net) (tacs : List ℤ) (kinds : List RowKind) (rows : NodalRows) (switches : switching.Switching) (made result : Result (Unit {0}) NetFault) (e : NetFault) (old new : NodalMatrix) (before after : ℕ) → s ≡ now → left.case ≡ s.case → left.made ≡ s.made + 1
    → old.redone ≡ s.redone → left.redone ≡ new.redone → left.redone ≤ s.redone + MOST_NODES → after ≤ before + MOST_NODES → left.capacities ≡ s.capacities → ((H : List StepRecord) → StandsWith now tacs H → HasBegun s H kinds rows switches) → ((H : List StepRecord) → IsReady s.case H s.branches rows s.kept s.made → IsFactored made s.case H old new before after)
    → ((H : List StepRecord) → StandsWith now tacs H → HasBegun s H kinds rows switches → Ends s.case H (step_redone s.case H) e) → NamesNode s.case e → IsErrAnd result (λ y. y ≡ e) → Promises result now left tacs before after
ends_by s now left tacs kinds rows switches made result e old new before after same case_is count was left_so few few_ticks capacities begins factors ends names returned =
    let returned_so = err_from_is_err_and result returned in
    record {
      counts = counted s now left before after same case_is count few few_ticks;
      capacities = capacities ∙ ap (λ (n : Net). n.capacities) same;
      step = λ H stands.
          let is = begins H stands in
          err_steps s now left H result e (step_redone s.case H) same is.stood case_is (omega (arith, was, left_so, (factors H is.ready).redone)) (returned_so.1 ∙ ap Err returned_so.2) (ends H stands is);
      ticks = λ H stands.
          let is = begins H stands in
          ticked s now H result before after same is.ready.free (factors H is.ready).most (err_claims (after ≡ before + step_ticks s.case H) result e returned);
      node = err_names s now result e same returned names;
    }

-- all stages of a step after which the network is `left`
pub record HasStepped (s left : Net) (H : List StepRecord) (vs : List ℤ) : Type 0 where
  pub case_is : left.case ≡ s.case
  pub branches : HaveMoved left.branches left.currents s.case H vs
  pub switches : (r : StepRecord) → r.switch_states ≡ next_states s.case H → switching.StandsFor left.switches (r ∷ H)
  pub states : left.switches.states ≡ next_states s.case H
  pub voltages : left.voltages ≡ vs
  pub switch_currents : left.switch_currents ≡ switch_currents_at s.case H (states_at s.case H vs)
  pub closed : left.closed ≡ map is_closed left.switches.states
  pub kept : left.kept.rows ≡ matrix s.case H
  pub kept_size : left.kept.size ≡ length s.case.nodes
  pub made : left.made ≡ s.made + 1
  pub redone : left.redone ≡ s.redone + step_redone s.case H

stands_next : (s left : Net) (H : List StepRecord) (vs : List ℤ) (r : StepRecord) → StandsFor s H → HasStepped s left H vs → network_of r ≡ part_at s.case H vs → StandsFor left (r ∷ H)
stands_next s left H vs r stands stepped is =
    let next : IsNext s.case H vs r = record { voltages = ap (λ (p : NetworkPart). p.voltages) is ∙ part_voltages s.case H vs; branches = ap (λ (p : NetworkPart). p.branches) is ∙ part_branches s.case H vs } in
    let states : r.switch_states ≡ next_states s.case H = ap (λ (p : NetworkPart). p.switch_states) is ∙ part_states s.case H vs in
    let currents : r.switch_currents ≡ switch_currents_at s.case H (states_at s.case H vs) = ap (λ (p : NetworkPart). p.switch_currents) is ∙ part_currents s.case H vs in
    record {
      branches = stepped.branches.stands r next;
      switches = stepped.switches r states;
      voltages = stepped.voltages ∙ sym next.voltages;
      currents = subst (λ (p : Parts). AreCurrents p left.currents r (length p.branches)) (sym stepped.case_is) (stepped.branches.are_currents r next);
      line_currents = subst (λ (p : Parts). AreLineCurrents p r) (sym stepped.case_is) (line_currents_next s.case H vs r stepped.branches.in_range next);
      switch_currents = stepped.switch_currents ∙ sym currents;
      closed = stepped.closed ∙ ap (map is_closed) (stepped.states ∙ sym states);
      kept = stepped.kept ∙ sym (matrix_before_is (matrix s.case) H s.made r stands.steps) ∙ ap (λ (p : Parts). last_matrix p (r ∷ H)) (sym stepped.case_is);
      kept_size = stepped.kept_size ∙ ap (λ (p : Parts). length p.nodes) (sym stepped.case_is);
      steps = omega (arith, stepped.made, stands.steps);
      redone = omega (arith, stepped.redone, stands.redone, ap (λ (p : Parts). net_redone p H) stepped.case_is, ap (λ (p : Parts). step_redone p H) stepped.case_is);
    }

-- the last stage judges
pub judge_steps : (s now left : Net) (H : List StepRecord) (vs currents : List ℤ) (result : Result (Unit {0}) NetFault) → s ≡ now → StandsFor s H → HasStepped s left H vs → AreVoltages s.case H vs → HasCurrents s.case H vs currents
    → MatchResult result (λ u. IsBalanced s.case H vs) (Ends s.case H (step_redone s.case H)) → StepsTo result left H (network_part now.case H)
judge_steps s now left H vs currents (Ok u) same stands stepped voltages has balanced =
    let reached : network_part now.case H ≡ Ok (part_at s.case H vs) = ap (λ (n : Net). network_part n.case H) (sym same) ∙ part_made s.case H vs voltages stepped.branches.in_range has.within balanced in
    subst (StepsTo (Ok u) left H) (sym reached) (λ r is. stands_next s left H vs r stands stepped is)
judge_steps s now left H vs currents (Err e) same stands stepped voltages has ends =
    err_steps s now left H (Err e) e (step_redone s.case H) same stands stepped.case_is stepped.redone refl ends
