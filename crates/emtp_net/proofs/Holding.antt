-- The fields of a network hold together after each stage of a step.
use Rattle.emtp_case.specs.declared.limit.TheConstants.{MOST_NODES}
use Rattle.std.proofs.Common.{◌≡◌, ◌∙◌, ◌+◌, ◌<◌, ◌≤◌, sym, ap, subst, refl, ℕ, ℤ, All, Bool, List, [], ◌∷◌, ◌++◌, length, unsigned_abs, arith}
use Rattle.std.specs.Vec.{with_items}
use Rattle.std.proofs.lemmas.List.{with_items_is}
use Rattle.emtp_case.specs.declared.case.Parts.{Parts}
use Rattle.emtp_fix.specs.declared.limit.TheConstants.{LARGEST_VALUE}
use Rattle.emtp_rows.specs.held.Touched.{NodalRows, Touches}
use Rattle.emtp_switch.specs.held.Switching.{Switching}
use Rattle.emtp_net.specs.held.Branches.{HasCase}
use Rattle.emtp_net.specs.held.Holding.{AreFew, HasRoom, HoldsRows, HoldsSwitches, HoldsTogether, KeepsKinds, capacities_of}
use Rattle.emtp_net.specs.held.Network.{Net}
use Rattle.emtp_net.specs.declared.branches.Branches.{Branches}
use Rattle.emtp_net.specs.declared.factor.NodalMatrix.{NodalMatrix}
use Rattle.emtp_net.specs.declared.network.Network.TheInside.{Inside}
use Rattle.emtp_net.specs.declared.nodal_system.NodalSystem.{NodalSystem}
use Rattle.emtp_net.proofs.Factoring.{holds_kinds}
use Rattle.emtp_net.proofs.Switching.{keeps_on}

-- what a contract sees of a network
abbrev pub seen : Inside → Net
seen n = record {
  case = n.case.now.parts;
  branches = n.branches;
  switches = n.switches;
  rows = n.matrix.rows;
  kept = n.matrix.kept;
  voltages = n.voltages.items;
  currents = n.currents.items;
  switch_currents = n.switch_currents.items;
  closed = n.closed.items;
  made = n.made;
  redone = n.matrix.redone;
  capacities = capacities_of n.system ++ n.voltages.cap ∷ n.currents.cap ∷ n.switch_currents.cap ∷ n.closed.cap ∷ [];
}

-- the fields of the network hold together
pub record Holds (n : Inside) : Type 0 where
  pub together : HoldsTogether n.case.now.parts n.order n.branches n.switches n.system n.matrix n.voltages.items n.currents.items n.switch_currents.items n.closed.items n.made

-- the network in a step more, with what the first stages wrote
abbrev pub stepping : Inside → Switching → NodalSystem → NodalMatrix → Inside
stepping n switches system matrix = record n { switches = switches; system = system; matrix = matrix; made = n.made + 1 }

-- all capacities stay with those of the nodal system
pub capacities_kept : (n : Inside) (system : NodalSystem) → capacities_of system ≡ capacities_of n.system → (seen (record n { system = system })).capacities ≡ (seen n).capacities
capacities_kept n system kept = ap (λ cs. cs ++ n.voltages.cap ∷ n.currents.cap ∷ n.switch_currents.cap ∷ n.closed.cap ∷ []) kept

-- a step is left
pub step_left : (s now : Net) → s ≡ now → now.made < now.case.run.steps → s.made < s.case.run.steps
step_left s now same left = subst (λ (n : Net). n.made < n.case.run.steps) (sym same) left

pub few_next : (case : Parts) (made old new : ℕ) → AreFew case made old → made < case.run.steps → new ≤ old + MOST_NODES → AreFew case (made + 1) new
few_next case made old new few below more = record { made_few = omega (arith, below); redone_few = omega (arith, few.redone_few, more) }

-- the switches go by the case and its row order after they moved
pub switches_stay : (case : Parts) (old new : Switching) → HoldsSwitches case old → new.case ≡ old.case → new.rows ≡ old.rows → HoldsSwitches case new
switches_stay case old new holds case_is rows_are = record { case_is = case_is ∙ holds.case_is; rows_are = rows_are ∙ holds.rows_are }

-- ---- one stage after the other

-- the switches moved, and the rows have the kinds that follow from them
pub kinds_set : (n : Inside) (switches : Switching) (system : NodalSystem) (rows : NodalRows) → Holds n → n.made < n.case.now.parts.run.steps → switches.case ≡ n.switches.case → switches.rows ≡ n.switches.rows
    → HasRoom n.case.now.parts system → rows.nodal ≡ record n.matrix.rows.nodal { kinds = rows.nodal.kinds } → Touches n.matrix.rows rows → KeepsKinds n.case.now.parts system rows switches
    → Holds (stepping n switches system (record n.matrix { rows = rows }))
kinds_set n switches system rows holds left case_is rows_are room rest touches keeps =
    let was = holds.together in
    let stay = switches_stay n.case.now.parts n.switches switches was.switches_hold case_is rows_are in
    let rows_so = holds_kinds n.case.now.parts n.matrix.rows rows n.matrix.kept was.rows_hold rest touches in
    let few_so = few_next n.case.now.parts n.made n.matrix.redone n.matrix.redone was.few left (omega arith) in
    record { together = record { order_is = was.order_is; branches_case = was.branches_case; switches_hold = stay; room = room; rows_hold = rows_so; decided = keeps; shown = was.shown; few = few_so } }

pub factor_made : {n : Inside} (matrix : NodalMatrix) → Holds n → HoldsRows n.case.now.parts matrix.rows matrix.kept → matrix.rows.nodal.kinds ≡ n.matrix.rows.nodal.kinds → AreFew n.case.now.parts n.made matrix.redone → Holds (record n { matrix = matrix })
factor_made {n} matrix holds rows kinds few =
    let was = holds.together in
    let keeps = keeps_on n.case.now.parts n.system n.system n.matrix.rows matrix.rows n.switches n.switches was.decided refl refl kinds refl in
    record { together = record { order_is = was.order_is; branches_case = was.branches_case; switches_hold = was.switches_hold; room = was.room; rows_hold = rows; decided = keeps; shown = was.shown; few = few } }

-- a stage that leaves the kinds wrote into the nodal system
pub system_moved : {n : Inside} (system : NodalSystem) → Holds n → HasRoom n.case.now.parts system → system.kinds ≡ n.system.kinds → system.decided ≡ n.system.decided → Holds (record n { system = system })
system_moved {n} system holds room kinds decided =
    let was = holds.together in
    let keeps = keeps_on n.case.now.parts n.system system n.matrix.rows n.matrix.rows n.switches n.switches was.decided decided kinds refl refl in
    record { together = record { order_is = was.order_is; branches_case = was.branches_case; switches_hold = was.switches_hold; room = room; rows_hold = was.rows_hold; decided = keeps; shown = was.shown; few = was.few } }

pub voltages_found : {n : Inside} (voltages : List ℤ) → Holds n → length voltages ≡ length n.voltages.items → All (λ v. unsigned_abs v ≤ LARGEST_VALUE) voltages → Holds (record n { voltages = with_items n.voltages voltages })
voltages_found {n} voltages holds same small =
    let was = holds.together in
    let written = with_items_is n.voltages voltages (same ∙ sym n.voltages.ok.0) in
    let small_so = subst (All (λ v. unsigned_abs v ≤ LARGEST_VALUE)) (sym written) small in
    record { together = record { order_is = was.order_is; branches_case = was.branches_case; switches_hold = was.switches_hold; room = was.room; rows_hold = was.rows_hold; decided = was.decided; shown = record { voltages_count = ap length written ∙ same ∙ was.shown.voltages_count; voltages_small = small_so; currents_count = was.shown.currents_count; switch_count = was.shown.switch_count; closed_count = was.shown.closed_count }; few = was.few } }

pub branches_moved : {n : Inside} (branches : Branches) (currents : List ℤ) → Holds n → HasCase branches n.case.now.parts → length currents ≡ length n.currents.items → Holds (record n { branches = branches; currents = with_items n.currents currents })
branches_moved {n} branches currents holds case_is same =
    let was = holds.together in
    let count = ap length (with_items_is n.currents currents (same ∙ sym n.currents.ok.0)) ∙ same ∙ was.shown.currents_count in
    record { together = record { order_is = was.order_is; branches_case = case_is; switches_hold = was.switches_hold; room = was.room; rows_hold = was.rows_hold; decided = was.decided; shown = record { voltages_count = was.shown.voltages_count; voltages_small = was.shown.voltages_small; currents_count = count; switch_count = was.shown.switch_count; closed_count = was.shown.closed_count }; few = was.few } }

pub switch_currents_found : {n : Inside} (switches : Switching) (currents : List ℤ) → Holds n → switches ≡ n.switches → length currents ≡ length n.switch_currents.items → Holds (record n { switches = switches; switch_currents = with_items n.switch_currents currents })
switch_currents_found {n} switches currents holds still same =
    let was = holds.together in
    let stay = subst (HoldsSwitches n.case.now.parts) (sym still) was.switches_hold in
    let keeps = keeps_on n.case.now.parts n.system n.system n.matrix.rows n.matrix.rows n.switches switches was.decided refl refl refl still in
    let count = ap length (with_items_is n.switch_currents currents (same ∙ sym n.switch_currents.ok.0)) ∙ same ∙ was.shown.switch_count in
    record { together = record { order_is = was.order_is; branches_case = was.branches_case; switches_hold = stay; room = was.room; rows_hold = was.rows_hold; decided = keeps; shown = record { voltages_count = was.shown.voltages_count; voltages_small = was.shown.voltages_small; currents_count = was.shown.currents_count; switch_count = count; closed_count = was.shown.closed_count }; few = was.few } }

pub closed_written : {n : Inside} (closed : List Bool) → Holds n → length closed ≡ length n.closed.items → Holds (record n { closed = with_items n.closed closed })
closed_written {n} closed holds same =
    let was = holds.together in
    let count = ap length (with_items_is n.closed closed (same ∙ sym n.closed.ok.0)) ∙ same ∙ was.shown.closed_count in
    record { together = record { order_is = was.order_is; branches_case = was.branches_case; switches_hold = was.switches_hold; room = was.room; rows_hold = was.rows_hold; decided = was.decided; shown = record { voltages_count = was.shown.voltages_count; voltages_small = was.shown.voltages_small; currents_count = was.shown.currents_count; switch_count = was.shown.switch_count; closed_count = count }; few = was.few } }
