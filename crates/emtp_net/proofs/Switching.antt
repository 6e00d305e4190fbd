-- The switches of the next step.
use Rattle.std.proofs.Common.{◌≡◌, ◌∙◌, sym, ap, subst, ℕ, ◌<◌, ◌≤◌, ℤ, List, [], ◌∷◌, All, length, unsigned_abs, if◌then◌else◌, not, Option, Some, None, true, false, refl, arith, pos}
use Rattle.std.proofs.lemmas.Bool.Decides.{nat_tests}
use Rattle.std.proofs.lemmas.List.FromFn.{length-map-range_with_len}
use Rattle.emtp_case.specs.held.RowKinds.{AreKinds}
use Rattle.emtp_case.specs.RowOrder.{Rows, order_of}
use Rattle.emtp_case.specs.StepRecord.{BranchState, StepRecord}
use Rattle.emtp_case.specs.declared.case.Parts.{Parts}
use Rattle.emtp_case.specs.declared.row_kind.RowKind.{RowKind}
use Rattle.emtp_case.specs.declared.switch.SwitchState.{SwitchState}
use Rattle.emtp_elim.specs.Matrix.{item}
use Rattle.emtp_fix.specs.Limit.{is_within}
use Rattle.emtp_fix.specs.declared.limit.TheConstants.{LARGEST_VALUE}
use Rattle.emtp_case.proofs.RowsOfNodes.{fixed_within}
use Rattle.emtp_switch.specs.Currents.{bridge_current, contains, currents_of}
use Rattle.emtp_switch.specs.held.Currents.{IsFirstBeyond}
use Rattle.emtp_switch.specs.Groups.{bridges_of, tied_of}
use Rattle.emtp_switch.specs.Kinds as switched
use Rattle.emtp_switch.specs.States.{next_states}
use Rattle.emtp_switch.specs.held.Switching as switching
use Rattle.emtp_rows.specs.held.Touched.{NodalRows}
use Rattle.emtp_net.specs.held.Holding.{HasKinds, HoldsSwitches, KeepsKinds}
use Rattle.emtp_net.specs.declared.nodal_system.NodalSystem.{NodalSystem}
use Rattle.emtp_net.specs.Part.{leaving_rows, switch_currents_at}
use Rattle.emtp_net.specs.Step.{first_beyond}
use Rattle.emtp_net.specs.System.{kinds_of}
use Rattle.emtp_case.proofs.Places.{first_at, first_none}

-- a record with these states of its switches
abbrev following : List SwitchState → StepRecord
following states = record { voltages = []; branches = []; switch_states = states; switch_currents = []; values = []; blocks = []; devices = [] }

pub states_next : (case : Parts) (H : List StepRecord) (s : switching.Switching) → ((r : StepRecord) → r.switch_states ≡ next_states case H → switching.StandsFor s (r ∷ H)) → s.states ≡ next_states case H
states_next case H s stands = let stood = stands (following (next_states case H)) refl in stood.states_are

pub kinds_next : (case : Parts) (H : List StepRecord) (s : switching.Switching) (kinds : List RowKind) → HoldsSwitches case s → s.states ≡ next_states case H → kinds ≡ switched.kinds_of s.case s.rows s.states → kinds ≡ kinds_of case H
kinds_next case H s kinds holds states is =
    is ∙ ap (λ (p : Parts). switched.kinds_of p s.rows s.states) holds.case_is ∙ ap (λ (r : Rows). switched.kinds_of case r s.states) holds.rows_are ∙ ap (λ (l : List SwitchState). switched.kinds_of case (order_of case) l) states

pub tied_next : (case : Parts) (H : List StepRecord) (s : switching.Switching) (o : Option ℕ) → HoldsSwitches case s → s.states ≡ next_states case H → tied_of s.case.switches s.rows s.states ≡ o → tied_of case.switches (order_of case) (next_states case H) ≡ o
tied_next case H s o holds states is =
    sym (ap (λ (p : Parts). tied_of p.switches s.rows s.states) holds.case_is ∙ ap (λ (r : Rows). tied_of case.switches r s.states) holds.rows_are ∙ ap (λ (l : List SwitchState). tied_of case.switches (order_of case) l) states) ∙ is

-- the same of the states that the switches have
pub kinds_held : (case : Parts) (s : switching.Switching) (kinds : List RowKind) → HoldsSwitches case s → kinds ≡ switched.kinds_of s.case s.rows s.states → kinds ≡ switched.kinds_of case (order_of case) s.states
kinds_held case s kinds holds is = is ∙ ap (λ (p : Parts). switched.kinds_of p s.rows s.states) holds.case_is ∙ ap (λ (r : Rows). switched.kinds_of case r s.states) holds.rows_are

pub tied_held : (case : Parts) (s : switching.Switching) (o : Option ℕ) → HoldsSwitches case s → tied_of s.case.switches s.rows s.states ≡ o → tied_of case.switches (order_of case) s.states ≡ o
tied_held case s o holds is = sym (ap (λ (p : Parts). tied_of p.switches s.rows s.states) holds.case_is ∙ ap (λ (r : Rows). tied_of case.switches r s.states) holds.rows_are) ∙ is

-- and they are kept where neither the kinds nor the states change
pub keeps_on : (case : Parts) (old new : NodalSystem) (rows rows' : NodalRows) (s s' : switching.Switching) → KeepsKinds case old rows s → new.decided ≡ old.decided → new.kinds ≡ old.kinds → rows'.nodal.kinds ≡ rows.nodal.kinds → s' ≡ s → KeepsKinds case new rows' s'
keeps_on case old new rows rows' s s' keeps decided here there same = λ is.
    let has = keeps (sym decided ∙ is) in
    let kinds = ap (λ (w : switching.Switching). switched.kinds_of case (order_of case) w.states) (sym same) in
    record {
      untied = ap (λ (w : switching.Switching). tied_of case.switches (order_of case) w.states) same ∙ has.untied;
      here_are = ap (λ v. v.items) here ∙ has.here_are ∙ kinds;
      there_are = there ∙ has.there_are ∙ kinds;
    }

-- as they are where the switches moved to the states that they had
pub keeps_still : (case : Parts) (system : NodalSystem) (rows : NodalRows) (s s' : switching.Switching) → KeepsKinds case system rows s → s'.states ≡ s.states → KeepsKinds case system rows s'
keeps_still case system rows s s' keeps same = λ is. subst (HasKinds case system.kinds.items rows.nodal.kinds) (sym same) (keeps is)

-- the kinds fit the rows of the case
pub are_kinds : (case held : Parts) (s : switching.Switching) (kinds : List RowKind) → HoldsSwitches case s → held ≡ case → (s.rows.fixed ≤ length s.case.nodes → AreKinds (length s.case.nodes) s.rows.fixed kinds) → AreKinds (length held.nodes) (order_of held).fixed kinds
are_kinds case held s kinds holds same are =
    let few : s.rows.fixed ≤ length s.case.nodes = omega (arith, fixed_within case, ap (λ (r : Rows). r.fixed) holds.rows_are, ap (λ (p : Parts). length p.nodes) holds.case_is) in
    subst (λ (p : Parts). AreKinds (length p.nodes) (order_of p).fixed kinds) (sym same)
    (subst (λ (r : Rows). AreKinds (length case.nodes) r.fixed kinds) holds.rows_are (subst (λ (p : Parts). AreKinds (length p.nodes) s.rows.fixed kinds) holds.case_is (are few)))

-- ---- currents

pub currents_next : (case : Parts) (H : List StepRecord) (s : switching.Switching) (branches : List BranchState) (leaving : List ℤ) → HoldsSwitches case s → s.states ≡ next_states case H → leaving ≡ leaving_rows case H branches
    → currents_of s.case.switches s.rows s.states leaving ≡ switch_currents_at case H branches
currents_next case H s branches leaving holds states leave =
    ap (λ (p : Parts). currents_of p.switches s.rows s.states leaving) holds.case_is ∙ ap (λ (r : Rows). currents_of case.switches r s.states leaving) holds.rows_are ∙ ap (λ (l : List SwitchState). currents_of case.switches (order_of case) l leaving) states
    ∙ ap (currents_of case.switches (order_of case) (next_states case H)) leave

-- one for each switch
pub length-currents : (s : switching.Switching) (leaving : List ℤ) → length (currents_of s.case.switches s.rows s.states leaving) ≡ length s.case.switches
length-currents s leaving =
    length-map-range_with_len (λ k. if contains (bridges_of s.case.switches s.rows s.states) k then bridge_current s.case.switches s.rows (bridges_of s.case.switches s.rows s.states) leaving k else pos 0) 0 (length s.case.switches)

within : (limit : ℕ) (x : ℤ) → unsigned_abs x ≤ limit → not (is_within limit x) ≡ false
within limit x small = grind (arith, nat_tests)

beyond : (limit : ℕ) (x : ℤ) → limit < unsigned_abs x → not (is_within limit x) ≡ true
beyond limit x large = grind (arith, nat_tests)

pub none_beyond : (currents : List ℤ) → All (λ i. unsigned_abs i ≤ LARGEST_VALUE) currents → first_beyond currents ≡ None
none_beyond currents small = first_none (λ s. not (is_within LARGEST_VALUE (item currents s))) (length currents) (λ k below. within LARGEST_VALUE (item currents k) (small k (pos 0) below))

pub beyond_at : (currents : List ℤ) (s : ℕ) → IsFirstBeyond currents s → first_beyond currents ≡ Some s
beyond_at currents s first = first_at (λ s. not (is_within LARGEST_VALUE (item currents s))) (length currents) s first.within (λ k less. within LARGEST_VALUE (item currents k) (first.earlier k less)) (beyond LARGEST_VALUE (item currents s) first.is)

-- lists of nothing
pub both_empty : (xs ys : List ℤ) → length xs ≡ 0 → length ys ≡ 0 → xs ≡ ys
both_empty [] [] none none' = refl
both_empty [] (y ∷ ys) none none' = absurd (omega (arith, none'))
both_empty (x ∷ xs) ys none none' = absurd (omega (arith, none))
