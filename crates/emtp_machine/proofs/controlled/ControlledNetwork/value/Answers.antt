use Rattle.std.proofs.Common.{◌≡◌, ◌∙◌, ◌<◌, ◌-ℤ◌, ap, sym, subst, refl, ℕ, ℤ, pos, List, length, map, get_or, slice_index, slice_index_or, FitsSigned, arith, rules}
use mir.Syntax.{w64}
use Rattle.std.proofs.lemmas.Int.{to_z-of_z}
use Rattle.std.proofs.lemmas.List.{get_or-map}
use Rattle.emtp_case.specs.Branch.{from_of, to_of}
use Rattle.emtp_case.specs.held.Channel.{IsChannel}
use Rattle.emtp_case.specs.held.Sizes.{sizes_of}
use Rattle.emtp_case.specs.StepRecord.{latest}
use Rattle.emtp_case.specs.declared.case.Parts.{Parts}
use Rattle.emtp_case.specs.declared.switch.Switch.{Switch}
use Rattle.emtp_machine.specs.Channels.{channel_value, within_range}
use Rattle.emtp_machine.proofs.controlled.ControlledNetwork.value.Goals as goal

-- what is read of a record at a place
read_at : {X : Type 0} (f : X → ℕ) (seen xs : List X) (k : ℕ) (d : X) → seen ≡ xs → k < length xs → f (get_or seen k d) ≡ slice_index (map f xs) k
read_at f seen xs k d same inside = ap (λ ys. f (get_or ys k d)) same ∙ sym (get_or-map f xs k d 0 inside)

between : (seen vs : List ℤ) (a b m n : ℕ) → seen ≡ vs → a ≡ m → b ≡ n → within_range (slice_index_or seen a (pos 0) -ℤ slice_index_or seen b (pos 0)) ≡ within_range (slice_index_or vs m (pos 0) -ℤ slice_index_or vs n (pos 0))
between seen vs a b m n same first second = rw (same, first, second) refl

pub bounds-voltages-node : goal.bounds-voltages-node
bounds-voltages-node c =
    let there = subst (IsChannel (sizes_of c.args.case.now.parts)) c.in-NodeVoltage.is c.requires.there in
    omega (arith, there.1, c.voltages.ensures.each, ap (λ (p : Parts). length p.nodes) c.requires.case.network)

pub bounds-currents-switch : goal.bounds-currents-switch
bounds-currents-switch c =
    let there = subst (IsChannel (sizes_of c.args.case.now.parts)) c.in-SwitchCurrent.is c.requires.there in
    omega (arith, there, c.currents.ensures.each, ap (λ (p : Parts). length p.switches) c.requires.case.network)

pub bounds-values-var : goal.bounds-values-var
bounds-values-var c =
    let there = subst (IsChannel (sizes_of c.args.case.now.parts)) c.in-Tacs.is c.requires.there in
    omega (arith, there, c.values.ensures.each, ap (λ (p : Parts). length p.vars) c.requires.case.control)

pub branch_current-requires : goal.branch_current-requires
branch_current-requires c =
    let there = subst (IsChannel (sizes_of c.args.case.now.parts)) c.in-BranchCurrent.is c.requires.there in
    omega (arith, there, ap (λ (p : Parts). length p.branches) c.requires.case.network)

pub returns-in-NodeVoltage : goal.returns-in-NodeVoltage
returns-in-NodeVoltage c = λ H stands.
    let n = c.in-NodeVoltage.node in
    let fits : FitsSigned w64 (slice_index_or c.voltages.result.now n (pos 0)) = search rules in
    to_z-of_z w64 _ fits ∙ ap (λ vs. slice_index_or vs n (pos 0)) (c.voltages.ensures.value ∙ stands.network.voltages) ∙ sym (ap (channel_value c.args.case.now.parts (latest H)) c.in-NodeVoltage.is)

pub returns-in-SwitchCurrent : goal.returns-in-SwitchCurrent
returns-in-SwitchCurrent c = λ H stands.
    let s = c.in-SwitchCurrent.switch in
    let fits : FitsSigned w64 (slice_index_or c.currents.result.now s (pos 0)) = search rules in
    to_z-of_z w64 _ fits ∙ ap (λ vs. slice_index_or vs s (pos 0)) (c.currents.ensures.value ∙ stands.network.switch_currents) ∙ sym (ap (channel_value c.args.case.now.parts (latest H)) c.in-SwitchCurrent.is)

pub returns-in-Tacs : goal.returns-in-Tacs
returns-in-Tacs c = λ H stands.
    let v = c.in-Tacs.var in
    let fits : FitsSigned w64 (slice_index_or c.values.result.now v (pos 0)) = search rules in
    to_z-of_z w64 _ fits ∙ ap (λ vs. slice_index_or vs v (pos 0)) (c.values.ensures.value ∙ stands.control.values) ∙ sym (ap (channel_value c.args.case.now.parts (latest H)) c.in-Tacs.is)

pub returns-in-BranchCurrent : goal.returns-in-BranchCurrent
returns-in-BranchCurrent c = λ H stands.
    let fits : FitsSigned w64 c.branch_current.result = search rules in
    to_z-of_z w64 _ fits ∙ c.branch_current.ensures H stands.network ∙ sym (ap (channel_value c.args.case.now.parts (latest H)) c.in-BranchCurrent.is)

pub returns-in-BranchVoltage : goal.returns-in-BranchVoltage
returns-in-BranchVoltage c = λ H stands.
    let case = c.args.case.now.parts in
    let b = c.in-BranchVoltage.branch in
    let fits : FitsSigned w64 c.voltage_between.result = search rules in
    let inside : b < length case.branches = subst (IsChannel (sizes_of case)) c.in-BranchVoltage.is c.requires.there in
    let from : c.ends-from.result.0 ≡ slice_index (map from_of case.branches) b = ap (λ (e : ℕ × ℕ). e.0) c.ends-from.ensures ∙ read_at from_of c.as_slice.result.now case.branches b _ c.as_slice.ensures inside in
    let to : c.ends-from.result.1 ≡ slice_index (map to_of case.branches) b = ap (λ (e : ℕ × ℕ). e.1) c.ends-from.ensures ∙ read_at to_of c.as_slice.result.now case.branches b _ c.as_slice.ensures inside in
    to_z-of_z w64 _ fits ∙ c.voltage_between.ensures ∙ between _ (latest H).voltages _ _ _ _ (c.voltages-in-BranchVoltage.ensures.value ∙ stands.network.voltages) from to ∙ sym (ap (channel_value case (latest H)) c.in-BranchVoltage.is)

pub returns-in-SwitchVoltage : goal.returns-in-SwitchVoltage
returns-in-SwitchVoltage c = λ H stands.
    let case = c.args.case.now.parts in
    let s = c.in-SwitchVoltage.switch in
    let fits : FitsSigned w64 c.voltage_between-in-SwitchVoltage.result = search rules in
    let inside : s < length case.switches = subst (IsChannel (sizes_of case)) c.in-SwitchVoltage.is c.requires.there in
    let from = read_at (λ (x : Switch). x.from) c.as_slice-in-SwitchVoltage.result.now case.switches s _ c.as_slice-in-SwitchVoltage.ensures inside in
    let to = read_at (λ (x : Switch). x.to) c.as_slice-in-SwitchVoltage.result.now case.switches s _ c.as_slice-in-SwitchVoltage.ensures inside in
    to_z-of_z w64 _ fits ∙ c.voltage_between-in-SwitchVoltage.ensures ∙ between _ (latest H).voltages _ _ _ _ (c.voltages-in-SwitchVoltage.ensures.value ∙ stands.network.voltages) from to ∙ sym (ap (channel_value case (latest H)) c.in-SwitchVoltage.is)
