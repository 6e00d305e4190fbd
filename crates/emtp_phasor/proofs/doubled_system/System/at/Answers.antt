use Rattle.std.proofs.Common.{◌≡◌, ◌∙◌, ◌∷◌, ◌*◌, sym, ap, subst, drop, length, All, List, Err, IfErr, IfOk, arith}
use Rattle.std.proofs.lemmas.List.{take_at}
use Rattle.emtp_case.specs.declared.case.Case.{Case}
use Rattle.emtp_case.specs.declared.case.Parts.{Parts}
use Rattle.emtp_admittance.specs.Impedance.{ports_of}
use Rattle.emtp_case.specs.held.EndNames.{IsNode}
use Rattle.emtp_phasor.specs.Steady.{resting_kinds, steady_right}
use Rattle.emtp_phasor.specs.Volts.{nothing, phasors_of}
use Rattle.emtp_phasor.specs.held.HeldSystem.{HasWorkspace}
use Rattle.emtp_phasor.specs.held.Steady.{AreGood, IsSteady, judged_volts}
use Rattle.emtp_phasor.specs.held.Volts.{IsVolt}
use Rattle.emtp_phasor.specs.declared.phasor.Phasor.{Phasor}
use Rattle.emtp_phasor.proofs.Doubling.{length-right_side}
use Rattle.emtp_phasor.proofs.Networks.{network_ends, network_solved}
use Rattle.emtp_phasor.proofs.Steadying.{ends_steady, fault_from, good_from, on_ok, steady_fault}
use Rattle.emtp_phasor.proofs.Volting.{voltages_behind_ground, voltages_small}
use Rattle.emtp_phasor.proofs.doubled_system.System.at.Goals as goal

pub solve-requires-clause-workspace : goal.solve-requires-clause-workspace
solve-requires-clause-workspace g c = subst (λ (case : Case). HasWorkspace case.parts c.args.self.now.workspace) (sym c.with_ports.ensures.case) c.requires.ready.workspace

pub solve-requires-clause-right : goal.solve-requires-clause-right
solve-requires-clause-right g c =
    let case = c.args.case.now.parts in
    ap length (c.deref-2.ensures.value ∙ c.requires.ready.right_is)
    ∙ length-right_side case (resting_kinds case)
    ∙ ap (λ (case : Case). 2 * length case.parts.nodes) (sym c.with_ports.ensures.case)

pub judge_volts-requires-clause-volts : goal.judge_volts-requires-clause-volts
judge_volts-requires-clause-volts g c =
    let case = c.args.case.now.parts in
    let x = c.solve.new.self.x.items in
    let volts = take_at c.fill_volts.new.out (drop (length c.fill_volts.new.out) c.solve.new.self.volts.items) c.solve.new.self.volts.len (omega (arith, c.fill_volts.auto.out, c.deref_mut.ensures.len)) ∙ c.fill_volts.ensures ∙ ap (phasors_of case) c.deref-in-Ok.ensures.value in
    subst (All IsVolt) (sym (c.deref-in-Ok-3.ensures.value ∙ volts)) (voltages_small case x c.in-Ok.ensures.within)

pub returns-in-Ok-clause-good : goal.returns-in-Ok-clause-good
returns-in-Ok-clause-good g c =
    let case = c.args.case.now.parts in
    let x = c.solve.new.self.x.items in
    let volts = take_at c.fill_volts.new.out (drop (length c.fill_volts.new.out) c.solve.new.self.volts.items) c.solve.new.self.volts.len (omega (arith, c.fill_volts.auto.out, c.deref_mut.ensures.len)) ∙ c.fill_volts.ensures ∙ ap (phasors_of case) c.deref-in-Ok.ensures.value in
    let before = c.with_ports.result in
    let n = c.with_ports-in-Ok.result in
    let same : n.case.now.parts ≡ case = ap (λ (k : Case). k.parts) c.with_ports-in-Ok.ensures.case in
    let same_before : before.case.now.parts ≡ case = ap (λ (k : Case). k.parts) c.with_ports.ensures.case in
    let are : n.ports.now ≡ ports_of case c.args.freq = c.with_ports-in-Ok.ensures.ports ∙ c.deref-in-Ok-2.ensures.value ∙ c.requires.ports.are in
    let are_before : before.ports.now ≡ ports_of case c.args.freq = c.with_ports.ensures.ports ∙ c.deref.ensures.value ∙ c.requires.ports.are in
    let right : c.deref-2.result.now ≡ steady_right case = c.deref-2.ensures.value ∙ c.requires.ready.right_is in
    let solved = network_solved case c.args.freq before c.deref-2.result.now x same_before are_before c.with_ports.ensures.kinds right c.in-Ok.ensures.solved in
    let good = subst (λ (k : Parts). IfOk c.judge_volts.result (λ g. AreGood k n.ports.now c.deref-in-Ok-3.result.now g)) same c.judge_volts.ensures.good in
    subst (λ (vs : List Phasor). IfOk c.judge_volts.result (λ g. IsSteady case c.args.freq vs g)) c.deref-in-Ok-3.ensures.value
    (good_from case c.args.freq x n.ports.now c.deref-in-Ok-3.result.now c.judge_volts.result c.requires.ready.resting.free solved are (c.deref-in-Ok-3.ensures.value ∙ volts) good)

pub returns-in-Ok-clause-volts : goal.returns-in-Ok-clause-volts
returns-in-Ok-clause-volts g c =
    let case = c.args.case.now.parts in
    let x = c.solve.new.self.x.items in
    let volts = take_at c.fill_volts.new.out (drop (length c.fill_volts.new.out) c.solve.new.self.volts.items) c.solve.new.self.volts.len (omega (arith, c.fill_volts.auto.out, c.deref_mut.ensures.len)) ∙ c.fill_volts.ensures ∙ ap (phasors_of case) c.deref-in-Ok.ensures.value in
    on_ok c.judge_volts.result _ (subst (All IsVolt) (sym volts) (voltages_small case x c.in-Ok.ensures.within))

pub returns-in-Ok-clause-ground : goal.returns-in-Ok-clause-ground
returns-in-Ok-clause-ground g c =
    let case = c.args.case.now.parts in
    let x = c.solve.new.self.x.items in
    let volts = take_at c.fill_volts.new.out (drop (length c.fill_volts.new.out) c.solve.new.self.volts.items) c.solve.new.self.volts.len (omega (arith, c.fill_volts.auto.out, c.deref_mut.ensures.len)) ∙ c.fill_volts.ensures ∙ ap (phasors_of case) c.deref-in-Ok.ensures.value in
    on_ok c.judge_volts.result _ (volts ∙ voltages_behind_ground case x ∙ ap (λ (vs : List Phasor). nothing ∷ drop 1 vs) (sym volts))

pub returns-in-Ok-clause-fault : goal.returns-in-Ok-clause-fault
returns-in-Ok-clause-fault g c =
    let case = c.args.case.now.parts in
    let x = c.solve.new.self.x.items in
    let volts = take_at c.fill_volts.new.out (drop (length c.fill_volts.new.out) c.solve.new.self.volts.items) c.solve.new.self.volts.len (omega (arith, c.fill_volts.auto.out, c.deref_mut.ensures.len)) ∙ c.fill_volts.ensures ∙ ap (phasors_of case) c.deref-in-Ok.ensures.value in
    let before = c.with_ports.result in
    let n = c.with_ports-in-Ok.result in
    let same : n.case.now.parts ≡ case = ap (λ (k : Case). k.parts) c.with_ports-in-Ok.ensures.case in
    let same_before : before.case.now.parts ≡ case = ap (λ (k : Case). k.parts) c.with_ports.ensures.case in
    let are : n.ports.now ≡ ports_of case c.args.freq = c.with_ports-in-Ok.ensures.ports ∙ c.deref-in-Ok-2.ensures.value ∙ c.requires.ports.are in
    let are_before : before.ports.now ≡ ports_of case c.args.freq = c.with_ports.ensures.ports ∙ c.deref.ensures.value ∙ c.requires.ports.are in
    let right : c.deref-2.result.now ≡ steady_right case = c.deref-2.ensures.value ∙ c.requires.ready.right_is in
    let solved = network_solved case c.args.freq before c.deref-2.result.now x same_before are_before c.with_ports.ensures.kinds right c.in-Ok.ensures.solved in
    let fault = subst (λ (k : Parts). IfErr c.judge_volts.result (λ e. judged_volts k n.ports.now c.deref-in-Ok-3.result.now ≡ Err e)) same c.judge_volts.ensures.fault in
    let node = subst (λ (k : Parts). IfErr c.judge_volts.result (λ e. IsNode k e.node)) same c.judge_volts.ensures.node in
    ends_steady case c.args.freq c.judge_volts.result
    (fault_from case c.args.freq x n.ports.now c.deref-in-Ok-3.result.now c.judge_volts.result c.requires.ready.resting.free solved are (c.deref-in-Ok-3.ensures.value ∙ volts) fault)
    node

pub returns-in-Err-clause-fault : goal.returns-in-Err-clause-fault
returns-in-Err-clause-fault g c =
    let case = c.args.case.now.parts in
    let n = c.with_ports.result in
    let same : n.case.now.parts ≡ case = ap (λ (k : Case). k.parts) c.with_ports.ensures.case in
    let are : n.ports.now ≡ ports_of case c.args.freq = c.with_ports.ensures.ports ∙ c.deref.ensures.value ∙ c.requires.ports.are in
    let right : c.deref-2.result.now ≡ steady_right case = c.deref-2.ensures.value ∙ c.requires.ready.right_is in
    record {
      is = steady_fault case c.args.freq c.in-Err.end c.requires.ready.resting.free (network_ends case c.args.freq n c.deref-2.result.now c.in-Err.end same are c.with_ports.ensures.kinds right c.in-Err.ensures.fault);
      node = subst (λ (k : Parts). IsNode k c.in-Err.end.node) same c.in-Err.ensures.node;
    }
