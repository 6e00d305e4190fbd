-- The node that an end of a steady state names.
use Rattle.std.proofs.Common.{◌-◌, ◌/◌, ◌*◌, ◌<◌, ℕ, ℤ, pos, [], List, length, Result, Ok, Err, IfErr, subst, arith}
use Rattle.std.proofs.lemmas.List.{length-map}
use Rattle.std.proofs.lemmas.List.Elements.{Contains-get_or}
use Rattle.emtp_case.proofs.NamedEnds.{branch_named, switch_named}
use Rattle.emtp_case.proofs.Places.{place_within}
use Rattle.emtp_case.proofs.RowsOfNodes.{row_named}
use Rattle.emtp_case.specs.EndNames.{node_of_branch, node_of_switch}
use Rattle.emtp_case.specs.NodeRows.{node_at}
use Rattle.emtp_case.specs.RowOrder.{order_of}
use Rattle.emtp_case.specs.StepRecord.{rest_of}
use Rattle.emtp_case.specs.held.Case.{IsCase}
use Rattle.emtp_case.specs.held.EndNames.{IsNode}
use Rattle.emtp_case.specs.declared.case.Parts.{Parts}
use Rattle.emtp_elim.proofs.ChainErrors.{then_err, unless_err}
use Rattle.emtp_elim.proofs.RowsOfFaults.{NamesRow, outcome_names_row}
use Rattle.emtp_elim.specs.Outcome.{outcome}
use Rattle.emtp_elim.specs.declared.fault.PlainFault.{PlainFault}
use Rattle.emtp_elim.specs.declared.fault.PlainFault.TheVariants.{NoMemory, Row, Solve}
use Rattle.emtp_switch.proofs.RowKinds.{tied_there}
use Rattle.emtp_switch.specs.Groups.{tied_of}
use Rattle.emtp_admittance.specs.Impedance.{ports_of}
use Rattle.emtp_machine.specs.declared.end.Cause.TheVariants.{Range, Residual, Tied}
use Rattle.emtp_phasor.proofs.Doubling.{length-doubled_matrix}
use Rattle.emtp_phasor.specs.Balance.{NamesNode}
use Rattle.emtp_phasor.specs.Steady.{cause_of, doubled_solution, doubled_system, ending_at, first_flow_out, first_residual_above, named_ending, row_residual, steady, steady_right, untied_at_rest, within}
use Rattle.emtp_phasor.specs.Volts.{phasors_of}
use Rattle.emtp_phasor.specs.declared.ending.Ending.{Ending}

names : (case : Parts) (e : Ending) → IsNode case e.node → NamesNode case e
names case e is = record { node = is; name = Contains-get_or case.nodes (e.node - 1) [] (omega (arith, is.low, is.high)) }

row_of_fault : (case : Parts) (row : ℕ) → row < 2 * length case.nodes → IsNode case (node_at case (row / 2))
row_of_fault case row below = row_named case (row / 2) (omega (arith, below))

solution_ends : (case : Parts) (o : Result (List ℤ) PlainFault) → IfErr o (NamesRow (2 * length case.nodes)) → IfErr (named_ending case o) (NamesNode case)
solution_ends case (Ok x) there = tt
solution_ends case (Err (Row fault)) there = names case (ending_at (node_at case (fault.row / 2)) (cause_of fault.cause)) (row_of_fault case fault.row there)
solution_ends case (Err (Solve fault)) there = names case (ending_at (node_at case (fault.row / 2)) Range) (row_of_fault case fault.row there)
solution_ends case (Err NoMemory) there = absurd there

pub ends_named : (case : Parts) (freq : ℤ) → IsCase case → IfErr (steady case freq) (NamesNode case)
unfolding steady
ends_named case freq fits =
    let P = NamesNode case in
    let ports = ports_of case freq in
    let states = (rest_of case).switch_states in
    let solved = outcome (doubled_system case freq) (steady_right case) in
    then_err P (untied_at_rest case) _
    (unless_err P (tied_of case.switches (order_of case) states) (λ s. ending_at (node_of_switch case s) Tied) _
    (λ s is. names case _ (switch_named case s fits (tied_there case (order_of case) states s (length-map case.switches _) is))) tt)
    (λ none e. then_err P (doubled_solution case freq) _
    (solution_ends case solved (subst (λ n. IfErr solved (NamesRow n)) (length-doubled_matrix _) (outcome_names_row (doubled_system case freq) (steady_right case))))
    (λ x f. then_err P (within case ports (phasors_of case x)) _
    (unless_err P (first_flow_out case ports (phasors_of case x)) (λ b. ending_at (node_of_branch case b) Range) _
    (λ b is. names case _ (branch_named case b fits (place_within _ (length case.branches) b is))) tt)
    (λ volts g. unless_err P (first_residual_above case ports volts) (λ i. record { node = node_at case i; cause = Residual; measured = pos (row_residual case ports volts i) }) _
    (λ i is. names case _ (row_named case i (place_within _ (length case.nodes) i is))) tt)))
