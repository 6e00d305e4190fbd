-- The end of a run names what its cause blames.
use Rattle.std.proofs.Common.{◌≡◌, ℕ, Bool, true, false, List, [], Option, Some, None, IfErr, IfSome, Result, Ok, Err, sym, subst}
use Rattle.std.specs.Prelude.{Contains}
use Rattle.emtp_case.specs.held.Case.{IsCase}
use Rattle.emtp_case.specs.StepRecord.{StepRecord}
use Rattle.emtp_case.specs.declared.case.Parts.{Parts}
use Rattle.emtp_machine.proofs.Chains.{ends_well}
use Rattle.emtp_machine.proofs.Joining.{node_named}
use Rattle.emtp_machine.specs.History.{history}
use Rattle.emtp_machine.specs.held.Laws.{IsRefusal}
use Rattle.emtp_machine.specs.Next.{Fault, control_cause, control_fault, joined, measured_of, network_fault, next, variable_name, with_control}
use Rattle.emtp_machine.specs.declared.end.End.{End}
use Rattle.emtp_net.specs.Part.{NetworkPart}
use Rattle.emtp_net.specs.Step.{network_part}
use Rattle.emtp_net.specs.declared.fault.NetFault.{NetFault}
use Rattle.emtp_net.specs.declared.fault.NetFault.TheVariants.{Range, Residual, Tied, ZeroPivot}
use Rattle.emtp_tacs.specs.Part.{ControlPart}
use Rattle.emtp_tacs.specs.Step.{control_step}
use Rattle.emtp_tacs.specs.declared.fault.TacsFault.{TacsFault}
use Rattle.std.proofs.lemmas.List.Elements.{Contains-get_or}
use Rattle.emtp_laws.specs.Runs.{NamesByCause}
use Rattle.emtp_laws.proofs.NamedNodes.{BlamesNode, part_named}
use Rattle.emtp_laws.proofs.NamedVariables.{IsFine, control_fine}

by_network : (case : Parts) (fault : NetFault) → BlamesNode case fault → NamesByCause case (network_fault case fault).cause (network_fault case fault).name
by_network case (Tied node) is = node_named case node is
by_network case (ZeroPivot node) is = node_named case node is
by_network case (Range node) is = node_named case node is
by_network case (Residual node x) is = node_named case node is

by_control : (case : Parts) (pivot : Bool) (name : List ℕ) → Contains case.vars name → NamesByCause case (control_cause pivot) name
by_control case true name is = is
by_control case false name is = is

joined_named : (case : Parts) (part : NetworkPart) (q : Result ControlPart TacsFault) (fault : Fault) → IsFine case q → joined case part q ≡ Err fault → NamesByCause case fault.cause fault.name
joined_named case part (Ok control) fault fine is = absurd (cc)
joined_named case part (Err f) fault fine is =
    let same : control_fault case f ≡ fault = cc in
    subst (λ (x : Fault). NamesByCause case x.cause x.name) same (by_control case f.pivot (variable_name case f.var) (Contains-get_or case.vars f.var [] fine))

part_by : (case : Parts) (H : List StepRecord) (o : Result NetworkPart NetFault) (fault : Fault) → IsCase case → IfErr o (BlamesNode case) → with_control case H o ≡ Err fault → NamesByCause case fault.cause fault.name
part_by case H (Ok part) fault fits named is = joined_named case part (control_step case H (measured_of part)) fault (control_fine case H (measured_of part) fits) is
part_by case H (Err f) fault fits named is =
    let same : network_fault case f ≡ fault = cc in
    subst (λ (x : Fault). NamesByCause case x.cause x.name) same (by_network case f named)

refusal_named : (case : Parts) (H : List StepRecord) (fault : Fault) → IsCase case → next case H ≡ Err fault → NamesByCause case fault.cause fault.name
unfolding next
refusal_named case H fault fits is = part_by case H (network_part case H) fault fits (part_named case H fits) is

pub end_named : (case : Parts) → IsCase case → IfSome (history case).end (λ (end : End). NamesByCause case end.cause end.name)
end_named case fits = by (history case).end (ends_well case case.run.steps)
  where
    by : (o : Option End) → IfSome o (IsRefusal case (history case).records) → IfSome o (λ (end : End). NamesByCause case end.cause end.name)
    by None well = tt
    by (Some end) well = subst (λ (e : End). NamesByCause case e.cause e.name) (sym well.is) (refusal_named case (history case).records well.fault fits well.refused)
