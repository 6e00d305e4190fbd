-- A step ends as tied only where its switches tie two known voltages.
use Rattle.std.proofs.Common.{◌≡◌, sym, subst, ℕ, ℤ, pos, List, Result, Ok, Err, IfErr}
use Rattle.emtp_case.specs.StepRecord.{StepRecord}
use Rattle.emtp_case.specs.declared.case.Parts.{Parts}
use Rattle.emtp_elim.proofs.ChainErrors.{then_err, unless_err}
use Rattle.emtp_elim.specs.Outcome.{outcome}
use Rattle.emtp_fix.specs.Chain.{◌>>=◌, unless}
use Rattle.emtp_elim.specs.declared.fault.PlainFault.{PlainFault}
use Rattle.emtp_elim.specs.declared.fault.PlainFault.TheVariants.{NoMemory, Row, Solve}
use Rattle.emtp_elim.specs.declared.fault.RowCause.{RowCause}
use Rattle.emtp_elim.specs.declared.fault.RowCause.TheVariants.{Range as RowRange, ZeroPivot as RowPivot}
use Rattle.emtp_net.specs.Part.{NetworkPart, first_out, node_of_branch, part_at, voltages_of}
use Rattle.emtp_net.specs.Residual.{residual_of}
use Rattle.emtp_net.specs.held.Stages.{IsUntied}
use Rattle.emtp_net.specs.Step.{balanced, fault_by, first_beyond, first_unbalanced, moved, node_of_switch, named, network_part, solution, switched}
use Rattle.emtp_net.specs.System.{matrix, right}
use Rattle.emtp_net.specs.declared.fault.NetFault.{NetFault}
use Rattle.emtp_net.specs.declared.fault.NetFault.TheVariants.{Range, Residual, Tied, ZeroPivot}
use Rattle.emtp_rows.specs.Nodal.{node_at}

-- a fault of a step whose matrix was made
abbrev IsLater : NetFault → Type 0
IsLater (Tied node) = ⊥
IsLater (ZeroPivot node) = Unit {0}
IsLater (Range node) = Unit {0}
IsLater (Residual node x) = Unit {0}

abbrev EndsLater : {A : Type 0} → Result A NetFault → Type 0
EndsLater r = IfErr r IsLater

later_row : (cause : RowCause) (node : ℕ) → IsLater (fault_by cause node)
later_row RowRange node = tt
later_row RowPivot node = tt

later_named : (case : Parts) (o : Result (List ℤ) PlainFault) → EndsLater (named case o)
later_named case (Ok x) = tt
later_named case (Err (Row fault)) = later_row fault.cause (node_at case fault.row)
later_named case (Err (Solve fault)) = tt
later_named case (Err NoMemory) = tt

later : (case : Parts) (H : List StepRecord) → IsUntied case H → EndsLater (network_part case H)
unfolding network_part
later case H free =
    subst (λ o. EndsLater (unless o (λ s. Tied (node_of_switch case s)) (Ok tt) >>= (λ none. solution case H >>= (λ x. moved case H (voltages_of case x) >>= (λ part. switched case part >>= (λ within. balanced case H within)))))) (sym free)
    (then_err IsLater (solution case H) (λ x. moved case H (voltages_of case x) >>= (λ part. switched case part >>= (λ within. balanced case H within))) (later_named case (outcome (matrix case H) (right case H)))
    (λ x solved. then_err IsLater (moved case H (voltages_of case x)) (λ part. switched case part >>= (λ within. balanced case H within)) (unless_err IsLater (first_out case H (voltages_of case x)) (λ b. Range (node_of_branch case b)) (Ok (part_at case H (voltages_of case x))) (λ b out. tt) tt)
    (λ part is. then_err IsLater (switched case part) (λ within. balanced case H within) (unless_err IsLater (first_beyond part.switch_currents) (λ s. Range (node_of_switch case s)) (Ok part) (λ s beyond. tt) tt)
    (λ within is. unless_err IsLater (first_unbalanced case H within.branches) (λ i. Residual (node_at case i) (pos (residual_of case H within.branches i))) (Ok within) (λ i unbalanced. tt) tt))))

-- where no two known voltages are tied, no step ends so
pub free_isnt_tied : (case : Parts) (H : List StepRecord) (node : ℕ) → IsUntied case H → network_part case H ≡ Err (Tied node) → ⊥
free_isnt_tied case H node free is = subst (λ (r : Result NetworkPart NetFault). EndsLater r) is (later case H free)
