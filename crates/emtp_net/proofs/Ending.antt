-- How a step ends, from what its parts answer.
use Rattle.std.proofs.Common.{◌≡◌, ◌∙◌, ◌<◌, sym, ap, ℕ, ℤ, pos, List, length, IsSome, is_none, Some, None, Result, Ok, Err, refl}
use Rattle.emtp_case.proofs.Places.{first_at, first_none, is_none-some}
use Rattle.emtp_case.specs.RowOrder.{order_of}
use Rattle.emtp_case.specs.StepRecord.{StepRecord}
use Rattle.emtp_case.specs.declared.case.Parts.{Parts}
use Rattle.emtp_elim.specs.Outcome.{outcome}
use Rattle.emtp_fix.specs.Chain.{◌>>=◌, unless}
use Rattle.emtp_elim.specs.declared.fault.PlainFault.{PlainFault}
use Rattle.emtp_elim.specs.declared.fault.PlainFault.TheVariants.{Row, Solve}
use Rattle.emtp_elim.specs.declared.fault.RowFault.{RowFault}
use Rattle.emtp_elim.specs.declared.fault.SolveFault.{SolveFault}
use Rattle.emtp_net.specs.held.Moving.{IsFirstOut}
use Rattle.emtp_net.specs.Part.{first_out, node_of_branch, part_at, state_at, states_at, switch_currents_at, voltages_of}
use Rattle.emtp_net.specs.Residual.{residual_of}
use Rattle.emtp_net.specs.Step.{balanced, fault_by, first_beyond, first_unbalanced, moved, named, node_of_switch, network_part, solution, switched}
use Rattle.emtp_net.specs.held.Stages.{AreVoltages, IsUntied}
use Rattle.emtp_net.specs.System.{matrix, right}
use Rattle.emtp_net.specs.declared.fault.NetFault.{NetFault}
use Rattle.emtp_net.specs.declared.fault.NetFault.TheVariants.{Range, Residual, Tied}
use Rattle.emtp_rows.specs.Nodal.{node_at}
use Rattle.emtp_switch.specs.Groups.{tied_of}
use Rattle.emtp_switch.specs.States.{next_states}

pub tied_ends : (case : Parts) (H : List StepRecord) (s n : ℕ) → tied_of case.switches (order_of case) (next_states case H) ≡ Some s → n ≡ node_of_switch case s → network_part case H ≡ Err (Tied n)
unfolding network_part
tied_ends case H s n is node =
    ap (λ o. unless o (λ s. Tied (node_of_switch case s)) (Ok tt) >>= (λ none. solution case H >>= (λ x. moved case H (voltages_of case x) >>= (λ part. switched case part >>= (λ within. balanced case H within))))) is ∙ ap (λ m. Err (Tied m)) (sym node)

by_outcome : (case : Parts) (H : List StepRecord) (o : Result (List ℤ) PlainFault) → IsUntied case H → outcome (matrix case H) (right case H) ≡ o
    → network_part case H ≡ (named case o >>= (λ x. moved case H (voltages_of case x) >>= (λ part. switched case part >>= (λ within. balanced case H within))))
unfolding network_part
by_outcome case H o free is =
    ap (λ t. unless t (λ s. Tied (node_of_switch case s)) (Ok tt) >>= (λ none. solution case H >>= (λ x. moved case H (voltages_of case x) >>= (λ part. switched case part >>= (λ within. balanced case H within))))) free
    ∙ ap (λ r. named case r >>= (λ x. moved case H (voltages_of case x) >>= (λ part. switched case part >>= (λ within. balanced case H within)))) is

pub row_ends : (case : Parts) (H : List StepRecord) (fault : RowFault) (e : NetFault) → IsUntied case H → outcome (matrix case H) (right case H) ≡ Err (Row fault) → e ≡ fault_by fault.cause (node_at case fault.row) → network_part case H ≡ Err e
row_ends case H fault e free is named_so = by_outcome case H _ free is ∙ ap Err (sym named_so)

pub solve_ends : (case : Parts) (H : List StepRecord) (fault : SolveFault) (n : ℕ) → IsUntied case H → outcome (matrix case H) (right case H) ≡ Err (Solve fault) → n ≡ node_at case fault.row → network_part case H ≡ Err (Range n)
solve_ends case H fault n free is node = by_outcome case H _ free is ∙ ap (λ m. Err (Range m)) (sym node)

by_voltages : (case : Parts) (H : List StepRecord) (vs : List ℤ) → AreVoltages case H vs → network_part case H ≡ (moved case H vs >>= (λ part. switched case part >>= (λ within. balanced case H within)))
by_voltages case H vs are = by_outcome case H _ are.free are.solved ∙ ap (λ v. moved case H v >>= (λ part. switched case part >>= (λ within. balanced case H within))) (sym are.are)

first_out_is : (case : Parts) (H : List StepRecord) (vs : List ℤ) (b : ℕ) → IsFirstOut case H vs b → first_out case H vs ≡ Some b
first_out_is case H vs b out = first_at (λ k. is_none (state_at case H vs k)) (length case.branches) b out.there (λ k less. is_none-some (state_at case H vs k) (out.earlier k less)) (ap is_none out.none)

pub branch_ends : (case : Parts) (H : List StepRecord) (vs : List ℤ) (b n : ℕ) → AreVoltages case H vs → IsFirstOut case H vs b → n ≡ node_of_branch case b → network_part case H ≡ Err (Range n)
branch_ends case H vs b n are out node =
    by_voltages case H vs are
    ∙ ap (λ o. unless o (λ b. Range (node_of_branch case b)) (Ok (part_at case H vs)) >>= (λ part. switched case part >>= (λ within. balanced case H within))) (first_out_is case H vs b out)
    ∙ ap (λ m. Err (Range m)) (sym node)

by_part : (case : Parts) (H : List StepRecord) (vs : List ℤ) → AreVoltages case H vs → ((b : ℕ) → b < length case.branches → IsSome (state_at case H vs b)) → network_part case H ≡ (switched case (part_at case H vs) >>= (λ within. balanced case H within))
by_part case H vs are all =
    by_voltages case H vs are
    ∙ ap (λ o. unless o (λ b. Range (node_of_branch case b)) (Ok (part_at case H vs)) >>= (λ part. switched case part >>= (λ within. balanced case H within))) (first_none (λ k. is_none (state_at case H vs k)) (length case.branches) (λ k below. is_none-some (state_at case H vs k) (all k below)))

pub part_currents : (case : Parts) (H : List StepRecord) (vs : List ℤ) → (part_at case H vs).switch_currents ≡ switch_currents_at case H (states_at case H vs)
unfolding part_at
part_currents case H vs = refl

pub part_branches : (case : Parts) (H : List StepRecord) (vs : List ℤ) → (part_at case H vs).branches ≡ states_at case H vs
unfolding part_at
part_branches case H vs = refl

pub part_voltages : (case : Parts) (H : List StepRecord) (vs : List ℤ) → (part_at case H vs).voltages ≡ vs
unfolding part_at
part_voltages case H vs = refl

pub part_states : (case : Parts) (H : List StepRecord) (vs : List ℤ) → (part_at case H vs).switch_states ≡ next_states case H
unfolding part_at
part_states case H vs = refl

pub switch_ends : (case : Parts) (H : List StepRecord) (vs : List ℤ) (s n : ℕ) → AreVoltages case H vs → ((b : ℕ) → b < length case.branches → IsSome (state_at case H vs b)) → first_beyond (switch_currents_at case H (states_at case H vs)) ≡ Some s → n ≡ node_of_switch case s → network_part case H ≡ Err (Range n)
switch_ends case H vs s n are all beyond node =
    by_part case H vs are all
    ∙ ap (λ o. unless o (λ s. Range (node_of_switch case s)) (Ok (part_at case H vs)) >>= (λ within. balanced case H within)) (ap first_beyond (part_currents case H vs) ∙ beyond)
    ∙ ap (λ m. Err (Range m)) (sym node)

by_currents : (case : Parts) (H : List StepRecord) (vs : List ℤ) → AreVoltages case H vs → ((b : ℕ) → b < length case.branches → IsSome (state_at case H vs b)) → first_beyond (switch_currents_at case H (states_at case H vs)) ≡ None → network_part case H ≡ balanced case H (part_at case H vs)
by_currents case H vs are all none =
    by_part case H vs are all
    ∙ ap (λ o. unless o (λ s. Range (node_of_switch case s)) (Ok (part_at case H vs)) >>= (λ within. balanced case H within)) (ap first_beyond (part_currents case H vs) ∙ none)

pub residual_ends : (case : Parts) (H : List StepRecord) (vs : List ℤ) (i n : ℕ) (z : ℤ) → AreVoltages case H vs → ((b : ℕ) → b < length case.branches → IsSome (state_at case H vs b)) → first_beyond (switch_currents_at case H (states_at case H vs)) ≡ None
    → first_unbalanced case H (states_at case H vs) ≡ Some i → n ≡ node_at case i → z ≡ pos (residual_of case H (states_at case H vs) i) → network_part case H ≡ Err (Residual n z)
residual_ends case H vs i n z are all none above node value =
    by_currents case H vs are all none
    ∙ ap (λ br. unless (first_unbalanced case H br) (λ i. Residual (node_at case i) (pos (residual_of case H br i))) (Ok (part_at case H vs))) (part_branches case H vs)
    ∙ ap (λ o. unless o (λ i. Residual (node_at case i) (pos (residual_of case H (states_at case H vs) i))) (Ok (part_at case H vs))) above
    ∙ ap (λ m. Err (Residual m (pos (residual_of case H (states_at case H vs) i)))) (sym node)
    ∙ ap (λ y. Err (Residual n y)) (sym value)

pub part_made : (case : Parts) (H : List StepRecord) (vs : List ℤ) → AreVoltages case H vs → ((b : ℕ) → b < length case.branches → IsSome (state_at case H vs b)) → first_beyond (switch_currents_at case H (states_at case H vs)) ≡ None → first_unbalanced case H (states_at case H vs) ≡ None
    → network_part case H ≡ Ok (part_at case H vs)
part_made case H vs are all none fine =
    by_currents case H vs are all none
    ∙ ap (λ br. unless (first_unbalanced case H br) (λ i. Residual (node_at case i) (pos (residual_of case H br i))) (Ok (part_at case H vs))) (part_branches case H vs)
    ∙ ap (λ o. unless o (λ i. Residual (node_at case i) (pos (residual_of case H (states_at case H vs) i))) (Ok (part_at case H vs))) fine
