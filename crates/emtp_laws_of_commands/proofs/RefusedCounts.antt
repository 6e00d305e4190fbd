-- Counts of failures that the clauses of `emtp` refuse, by computation. First of each relation stands what it takes.
use Rattle.std.proofs.Common.{refl, arith}
use Rattle.emtp_run.specs.Outcome.{HasStatusCause, IsCalmRun}
use Rattle.emtp_run.specs.declared.status.Status.TheVariants.{Done, Usage, BadCard, Ended, ReadFault, WriteFault, NoMemory, Refused, Differs, BadRow}
use Rattle.emtp_laws_of_commands.proofs.RefusedStates.{counted, new, old}

-- ---- what a status says of the counts, which are 1 and 1 before

done_counts_nothing : HasStatusCause Done old (counted 1 1)
done_counts_nothing = (refl, refl)

note_may_fail : HasStatusCause BadCard old (counted 1 2)
note_may_fail = (refl, omega arith)

read_fault_counts : HasStatusCause ReadFault old (counted 2 1)
read_fault_counts = (omega arith, refl)

write_fault_counts : HasStatusCause WriteFault old (counted 1 2)
write_fault_counts = (refl, omega arith)

done_after_failed_read : HasStatusCause Done old (counted 2 1) → ⊥
done_after_failed_read cause = grind arith

done_after_failed_write : HasStatusCause Done old (counted 1 2) → ⊥
done_after_failed_write cause = grind arith

ended_after_failed_write : HasStatusCause Ended old (counted 1 2) → ⊥
ended_after_failed_write cause = grind arith

done_forgets_failures : HasStatusCause Done old (counted 0 1) → ⊥
done_forgets_failures cause = grind arith

bad_card_after_failed_read : HasStatusCause BadCard old (counted 2 1) → ⊥
bad_card_after_failed_read cause = grind arith

bad_card_forgets_failures : HasStatusCause BadCard old (counted 1 0) → ⊥
bad_card_forgets_failures cause = grind arith

usage_after_failed_read : HasStatusCause Usage old (counted 2 1) → ⊥
usage_after_failed_read cause = grind arith

differs_after_failed_read : HasStatusCause Differs old (counted 2 1) → ⊥
differs_after_failed_read cause = grind arith

bad_row_forgets_failures : HasStatusCause BadRow old (counted 1 0) → ⊥
bad_row_forgets_failures cause = grind arith

refused_after_failed_read : HasStatusCause Refused old (counted 2 2) → ⊥
refused_after_failed_read cause = grind arith

read_fault_without_cause : HasStatusCause ReadFault old (counted 1 1) → ⊥
read_fault_without_cause cause = grind arith

read_fault_of_an_output : HasStatusCause ReadFault old (counted 1 2) → ⊥
read_fault_of_an_output cause = grind arith

read_fault_and_failed_write : HasStatusCause ReadFault old (counted 2 2) → ⊥
read_fault_and_failed_write cause = grind arith

write_fault_without_cause : HasStatusCause WriteFault old (counted 1 1) → ⊥
write_fault_without_cause cause = grind arith

write_fault_of_a_file : HasStatusCause WriteFault old (counted 2 1) → ⊥
write_fault_of_a_file cause = grind arith

write_fault_and_failed_read : HasStatusCause WriteFault old (counted 2 2) → ⊥
write_fault_and_failed_read cause = grind arith

no_memory_after_failed_read : HasStatusCause NoMemory old (counted 2 1) → ⊥
no_memory_after_failed_read cause = grind arith

no_memory_after_failed_write : HasStatusCause NoMemory old (counted 1 2) → ⊥
no_memory_after_failed_write cause = grind arith

-- ---- over a calm cabinet

is_calm : IsCalmRun Done old new
is_calm = record { inputs = refl; outputs = refl; read = grind arith; write = grind arith }

calm_after_failed_read : IsCalmRun Done old (counted 2 1) → ⊥
calm_after_failed_read calm = grind arith

calm_after_failed_write : IsCalmRun Done old (counted 1 2) → ⊥
calm_after_failed_write calm = grind arith

calm_after_failed_note : IsCalmRun BadCard old (counted 1 2) → ⊥
calm_after_failed_note calm = grind arith

calm_forgets_failures : IsCalmRun Done old (counted 0 1) → ⊥
calm_forgets_failures calm = grind arith

calm_forgets_outputs : IsCalmRun NoMemory old (counted 1 0) → ⊥
calm_forgets_outputs calm = grind arith

calm_read_fault : IsCalmRun ReadFault old new → ⊥
calm_read_fault calm = calm.read refl

calm_write_fault : IsCalmRun WriteFault old new → ⊥
calm_write_fault calm = calm.write refl

calm_read_fault_with_cause : IsCalmRun ReadFault old (counted 2 1) → ⊥
calm_read_fault_with_cause calm = calm.read refl

calm_write_fault_with_cause : IsCalmRun WriteFault old (counted 1 2) → ⊥
calm_write_fault_with_cause calm = calm.write refl

calm_no_memory_after_failed_read : IsCalmRun NoMemory old (counted 2 1) → ⊥
calm_no_memory_after_failed_read calm = grind arith

calm_ended_after_failed_write : IsCalmRun Ended old (counted 1 2) → ⊥
calm_ended_after_failed_write calm = grind arith

calm_usage_after_failed_note : IsCalmRun Usage old (counted 1 2) → ⊥
calm_usage_after_failed_note calm = grind arith
