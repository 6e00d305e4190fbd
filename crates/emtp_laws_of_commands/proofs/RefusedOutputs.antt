-- Outputs and statuses that the clauses of `emtp` refuse over a cabinet that tells what it holds, by computation.
-- First of each relation stands what it takes; each state that it refuses differs from such a one in what its name says.
use Rattle.std.proofs.Common.{◌≡◌, inl, inr, ℕ, zero, suc, [], ◌∷◌, take, None, refl, arith}
use Rattle.emtp_io.specs.Cabinet.{Outputs}
use Rattle.emtp_run.specs.Outcome.{Settles, IsComplete, IsMade, IsNoted}
use Rattle.emtp_run.specs.declared.status.Status.TheVariants.{Done, Usage, BadCard, Ended, ReadFault, WriteFault, NoMemory, BadRow}
use Rattle.emtp_laws_of_commands.proofs.RefusedStates.{bad_card, cfg_bytes, cfg_name, dat_bytes, dat_name, done, ended, holds, left, left_failing, new, new_outputs, note_bytes, old, old_outputs, writes}

-- what a refusal leaves
abbrev noted : Outputs
noted = record old_outputs { note = holds [] note_bytes }

-- ---- all of it is made

makes_all : IsMade done Done old new
makes_all = (refl, refl)

makes_wrong_byte : IsMade done Done old (left (record new_outputs { dat = holds dat_name (21 ∷ 23 ∷ []) })) → ⊥
makes_wrong_byte made = grind arith

makes_byte_more : IsMade done Done old (left (record new_outputs { dat = holds dat_name (21 ∷ 22 ∷ 26 ∷ []) })) → ⊥
makes_byte_more made = grind arith

makes_wrong_name : IsMade done Done old (left (record new_outputs { cfg = holds dat_name cfg_bytes })) → ⊥
makes_wrong_name made = grind arith

exchanges_files : IsMade done Done old (left (record new_outputs { cfg = holds dat_name dat_bytes; dat = holds cfg_name cfg_bytes })) → ⊥
exchanges_files made = grind arith

exchanges_bytes : IsMade done Done old (left (record new_outputs { cfg = holds cfg_name dat_bytes; dat = holds dat_name cfg_bytes })) → ⊥
exchanges_bytes made = grind arith

makes_no_note : IsMade done Done old (left (record new_outputs { note = None })) → ⊥
makes_no_note made = grind arith

makes_note_as_summary : IsMade done Done old (left (record new_outputs { note = None; summary = holds [] note_bytes })) → ⊥
makes_note_as_summary made = grind arith

takes_summary_away : IsMade done Done old (left (record new_outputs { summary = None })) → ⊥
takes_summary_away made = grind arith

makes_nothing : IsMade done Done old (left old_outputs) → ⊥
makes_nothing made = grind arith

says_done_for_ended : IsMade ended Done old new → ⊥
says_done_for_ended made = grind arith

says_ended_for_done : IsMade done Ended old new → ⊥
says_ended_for_done made = grind arith

makes_what_nothing_asks : IsMade None Done old new → ⊥
makes_what_nothing_asks made = made

-- ---- a refusal leaves its note

leaves_note : IsNoted bad_card BadCard old (left noted)
leaves_note = (refl, inl refl)

-- the note is cut short, and a failure counted
cuts_note : IsNoted bad_card BadCard old (left_failing (record old_outputs { note = holds [] (31 ∷ []) }))
cuts_note = (refl, inr (omega arith, inr (inl (1, omega arith, refl))))

leaves_no_note : IsNoted bad_card BadCard old (left old_outputs) → ⊥
leaves_no_note is = grind arith

leaves_another_note : IsNoted bad_card BadCard old (left (record old_outputs { note = holds [] (31 ∷ 33 ∷ []) })) → ⊥
leaves_another_note is = grind arith

names_note : IsNoted bad_card BadCard old (left (record old_outputs { note = holds cfg_name note_bytes })) → ⊥
names_note is = grind arith

cuts_note_without_cause : IsNoted bad_card BadCard old (left (record old_outputs { note = holds [] (31 ∷ []) })) → ⊥
cuts_note_without_cause is = grind arith

no_front : (k : ℕ) → 33 ∷ [] ≡ take k note_bytes → ⊥
no_front zero is = grind arith
no_front (suc k) is = grind arith

cuts_into_another_note : IsNoted bad_card BadCard old (left_failing (record old_outputs { note = holds [] (33 ∷ []) })) → ⊥
cuts_into_another_note is = grind (arith, no_front)

makes_record_of_refused : IsNoted bad_card BadCard old (left new_outputs) → ⊥
makes_record_of_refused is = grind arith

makes_cfg_and_fails : IsNoted bad_card BadCard old (left_failing (record noted { cfg = holds cfg_name [] })) → ⊥
makes_cfg_and_fails is = grind arith

takes_summary_of_others : IsNoted bad_card BadCard old (left (record noted { summary = None })) → ⊥
takes_summary_of_others is = grind arith

says_usage_for_card : IsNoted bad_card Usage old (left noted) → ⊥
says_usage_for_card is = grind arith

says_row_for_card : IsNoted bad_card BadRow old (left noted) → ⊥
says_row_for_card is = grind arith

notes_what_nothing_asks : IsNoted None BadCard old (left noted) → ⊥
notes_what_nothing_asks is = is

-- ---- what a status says of the outputs

settles_done : Settles Done done old new
settles_done = (refl, refl)

settles_ended : Settles Ended ended old new
settles_ended = (refl, refl)

settles_bad_card : Settles BadCard bad_card old (left noted)
settles_bad_card = (refl, inl refl)

settles_read_fault : Settles ReadFault done old old
settles_read_fault = refl

settles_no_memory : Settles NoMemory done old old
settles_no_memory = refl

-- the cfg is whole, of the dat a byte is written
settles_write_fault : Settles WriteFault done old (left (record old_outputs { cfg = holds cfg_name cfg_bytes; dat = holds dat_name (21 ∷ []) }))
settles_write_fault = (tt, inr (inr (inr (inl (1, omega arith, refl)))))

done_with_wrong_byte : Settles Done done old (left (record new_outputs { dat = holds dat_name (20 ∷ 22 ∷ []) })) → ⊥
done_with_wrong_byte settled = grind arith

done_with_files_exchanged : Settles Done done old (left (record new_outputs { cfg = holds cfg_name dat_bytes; dat = holds dat_name cfg_bytes })) → ⊥
done_with_files_exchanged settled = grind arith

done_without_note : Settles Done done old (left (record new_outputs { note = None })) → ⊥
done_without_note settled = grind arith

done_for_ended : Settles Done ended old new → ⊥
done_for_ended settled = grind arith

done_for_refused_card : Settles Done bad_card old (left noted) → ⊥
done_for_refused_card settled = grind arith

done_without_file : Settles Done None old new → ⊥
done_without_file settled = settled

ended_for_done : Settles Ended done old new → ⊥
ended_for_done settled = grind arith

ended_without_dat : Settles Ended ended old (left (record new_outputs { dat = None })) → ⊥
ended_without_dat settled = grind arith

bad_card_for_done : Settles BadCard done old new → ⊥
bad_card_for_done settled = grind arith

bad_card_with_record : Settles BadCard bad_card old (left (record noted { cfg = holds cfg_name cfg_bytes; dat = holds dat_name dat_bytes })) → ⊥
bad_card_with_record settled = grind arith

read_fault_with_note : Settles ReadFault done old (left noted) → ⊥
read_fault_with_note settled = grind arith

read_fault_with_empty_cfg : Settles ReadFault done old (left (record old_outputs { cfg = holds cfg_name [] })) → ⊥
read_fault_with_empty_cfg settled = grind arith

no_memory_with_record : Settles NoMemory done old new → ⊥
no_memory_with_record settled = grind arith

no_memory_with_empty_cfg : Settles NoMemory done old (left (record old_outputs { cfg = holds cfg_name [] })) → ⊥
no_memory_with_empty_cfg settled = grind arith

no_memory_without_summary : Settles NoMemory done old (left (record old_outputs { summary = None })) → ⊥
no_memory_without_summary settled = grind arith

no_front_of_cfg : (k : ℕ) → 13 ∷ [] ≡ take k cfg_bytes → ⊥
no_front_of_cfg zero is = grind arith
no_front_of_cfg (suc k) is = grind arith

write_fault_with_wrong_byte : Settles WriteFault done old (left (record old_outputs { cfg = holds cfg_name (13 ∷ []) })) → ⊥
write_fault_with_wrong_byte settled = grind (arith, no_front_of_cfg)

write_fault_with_later_dat : Settles WriteFault done old (left (record old_outputs { dat = holds dat_name dat_bytes })) → ⊥
write_fault_with_later_dat settled = grind arith

write_fault_with_note_behind_half_a_dat : Settles WriteFault done old (left (record new_outputs { dat = holds dat_name (21 ∷ []) })) → ⊥
write_fault_with_note_behind_half_a_dat settled = grind arith

write_fault_for_refused_card : Settles WriteFault bad_card old old → ⊥
write_fault_for_refused_card settled = grind arith

-- ---- a call with an outcome comes to it, or something failed

is_complete : IsComplete Done old new (record { status = Done; writes = writes })
is_complete = inr (inr (inl (refl, refl)))

wants_memory : IsComplete NoMemory old old (record { status = Done; writes = writes })
wants_memory = inr (inr (inr (refl, refl)))

completes_with_wrong_byte : IsComplete Done old (left (record new_outputs { dat = holds dat_name (21 ∷ 23 ∷ []) })) (record { status = Done; writes = writes }) → ⊥
completes_with_wrong_byte is = grind arith

completes_with_nothing : IsComplete Done old (left old_outputs) (record { status = Done; writes = writes }) → ⊥
completes_with_nothing is = grind arith

completes_without_note : IsComplete Done old (left (record new_outputs { note = None })) (record { status = Done; writes = writes }) → ⊥
completes_without_note is = grind arith

completes_with_files_exchanged : IsComplete Done old (left (record new_outputs { cfg = holds dat_name dat_bytes; dat = holds cfg_name cfg_bytes })) (record { status = Done; writes = writes }) → ⊥
completes_with_files_exchanged is = grind arith

completes_as_done_for_ended : IsComplete Done old new (record { status = Ended; writes = writes }) → ⊥
completes_as_done_for_ended is = grind arith

completes_as_ended_for_done : IsComplete Ended old new (record { status = Done; writes = writes }) → ⊥
completes_as_ended_for_done is = grind arith

read_fault_without_failure : IsComplete ReadFault old old (record { status = Done; writes = writes }) → ⊥
read_fault_without_failure is = grind arith

write_fault_without_failure : IsComplete WriteFault old (left old_outputs) (record { status = Done; writes = writes }) → ⊥
write_fault_without_failure is = grind arith

refusal_of_accepted : IsComplete BadCard old (left noted) (record { status = Done; writes = writes }) → ⊥
refusal_of_accepted is = grind arith

wants_memory_with_record : IsComplete NoMemory old new (record { status = Done; writes = writes }) → ⊥
wants_memory_with_record is = grind arith

wants_memory_with_empty_cfg : IsComplete NoMemory old (left (record old_outputs { cfg = holds cfg_name [] })) (record { status = Done; writes = writes }) → ⊥
wants_memory_with_empty_cfg is = grind arith
