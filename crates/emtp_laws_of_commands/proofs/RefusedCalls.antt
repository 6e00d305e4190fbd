-- Calls of `create` and `open`, and readings, that the clauses of `emtp` refuse, by computation. First of each relation stands what
-- it takes. Before the call `create` was called twice and `open` once.
use Rattle.std.proofs.Common.{◌≡◌, ap, inl, inr, ℕ, ◌+◌, ◌<◌, List, [], ◌∷◌, ◌++◌, length, Option, Some, None, refl, append-nil, length-append, arith}
use Rattle.emtp_card.specs.declared.cards.TheConstants.{MAX_BYTES}
use Rattle.emtp_io.specs.Cabinet.{CabinetState}
use Rattle.emtp_io.specs.Whole.{TookFront}
use Rattle.emtp_io.specs.declared.turns.Turns.{Turns}
use Rattle.emtp_run.specs.Command.{CreatesBy, CreatesInTurn, OpensNothing, OpensOnce, TakesWithin}
use Rattle.emtp_run.specs.Outcome.{Leaves}
use Rattle.emtp_run.specs.Words.{BatchFiles, RunFiles, Audit, Batch, Phasor, Trial}
use Rattle.emtp_run.specs.declared.status.Status.TheVariants.{Done, Usage, BadCard, Ended, ReadFault, WriteFault, NoMemory}
use Rattle.emtp_laws_of_commands.proofs.RefusedStates.{case_name, cfg_bytes, cfg_name, created, dat_bytes, dat_name, holds, left, new, new_outputs, note_bytes, old, old_outputs, task}

abbrev three_files : RunFiles
three_files = record { case = case_name; cfg = cfg_name; dat = dat_name }

abbrev two_files : BatchFiles
two_files = record { case = case_name; times = 4 ∷ [] }

abbrev turns : ℕ → ℕ → ℕ → Turns
turns at_cfg at_dat at_note = record { cfg = at_cfg; dat = at_dat; note = at_note; summary = 1 }

-- ---- the outputs in their turns

creates_each_once : CreatesBy task Done old new
creates_each_once = (record { created = refl; turn = refl }, (record { created = refl; turn = refl }, (record { created = refl; turn = refl }, refl)))

creates_note : CreatesBy task BadCard old (created 3 (turns 0 0 3))
creates_note = inl (record { created = refl; turn = refl }, refl)

stops_at_dat : CreatesBy task WriteFault old (created 4 (turns 3 4 0))
stops_at_dat = inl (inr (record { created = refl; turn = refl }, inl refl))

creates_a_fourth_time : CreatesBy task Done old (created 6 (turns 3 4 5)) → ⊥
creates_a_fourth_time creates = grind arith

creates_cfg_twice : CreatesBy task Done old (created 6 (turns 4 5 6)) → ⊥
creates_cfg_twice creates = grind arith

creates_dat_first : CreatesBy task Done old (created 5 (turns 4 3 5)) → ⊥
creates_dat_first creates = grind arith

creates_note_first : CreatesBy task Done old (created 5 (turns 4 5 3)) → ⊥
creates_note_first creates = grind arith

creates_no_note : CreatesBy task Done old (created 4 (turns 3 4 0)) → ⊥
creates_no_note creates = grind arith

creates_note_that_is_not_there : CreatesBy task Done old (left (record new_outputs { note = None })) → ⊥
creates_note_that_is_not_there creates = grind arith

creates_nothing : CreatesBy task Done old old → ⊥
creates_nothing creates = grind arith

creates_record_of_trial : CreatesBy (Trial 1) Done old new → ⊥
creates_record_of_trial creates = grind arith

creates_cfg_of_refused : CreatesBy task BadCard old (created 4 (turns 3 0 4)) → ⊥
creates_cfg_of_refused creates = grind arith

refuses_without_note : CreatesBy task BadCard old old → ⊥
refuses_without_note creates = grind arith

creates_before_read_fault : CreatesBy task ReadFault old (created 3 (turns 3 0 0)) → ⊥
creates_before_read_fault creates = grind arith

creates_without_memory : CreatesBy task NoMemory old (created 3 (turns 3 0 0)) → ⊥
creates_without_memory creates = grind arith

fails_without_call : CreatesBy task WriteFault old old → ⊥
fails_without_call creates = grind arith

fails_at_a_fourth_output : CreatesBy task WriteFault old (created 6 (turns 3 4 5)) → ⊥
fails_at_a_fourth_output creates = grind arith

fails_at_dat_before_cfg : CreatesBy task WriteFault old (created 4 (turns 4 3 0)) → ⊥
fails_at_dat_before_cfg creates = grind arith

ends_batch_early : CreatesBy (Batch two_files) Ended old new → ⊥
ends_batch_early creates = creates

ends_phasor_with_record : CreatesBy (Phasor case_name) Ended old new → ⊥
ends_phasor_with_record creates = grind arith

words_that_do_not_fit_without_note : CreatesInTurn None Usage old old → ⊥
words_that_do_not_fit_without_note creates = grind arith

-- ---- over any cabinet a refusal makes no file of a record

leaves_note : Leaves BadCard old (left (record old_outputs { note = holds [] note_bytes }))
leaves_note = (refl, refl)

refusal_leaves_cfg : Leaves BadCard old (left (record old_outputs { cfg = holds cfg_name [] })) → ⊥
refusal_leaves_cfg leaves = grind arith

refusal_leaves_dat : Leaves Usage old (left (record old_outputs { dat = holds dat_name dat_bytes })) → ⊥
refusal_leaves_dat leaves = grind arith

read_fault_leaves_note : Leaves ReadFault old (left (record old_outputs { note = holds [] note_bytes })) → ⊥
read_fault_leaves_note leaves = grind arith

no_memory_leaves_cfg : Leaves NoMemory old (left (record old_outputs { cfg = holds cfg_name cfg_bytes })) → ⊥
no_memory_leaves_cfg leaves = grind arith

-- ---- files are opened once each

abbrev opened : ℕ → CabinetState
opened calls = record new { opens = calls }

opens_case : OpensOnce (Some task) Done old new
opens_case = refl

opens_one_of_two : OpensOnce (Some (Batch two_files)) ReadFault old new
opens_one_of_two = inr (inl refl)

opens_case_twice : OpensOnce (Some task) Done old (opened 3) → ⊥
opens_case_twice opens = grind arith

opens_no_case : OpensOnce (Some task) BadCard old (opened 1) → ⊥
opens_no_case opens = grind arith

opens_one_of_three : OpensOnce (Some (Audit three_files)) Done old (opened 2) → ⊥
opens_one_of_three opens = grind arith

opens_case_twice_and_fails : OpensOnce (Some task) ReadFault old (opened 3) → ⊥
opens_case_twice_and_fails opens = grind arith

opens_a_third_of_two : OpensOnce (Some (Batch two_files)) NoMemory old (opened 4) → ⊥
opens_a_third_of_two opens = grind arith

opens_for_trial : OpensOnce (Some (Trial 1)) Done old (opened 2) → ⊥
opens_for_trial opens = grind arith

opens_for_words_that_do_not_fit : OpensOnce None Usage old (opened 2) → ⊥
opens_for_words_that_do_not_fit opens = grind arith

reads_for_words_that_do_not_fit : OpensNothing None Usage old new → ⊥
reads_for_words_that_do_not_fit nothing = grind arith

fails_for_words_that_do_not_fit : OpensNothing None Usage old (record old { faults_in = 2 }) → ⊥
fails_for_words_that_do_not_fit nothing = grind arith

reads_for_trial : OpensNothing (Some (Trial 1)) Done old new → ⊥
reads_for_trial nothing = grind arith

trial_says_read_fault : OpensNothing (Some (Trial 1)) ReadFault old old → ⊥
trial_says_read_fault nothing = nothing.read refl

-- ---- how much is taken of them; each file has the bytes 51 and 52

abbrev unread : Option (List ℕ) → CabinetState
unread bytes = record new { unread = bytes }

-- the bytes of a file after a front of them that was taken
no_front : {rest : List ℕ} → ((front : List ℕ) → 51 ∷ 52 ∷ [] ≡ front ++ rest → ⊥) → TookFront (MAX_BYTES + 1) (Some (51 ∷ 52 ∷ [])) (Some rest) → ⊥
no_front {rest} none took = none took.front (ap bytes_of took.took)
  where
    bytes_of : Option (List ℕ) → List ℕ
    bytes_of None = []
    bytes_of (Some bytes) = bytes

takes_all : TakesWithin (Some task) Done old new
takes_all = record { front = 51 ∷ 52 ∷ []; within = omega arith; took = refl }

takes_one : TakesWithin (Some task) ReadFault old (unread (Some (52 ∷ [])))
takes_one = inl (record { front = 51 ∷ []; within = omega arith; took = refl })

takes_none : TakesWithin (Some task) NoMemory old old
takes_none = inr refl

takes_none_and_is_done : TakesWithin (Some task) Done old old → ⊥
takes_none_and_is_done took = grind arith

takes_none_and_refuses : TakesWithin (Some task) BadCard old old → ⊥
takes_none_and_refuses took = grind arith

longer : (front : List ℕ) → 51 ∷ 52 ∷ [] ≡ front ++ 51 ∷ 52 ∷ 53 ∷ [] → ⊥
longer front is = omega (arith, ap length is, length-append front (51 ∷ 52 ∷ 53 ∷ []))

other : (front : List ℕ) → 51 ∷ 52 ∷ [] ≡ front ++ 53 ∷ [] → ⊥
other [] is = grind arith
other (a ∷ []) is = grind arith
other (a ∷ b ∷ []) is = grind arith
other (a ∷ b ∷ c ∷ more) is = grind arith

leaves_more_than_there_is : TakesWithin (Some task) Done old (unread (Some (51 ∷ 52 ∷ 53 ∷ []))) → ⊥
leaves_more_than_there_is = no_front longer

leaves_other_bytes : TakesWithin (Some task) Done old (unread (Some (53 ∷ []))) → ⊥
leaves_other_bytes = no_front other

fails_at_other_bytes : TakesWithin (Some task) ReadFault old (unread (Some (53 ∷ []))) → ⊥
fails_at_other_bytes (inl took) = no_front other took
fails_at_other_bytes (inr same) = grind arith

refuses_at_other_bytes : TakesWithin (Some task) BadCard old (unread (Some (53 ∷ []))) → ⊥
refuses_at_other_bytes = no_front other

takes_without_memory_other_bytes : TakesWithin (Some task) NoMemory old (unread (Some (51 ∷ 52 ∷ 53 ∷ []))) → ⊥
takes_without_memory_other_bytes (inl took) = no_front longer took
takes_without_memory_other_bytes (inr same) = grind arith

-- a file that is longer than its bound, of which nothing is left
takes_past_bound : (most : ℕ) (text : List ℕ) → most < length text → TookFront most (Some text) (Some []) → ⊥
takes_past_bound most text longer took = omega (arith, longer, took.within, ap length (ap bytes_of took.took), ap length (append-nil took.front))
  where
    bytes_of : Option (List ℕ) → List ℕ
    bytes_of None = []
    bytes_of (Some bytes) = bytes

closes_file_that_was_open : TakesWithin (Some task) Done (record old { unread = Some [] }) (unread None) → ⊥
closes_file_that_was_open took = grind arith

takes_for_words_that_do_not_fit : TakesWithin None Usage old new → ⊥
takes_for_words_that_do_not_fit took = grind arith

takes_for_trial : TakesWithin (Some (Trial 1)) Done old new → ⊥
takes_for_trial took = grind arith
