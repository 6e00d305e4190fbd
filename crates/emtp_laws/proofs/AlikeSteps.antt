-- A case with other sources and another number of steps has the same step, where its sources bring the same into it.
use Rattle.std.proofs.Common.{◌≡◌, ◌∙◌, ℕ, ℤ, true, List, length, Option, Result, Ok, Err, refl, ap}
use Rattle.emtp_blocks.specs.System as block_system
use Rattle.emtp_case.specs.RowOrder.{has_source}
use Rattle.emtp_case.specs.StepRecord.{BranchState, StepRecord}
use Rattle.emtp_case.specs.declared.case.Parts.{Parts}
use Rattle.emtp_devices.specs.Device.{next_state}
use Rattle.emtp_fix.specs.Chain.{◌>>=◌}
use Rattle.emtp_machine.specs.Next.{joined, measured_of, next, with_control}
use Rattle.emtp_net.specs.Part.{NetworkPart, state_at}
use Rattle.emtp_net.specs.System.{conductances, couplings, history_at, sources_into, voltage_of}
use Rattle.emtp_net.specs.declared.fault.NetFault.{NetFault}
use Rattle.emtp_net.specs.Step.{network_part}
use Rattle.emtp_switch.specs.Kinds.{has_feed}
use Rattle.emtp_switch.specs.States.{next_states}
use Rattle.emtp_tacs.specs.Step.{Measured, SoFar, blocks, completed, control_step, extras, sources, starting}
use Rattle.emtp_tacs.specs.declared.fault.TacsFault.{TacsFault}
use Rattle.emtp_laws.proofs.AlikeNetworks.{TakeAlike, network_same}
use Rattle.emtp_laws.proofs.AlikeRows.{Other, changed}

-- the time step is the same, and the other sources bring the same into the step after the records
pub record BringAlike (case : Parts) (o : Other) (H : List StepRecord) : Type 0 where
  pub dt : o.dt ≡ case.run.dt
  pub known : has_source (changed o case) ≡ has_source case
  pub feed : has_feed (changed o case) ≡ has_feed case
  pub into : sources_into (changed o case) H ≡ sources_into case H
  pub held : voltage_of (changed o case) H ≡ voltage_of case H
  pub control : (m : Measured) (s : SoFar) → sources (changed o case) (length H) m s ≡ sources case (length H) m s

module _ (case : Parts) (o : Other) (H : List StepRecord) (a : BringAlike case o H) where
  -- the case as it is changed, but for its time step
  abbrev at : ℤ → Parts
  at dt = changed (record o { dt = dt }) case

  takes : TakeAlike case o H H
  takes = record {
    known = a.known;
    feed = a.feed;
    own = ap (λ dt. conductances (at dt) H) a.dt;
    coupling = ap (λ dt. couplings (at dt)) a.dt;
    states = ap (λ dt. next_states (at dt) H) a.dt;
    history = ap {B = ℕ → ℤ × ℤ} (λ dt. history_at (at dt) H) a.dt;
    into = a.into;
    held = a.held;
    moves = ap {B = List ℤ → ℕ → Option BranchState} (λ dt. state_at (at dt) H) a.dt;
  }

  control_same : (m : Measured) → control_step (changed o case) H m ≡ control_step case H m
  unfolding control_step next_state block_system.control_matrix block_system.right block_system.outputs block_system.states_after
  control_same m =
      ap (λ dt. (sources (changed o case) (length H) m (starting (at dt) H) >>= extras (at dt) H true) >>= (λ known. blocks (at dt) H known.values >>= (λ solved. completed (at dt) H known solved))) a.dt
      ∙ ap (λ (r : Result SoFar TacsFault). (r >>= extras case H true) >>= (λ known. blocks case H known.values >>= (λ solved. completed case H known solved))) (a.control m (starting case H))

  joined_same : (r : Result NetworkPart NetFault) → with_control (changed o case) H r ≡ with_control case H r
  joined_same (Ok part) = ap (joined case part) (control_same (measured_of part))
  joined_same (Err fault) = refl

  pub next_same : next (changed o case) H ≡ next case H
  unfolding next
  next_same = ap (with_control (changed o case) H) (network_same case o H H takes) ∙ joined_same (network_part case H)
