-- What is known of a machine whose run goes on.
use Rattle.std.proofs.Common.{◌≡◌, ◌∙◌, ℕ, ℤ, List, Option, None, ap, subst}
use Rattle.emtp_case.specs.declared.case.Parts.{Parts}
use Rattle.emtp_machine.proofs.Machines.{is_running, seen}
use Rattle.emtp_machine.specs.History.{history_upto}
use Rattle.emtp_machine.specs.declared.controlled.ControlledNetwork.{ControlledNetwork}
use Rattle.emtp_machine.specs.declared.end.End.{End}
use Rattle.emtp_machine.specs.held.Machine.{IsMachine, Progress, history_of, tried_of}
use Rattle.emtp_machine.specs.held.Samples.{Sampled}
use Rattle.emtp_net.specs.held.Network.{StandsFor}

-- its network stands for its records, and is that of its case
pub record IsLive (m : Progress) (network : ControlledNetwork) : Type 0 where
  pub stands : StandsFor network.network (history_of m).records
  pub case_is : network.network.case ≡ m.case

pub live : {held : List ℕ} (m : Progress) (case : Parts) (network : ControlledNetwork) (row : List ℤ) (s : Sampled) (n : ℕ) (over : Option End) → seen case n over held ≡ m
    → IsMachine case network row s n over (history_upto case (tried_of n over)) → (history_of m).end ≡ None → IsLive m network
live m case network row s n over view is running =
    let none = is_running m case n over view running is.ended in
    record {
      stands = subst (λ (p : Progress). StandsFor network.network (history_of p).records) view (is.running none).network;
      case_is = is.case_is.network ∙ ap (λ (p : Progress). p.case) view;
    }
