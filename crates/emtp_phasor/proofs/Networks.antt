-- The network that a resting one makes up with two-ports, and its system.
use Rattle.std.proofs.Common.{◌≡◌, ◌∙◌, ℤ, List, Result, Ok, Err, IfOk, OnOk, refl, sym, ap, subst, All, length}
use Rattle.emtp_admittance.specs.Impedance.{ports_of}
use Rattle.emtp_admittance.specs.held.Admittances.{IsSmallPort}
use Rattle.emtp_admittance.specs.declared.admittance.TwoPort.{TwoPort}
use Rattle.emtp_admittance.specs.declared.refusal.Refused.{Refused}
use Rattle.emtp_case.specs.declared.case.Parts.{Parts}
use Rattle.emtp_case.specs.held.RowKinds.{TieIsThere}
use Rattle.emtp_phasor.specs.held.HeldGroups.{members_by_row}
use Rattle.emtp_phasor.specs.held.HeldSources.{IsSmallBrought}
use Rattle.emtp_phasor.specs.held.HeldSystem.{HasPorts, IsResting}
use Rattle.emtp_phasor.specs.Doubled.{doubled_matrix}
use Rattle.emtp_elim.specs.Outcome.{outcome}
use Rattle.emtp_phasor.specs.Steady.{doubled_solution, doubled_system, named_ending, resting_kinds, steady_right}
use Rattle.emtp_phasor.specs.declared.ending.Ending.{Ending}
use Rattle.emtp_phasor.specs.held.SteadyNetwork.{IsSteadyNetwork, doubled_of}
use Rattle.emtp_phasor.specs.declared.resting_network.RestingNetwork.{RestingNetwork}
use Rattle.emtp_phasor.specs.declared.steady_network.SteadyNetwork.{SteadyNetwork}
use Rattle.emtp_phasor.specs.declared.doubled_system.System.{System}
use Rattle.emtp_phasor.proofs.Volting.{kinds_size}

pub resting_network : (r : RestingNetwork) (n : SteadyNetwork) → IsResting n.case.now.parts r → n.order.now ≡ r.order → length n.ports.now ≡ length n.case.now.parts.branches → All IsSmallPort n.ports.now
    → n.kinds.now ≡ r.kinds.items → n.lists.now ≡ r.lists.items → n.groups.now ≡ r.groups.items → n.brought.now ≡ r.brought.items → IsSteadyNetwork n
resting_network r n resting order ports small kinds lists groups brought = record {
  order_is = order ∙ resting.order_is;
  ports_count = ports;
  small = small;
  kinds_count = ap length (kinds ∙ resting.kinds_are) ∙ kinds_size n.case.now.parts;
  ties = subst (All (TieIsThere (length n.case.now.parts.nodes))) (sym kinds) resting.ties;
  lists_are = lists ∙ resting.lists_are;
  brought_are = brought ∙ resting.brought_are;
  brought_small = subst (IsSmallBrought n.case.now.parts) (sym brought) resting.brought_small;
  groups_are = groups ∙ resting.groups_are ∙ ap members_by_row (sym (kinds ∙ resting.kinds_are));
}

-- its doubled matrix is that of the frequency of its two-ports
pub network_system : (case : Parts) (freq : ℤ) (n : SteadyNetwork) → n.case.now.parts ≡ case → n.ports.now ≡ ports_of case freq → n.kinds.now ≡ resting_kinds n.case.now.parts → doubled_matrix (doubled_of n) ≡ doubled_system case freq
network_system case freq n same are kinds = rw (are, kinds, same) refl

-- what is solved with the right side of the case is solved at this frequency
pub network_solved : (case : Parts) (freq : ℤ) (n : SteadyNetwork) (right x : List ℤ) → n.case.now.parts ≡ case → n.ports.now ≡ ports_of case freq → n.kinds.now ≡ resting_kinds n.case.now.parts → right ≡ steady_right case
    → outcome (doubled_matrix (doubled_of n)) right ≡ Ok x → outcome (doubled_system case freq) (steady_right case) ≡ Ok x
network_solved case freq n right x same are kinds right_is solved =
    ap (λ m. outcome m (steady_right case)) (sym (network_system case freq n same are kinds)) ∙ ap (outcome (doubled_matrix (doubled_of n))) (sym right_is) ∙ solved

-- and a fault ends it
pub network_ends : (case : Parts) (freq : ℤ) (n : SteadyNetwork) (right : List ℤ) (e : Ending) → n.case.now.parts ≡ case → n.ports.now ≡ ports_of case freq → n.kinds.now ≡ resting_kinds n.case.now.parts → right ≡ steady_right case
    → named_ending n.case.now.parts (outcome (doubled_matrix (doubled_of n)) right) ≡ Err e → doubled_solution case freq ≡ Err e
network_ends case freq n right e same are kinds right_is ends =
    ap (λ m. named_ending case (outcome m (steady_right case))) (sym (network_system case freq n same are kinds))
    ∙ ap (λ r. named_ending case (outcome (doubled_matrix (doubled_of n)) r)) (sym right_is)
    ∙ ap (λ k. named_ending k (outcome (doubled_matrix (doubled_of n)) right)) (sym same)
    ∙ ends

-- the two-ports of a system, where the frequency is good
pub has_ports : (case : Parts) (s : System) (out : List TwoPort) (r : Result ℤ Refused) → s.ports.items ≡ out → IfOk r (λ found. out ≡ ports_of case found) → OnOk r (All IsSmallPort out) → IfOk r (λ found. HasPorts case found s)
has_ports case s out (Ok found) whole are small = record { are = whole ∙ are; small = subst (All IsSmallPort) (sym whole) small }
has_ports case s out (Err refused) whole are small = tt
