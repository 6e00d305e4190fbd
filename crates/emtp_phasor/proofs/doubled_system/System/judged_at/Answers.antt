use Rattle.std.proofs.Common.{◌≡◌, ◌∙◌, ℤ, Some, ap, drop, length, to_z, of_z, arith}
use mir.Syntax.{w64}
use Rattle.std.proofs.lemmas.Int.{to_z-of_z}
use Rattle.std.proofs.lemmas.List.{take_at}
use Rattle.emtp_admittance.specs.Refusals.{judged_frequency}
use Rattle.emtp_phasor.proofs.Networks.{has_ports}
use Rattle.emtp_phasor.proofs.doubled_system.System.judged_at.Goals as goal

pub judged_ports-requires-clause-out : goal.judged_ports-requires-clause-out
judged_ports-requires-clause-out c = ap length c.deref_mut.ensures.value ∙ c.requires.ready.ports_count

pub returns-clause-value : goal.returns-clause-value
returns-clause-value c =
    let narrow : to_z w64 (of_z w64 c.args.freq) ≡ c.args.freq = to_z-of_z w64 c.args.freq c.ranges.freq in
    c.judged_ports.ensures.value ∙ ap (λ (f : ℤ). judged_frequency c.args.case.now.parts (Some f)) narrow

pub returns-clause-ports : goal.returns-clause-ports
returns-clause-ports c =
    let out = c.judged_ports.new.out in
    let whole = take_at out (drop (length out) c.args.self.now.ports.items) c.args.self.now.ports.len (omega (arith, c.judged_ports.auto.out, c.deref_mut.ensures.len)) in
    has_ports c.args.case.now.parts _ out c.judged_ports.result whole c.judged_ports.ensures.ports c.judged_ports.ensures.small
