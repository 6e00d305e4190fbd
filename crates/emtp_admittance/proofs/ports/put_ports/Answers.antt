use Rattle.std.proofs.Common.{◌≡◌, ◌∙◌, ◌<◌, ap, length, refl, to_z, of_z, arith}
use mir.Syntax.{w64}
use Rattle.std.proofs.lemmas.Int.{to_z-of_z}
use Rattle.emtp_admittance.specs.Refusals.{branch_refused}
use Rattle.emtp_admittance.proofs.LeastLines.{card_here, least_all, least_more}
use Rattle.emtp_admittance.proofs.PortPlaces.{port_here, ports_all, ports_more, ports_small}
use Rattle.emtp_admittance.proofs.ports.put_ports.Goals as goal

pub loop-at-preserved : goal.loop-at-preserved
loop-at-preserved c =
    let case = c.args.case.now.parts in
    let cards = c.as_slice-cards.result.now in
    let at = c.loop-at.at in
    let narrow : to_z w64 (of_z w64 c.args.freq) ≡ c.args.freq = to_z-of_z w64 c.args.freq c.ranges.freq in
    let was = rw narrow at c.loop-at.invariant in
    let there : at < length case.branches = omega (arith, c.loop-at-test.true, ap length c.as_slice-cards.ensures) in
    let refused = rw narrow at c.judged_port-refused.ensures.refused in
    let port = rw narrow at c.judged_port-refused.ensures.port in
    rw narrow (record {
      refused = least_more (branch_refused c.args.freq) case.branches at _ c.judged_port-refused.result.1 c.loop-at.best c.sooner-best.result _ there (card_here case.branches cards at _ _ c.as_slice-cards.ensures there refl) refused c.sooner-best.ensures was.refused;
      ports = ports_more case c.args.freq c.loop-at.out at c.judged_port-refused.result.0 (omega (arith, there, c.loop-at.auto.out, c.requires.out)) (port ∙ port_here case c.args.freq cards at _ _ c.as_slice-cards.ensures there refl) c.judged_port-refused.ensures.small was.ports;
    })

pub returns-clause-refused : goal.returns-clause-refused
returns-clause-refused c =
    let narrow : to_z w64 (of_z w64 c.args.freq) ≡ c.args.freq = to_z-of_z w64 c.args.freq c.ranges.freq in
    let was = rw narrow at c.loop-at.invariant in
    least_all (branch_refused c.args.freq) c.args.case.now.parts.branches c.loop-at.at c.loop-at.best (omega (arith, c.loop-at-test.false, ap length c.as_slice-cards.ensures)) was.refused

pub returns-clause-ports : goal.returns-clause-ports
returns-clause-ports c =
    let narrow : to_z w64 (of_z w64 c.args.freq) ≡ c.args.freq = to_z-of_z w64 c.args.freq c.ranges.freq in
    let was = rw narrow at c.loop-at.invariant in
    ports_all c.args.case.now.parts c.args.freq c.loop-at.out c.loop-at.at (omega (arith, c.loop-at.auto.out, c.requires.out)) (omega (arith, c.loop-at-test.false, ap length c.as_slice-cards.ensures)) was.ports

pub returns-clause-small : goal.returns-clause-small
returns-clause-small c =
    ports_small c.args.case.now.parts _ c.loop-at.out c.loop-at.at (omega (arith, c.loop-at.auto.out, c.requires.out)) (omega (arith, c.loop-at-test.false, ap length c.as_slice-cards.ensures)) c.loop-at.invariant.ports
