use Rattle.std.proofs.Common.{◌≡◌, ◌∙◌, ◌≤◌, All, sym, ap, subst, drop, length, unsigned_abs, to_z, of_z, arith}
use mir.Syntax.{w64}
use Rattle.std.proofs.lemmas.Int.{ints, to_z-of_z}
use Rattle.std.proofs.lemmas.List.{take_at}
use Rattle.emtp_fix.proofs.Wide.{fits_64}
use Rattle.emtp_fix.specs.declared.limit.TheConstants.{LARGEST_VALUE}
use Rattle.emtp_admittance.specs.Impedance.{ports_of}
use Rattle.emtp_admittance.specs.held.Admittances.{IsSmallPort}
use Rattle.emtp_phasor.proofs.steady_state.solve.Goals as goal

pub solve_at-requires-clause-ports : goal.solve_at-requires-clause-ports
solve_at-requires-clause-ports c =
    let freq = c.in-Ok.freq in
    let small : unsigned_abs freq ≤ LARGEST_VALUE = omega (arith, ints, c.in-Ok.ensures.range.least, c.in-Ok.ensures.range.most) in
    let narrow : to_z w64 (of_z w64 freq) ≡ freq = to_z-of_z w64 freq (fits_64 freq small) in
    let out = c.judged_ports.new.out in
    let whole = take_at out (drop (length out) c.in_ok-ports.ports.items) c.in_ok-ports.ports.len (omega (arith, c.judged_ports.auto.out, c.deref_mut.ensures.len)) in
    let ports = c.in-Ok-open.ensures.ports ∙ whole in
    record {
      are = ports ∙ c.in-Ok.ensures.ports ∙ ap (ports_of c.args.case.now.parts) (sym narrow);
      small = subst (All IsSmallPort) (sym ports) c.in-Ok.ensures.small;
    }
