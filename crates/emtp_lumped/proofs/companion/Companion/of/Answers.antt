use Rattle.std.proofs.Common.{◌≡◌, ap, ◌+ℤ◌, unsigned_abs, FitsSigned, arith, rules, refl}
use mir.Syntax.{w64}
use Rattle.std.proofs.lemmas.Int.{ints, to_z-of_z}
use Rattle.emtp_case.specs.Branch.{inductor_impedance, capacitor_impedance, series_impedance}
use Rattle.emtp_lumped.proofs.Bounds.{companion-fits}
use Rattle.emtp_lumped.proofs.companion.Companion.of.Goals as goal

pub narrow-inductor-requires : goal.narrow-inductor-requires
narrow-inductor-requires c =
    let dt : FitsSigned w64 c.args.dt = c.ranges.dt in
    let l : FitsSigned w64 c.args.b.now.l = search rules in
    let is = simp to_z-of_z at c.inductor_impedance.ensures.value in
    let range = (companion-fits c.args.dt c.args.b.now c.requires.dt c.requires.branch).inductor in
    omega (arith, ints, ap unsigned_abs is, range.least, range.most)

pub narrow-capacitor-requires : goal.narrow-capacitor-requires
narrow-capacitor-requires c =
    let dt : FitsSigned w64 c.args.dt = c.ranges.dt in
    let cap : FitsSigned w64 c.args.b.now.c = search rules in
    let is = simp to_z-of_z at c.capacitor_impedance.ensures.value in
    let range = (companion-fits c.args.dt c.args.b.now c.requires.dt c.requires.branch).capacitor in
    omega (arith, ints, ap unsigned_abs is, range.least, range.most)

pub impedance-requires-clause-inductor : goal.impedance-requires-clause-inductor
impedance-requires-clause-inductor c =
    let dt : FitsSigned w64 c.args.dt = c.ranges.dt in
    let l : FitsSigned w64 c.args.b.now.l = search rules in
    let is = simp to_z-of_z at c.inductor_impedance.ensures.value in
    let range = (companion-fits c.args.dt c.args.b.now c.requires.dt c.requires.branch).inductor in
    omega (arith, ints, c.narrow-inductor.ensures, ap unsigned_abs is, range.least, range.most)

pub impedance-requires-clause-capacitor : goal.impedance-requires-clause-capacitor
impedance-requires-clause-capacitor c =
    let dt : FitsSigned w64 c.args.dt = c.ranges.dt in
    let cap : FitsSigned w64 c.args.b.now.c = search rules in
    let is = simp to_z-of_z at c.capacitor_impedance.ensures.value in
    let range = (companion-fits c.args.dt c.args.b.now c.requires.dt c.requires.branch).capacitor in
    omega (arith, ints, c.narrow-capacitor.ensures, ap unsigned_abs is, range.least, range.most)

pub conductance-requires : goal.conductance-requires
conductance-requires c =
    let dt : FitsSigned w64 c.args.dt = c.ranges.dt in
    let l : FitsSigned w64 c.args.b.now.l = search rules in
    let cap : FitsSigned w64 c.args.b.now.c = search rules in
    let is_l = simp to_z-of_z at c.inductor_impedance.ensures.value in
    let is_c = simp to_z-of_z at c.capacitor_impedance.ensures.value in
    let fits = companion-fits c.args.dt c.args.b.now c.requires.dt c.requires.branch in
    let whole : series_impedance c.args.dt c.args.b.now.r c.args.b.now.l c.args.b.now.c ≡ c.args.b.now.r +ℤ inductor_impedance c.args.dt c.args.b.now.l +ℤ capacitor_impedance c.args.dt c.args.b.now.c = refl in
    let h = c.requires.branch.impedance in
    record {
      least = omega (arith, ints, c.impedance.ensures, c.narrow-inductor.ensures, c.narrow-capacitor.ensures, is_l, is_c, fits.inductor.least, fits.inductor.most, fits.capacitor.least, fits.capacitor.most, whole, h.least);
      most = omega (arith, ints, c.impedance.ensures, c.narrow-inductor.ensures, c.narrow-capacitor.ensures, is_l, is_c, fits.inductor.least, fits.inductor.most, fits.capacitor.least, fits.capacitor.most, whole, h.most);
    }

pub inductor_impedance-requires-clause-dt : goal.inductor_impedance-requires-clause-dt
inductor_impedance-requires-clause-dt c = let dt : FitsSigned w64 c.args.dt = c.ranges.dt in rw (to_z-of_z w64 c.args.dt dt) c.requires.dt

pub capacitor_impedance-requires-clause-dt : goal.capacitor_impedance-requires-clause-dt
capacitor_impedance-requires-clause-dt c = let dt : FitsSigned w64 c.args.dt = c.ranges.dt in rw (to_z-of_z w64 c.args.dt dt) c.requires.dt

pub inductor_impedance-requires-clause-l : goal.inductor_impedance-requires-clause-l
inductor_impedance-requires-clause-l c = let l : FitsSigned w64 c.args.b.now.l = search rules in rw (to_z-of_z w64 c.args.b.now.l l) c.requires.branch.inductance

pub capacitor_impedance-requires-clause-c : goal.capacitor_impedance-requires-clause-c
capacitor_impedance-requires-clause-c c = let cap : FitsSigned w64 c.args.b.now.c = search rules in rw (to_z-of_z w64 c.args.b.now.c cap) c.requires.branch.capacitance

pub impedance-requires-clause-r : goal.impedance-requires-clause-r
impedance-requires-clause-r c = omega (arith, ints, c.requires.branch.resistance.least, c.requires.branch.resistance.most)
