use Rattle.std.proofs.Common.{◌≡◌, length, unsigned_abs, FitsSigned, to_z, of_z, rules, arith}
use mir.Syntax.{w64}
use Rattle.std.proofs.lemmas.Int.{to_z-of_z}
use Rattle.emtp_net.proofs.Residuals.{judged, judged_magnitude, judged_there}
use Rattle.emtp_net.proofs.residual.judge.Goals as goal

-- the tolerance that the code reads is that of the case
wide : (c : goal.After-first_above) → to_z w64 (of_z w64 c.args.case.now.parts.run.tolerance) ≡ c.args.case.now.parts.run.tolerance
wide c =
    let fits : FitsSigned w64 c.args.case.now.parts.run.tolerance = search rules in
    to_z-of_z w64 c.args.case.now.parts.run.tolerance fits

pub returns-clause-judges : goal.returns-clause-judges
returns-clause-judges c = λ H branches kinds leave.
    let case = c.args.case.now.parts in
    let n = length case.nodes in
    let above = rw (wide c) at c.first_above.ensures in
    let long : length c.fold.new.sums ≡ n = omega (arith, c.fold.auto.sums, c.requires.leaving) in
    judged case H branches c.args.kinds.now c.args.leaving.now c.fold.new.sums c.first_above.result kinds c.requires.kinds long leave
    (λ j below sum. c.fold.ensures.groups.sum j (omega (arith, below, c.requires.leaving)) sum)
    (λ j below kcl. c.fold.ensures.groups.node j (omega (arith, below, c.requires.leaving)) kcl)
    above

pub returns-clause-there : goal.returns-clause-there
returns-clause-there c =
    let above = rw (wide c) at c.first_above.ensures in
    judged_there c.args.kinds.now c.fold.new.sums (unsigned_abs c.args.case.now.parts.run.tolerance) c.first_above.result (length c.args.case.now.parts.nodes) (omega (arith, c.fold.auto.sums, c.requires.leaving)) above

pub returns-clause-magnitude : goal.returns-clause-magnitude
returns-clause-magnitude c =
    let above = rw (wide c) at c.first_above.ensures in
    judged_magnitude c.args.kinds.now c.fold.new.sums (unsigned_abs c.args.case.now.parts.run.tolerance) c.first_above.result above
