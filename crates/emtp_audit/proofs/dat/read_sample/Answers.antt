use Rattle.std.proofs.Common.{◌+◌, Some, None, FitsSigned}
use mir.Syntax.{w64}
use Rattle.std.proofs.lemmas.Int.{to_z-of_z}
use Rattle.emtp_fix.proofs.Wide.{fits_64}
use Rattle.emtp_audit.specs.Rules.{audited_lines}
use Rattle.emtp_audit.specs.Dat.{scales_of, dat_rule}
use Rattle.emtp_audit.proofs.Reading.{line-differs}
use Rattle.emtp_audit.proofs.dat.read_sample.Goals as goal

pub returns-in-Ok-clause-ok : goal.returns-in-Ok-clause-ok
returns-in-Ok-clause-ok c = λ more.
    let unit : FitsSigned w64 c.args.audited.now.cfg.now.multiplier = fits_64 c.args.audited.now.cfg.now.multiplier c.requires.audited.multiplier in
    let first : FitsSigned w64 c.args.first = c.ranges.first in
    let same = simp to_z-of_z at c.in-Ok.ensures in
    line-differs (c.args.sample + 1) (dat_rule c.args.audited.now.case.now.parts c.args.audited.now.samples.now.rows (scales_of c.args.audited.now.cfg.now.scales.items c.args.audited.now.cfg.now.multiplier) c.args.first c.args.sample) more c.in-Some.line.now (audited_lines c.in-Some.tail.now) (audited_lines c.args.rest.now) None c.in-Some.ensures.lines same

pub returns-in-Err-clause-err : goal.returns-in-Err-clause-err
returns-in-Err-clause-err c = λ more.
    let unit : FitsSigned w64 c.args.audited.now.cfg.now.multiplier = fits_64 c.args.audited.now.cfg.now.multiplier c.requires.audited.multiplier in
    let first : FitsSigned w64 c.args.first = c.ranges.first in
    let same = simp to_z-of_z at c.in-Err.ensures in
    line-differs (c.args.sample + 1) (dat_rule c.args.audited.now.case.now.parts c.args.audited.now.samples.now.rows (scales_of c.args.audited.now.cfg.now.scales.items c.args.audited.now.cfg.now.multiplier) c.args.first c.args.sample) more c.in-Some.line.now (audited_lines c.in-Some.tail.now) (audited_lines c.args.rest.now) (Some c.in-Err.differs) c.in-Some.ensures.lines same
