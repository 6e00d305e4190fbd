use Rattle.std.proofs.Common.{◌∙◌, ap, sym}
use Rattle.emtp_admittance.specs.Probes.{probe_in}
use Rattle.emtp_admittance.proofs.Probing.{probe_fits, scanned_fits}
use Rattle.emtp_admittance.proofs.probe.judged_probe.Goals as goal

pub returns-clause-probe : goal.returns-clause-probe
returns-clause-probe c =
    let case = c.args.case.now.parts in
    scanned_fits case c.probe_in.result c.scanned_by.result c.scanned_by.ensures
    (λ q e. probe_fits case case.sources q c.args.case.now.fits.draft.network.sources (ap probe_in (sym c.as_slice.ensures) ∙ sym c.probe_in.ensures ∙ e))
