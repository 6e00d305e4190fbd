use Rattle.std.proofs.Common.{◌∙◌, ap}
use Rattle.emtp_machine.specs.History.{History, history, samples}
use Rattle.emtp_laws.specs.Mirror.{mirror_image}
use Rattle.emtp_laws.proofs.MirroredBranches.{has_curves}
use Rattle.emtp_laws.proofs.MirroredSteps.{history_mirrored}
use Rattle.emtp_laws.proofs.MirroredSamples.{samples_turned}
use Rattle.emtp_laws.proofs.mirror.mirrored_run.Goals as goal

pub returns-clause-records : goal.returns-clause-records
returns-clause-records c = λ n. let case = c.args.case.now.parts in history_mirrored case n c.requires.plain (has_curves case case.branches c.args.case.now.fits.draft.network.branches) c.requires.control

pub returns-clause-samples : goal.returns-clause-samples
returns-clause-samples c =
    let case = c.args.case.now.parts in
    let h = history case in
    ap (λ (k : History). samples (mirror_image case) k) (history_mirrored case case.run.steps c.requires.plain (has_curves case case.branches c.args.case.now.fits.draft.network.branches) c.requires.control)
    ∙ samples_turned case h.records
