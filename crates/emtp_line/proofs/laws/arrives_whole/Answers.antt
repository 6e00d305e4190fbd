use Rattle.std.proofs.Common.{◌∙◌, ◌-◌, refl}
use Rattle.emtp_case.specs.declared.branch.LineState.{LineState}
use Rattle.emtp_line.specs.Laws.{steps_before}
use Rattle.emtp_line.specs.Line.{from_waves, to_waves}
use Rattle.emtp_line.proofs.Physics.{arrives, waves_read}
use Rattle.emtp_line.proofs.laws.arrives_whole.Goals as goal

pub returns-clause-to : goal.returns-clause-to
returns-clause-to c = λ past v left.
    let m = c.args.mode.now in
    arrives m (from_waves past) (to_waves past) v (steps_before m.steps past).from_current c.requires.lossless c.requires.whole (waves_read (λ (s : LineState). s.from_wave) refl past (m.steps - 1) ∙ left)

pub returns-clause-from : goal.returns-clause-from
returns-clause-from c = λ past v left.
    let m = c.args.mode.now in
    arrives m (to_waves past) (from_waves past) v (steps_before m.steps past).to_current c.requires.lossless c.requires.whole (waves_read (λ (s : LineState). s.to_wave) refl past (m.steps - 1) ∙ left)
