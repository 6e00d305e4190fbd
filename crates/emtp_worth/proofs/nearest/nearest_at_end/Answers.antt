use Rattle.std.proofs.Common.{◌∙◌, ap, length, List}
use Rattle.emtp_case.specs.StepRecord.{StepRecord, latest}
use Rattle.emtp_worth.specs.Nearest.{nearest}
use Rattle.emtp_worth.proofs.nearest.nearest_at_end.Goals as goal

pub returns : goal.returns
returns g c =
    let all = c.steps-test.ensures.over ∙ c.steps.invariant.whole_is in
    c.steps.invariant.found_is (ap (λ (H : List StepRecord). length H) all ∙ c.requires.last)
    ∙ ap (λ (H : List StepRecord). nearest c.args.case.now.parts c.args.node (latest H)) all
