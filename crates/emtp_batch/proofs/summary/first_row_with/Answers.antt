use Rattle.std.proofs.Common.{◌≡◌, ◌+◌, ◌∙◌, ap, arith, of_z, to_z, w64}
use Rattle.std.proofs.lemmas.Int.{ints}
use Rattle.std.specs.Prelude.{unwrap_or}
use Rattle.emtp_batch.specs.Summary.{first_row_with}
use Rattle.emtp_batch.proofs.summary.first_row_with.Goals as goal

pub returns-in-Some : goal.returns-in-Some
returns-in-Some c =
    let same : to_z w64 (of_z w64 c.args.peak) ≡ c.args.peak = omega (arith, ints, c.ranges.peak.sfits) in
    ap (λ place. unwrap_or place 0 + 1) c.in-Some.ensures.value ∙ ap (λ peak. first_row_with c.args.channel peak c.args.reports.now) same

pub returns-in-None : goal.returns-in-None
returns-in-None c =
    let same : to_z w64 (of_z w64 c.args.peak) ≡ c.args.peak = omega (arith, ints, c.ranges.peak.sfits) in
    ap (λ place. unwrap_or place 0 + 1) c.in-None.ensures.value ∙ ap (λ peak. first_row_with c.args.channel peak c.args.reports.now) same
