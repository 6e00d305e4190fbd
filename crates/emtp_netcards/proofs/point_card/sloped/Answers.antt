use mir.Syntax.{w64, w128}
use Rattle.std.proofs.Common.{◌≡◌, ◌∙◌, subst, FitsSigned, to_z, of_z, rules}
use Rattle.std.proofs.lemmas.Int.{to_z-of_z}
use Rattle.emtp_case.specs.Branch.{greatest_slope, least_slope, slope_of}
use Rattle.emtp_case.specs.held.Range.{IsBetween}
use Rattle.emtp_netcards.proofs.point_card.sloped.Goals as goal

pub returns-then-is_slope-clause-segment : goal.returns-then-is_slope-clause-segment
returns-then-is_slope-clause-segment c =
    let dt : FitsSigned w64 c.args.dt = c.ranges.dt in
    let is : c.slope.result ≡ slope_of c.args.reactor c.args.dt c.args.start.now c.args.point = simp to_z-of_z at c.slope.ensures in
    let whole : to_z w128 (of_z w128 c.slope.result) ≡ c.slope.result = to_z-of_z w128 c.slope.result (search rules) in
    record {
      current_rises = c.requires.current.rises;
      other_rises = c.requires.other.rises;
      current_small = c.requires.current.most;
      other_small = c.requires.other.most;
      slope = subst (IsBetween (least_slope c.args.reactor) (greatest_slope c.args.reactor)) (whole ∙ is) (c.is_slope.ensures.range c.if-is_slope.true);
    }
