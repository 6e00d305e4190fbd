use Rattle.std.proofs.Common.{sym, subst, suc, arith}
use Rattle.emtp_pseudo.specs.held.Segment.{IsPoint}
use Rattle.emtp_pseudo.proofs.Segments.{points_fit}
use Rattle.emtp_pseudo.proofs.segment.Segment.outward.Goals as goal

pub conductance-requires-clause-a : goal.conductance-requires-clause-a
conductance-requires-clause-a c = subst IsPoint (sym c.point-base.ensures) (points_fit c.args.reactor c.args.dt c.args.points.now c.args.k c.requires.points (omega (arith, c.requires.within)))

pub conductance-requires-clause-b : goal.conductance-requires-clause-b
conductance-requires-clause-b c = points_fit c.args.reactor c.args.dt c.args.points.now (suc c.args.k) c.requires.points (omega (arith, c.requires.within))

pub rise-requires-clause-a : goal.rise-requires-clause-a
rise-requires-clause-a c = subst IsPoint (sym c.point-base.ensures) (points_fit c.args.reactor c.args.dt c.args.points.now c.args.k c.requires.points (omega (arith, c.requires.within)))

pub rise-requires-clause-b : goal.rise-requires-clause-b
rise-requires-clause-b c = points_fit c.args.reactor c.args.dt c.args.points.now (suc c.args.k) c.requires.points (omega (arith, c.requires.within))
