use Rattle.std.proofs.Common.{sym, subst, FitsSigned, arith, rules}
use mir.Syntax.{w32, w64}
use Rattle.std.proofs.lemmas.Int.{to_z-of_z}
use Rattle.emtp_pseudo.specs.Segment.{segment_of}
use Rattle.emtp_pseudo.specs.held.Segment.{IsSound}
use Rattle.emtp_pseudo.proofs.Segments.{made_sound, mirrored_sound}
use Rattle.emtp_pseudo.proofs.segment.Segment.of.Goals as goal

pub mirrored-requires : goal.mirrored-requires
mirrored-requires c =
    let dt : FitsSigned w64 c.args.dt = c.ranges.dt in
    let k : FitsSigned w32 c.args.k = c.ranges.k in
    let at = simp to_z-of_z at c.unsigned_abs.ensures.value in
    let is = simp to_z-of_z at c.outward-outward.ensures in
    (c.args.reactor, made_sound c.args.reactor c.args.dt c.args.points.now _ c.outward-outward.result c.requires.dt c.requires.points (omega (arith, at, c.requires.within)) is)

pub returns-then-k-lt0-clause-sound : goal.returns-then-k-lt0-clause-sound
returns-then-k-lt0-clause-sound c =
    let dt : FitsSigned w64 c.args.dt = c.ranges.dt in
    let k : FitsSigned w32 c.args.k = c.ranges.k in
    let at = simp to_z-of_z at c.unsigned_abs.ensures.value in
    let is = simp to_z-of_z at c.outward-outward.ensures in
    subst (IsSound c.args.reactor) (sym c.mirrored.ensures)
    (mirrored_sound c.args.reactor c.outward-outward.result
    (made_sound c.args.reactor c.args.dt c.args.points.now _ c.outward-outward.result c.requires.dt c.requires.points (omega (arith, at, c.requires.within)) is))

pub returns-else-k-lt0-clause-sound : goal.returns-else-k-lt0-clause-sound
returns-else-k-lt0-clause-sound c =
    let dt : FitsSigned w64 c.args.dt = c.ranges.dt in
    let k : FitsSigned w32 c.args.k = c.ranges.k in
    let at = simp to_z-of_z at c.unsigned_abs.ensures.value in
    let is = simp to_z-of_z at c.outward-outward.ensures in
    made_sound c.args.reactor c.args.dt c.args.points.now _ c.outward-outward.result c.requires.dt c.requires.points (omega (arith, at, c.requires.within)) is

pub returns-then-k-lt0-clause-value : goal.returns-then-k-lt0-clause-value
unfolding segment_of
returns-then-k-lt0-clause-value c = search rules

pub returns-else-k-lt0-clause-value : goal.returns-else-k-lt0-clause-value
unfolding segment_of
returns-else-k-lt0-clause-value c = search rules
