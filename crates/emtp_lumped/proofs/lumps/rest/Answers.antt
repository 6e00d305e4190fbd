use Rattle.std.proofs.Common.{sym, subst, FitsSigned, rules}
use mir.Syntax.{w64}
use Rattle.std.proofs.lemmas.Int.{to_z-of_z}
use Rattle.emtp_lumped.specs.held.Companion.{IsCompanion}
use Rattle.emtp_lumped.specs.held.Lumps.{HasNumbers}
use Rattle.emtp_lumped.proofs.Bounds.{companion-fits}
use Rattle.emtp_lumped.proofs.lumps.rest.Goals as goal

pub at_rest-requires : goal.at_rest-requires
at_rest-requires c =
    let dt : FitsSigned w64 c.args.run.now.dt = search rules in
    let is = simp to_z-of_z at c.of.ensures in
    subst IsCompanion (sym is) (companion-fits c.args.run.now.dt c.in-Lumped.b c.requires.run.dt (subst (HasNumbers c.args.run.now.dt) c.in-Lumped.is c.requires.branch))
