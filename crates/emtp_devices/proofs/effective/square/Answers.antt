use Rattle.std.proofs.Common.{◌≡◌, ◌∙◌, FitsSigned, to_z, of_z, rules}
use mir.Syntax.{w64, w128}
use Rattle.std.proofs.lemmas.Int.{to_z-of_z}
use Rattle.emtp_devices.specs.Device.{square}
use Rattle.emtp_devices.proofs.Squares.{square-small}
use Rattle.emtp_devices.proofs.effective.square.Goals as goal

pub returns-clause-small : goal.returns-clause-small
returns-clause-small c =
    let s : FitsSigned w64 c.args.s = c.ranges.s in
    let s' : FitsSigned w128 c.args.s = search rules in
    let r : FitsSigned w128 c.scaled.result = search rules in
    let value = simp to_z-of_z at c.scaled.ensures.value in
    let is : to_z w128 (of_z w128 c.scaled.result) ≡ square c.args.s = to_z-of_z w128 c.scaled.result r ∙ value in
    rw is (square-small c.args.s c.requires)
