use Rattle.std.proofs.Common.{◌≡◌, ◌∙◌, ap, to_z, of_z, FitsSigned, arith, rules}
use mir.Syntax.{w64, w128}
use Rattle.std.proofs.lemmas.Int.{to_z-of_z}
use Rattle.emtp_fix.proofs.Wide.{through, through_64}
use Rattle.emtp_devices.specs.Device.{square}
use Rattle.emtp_devices.proofs.Rings.{sum-after, sum-is, sum-small}
use Rattle.emtp_devices.proofs.effective.squares_after.Goals as goal

pub exchanged-requires-clause-sum : goal.exchanged-requires-clause-sum
exchanged-requires-clause-sum c =
    let h = c.args.held.now in
    let small = sum-small h c.requires.held c.requires.sum in
    rw (through h.squares (omega (arith, small))) small

pub returns : goal.returns
returns c =
    let h = c.args.held.now in
    let small = sum-small h c.requires.held c.requires.sum in
    let sum : to_z w128 (of_z w128 h.squares) ≡ h.squares = through h.squares (omega (arith, small)) in
    let comes : to_z w128 (of_z w128 c.square.result) ≡ c.square.result = through c.square.result (omega (arith, c.square.ensures.small)) in
    let goes : to_z w128 (of_z w128 c.square-2.result) ≡ c.square-2.result = through c.square-2.result (omega (arith, c.square-2.ensures.small)) in
    let s : to_z w64 (of_z w64 c.args.s) ≡ c.args.s = through_64 c.args.s c.requires.s in
    let b : FitsSigned w64 c.back-oldest.result = search rules in
    let oldest : to_z w64 (of_z w64 c.back-oldest.result) ≡ c.back-oldest.result = to_z-of_z w64 c.back-oldest.result b in
    let gone = (rw oldest at c.square-2.ensures.value) ∙ ap square (c.back-oldest.ensures h.inputs.values c.requires.held.itself) in
    let come = rw s at c.square.ensures.value in
    let moved = rw (sum, comes, goes, come, gone) at c.exchanged.ensures in
    let value = sum-after h c.args.s c.exchanged.result c.requires.held c.requires.sum moved in
    let is = sum-is h c.args.s c.exchanged.result c.requires.held c.requires.s value in
    rw (through c.exchanged.result (omega (arith, is.small))) value
