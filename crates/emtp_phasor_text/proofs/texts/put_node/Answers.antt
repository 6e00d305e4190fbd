use Rattle.std.proofs.Common.{FitsSigned, rules}
use mir.Syntax.{w64}
use Rattle.std.proofs.lemmas.Int.{to_z-of_z}
use Rattle.emtp_phasor_text.specs.Texts.{node_line}
use Rattle.emtp_phasor_text.proofs.Pieces.{at_last, one_more}
use Rattle.emtp_phasor_text.proofs.texts.put_node.Goals as goal

pub returns : goal.returns
unfolding node_line
returns c =
    let old = c.args.text.now.items in
    let re : FitsSigned w64 c.args.v.re = search rules in
    let im : FitsSigned w64 c.args.v.im = search rules in
    let name = rw c.as_slice.ensures.bytes at c.in_ok-put-2.ensures in
    let first = rw (to_z-of_z w64 c.args.v.re re) at c.in_ok-put_fixed.ensures in
    let second = rw (to_z-of_z w64 c.args.v.im im) at c.in_ok-put_fixed-2.ensures in
    let one = one_more old _ _ _ _ c.in_ok-put.ensures name in
    let two = one_more old _ _ _ _ one c.in_ok-put-3.ensures in
    let three = one_more old _ _ _ _ two first in
    let four = one_more old _ _ _ _ three c.in_ok-put-4.ensures in
    let five = one_more old _ _ _ _ four second in
    at_last c.put-5.result old _ _ _ _ five c.put-5.ensures
