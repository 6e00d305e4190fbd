use Rattle.std.proofs.Common.{◌≡◌, ◌∙◌, ◌*ℤ◌, ap, pos, to_z, of_z, FitsSigned, arith, rules}
use mir.Syntax.{w64, w128}
use Rattle.std.proofs.lemmas.Int.{to_z-of_z}
use Rattle.emtp_fix.proofs.Wide.{through, through_64}
use Rattle.emtp_fix.specs.Root.{isqrt}
use Rattle.emtp_fix.specs.Rounding.{near}
use Rattle.emtp_fix.specs.declared.limit.TheConstants.{NANO}
use Rattle.emtp_devices.specs.Device.{sum_of_squares}
use Rattle.emtp_devices.proofs.Rings.{IsSum, ring-pushed, sum-is}
use Rattle.emtp_devices.proofs.effective.effective_value.Goals as goal

given : (c : goal.After-squares_after) → IsSum c.args.held.now c.args.s c.squares_after.result
given c =
    let s : to_z w64 (of_z w64 c.args.s) ≡ c.args.s = through_64 c.args.s c.requires.s in
    sum-is c.args.held.now c.args.s c.squares_after.result c.requires.held c.requires.s (rw s at c.squares_after.ensures)

pub mean-requires-clause-least : goal.mean-requires-clause-least
mean-requires-clause-least c = rw (through c.squares_after.result (omega (arith, (given c).small))) (given c).least

pub mean-requires-clause-most : goal.mean-requires-clause-most
mean-requires-clause-most c = rw (through c.squares_after.result (omega (arith, (given c).small))) (given c).most

pub returns : goal.returns
returns c = λ inputs past.
    let h = c.args.held.now in
    let s : to_z w64 (of_z w64 c.args.s) ≡ c.args.s = through_64 c.args.s c.requires.s in
    let sum = sum-is h c.args.s c.squares_after.result c.requires.held c.requires.s (rw s at c.squares_after.ensures) in
    let r : FitsSigned w128 c.isqrt.result = search rules in
    let m : FitsSigned w128 c.mean.result = search rules in
    let root = simp to_z-of_z at c.isqrt.ensures.value in
    let mean = rw (through c.squares_after.result (omega (arith, sum.small))) at c.mean.ensures.value in
    to_z-of_z w128 c.isqrt.result r ∙ root ∙ ap isqrt mean
    ∙ ap (λ z. isqrt (near z (pos h.depth) *ℤ NANO)) sum.is
    ∙ ap (λ xs. isqrt (near (sum_of_squares xs) (pos h.depth) *ℤ NANO)) (ring-pushed h c.args.s inputs c.requires.held past)
