use Rattle.std.proofs.Common.{◌≡◌, ◌∙◌, ap, sym, ◌*ℤ◌, pos, ℤ, FitsSigned, arith}
use mir.Syntax.{w64, w128}
use Rattle.std.proofs.lemmas.Int.{ints, to_z-of_z}
use Rattle.emtp_fix.specs.Rounding.{near}
use Rattle.emtp_fix.specs.declared.limit.TheConstants.{PICO}
use Rattle.emtp_fix.proofs.Quotients.{near-zero_times}
use Rattle.emtp_line.proofs.wave.returned.Goals as goal

pub returns-then-share-eq0-clause-value : goal.returns-then-share-eq0-clause-value
returns-then-share-eq0-clause-value c =
    let zero' : c.args.share ≡ pos 0 = omega (arith, ints, c.if-share-eq0.true) in
    sym (ap (λ (z : ℤ). near (z *ℤ c.args.x) PICO) zero' ∙ near-zero_times c.args.x PICO)

pub returns-else-share-eq0-clause-value : goal.returns-else-share-eq0-clause-value
returns-else-share-eq0-clause-value c =
    let share : FitsSigned w64 c.args.share = c.ranges.share in
    let x : FitsSigned w128 c.args.x = c.ranges.x in
    let is = simp to_z-of_z at c.part.ensures.value in
    omega (arith, ints, c.part.ensures.bound, c.requires.x) ∙ is

pub returns-else-share-eq0-clause-bound : goal.returns-else-share-eq0-clause-bound
returns-else-share-eq0-clause-bound c = omega (arith, ints, c.part.ensures.bound, c.requires.x)
