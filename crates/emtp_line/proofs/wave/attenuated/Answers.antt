use Rattle.std.proofs.Common.{◌≡◌, ◌∙◌, ap, ◌^◌, ◌*ℤ◌, ℤ, FitsSigned, arith}
use mir.Syntax.{w64, w128}
use Rattle.std.proofs.lemmas.Int.{ints, to_z-of_z}
use Rattle.emtp_fix.specs.Rounding.{near}
use Rattle.emtp_fix.specs.declared.limit.TheConstants.{PICO}
use Rattle.emtp_fix.proofs.Quotients.{near-exact}
use Rattle.emtp_line.proofs.wave.attenuated.Goals as goal

pub returns-then-share-eq-WHOLE-clause-value : goal.returns-then-share-eq-WHOLE-clause-value
returns-then-share-eq-WHOLE-clause-value c =
    let whole : c.args.share ≡ PICO = omega (arith, ints, c.if-share-eq-WHOLE.true) in
    let turned : PICO *ℤ c.args.x ≡ c.args.x *ℤ PICO = omega (arith, ints) in
    let is : near (c.args.share *ℤ c.args.x) PICO ≡ c.args.x = ap (λ (z : ℤ). near (z *ℤ c.args.x) PICO) whole ∙ ap (λ (z : ℤ). near z PICO) turned ∙ near-exact c.args.x (10 ^ 12) (omega arith) in
    omega (arith, ints, is, c.requires.x)

pub returns-then-share-eq-WHOLE-clause-bound : goal.returns-then-share-eq-WHOLE-clause-bound
returns-then-share-eq-WHOLE-clause-bound c = omega (arith, ints, c.requires.x)

pub returns-else-share-eq-WHOLE-clause-value : goal.returns-else-share-eq-WHOLE-clause-value
returns-else-share-eq-WHOLE-clause-value c =
    let share : FitsSigned w64 c.args.share = c.ranges.share in
    let x : FitsSigned w128 c.args.x = c.ranges.x in
    let is = simp to_z-of_z at c.part.ensures.value in
    omega (arith, ints, c.part.ensures.bound, c.requires.x) ∙ is

pub returns-else-share-eq-WHOLE-clause-bound : goal.returns-else-share-eq-WHOLE-clause-bound
returns-else-share-eq-WHOLE-clause-bound c = omega (arith, ints, c.part.ensures.bound, c.requires.x)
