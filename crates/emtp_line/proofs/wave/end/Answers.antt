use Rattle.std.proofs.Common.{◌≡◌, ◌∙◌, ap, refl, ℤ, Some, FitsSigned, arith, rules}
use mir.Syntax.{w64, w128}
use Rattle.std.proofs.lemmas.Int.{ints, to_z-of_z}
use Rattle.emtp_fix.specs.Limit.{in_range}
use Rattle.emtp_line.specs.Wave.{current_of, wave_of, end_of}
use Rattle.emtp_line.specs.declared.mode.Mode.{Mode}
use Rattle.emtp_line.proofs.wave.end.Goals as goal

ended : (m : Mode) (h v i w : ℤ) → Some i ≡ in_range (current_of m h v) → Some w ≡ in_range (wave_of m v i) → Some (i, w) ≡ end_of m h v
unfolding end_of
ended m h v i w p q = rw (← p, ← q) refl

pub returns-clause-value : goal.returns-clause-value
returns-clause-value c =
    let m = c.args.mode.now in
    let i = c.in_ok-current.current in
    let w = c.in_ok-wave.wave in
    let g : FitsSigned w64 m.conductance = search rules in
    let a : FitsSigned w64 m.attenuation = search rules in
    let v : FitsSigned w64 c.args.v = c.ranges.v in
    let v' : FitsSigned w128 c.args.v = search rules in
    let h : FitsSigned w128 c.args.history = c.ranges.history in
    let d : FitsSigned w128 c.driven-driven.result = search rules in
    let s : FitsSigned w128 c.sum.result = search rules in
    let i' : FitsSigned w64 i = search rules in
    let i'' : FitsSigned w128 i = search rules in
    let p : FitsSigned w128 c.attenuated.result = search rules in
    let s' : FitsSigned w128 c.sum-2.result = search rules in
    let w' : FitsSigned w64 w = search rules in
    let driven = simp to_z-of_z at c.driven-driven.ensures.value in
    let part = simp to_z-of_z at c.attenuated.ensures.value in
    let current = simp to_z-of_z at c.sum.ensures.value in
    let wave = simp to_z-of_z at c.sum-2.ensures.value in
    let in_current = simp to_z-of_z at c.in_ok-current.ensures.value in
    let in_wave = simp to_z-of_z at c.in_ok-wave.ensures.value in
    rw (to_z-of_z w64 i i', to_z-of_z w64 w w') (ended m c.args.history c.args.v i w (in_current ∙ ap in_range (rw driven at current)) (in_wave ∙ ap in_range (rw (driven, part) at wave)))

pub driven-driven-requires-clause-g : goal.driven-driven-requires-clause-g
driven-driven-requires-clause-g c = omega (arith, ints, c.requires.mode.conductance.least, c.requires.mode.conductance.most)

pub driven-driven-requires-clause-v : goal.driven-driven-requires-clause-v
driven-driven-requires-clause-v c = omega (arith, ints)

pub sum-requires-clause-x : goal.sum-requires-clause-x
sum-requires-clause-x c = omega (arith, ints, c.driven-driven.ensures.bound)

pub sum-requires-clause-y : goal.sum-requires-clause-y
sum-requires-clause-y c = omega (arith, ints, c.requires.history)

pub attenuated-requires-clause-share : goal.attenuated-requires-clause-share
attenuated-requires-clause-share c = omega (arith, ints, c.requires.mode.attenuation)

pub attenuated-requires-clause-x : goal.attenuated-requires-clause-x
attenuated-requires-clause-x c = omega (arith, ints, c.in_ok-current.ensures.bound)

pub sum-requires-2-clause-x : goal.sum-requires-2-clause-x
sum-requires-2-clause-x c = omega (arith, ints, c.driven-driven.ensures.bound)

pub sum-requires-2-clause-y : goal.sum-requires-2-clause-y
sum-requires-2-clause-y c = omega (arith, ints, c.attenuated.ensures.bound, c.in_ok-current.ensures.bound)

pub returns-in_err-current-clause-value : goal.returns-in_err-current-clause-value
unfolding end_of
returns-in_err-current-clause-value c = search rules

pub returns-in_err-current-clause-current : goal.returns-in_err-current-clause-current
returns-in_err-current-clause-current c = rw c.from_residual.ensures tt

pub returns-in_err-wave-clause-value : goal.returns-in_err-wave-clause-value
unfolding end_of
returns-in_err-wave-clause-value c = search rules

pub returns-in_err-wave-clause-current : goal.returns-in_err-wave-clause-current
returns-in_err-wave-clause-current c = rw c.from_residual-in_err-wave.ensures tt

pub returns-clause-current : goal.returns-clause-current
returns-clause-current c = omega (arith, ints, c.in_ok-current.ensures.bound)
