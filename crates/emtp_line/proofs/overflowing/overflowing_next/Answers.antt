use Rattle.std.proofs.Common.{◌≡◌, refl, ℤ, Some, FitsSigned, arith, rules}
use mir.Syntax.{w64, w128}
use Rattle.std.proofs.lemmas.Int.{ints, to_z-of_z}
use Rattle.emtp_line.specs.Line.{line_state}
use Rattle.emtp_line.specs.Wave.{end_of}
use Rattle.emtp_line.specs.declared.mode.Mode.{Mode}
use Rattle.emtp_line.proofs.overflowing.overflowing_next.Goals as goal

stepped : (m : Mode) (h : ℤ × ℤ) (v w i from j to : ℤ) → end_of m h.0 v ≡ Some (i, from) → end_of m h.1 w ≡ Some (j, to)
    → line_state m h v w ≡ Some (record { from_current = i; to_current = j; from_wave = from; to_wave = to })
unfolding line_state
stepped m h v w i from j to p q = rw (p, q) refl

pub returns-clause-value : goal.returns-clause-value
returns-clause-value c = λ none.
    let first = c.overflowing_end-to.ensures.overflow none in
    let waves = c.args.waves.now in
    let v : FitsSigned w64 c.args.v = c.ranges.v in
    let w : FitsSigned w64 c.args.w = c.ranges.w in
    let h : FitsSigned w128 waves.from_history = search rules in
    let k : FitsSigned w128 waves.to_history = search rules in
    let i : FitsSigned w64 c.overflowing_end-from.result.current = search rules in
    let from : FitsSigned w64 c.overflowing_end-from.result.wave = search rules in
    let j : FitsSigned w64 c.overflowing_end-to.result.current = search rules in
    let to : FitsSigned w64 c.overflowing_end-to.result.wave = search rules in
    let from_is = simp to_z-of_z at (c.overflowing_end-from.ensures.value first) in
    let to_is = simp to_z-of_z at (c.overflowing_end-to.ensures.value none) in
    simp to_z-of_z (stepped waves.mode (waves.from_history, waves.to_history) c.args.v c.args.w c.overflowing_end-from.result.current c.overflowing_end-from.result.wave c.overflowing_end-to.result.current c.overflowing_end-to.result.wave from_is to_is)

pub returns-clause-from : goal.returns-clause-from
returns-clause-from c = λ none. omega (arith, ints, c.overflowing_end-from.ensures.within (c.overflowing_end-to.ensures.overflow none))

pub returns-clause-to : goal.returns-clause-to
returns-clause-to c = λ none. omega (arith, ints, c.overflowing_end-to.ensures.within none)
