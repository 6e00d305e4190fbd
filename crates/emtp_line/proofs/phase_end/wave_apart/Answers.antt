use Rattle.std.proofs.Common.{◌≡◌, ◌-ℤ◌, FitsSigned, to_z, of_z, arith, rules}
use mir.Syntax.{w64, w128}
use Rattle.std.proofs.lemmas.Int.{ints, to_z-of_z}
use Rattle.emtp_line.proofs.phase_end.wave_apart.Goals as goal

pub returns : goal.returns
returns c =
    let v : to_z w128 (of_z w128 (to_z w128 (of_z w128 (to_z w64 (of_z w64 c.args.v))) -ℤ to_z w128 (of_z w128 c.args.v_mean))) ≡ c.args.v -ℤ c.args.v_mean = omega (arith, ints, c.requires.v_mean) in
    let i : to_z w128 (of_z w128 (to_z w128 (of_z w128 c.args.i) -ℤ to_z w128 (of_z w128 c.args.i_mean))) ≡ c.args.i -ℤ c.args.i_mean = omega (arith, ints, c.requires.i, c.requires.i_mean) in
    let r : FitsSigned w128 c.wave.result = search rules in
    let is = rw (v, i) at c.wave.ensures.value in
    rw (to_z-of_z w128 c.wave.result r) is
