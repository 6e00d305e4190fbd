use Rattle.std.proofs.Common.{◌≡◌, ◌≤◌, ◌^◌, ◌*ℤ◌, unsigned_abs, FitsSigned, arith, rules}
use mir.Syntax.{w64, w128}
use Rattle.std.proofs.lemmas.Int.{ints, to_z-of_z}
use Rattle.emtp_fix.specs.Rounding.{near}
use Rattle.emtp_fix.specs.declared.limit.TheConstants.{PICO}
use Rattle.emtp_line.proofs.wave.history.Goals as goal

record Parts (c : goal.After-returned) : Type 0 where
  far : c.attenuated.result ≡ near (c.args.mode.now.far_share *ℤ c.args.other) PICO
  near' : c.returned.result ≡ near (c.args.mode.now.near_share *ℤ c.args.own) PICO
  far_small : unsigned_abs c.attenuated.result ≤ 2 ^ 63
  near_small : unsigned_abs c.returned.result ≤ 2 ^ 63

parts : (c : goal.After-returned) → Parts c
parts c =
    let a : FitsSigned w64 c.args.mode.now.far_share = search rules in
    let b : FitsSigned w64 c.args.mode.now.near_share = search rules in
    let x : FitsSigned w64 c.args.other = c.ranges.other in
    let y : FitsSigned w64 c.args.own = c.ranges.own in
    let x' : FitsSigned w128 c.args.other = search rules in
    let y' : FitsSigned w128 c.args.own = search rules in
    let far = simp to_z-of_z at c.attenuated.ensures.bound in
    let near' = simp to_z-of_z at c.returned.ensures.bound in
    record {
      far = simp to_z-of_z at c.attenuated.ensures.value;
      near' = simp to_z-of_z at c.returned.ensures.value;
      far_small = omega (arith, ints, far);
      near_small = omega (arith, ints, near');
    }

pub overflow_sub-result-2 : goal.overflow_sub-result-2
overflow_sub-result-2 c = let p = parts c in omega (arith, ints, p.far_small, p.near_small)

pub returns-clause-value : goal.returns-clause-value
returns-clause-value c = let p = parts c in omega (arith, ints, p.far, p.near', p.far_small, p.near_small)

pub returns-clause-bound : goal.returns-clause-bound
returns-clause-bound c = let p = parts c in omega (arith, ints, p.far_small, p.near_small)

pub attenuated-requires-clause-share : goal.attenuated-requires-clause-share
attenuated-requires-clause-share c = omega (arith, ints, c.requires.far_share.least, c.requires.far_share.most)

pub returned-requires-clause-share : goal.returned-requires-clause-share
returned-requires-clause-share c = omega (arith, ints, c.requires.near_share.least, c.requires.near_share.most)

pub attenuated-requires-clause-x : goal.attenuated-requires-clause-x
attenuated-requires-clause-x c = omega (arith, ints)

pub returned-requires-clause-x : goal.returned-requires-clause-x
returned-requires-clause-x c = omega (arith, ints)

pub overflow_sub-result : goal.overflow_sub-result
overflow_sub-result c = omega (arith, ints, c.attenuated.ensures.bound)
