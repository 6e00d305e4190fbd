use Rattle.std.proofs.Common.{FitsSigned, ◌≡◌, ◌*ℤ◌, ap, unsigned_abs, arith, rules}
use mir.Syntax.{w64}
use Rattle.std.proofs.lemmas.Int.{ints, to_z-of_z}
use Rattle.emtp_fix.proofs.Wide.{abs-add-le}
use Rattle.emtp_wave.proofs.wave.phase_at.Goals as goal

pub returns-clause-value : goal.returns-clause-value
returns-clause-value c = search rules

pub returns-clause-bound : goal.returns-clause-bound
returns-clause-bound c =
    let f : FitsSigned w64 c.args.freq = c.ranges.freq in
    let t : FitsSigned w64 c.args.t = c.ranges.t in
    let turns : c.turns.result ≡ c.args.freq *ℤ c.args.t = simp to_z-of_z at c.turns.ensures.value in
    rw (returns-clause-value c) (omega (arith, ints, abs-add-le (c.args.freq *ℤ c.args.t) c.args.phase, ap unsigned_abs turns, c.turns.ensures.bound, c.requires.phase.least, c.requires.phase.most))
