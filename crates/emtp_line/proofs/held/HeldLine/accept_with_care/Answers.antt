use Rattle.std.proofs.Common.{sym, FitsSigned, rules}
use mir.Syntax.{w64}
use Rattle.std.proofs.lemmas.Int.{to_z-of_z}
use Rattle.emtp_line.specs.Line.{from_waves, to_waves}
use Rattle.emtp_line.proofs.held.HeldLine.accept_with_care.Goals as goal

pub returns-in-Some-clause-moved : goal.returns-in-Some-clause-moved
returns-in-Some-clause-moved c = λ past stands.
    let s = c.in-Some.state in
    let i : FitsSigned w64 s.from_current = search rules in
    let value = rw (to_z-of_z w64 c.args.v c.ranges.v, to_z-of_z w64 c.args.w c.ranges.w, stands.waves.from_history, stands.waves.to_history) at c.in-Some.ensures.value in
    record {
      state = s;
      is = sym value;
      current = to_z-of_z w64 s.from_current i;
      stands = record { from_current = c.push.ensures.from; to_current = c.push.ensures.to; waves = c.push.ensures.waves (from_waves past) (to_waves past) stands.waves };
    }

pub returns-in-None-clause-out : goal.returns-in-None-clause-out
returns-in-None-clause-out c = λ past stands.
    sym (rw (to_z-of_z w64 c.args.v c.ranges.v, to_z-of_z w64 c.args.w c.ranges.w, stands.waves.from_history, stands.waves.to_history) at c.in-None.ensures.value)
