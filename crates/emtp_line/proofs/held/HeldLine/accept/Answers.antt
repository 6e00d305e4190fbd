use Rattle.std.proofs.Common.{FitsSigned, rules}
use mir.Syntax.{w64}
use Rattle.std.proofs.lemmas.Int.{to_z-of_z}
use Rattle.emtp_line.specs.Line.{from_waves, to_waves}
use Rattle.emtp_line.proofs.held.HeldLine.accept.Goals as goal

pub returns-clause-moved : goal.returns-clause-moved
returns-clause-moved c = λ past stands.
    let none = c.if-next-ne0.false in
    let s = c.overflowing_next-next.result.state in
    let i : FitsSigned w64 s.from_current = search rules in
    let value = rw (to_z-of_z w64 c.args.v c.ranges.v, to_z-of_z w64 c.args.w c.ranges.w, stands.waves.from_history, stands.waves.to_history) at (c.overflowing_next-next.ensures.value none) in
    record {
      state = s;
      is = value;
      current = to_z-of_z w64 s.from_current i;
      stands = record { from_current = c.push.ensures.from; to_current = c.push.ensures.to; waves = c.push.ensures.waves (from_waves past) (to_waves past) stands.waves };
    }

pub returns-then-next-ne0-clause-moved : goal.returns-then-next-ne0-clause-moved
returns-then-next-ne0-clause-moved c = λ past stands.
    rw (to_z-of_z w64 c.args.v c.ranges.v, to_z-of_z w64 c.args.w c.ranges.w) at (c.accept_with_care.ensures.moved past stands)
