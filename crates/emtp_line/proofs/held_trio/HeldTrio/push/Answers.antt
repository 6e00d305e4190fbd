use Rattle.std.proofs.Common.{FitsSigned, rules}
use mir.Syntax.{w64}
use Rattle.std.proofs.lemmas.Int.{to_z-of_z}
use Rattle.emtp_line.specs.held.Held.{state_at}
use Rattle.emtp_line.specs.Phases.{zero_from_waves, zero_to_waves}
use Rattle.emtp_line.proofs.Trios.{phase_pushed}
use Rattle.emtp_line.proofs.held_trio.HeldTrio.push.Goals as goal

pub returns-clause-stands : goal.returns-clause-stands
returns-clause-stands c = λ past stands.
    let states = c.args.states.now in
    let self = c.args.self.now in
    let from : FitsSigned w64 (state_at states 0).from_zero_wave = search rules in
    let to : FitsSigned w64 (state_at states 0).to_zero_wave = search rules in
    record {
      zero_sequence = simp to_z-of_z at c.push.ensures.stands (zero_from_waves (past 0)) (zero_to_waves (past 0)) stands.zero_sequence;
      first = phase_pushed self.first c.push-2.new.self c.positive_part.result (state_at states 0) (past 0) c.positive_part.ensures c.push-2.ensures.from c.push-2.ensures.to c.push-2.ensures.waves stands.first;
      second = phase_pushed self.second c.push-3.new.self c.positive_part-2.result (state_at states 1) (past 1) c.positive_part-2.ensures c.push-3.ensures.from c.push-3.ensures.to c.push-3.ensures.waves stands.second;
      third = phase_pushed self.third c.push-4.new.self c.positive_part-3.result (state_at states 2) (past 2) c.positive_part-3.ensures c.push-4.ensures.from c.push-4.ensures.to c.push-4.ensures.waves stands.third;
    }

pub push-requires-2-clause-held : goal.push-requires-2-clause-held
push-requires-2-clause-held c = c.requires.held.first

pub push-requires-2-clause-from : goal.push-requires-2-clause-from
push-requires-2-clause-from c = rw c.positive_part.ensures c.requires.small.first.from_current

pub push-requires-2-clause-to : goal.push-requires-2-clause-to
push-requires-2-clause-to c = rw c.positive_part.ensures c.requires.small.first.to_current

pub push-requires-3-clause-held : goal.push-requires-3-clause-held
push-requires-3-clause-held c = c.requires.held.second

pub push-requires-3-clause-from : goal.push-requires-3-clause-from
push-requires-3-clause-from c = rw c.positive_part-2.ensures c.requires.small.second.from_current

pub push-requires-3-clause-to : goal.push-requires-3-clause-to
push-requires-3-clause-to c = rw c.positive_part-2.ensures c.requires.small.second.to_current

pub push-requires-4-clause-held : goal.push-requires-4-clause-held
push-requires-4-clause-held c = c.requires.held.third

pub push-requires-4-clause-from : goal.push-requires-4-clause-from
push-requires-4-clause-from c = rw c.positive_part-3.ensures c.requires.small.third.from_current

pub push-requires-4-clause-to : goal.push-requires-4-clause-to
push-requires-4-clause-to c = rw c.positive_part-3.ensures c.requires.small.third.to_current
