use Rattle.std.proofs.Common.{◌∙◌, FitsSigned, arith, length-set, rules, w64}
use Rattle.std.proofs.lemmas.Int.{to_z-of_z}
use Rattle.emtp_case.specs.StepRecord.{latest}
use Rattle.emtp_machine.specs.Channels.{channel_value}
use Rattle.emtp_machine.proofs.Rows.{filled_all, filled_more}
use Rattle.emtp_machine.proofs.controlled.ControlledNetwork.fill_row.Goals as goal

pub returns-clause-row : goal.returns-clause-row
returns-clause-row c = λ H stands.
    filled_all (channel_value c.args.case.now.parts (latest H)) c.args.case.now.parts.channels c.loop-at.row (omega arith) (λ k below. c.loop-at.invariant.filled H stands k (omega arith))

pub loop-at-preserved : goal.loop-at-preserved
loop-at-preserved c =
    let before = c.loop-at.invariant in
    let fits : FitsSigned w64 c.value.result = search rules in
    record {
      width = length-set c.loop-at.row c.loop-at.at _ ∙ before.width;
      filled = λ H stands. filled_more (channel_value c.args.case.now.parts (latest H)) c.args.case.now.parts.channels c.loop-at.row c.loop-at.at _ _ (omega (arith, c.loop-at-test.true, before.width)) (omega (arith, c.loop-at-test.true, c.requires.width))
          (to_z-of_z w64 c.value.result fits ∙ rw c.as_slice.ensures at (c.value.ensures H stands)) (before.filled H stands);
    }

pub value-requires : goal.value-requires
value-requires c = record {
  case = c.requires.case;
  there = rw c.as_slice.ensures (c.args.case.now.fits.draft.channels c.loop-at.at _ (omega (arith, c.loop-at-test.true, c.requires.width)));
}

pub returns-clause-width : goal.returns-clause-width
returns-clause-width c = c.loop-at.invariant.width
