use Rattle.std.proofs.Common.{◌≡◌, ◌+◌, ◌*◌, ◌≤◌, ◌++◌, length}
use Rattle.emtp_comtrade.specs.declared.data.TheConstants.{STATE_ROOM}
use Rattle.emtp_comtrade.specs.Record.{joined, state_at}
use Rattle.emtp_comtrade.proofs.data.push_states.Given as goal

abbrev pub invariant-loop-place : goal.invariant-loop-place
invariant-loop-place l = record {
  text : l.text ≡ l.initial.text ++ joined l.place (state_at l.sheet.case.now.parts l.sheet.samples.now.rows l.sample);
  length : length l.text ≤ length l.initial.text + STATE_ROOM * l.place;
}
