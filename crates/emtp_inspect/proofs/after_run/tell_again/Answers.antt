use Rattle.std.proofs.Common.{subst, List, ℕ, Err, Ok}
use Rattle.emtp_inspect.specs.AfterRun.{told_again}
use Rattle.emtp_run.specs.Outcome.{summarised}
use Rattle.emtp_run.specs.Words.{texts}
use Rattle.emtp_run.specs.held.Outcome.{EndsAfterReading}
use Rattle.emtp_inspect.proofs.after_run.tell_again.Goals as goal

pub returns-in-Ok : goal.returns-in-Ok
returns-in-Ok g c = record {
  between = g.C.Cabinet.state c.read_input.new.cabinet;
  held = Ok c.in-Ok.bytes;
  reading = c.in-Ok.ensures.reading;
  bytes = c.in-Ok.ensures.bytes;
  telling = subst (λ (bytes : List ℕ). EndsAfterReading c.leave_again.result (summarised (told_again c.args.status.now c.args.note.now (texts c.args.words.now) bytes)) (g.C.Cabinet.state c.read_input.new.cabinet) (g.C.Cabinet.state c.leave_again.new.cabinet)) c.deref.ensures.value c.leave_again.ensures;
}

pub returns-in-Err : goal.returns-in-Err
returns-in-Err g c = record {
  between = g.C.Cabinet.state c.read_input.new.cabinet;
  held = Err c.in-Err.end;
  reading = c.in-Err.ensures.reading;
  bytes = λ tells. tt;
  telling = c.leave_unread.ensures;
}
