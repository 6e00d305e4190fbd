use Rattle.std.proofs.Common.{refl, subst, List, ℕ, Err, Ok}
use Rattle.emtp_inspect.specs.Showing.{told_outcome}
use Rattle.emtp_run.specs.held.Outcome.{EndsAfterReading}
use Rattle.emtp_inspect.proofs.showing.show.Goals as goal

pub returns-in-Ok : goal.returns-in-Ok
returns-in-Ok g c = record {
  between = g.C.Cabinet.state c.read_input.new.cabinet;
  end = Ok c.in-Ok.bytes;
  reading = rw c.text_file.ensures at c.in-Ok.ensures.reading;
  bytes = rw c.text_file.ensures at c.in-Ok.ensures.bytes;
  telling = subst (λ (bytes : List ℕ). EndsAfterReading c.leave.result (told_outcome (g.T.Teller.told c.args.teller.now bytes)) (g.C.Cabinet.state c.read_input.new.cabinet) (g.C.Cabinet.state c.leave.new.cabinet)) c.deref.ensures.value c.leave.ensures;
}

pub returns-in-Err : goal.returns-in-Err
returns-in-Err g c = record {
  between = g.C.Cabinet.state c.read_input.new.cabinet;
  end = Err c.in-Err.end;
  reading = rw c.text_file.ensures at c.in-Err.ensures.reading;
  bytes = λ tells. tt;
  telling = (c.unread_status.ensures, refl);
}
