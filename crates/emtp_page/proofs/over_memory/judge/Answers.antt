use Rattle.std.proofs.Common.{◌≡◌, refl, subst}
use Rattle.emtp_io.specs.Cabinet.{CabinetState}
use Rattle.emtp_io.specs.held.Memory.{memory_state}
use Rattle.emtp_page.specs.Calls.{fresh, JudgesRun}
use Rattle.emtp_run.specs.Words.{texts}
use Rattle.emtp_page.proofs.over_memory.judge.Goals as goal

pub returns : goal.returns
returns c =
    let new = memory_state c.assess-status.new.cabinet in
    -- the cabinet of these files, before the call
    let made : memory_state c.in_ok-cabinet.cabinet ≡ fresh c.args.files.items c.args.room = rw (c.in_ok-cabinet.ensures, c.new.ensures.items) refl in
    record {
      held = c.args.files.items;
      same = refl;
      new = new;
      left = refl;
      said = subst (λ (old : CabinetState). JudgesRun (texts c.args.words.now) c.assess-status.result old new) made c.assess-status.ensures;
    }
