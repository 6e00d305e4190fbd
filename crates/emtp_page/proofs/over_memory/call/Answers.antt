use Rattle.std.proofs.Common.{◌≡◌, refl, ap}
use Rattle.emtp_io.specs.Cabinet.{CabinetState}
use Rattle.emtp_io.specs.held.Memory.{memory_state}
use Rattle.emtp_page.specs.Calls.{fresh}
use Rattle.emtp_page.proofs.over_memory.call.Goals as goal

pub returns : goal.returns
returns c =
    -- the cabinet of these files, before the call
    let made : memory_state c.in_ok-cabinet.cabinet ≡ fresh c.args.files.items c.args.room = rw (c.in_ok-cabinet.ensures, c.new.ensures.items) refl in
    record {
      held = c.args.files.items;
      same = refl;
      new = memory_state c.emtp-status.new.cabinet;
      left = refl;
      said = rw (← made) (record {
        usage = c.emtp-status.ensures.usage;
        unopened = c.emtp-status.ensures.unopened;
        nature = c.emtp-status.ensures.nature;
        cause = c.emtp-status.ensures.cause;
        opened = c.emtp-status.ensures.opened;
        created = c.emtp-status.ensures.created;
        no_record = c.emtp-status.ensures.no_record;
        settles = c.emtp-status.ensures.outcome refl;
        taken = c.emtp-status.ensures.taken refl;
        residual = c.emtp-status.ensures.residual refl;
        early_end = c.emtp-status.ensures.early_end refl;
        complete = c.emtp-status.ensures.complete refl;
        calm = c.emtp-status.ensures.calm refl (ap (λ (s : CabinetState). s.nature.calm) made);
      });
    }
