use Rattle.std.specs.Prelude.{List}
use Rattle.std.proofs.Common.{sym, subst}
use Rattle.emtp_case.specs.held.Case.{IsCase}
use Rattle.emtp_case.specs.held.Sizes.{sizes_of}
use Rattle.emtp_case.specs.Switch.{with_times}
use Rattle.emtp_case.specs.declared.switch.Switch.{Switch}
use Rattle.emtp_case.proofs.SwitchTimes.{with_switches, with_times-fits, length-with_times}
use Rattle.emtp_case.proofs.case.Case.set_times.Goals as goal

pub invariant_of-self : goal.invariant_of-self
invariant_of-self c =
    let p = c.args.self.now.parts in
    let h = c.args.self.now.fits in
    let ss = with_times p.switches c.args.times.now in
    let draft = with_switches p ss h.draft (length-with_times p.switches c.args.times.now) (with_times-fits (sizes_of p) p.switches c.args.times.now h.draft.network.switches c.requires.small) in
    let fits : IsCase (record p { switches = ss }) = record { draft = draft; defined = h.defined } in
    record { fits = subst (λ (xs : List Switch). IsCase (record p { switches = xs })) (sym c.set_switch_times.ensures) fits }
