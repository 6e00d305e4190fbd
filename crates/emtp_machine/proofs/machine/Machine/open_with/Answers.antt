use Rattle.std.proofs.Common.{◌∙◌, ◌*◌, ap, sym, [], ◌∷◌, length, ℕ}
use Rattle.emtp_case.specs.StepRecord.{rest_of}
use Rattle.emtp_machine.proofs.Machines.{starts, written}
use Rattle.emtp_machine.proofs.machine.Machine.open_with.Goals as goal

pub invariant_of-result : goal.invariant_of-result
invariant_of-result c =
    let case = c.args.case.now.parts in
    let row = c.in_ok-row.row in
    let width = c.take_sample.ensures.width ∙ ap length c.deref_mut.ensures.value in
    let room =
    c.in_ok-samples.ensures
    ∙ ap (λ (n : ℕ). record { rows = []; channels = n; room = c.samples.result; capacity = c.samples.result * n }) c.len-channels.ensures
    ∙ ap (λ (n : ℕ). record { rows = []; channels = length case.channels; room = n; capacity = n * length case.channels }) c.samples.ensures.value in
    let wide = width ∙ sym row.ok.0 ∙ c.in_ok-row.ensures.len ∙ c.len-channels.ensures in
    let whole = written c.take_sample.new.row row.items row.len (sym row.ok.0) width in
    let took = c.take_sample.ensures.samples (rest_of case ∷ []) c.in_ok-network.ensures.rest in
    let machine = starts case c.in_ok-network.network c.take_sample.new.row c.in_ok-samples.samples c.take_sample.new.samples c.in_ok-network.ensures.case c.in_ok-network.ensures.rest wide room took c.args.case.now.fits.draft.run.some_steps in
    rw whole machine
