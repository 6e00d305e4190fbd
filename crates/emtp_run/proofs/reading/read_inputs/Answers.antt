use Rattle.std.proofs.Common.{◌+◌, arith}
use Rattle.std.proofs.lemmas.Grind.{common_steps}
use Rattle.emtp_run.proofs.Contents.{read_more}
use Rattle.emtp_run.proofs.Readings.{reads-all, reads-more, reads-stopped, reads-wanting}
use Rattle.emtp_run.proofs.reading.read_inputs.Goals as goal

pub loop-input-preserved : goal.loop-input-preserved
loop-input-preserved g c =
    let was = c.loop-input.invariant in
    let told = rw was.reading.nature at c.in_ok-text.ensures.bytes in
    record {
      reading = reads-more c.args.inputs.now c.loop-input.input-index _ (g.C.Cabinet.state c.args.cabinet.now) (g.C.Cabinet.state c.loop-input.cabinet) (g.C.Cabinet.state c.read_input.new.cabinet) c.in_ok-text.text
          c.loop-input-test.true was.reading c.in_ok-text.ensures.reading;
      count = grind (arith, common_steps, was.count, c.in_ok-put.ensures.ok);
      texts = λ tells.
          read_more (g.C.Cabinet.state c.args.cabinet.now).nature.files c.args.inputs.now c.loop-input.input-index _ c.loop-input.texts.items c.put.new.texts.items c.in_ok-text.text
          c.loop-input-test.true (was.texts tells) (told tells) c.in_ok-put.ensures.ok;
    }

pub returns-in_err-text-clause-reading : goal.returns-in_err-text-clause-reading
returns-in_err-text-clause-reading g c =
    reads-stopped c.args.inputs.now c.loop-input.input-index _ (g.C.Cabinet.state c.args.cabinet.now) (g.C.Cabinet.state c.loop-input.cabinet) (g.C.Cabinet.state c.read_input.new.cabinet) c.in_err-text.field-0.0 c.from_residual.result
    c.loop-input-test.true c.from_residual.ensures.1 c.loop-input.invariant.reading c.in_err-text.ensures.reading

pub returns-in_err-put-clause-reading : goal.returns-in_err-put-clause-reading
returns-in_err-put-clause-reading g c =
    reads-wanting c.args.inputs.now (c.loop-input.input-index + 1) (g.C.Cabinet.state c.args.cabinet.now) (g.C.Cabinet.state c.read_input.new.cabinet) c.in_err-put.field-0.0 c.from_residual-in_err-put.result
    c.in_err-put.ensures.err c.from_residual-in_err-put.ensures.1
    (reads-more c.args.inputs.now c.loop-input.input-index _ (g.C.Cabinet.state c.args.cabinet.now) (g.C.Cabinet.state c.loop-input.cabinet) (g.C.Cabinet.state c.read_input.new.cabinet) c.in_ok-text.text
    c.loop-input-test.true c.loop-input.invariant.reading c.in_ok-text.ensures.reading)

pub returns-clause-reading : goal.returns-clause-reading
returns-clause-reading g c =
    reads-all c.args.inputs.now c.loop-input.input-index (g.C.Cabinet.state c.args.cabinet.now) (g.C.Cabinet.state c.loop-input.cabinet) c.loop-input.texts (omega arith) c.loop-input.invariant.reading
