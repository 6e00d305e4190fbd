use Rattle.std.proofs.Common.{rules}
use Rattle.emtp_machine.specs.History.{history}
use Rattle.emtp_run.proofs.Recording.{record-made, stopped-in-cfg, stopped-in-dat}
use Rattle.emtp_run.specs.held.Words.{files_of}
use Rattle.emtp_run.proofs.outputs.make_record.Goals as goal

pub returns-in_err-make_cfg : goal.returns-in_err-make_cfg
returns-in_err-make_cfg g c =
    stopped-in-cfg (files_of c.args.words) c.args.case.now.parts (history c.args.case.now.parts) c.args.results.samples.now.rows
    c.from_residual.result c.from_residual.ensures.0 c.requires.samples c.in_err-make_cfg.ensures

pub returns-in_err-make_dat : goal.returns-in_err-make_dat
returns-in_err-make_dat g c =
    stopped-in-dat (files_of c.args.words) c.args.case.now.parts (history c.args.case.now.parts) c.args.results.samples.now.rows
    c.from_residual-in_err-make_dat.result c.from_residual-in_err-make_dat.ensures.0 c.requires.samples c.in_ok-make_cfg.ensures c.in_err-make_dat.ensures

pub returns : goal.returns
returns g c =
    record-made (files_of c.args.words) c.args.case.now.parts (history c.args.case.now.parts) c.args.results.samples.now.rows c.as_slice.result.now
    c.requires.samples (search rules) c.in_ok-make_cfg.ensures c.in_ok-make_dat.ensures c.make_note.ensures
