use Rattle.std.proofs.Common.{◌∙◌, ap, length, subst}
use Rattle.emtp_machine.specs.Laws.{EndsWithin, SamplesBalance}
use Rattle.emtp_batch.specs.Report.{report_of}
use Rattle.emtp_batch.proofs.Batches.{after_one_more, after_some, fits_there, one_case_more, one_report_more, set_there}
use Rattle.emtp_batch.specs.declared.table.Row.{Row}
use Rattle.emtp_batch.proofs.report.batch.Goals as goal

pub set_times-requires-clause-count : goal.set_times-requires-clause-count
set_times-requires-clause-count c =
    let fits = fits_there c.args.case.now.parts c.loop-row.case.parts c.args.rows.now c.loop-row.row-index c.row-item.result c.requires c.loop-row.invariant.case_is c.loop-row-test.true in
    ap length (c.as_slice.ensures ∙ ap (λ (r : Row). r.times) c.row-item.is) ∙ fits.count_is

pub returns-in_err-run_case-clause-some : goal.returns-in_err-run_case-clause-some
returns-in_err-run_case-clause-some c =
    let is = set_there c.args.case.now.parts c.loop-row.case.parts c.set_times.new.self.parts c.args.rows.now c.loop-row.row-index c.row-item.result c.as_slice.result.now c.requires
    c.loop-row.invariant.case_is c.loop-row-test.true (c.as_slice.ensures ∙ ap (λ (r : Row). r.times) c.row-item.is) c.set_times.ensures in
    after_some c.from_residual-in_err-run_case.result c.args.case.now.parts c.set_times.new.self.parts c.args.rows.now c.loop-row.row-index c.row-item.result c.loop-row-test.true is

pub returns-in_err-push-clause-some : goal.returns-in_err-push-clause-some
returns-in_err-push-clause-some c =
    let is = set_there c.args.case.now.parts c.loop-row.case.parts c.set_times.new.self.parts c.args.rows.now c.loop-row.row-index c.row-item.result c.as_slice.result.now c.requires
    c.loop-row.invariant.case_is c.loop-row-test.true (c.as_slice.ensures ∙ ap (λ (r : Row). r.times) c.row-item.is) c.set_times.ensures in
    after_some c.from_residual-in_err-push.result c.args.case.now.parts c.set_times.new.self.parts c.args.rows.now c.loop-row.row-index c.row-item.result c.loop-row-test.true is

pub loop-row-preserved : goal.loop-row-preserved
loop-row-preserved c =
    let case = c.args.case.now.parts in
    let rows = c.args.rows.now in
    let at = c.loop-row.row-index in
    let within = c.loop-row-test.true in
    let is = set_there case c.loop-row.case.parts c.set_times.new.self.parts rows at c.row-item.result c.as_slice.result.now c.requires
    c.loop-row.invariant.case_is within (c.as_slice.ensures ∙ ap (λ (r : Row). r.times) c.row-item.is) c.set_times.ensures in
    let ran = c.in_ok-run_case.ensures {u = tt} in
    record {
      reports = one_report_more case rows at c.row-item.result c.loop-row.reports.items c.push.new.self.items c.in_ok-run_case.field-0 within c.loop-row.invariant.reports
          (ran.report ∙ ap report_of is) (c.in_ok-push.ensures {u = tt}).items;
      balance = one_case_more SamplesBalance case rows at c.row-item.result within c.loop-row.invariant.balance (subst SamplesBalance is ran.balance);
      names = one_case_more EndsWithin case rows at c.row-item.result within c.loop-row.invariant.names (subst EndsWithin is ran.names);
      case_is = after_one_more case c.set_times.new.self.parts rows at c.row-item.result within is;
    }
