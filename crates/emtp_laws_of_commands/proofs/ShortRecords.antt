-- The two files of a record are no longer than an audit reads.
use Rattle.std.proofs.Common.{◌≤◌, length, arith}
use Rattle.emtp_audit.proofs.AuditSame.{are-held, are-small, few-rows, few-values, unit_of}
use Rattle.emtp_audit.proofs.CfgShort.{cfg_text-short}
use Rattle.emtp_audit.proofs.DatFile.{dat_text-short}
use Rattle.emtp_case.specs.held.Case.{IsCase}
use Rattle.emtp_case.specs.declared.case.Parts.{Parts}
use Rattle.emtp_comtrade.specs.Record.{cfg_text, dat_text}
use Rattle.emtp_machine.proofs.RecordRanges.{samples_in_range}
use Rattle.emtp_machine.specs.History.{history, samples}
use Rattle.emtp_run.specs.declared.reading.TheConstants.{RECORD_BOUND}

pub cfg_short : (p : Parts) → IsCase p → length (cfg_text p (samples p (history p))) ≤ RECORD_BOUND
cfg_short p is =
    let rows = samples p (history p) in
    let range = samples_in_range p is in
    let u = unit_of p is in
    omega (arith, cfg_text-short p rows u.unit is (are-small p rows range) u.is (few-rows p rows is range) u.most)

pub dat_short : (p : Parts) → IsCase p → length (dat_text p (samples p (history p))) ≤ RECORD_BOUND
dat_short p is =
    let rows = samples p (history p) in
    let range = samples_in_range p is in
    omega (arith, dat_text-short p rows (are-held p rows range) (few-rows p rows is range) (few-values p rows is range))
