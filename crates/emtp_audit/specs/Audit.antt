-- Whether two files are the record of a case.
use Rattle.std.specs.Prelude.{ℤ, List, ℕ, length, Option}
use Rattle.emtp_case.specs.declared.case.Parts.{Parts}
use Rattle.emtp_audit.specs.declared.differs.Differs.{Differs}
use Rattle.emtp_audit.specs.Rules.{differs_or_later}
use Rattle.emtp_audit.specs.Cfg.{cfg_differs, scales_in}
use Rattle.emtp_audit.specs.Dat.{dat_differs}

-- the first difference of the two files of a record, by the samples of a case: the configuration is judged before the data
unfoldable pub audit_differs : Parts → List (List ℤ) → List ℕ → List ℕ → Option Differs
audit_differs p rows cfg dat = differs_or_later (cfg_differs p (length rows) cfg) (dat_differs p rows (scales_in p cfg) dat)
