use Rattle.std.proofs.Common.{◌≡◌, ◌++◌, drop}
use Rattle.emtp_warnings.specs.WarningText.{warnings_text}
use Rattle.emtp_warnings.proofs.text.warnings_text.Given as goal

-- the lines so far and those of the warnings that are left are all lines
abbrev pub invariant-loop-warning : goal.invariant-loop-warning
invariant-loop-warning l = l.text.items ++ warnings_text l.readings l.cards (drop l.warning-index l.found) ≡ warnings_text l.readings l.cards l.found
