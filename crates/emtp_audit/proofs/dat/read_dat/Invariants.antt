use Rattle.std.proofs.Common.{◌≡◌, ◌+◌, ◌≤◌, ◌++◌, ◌∷◌, [], List, true, length}
use Rattle.emtp_comtrade.specs.Record.{joined}
use Rattle.emtp_audit.specs.Rules.{LineRule, lines_differ, audited_lines}
use Rattle.emtp_audit.specs.Dat.{scales_of, dat_rule}
use Rattle.emtp_audit.proofs.dat.read_dat.Given as goal

abbrev pub invariant-loop-sample : goal.invariant-loop-sample
invariant-loop-sample l = record {
  walks : (more : List LineRule) → lines_differ true 1 (joined l.sample (λ k. dat_rule l.case.parts l.samples.rows (scales_of l.cfg.scales.items l.cfg.multiplier) l.first k ∷ []) ++ more) (audited_lines l.bytes)
      ≡ lines_differ true (l.sample + 1) more (audited_lines l.rest);
  far : l.sample + length l.rest ≤ length l.bytes;
}
