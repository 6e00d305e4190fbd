-- Beside `Dat`: what values hold for their proofs, and what premises say. No clause of the program reaches it.
use Rattle.std.specs.Prelude.{◌≡◌, ◌≤◌, ℕ, ℤ, List, length, unsigned_abs, All}
use Rattle.emtp_comtrade.specs.Record.{analog_before}
use Rattle.emtp_audit.specs.declared.sample.Audited.{Audited}
use Rattle.emtp_audit.specs.declared.scale.Cfg.{Cfg}
use Rattle.emtp_audit.specs.declared.scale.Scale.{Scale}
use Rattle.emtp_audit.specs.Dat.{Scales, dat_rule, raw_rule_at, scales_of, state_rule_at}
use Rattle.emtp_audit.specs.Rules.{LineRule, Rule}
use Rattle.emtp_audit.specs.declared.limit.TheConstants.{LARGEST_SCALE, LARGEST_UNIT}

-- what a configuration tells that was read
abbrev pub told_by : Cfg → Scales
told_by cfg = scales_of cfg.scales.items cfg.multiplier

-- the numbers of a scale have limits
pub record IsScale (scale : Scale) : Type 0 where
  pub a : unsigned_abs scale.a ≤ LARGEST_SCALE
  pub b : unsigned_abs scale.b ≤ LARGEST_SCALE

-- ---- what the data is compared with

-- the samples are of the channels of the case, and each analog one has a scale
pub record IsAudited (audited : Audited) : Type 0 where
  pub channels : audited.samples.now.channels ≡ length audited.case.now.parts.channels
  pub count : length audited.cfg.now.scales.items ≡ analog_before audited.case.now.parts (length audited.case.now.parts.channels)
  pub scales : All IsScale audited.cfg.now.scales.items
  pub multiplier : unsigned_abs audited.cfg.now.multiplier ≤ LARGEST_UNIT

-- the line of a sample, where the first sample has this stamp
abbrev pub line_rule : Audited → ℤ → ℕ → LineRule
line_rule audited = dat_rule audited.case.now.parts audited.samples.now.rows (told_by audited.cfg.now)

-- the raw value of a sample at a place, and the state
abbrev pub raw_rules : Audited → ℕ → ℕ → List Rule
raw_rules audited = raw_rule_at audited.case.now.parts audited.samples.now.rows (told_by audited.cfg.now)

abbrev pub state_rules : Audited → ℕ → ℕ → List Rule
state_rules audited = state_rule_at audited.case.now.parts audited.samples.now.rows
