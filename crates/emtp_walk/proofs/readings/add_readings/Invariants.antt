use Rattle.std.proofs.Common.{◌≡◌, ◌+◌, ◌++◌, drop}
use Rattle.emtp_walk.specs.Readings.{readings_from, line_readings}
use Rattle.emtp_walk.specs.held.Sound.{IsSound}
use Rattle.emtp_walk.proofs.readings.add_readings.Given as goal

-- the readings so far and those of the lines that are left are all readings
abbrev pub invariant-loop-at : goal.invariant-loop-at
invariant-loop-at l = record {
  same : l.readings.items ++ readings_from (l.at + 1) l.deck l.place (drop l.at l.cards) ≡ line_readings l.cards;
  sound : IsSound l.deck l.place;
}
