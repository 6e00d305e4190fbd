use Rattle.std.proofs.Common.{length, pos, ◌<◌, ◌^◌, ◌-ℤ◌, ◌≡◌}
use Rattle.emtp_elim.specs.held.Row.{numbers}
use Rattle.emtp_elim.proofs.RightSides.{IsPartial}
use Rattle.emtp_elim.proofs.substitution.overflowing_reduced.Given as goal

abbrev pub invariant-loop-e : goal.invariant-loop-e
invariant-loop-e l = l.overflow ≡ 0 → l.seen < 2 ^ 60
    → (l.lifted < 2 ^ 60) × IsPartial l.fn.start (numbers (length l.above) l.row) l.above l.i l.columns l.row.first l.e l.row.pivot (pos l.lifted -ℤ pos (2 ^ 59))
