use Rattle.std.proofs.Common.{◌≡◌, ◌≤◌, length, take}
use Rattle.emtp_card.specs.Field.{without_trailing}
use Rattle.emtp_card.proofs.field.trim_end.Given as goal

-- what was cut off so far is blank
abbrev pub invariant-loop-end : goal.invariant-loop-end
invariant-loop-end l = record {
  within : l.end ≤ length l.text;
  same : without_trailing (take l.end l.text) ≡ without_trailing l.text;
}

abbrev pub decreases-loop-end : goal.decreases-loop-end
decreases-loop-end l = l.end
