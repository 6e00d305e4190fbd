use Rattle.std.proofs.Common.{◌≡◌, ℕ, ◌+◌, ◌<◌, None, drop}
use Rattle.emtp_card.specs.Lines.{first_fault}
use Rattle.emtp_card.specs.held.Lines.{fault_at}
use Rattle.emtp_card.proofs.lines.line_fault.Given as goal

-- no byte so far has a fault, so the first fault of what is left is that of the line
abbrev pub invariant-loop-place : goal.invariant-loop-place
invariant-loop-place l = record {
  same : first_fault (l.place + 1) (drop l.place l.line) ≡ first_fault 1 l.line;
  before : (place : ℕ) → place < l.place → fault_at l.line place ≡ None;
}
