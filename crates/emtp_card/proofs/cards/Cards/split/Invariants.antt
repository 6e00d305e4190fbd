use Rattle.std.proofs.Common.{◌≡◌, ◌≤◌, ◌++◌, ℕ, List, length, map, All}
use Rattle.std.specs.Borrow.{Bor}
use Rattle.emtp_card.specs.Lines.{lines_of}
use Rattle.emtp_card.specs.declared.cards.TheConstants.{MAX_LINES}
use Rattle.emtp_card.proofs.cards.Cards.split.Given as goal

-- the lines so far and those of what is left are all lines
abbrev pub invariant-loop-line : goal.invariant-loop-line
invariant-loop-line l = record {
  lines : map (λ (line : Bor (List ℕ)). line.now) l.lines.items ++ lines_of l.rest ≡ lines_of l.bytes;
  few : length l.lines.items ≤ MAX_LINES;
  left : length l.rest ≤ length l.bytes;
  short : All (λ (line : Bor (List ℕ)). length line.now ≤ length l.bytes) l.lines.items;
}

abbrev pub decreases-loop-line : goal.decreases-loop-line
decreases-loop-line l = length l.rest
