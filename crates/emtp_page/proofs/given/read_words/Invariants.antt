use Rattle.std.proofs.Common.{◌≡◌, ◌≤◌, ◌++◌, All, length}
use Rattle.std.specs.Str.{IsUtf8}
use Rattle.emtp_card.specs.Lines.{lines_of}
use Rattle.emtp_run.specs.Words.{texts}
use Rattle.emtp_page.proofs.given.read_words.Given as goal

-- the words so far and the lines of what is left are all lines
abbrev pub invariant-loop-line : goal.invariant-loop-line
invariant-loop-line l = record {
  lines : texts l.words.items ++ lines_of l.rest ≡ lines_of l.text;
  left : All IsUtf8 (lines_of l.rest);
  short : length l.rest ≤ length l.text;
}

abbrev pub decreases-loop-line : goal.decreases-loop-line
decreases-loop-line l = length l.rest
