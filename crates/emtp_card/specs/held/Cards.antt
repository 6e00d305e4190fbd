-- Beside `Cards`: what values hold for their proofs, and what premises say. No clause of the program reaches it.
use Rattle.std.specs.Prelude.{ℕ, ◌≤◌, List, length, All}
use Rattle.std.specs.Borrow.{Bor}
use Rattle.emtp_card.specs.declared.cards.TheConstants.{MAX_LINES, MAX_BYTES}

-- the lines that are held: at most so many, none longer than a case may be
pub record AreInSize (lines : List (Bor (List ℕ))) : Type 0 where
  pub few : length lines ≤ MAX_LINES
  pub short : All (λ (line : Bor (List ℕ)). length line.now ≤ MAX_BYTES) lines
