-- Beside `RunCards`: what values hold for their proofs, and what premises say. No clause of the program reaches it.
use Rattle.emtp_case.specs.declared.limit.TheConstants.{LARGEST_TIME_STEP, LEAST_TIME_STEP}
use Rattle.std.specs.Prelude.{ℕ, ◌≤◌, ◌^◌, pos, List, Result, Ok, Err}
use Rattle.emtp_card.specs.held.Number.{IsWithin}
use Rattle.emtp_card.specs.declared.reason.Bad.{Bad}
use Rattle.emtp_case.specs.declared.run_data.RunData.{RunData}
use Rattle.emtp_netcards.specs.declared.run_cards.FirstCard.{FirstCard}
use Rattle.emtp_netcards.specs.RunCards.{first_card, second_card}

abbrev pub with_every : FirstCard → Result ℕ Bad → Result RunData Bad
with_every first (Ok every) = Ok (record { dt = first.dt; steps = first.steps; every = every; tolerance = pos (10 ^ 7) })
with_every first (Err bad) = Err bad

abbrev pub with_second : Result FirstCard Bad → Result ℕ Bad → Result RunData Bad
with_second (Ok first) second = with_every first second
with_second (Err bad) second = Err bad

-- the numbers of both cards, with the tolerance of a case that has no card for it
unfoldable pub run_data : ℕ → List ℕ → ℕ → List ℕ → Result RunData Bad
run_data number line next_number next_line = with_second (first_card number line) (second_card next_number next_line)

-- from 1 to a million
pub record IsMillion (n : ℕ) : Type 0 where
  pub some : 1 ≤ n
  pub few : n ≤ 1000000

pub record IsFirstCard (card : FirstCard) : Type 0 where
  pub dt : IsWithin (pos LEAST_TIME_STEP) (pos LARGEST_TIME_STEP) card.dt
  pub steps : IsMillion card.steps
