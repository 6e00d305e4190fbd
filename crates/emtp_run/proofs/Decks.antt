-- The case of some bytes, from their lines.
use Rattle.std.proofs.Common.{◌≡◌, ◌∙◌, sym, ap, ℕ, List, Some, None, Result, Ok, Err, IfOk, IfErr}
use Rattle.emtp_card.specs.Cards.{size_fault}
use Rattle.emtp_card.specs.Lines.{lines_of}
use Rattle.emtp_card.specs.declared.reason.Bad.{Bad}
use Rattle.emtp_card.specs.declared.reason.Refused.{Refused}
use Rattle.emtp_card.specs.declared.reason.Refused.TheVariants.{Bad as OfBad, NoMemory}
use Rattle.std.specs.Prelude.{IsErrAnd}
use Rattle.emtp_case.specs.declared.case.Case.{Case}
use Rattle.emtp_case.specs.declared.case.Parts.{Parts}
use Rattle.emtp_walk.specs.held.Answer.{IfBad}
use Rattle.emtp_deck.specs.Deck.{deck_of}
use Rattle.emtp_run.specs.Reading.{deck, deck_by}

-- the lines are not too many
pub of_lines : (bytes : List ℕ) (lines : List (List ℕ)) (answer : Result Parts Bad) → size_fault bytes ≡ None → lines ≡ lines_of bytes → deck_of lines ≡ answer → deck bytes ≡ answer
unfolding deck
of_lines bytes lines answer fits are is = ap (λ o. deck_by o bytes) fits ∙ ap deck_of (sym are) ∙ is

too_long : (bytes : List ℕ) (bad : Bad) → size_fault bytes ≡ Some bad → deck bytes ≡ Err bad
unfolding deck
too_long bytes bad is = ap (λ o. deck_by o bytes) is

-- a refusal of the lines
pub by_size : {A : Type 0} (bytes : List ℕ) (result : Result A Refused) (refused : Refused) → ((bad : Bad) → result ≡ Err (OfBad bad) → size_fault bytes ≡ Some bad) → result ≡ Err refused → IfBad refused (λ bad. deck bytes ≡ Err bad)
by_size bytes result (OfBad bad) told is = too_long bytes bad (told bad is)
by_size bytes result NoMemory told is = tt

-- a refusal of a card
pub by_card : (bytes : List ℕ) (lines : List (List ℕ)) (refused : Refused) → size_fault bytes ≡ None → lines ≡ lines_of bytes → IfBad refused (λ bad. deck_of lines ≡ Err bad) → IfBad refused (λ bad. deck bytes ≡ Err bad)
by_card bytes lines (OfBad bad) fits are is = of_lines bytes lines (Err bad) fits are is
by_card bytes lines NoMemory fits are is = tt

-- what the reader of the lines answers
pub read_ok : (bytes : List ℕ) (lines : List (List ℕ)) (result : Result Case Refused) → size_fault bytes ≡ None → lines ≡ lines_of bytes → IfOk result (λ case. deck_of lines ≡ Ok case.parts) → IfOk result (λ case. deck bytes ≡ Ok case.parts)
read_ok bytes lines (Ok case) fits are is = of_lines bytes lines (Ok case.parts) fits are is
read_ok bytes lines (Err refused) fits are is = tt

pub read_bad : (bytes : List ℕ) (lines : List (List ℕ)) (result : Result Case Refused) → size_fault bytes ≡ None → lines ≡ lines_of bytes → IfErr result (λ refused. IfBad refused (λ bad. deck_of lines ≡ Err bad)) → IfErr result (λ refused. IfBad refused (λ bad. deck bytes ≡ Err bad))
read_bad bytes lines (Ok case) fits are is = tt
read_bad bytes lines (Err refused) fits are is = by_card bytes lines refused fits are is

pub size_bad : (bytes : List ℕ) (result : Result Case Refused) (refused : Refused) → IsErrAnd result (λ e. e ≡ refused) → IfBad refused (λ bad. deck bytes ≡ Err bad) → IfErr result (λ e. IfBad e (λ bad. deck bytes ≡ Err bad))
size_bad bytes (Ok case) refused same is = tt
size_bad bytes (Err e) refused same is = rw same is
