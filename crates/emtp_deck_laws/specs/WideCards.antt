-- A narrow and a wide card of a series branch with the same texts.
use Rattle.std.specs.Prelude.{◌≡◌, ℕ, ℤ, Bool, List, Ok}
use Rattle.emtp_card.specs.Field.{columns, field_of}
use Rattle.emtp_netcards.specs.BranchCard.{fields_of, kind_field}
use Rattle.emtp_netcards.specs.declared.branch_card.BranchCard.{BranchCard}
use Rattle.emtp_netcards.specs.declared.branch_card.BranchKind.TheVariants.{Series as SeriesKind}

-- the columns that both have are the same, and the three values have the same texts without their outer blanks
pub record HaveSameTexts (narrow wide : List ℕ) : Type 0 where
  pub type : columns narrow 1 2 ≡ columns wide 1 2
  pub from_name : columns narrow 3 8 ≡ columns wide 3 8
  pub to_name : columns narrow 9 14 ≡ columns wide 9 14
  pub copied_from : columns narrow 15 20 ≡ columns wide 15 20
  pub copied_to : columns narrow 21 26 ≡ columns wide 21 26
  pub resistance : field_of narrow 27 32 ≡ field_of wide 27 42
  pub inductance : field_of narrow 33 38 ≡ field_of wide 43 58
  pub capacitance : field_of narrow 39 44 ≡ field_of wide 59 74
  pub asked : columns narrow 80 80 ≡ columns wide 80 80

-- where the one is read as a series branch's card, so is the other, as the same card
abbrev pub IsReadAlike : List ℕ → Bool → List ℕ → Bool → Type 0
IsReadAlike one is_wide other other_is_wide =
    (number : ℕ) (dt : ℤ) (card : BranchCard) → kind_field one ≡ Ok SeriesKind
    → fields_of number one dt is_wide ≡ Ok card → fields_of number other dt other_is_wide ≡ Ok card
