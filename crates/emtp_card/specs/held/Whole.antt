-- Beside `Whole`: what values hold for their proofs, and what premises say. No clause of the program reaches it.
use Rattle.std.specs.Prelude.{◌^◌, ℤ, pos, neg_ℤ}
use Rattle.emtp_card.specs.held.Number.{IsWithin}

-- what the readers of whole numbers answer lies in this range
abbrev pub IsInBillion : ℤ → Type 0
IsInBillion value = IsWithin (neg_ℤ (pos (10 ^ 9))) (pos (10 ^ 9)) value
