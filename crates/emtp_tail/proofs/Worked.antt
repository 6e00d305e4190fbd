-- The first changed row in a chain of changes, worked out by hand. With it the rows that are redone, and so the ticks,
-- are given: three less this row, where nothing is at fault.
use Rattle.std.proofs.Common.{◌≡◌, ℕ, ◌*◌, ◌^◌, ℤ, pos, neg_ℤ, List, [], ◌∷◌, refl}
use Rattle.emtp_elim.specs.Matrix.{Matrix}
use Rattle.emtp_tail.specs.Good.{first_change}

abbrev fixed : List ℤ
fixed = pos (10 ^ 12) ∷ pos 0 ∷ pos 0 ∷ []

abbrev middle : List ℤ
middle = neg_ℤ (pos (10 ^ 12)) ∷ pos (2 * 10 ^ 12) ∷ neg_ℤ (pos (10 ^ 12)) ∷ []

abbrev last : ℕ → List ℤ
last own = pos 0 ∷ neg_ℤ (pos (10 ^ 12)) ∷ pos (own * 10 ^ 12) ∷ []

abbrev at_first : Matrix
at_first = fixed ∷ middle ∷ last 2 ∷ []

abbrev last_changed : Matrix
last_changed = fixed ∷ middle ∷ last 3 ∷ []

abbrev middle_gone : Matrix
middle_gone = fixed ∷ (pos 0 ∷ pos 0 ∷ pos 0 ∷ []) ∷ last 3 ∷ []

every_row : first_change [] at_first ≡ 0
unfolding first_change
every_row = refl

no_row : first_change at_first at_first ≡ 3
unfolding first_change
no_row = refl

the_last_row : first_change at_first last_changed ≡ 2
unfolding first_change
the_last_row = refl

from_the_middle : first_change last_changed middle_gone ≡ 1
unfolding first_change
from_the_middle = refl

after_the_fault : first_change (fixed ∷ []) last_changed ≡ 1
unfolding first_change
after_the_fault = refl
