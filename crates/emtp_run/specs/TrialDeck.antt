-- The trial case: a ladder of equal sections behind a cosine source, with a load that is switched on and off at its end.
use Rattle.std.specs.Prelude.{ℕ, zero, suc, ◌+◌, ◌/◌, ◌%◌, List, [], ◌∷◌, ◌++◌, codes}

-- a node of the ladder is `N` and four digits
unfoldable pub node_name : ℕ → List ℕ
node_name n = codes "N" ++ (48 + n / 1000 % 10) ∷ (48 + n / 100 % 10) ∷ (48 + n / 10 % 10) ∷ (48 + n % 10) ∷ []

-- the step of 10 us, 20 ms, and each twentieth record
unfoldable pub head_cards : List ℕ
head_cards = codes "BEGIN NEW DATA CASE\n   1.E-5     .02\n       1      20\n"

-- a section of the ladder: 0.5 ohm and 1 mH between two nodes, and 0.01 microfarad to ground
unfoldable pub section_cards : ℕ → List ℕ
section_cards n =
    codes "  " ++ node_name n ++ codes " " ++ node_name (n + 1) ++ codes "                 .5   1.0\n  "
    ++ node_name (n + 1) ++ codes "                                  .01\n"

-- the first sections
abbrev pub ladder_cards : ℕ → List ℕ
ladder_cards zero = []
ladder_cards (suc n) = ladder_cards n ++ section_cards n

-- the load of 100 ohm, the switch that joins it to the last node from 2 ms to 6 ms, the source, and the output
unfoldable pub tail_cards : ℕ → List ℕ
tail_cards n =
    codes "  LOAD                      100.\nBLANK\n  " ++ node_name n
    ++ codes " LOAD        .002      .006                                             1\nBLANK\n14N0000         1.E5       60.\nBLANK\n  "
    ++ node_name n ++ codes "\nBLANK\n"

-- the cards of the trial case with so many sections
unfoldable pub trial_cards : ℕ → List ℕ
trial_cards n = head_cards ++ ladder_cards n ++ tail_cards n
