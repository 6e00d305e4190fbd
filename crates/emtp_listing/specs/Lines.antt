-- The lines of a listing.
use Rattle.std.specs.Prelude.{◌++◌, ◌∷◌, [], List, codes, decimal, suc, ℕ}

-- a comma and a blank, and a entry
abbrev pub separated : List ℕ → List ℕ
separated entry = 44 ∷ 32 ∷ entry

abbrev pub all_separated : List (List ℕ) → List ℕ
all_separated [] = []
all_separated (entry ∷ entries) = separated entry ++ all_separated entries

-- what a line begins with: a word and a number
abbrev pub head_text : List ℕ → ℕ → List ℕ
head_text word number = word ++ 32 ∷ decimal number

-- a card's line: its number, the kind of the record, and the record's entries
abbrev pub card_line : ℕ → List ℕ → List (List ℕ) → List ℕ
card_line number kind entries = head_text (codes "line") number ++ all_separated (kind ∷ entries)

-- what a list gives item by item, where the items are numbered on from a number
abbrev pub numbered : {X : Type 0} → (ℕ → X → List ℕ) → ℕ → List X → List (List ℕ)
numbered f number [] = []
numbered f number (x ∷ xs) = f number x ∷ numbered f (suc number) xs

-- the lines of a list whose items have some lines each
abbrev pub grouped : {X : Type 0} → (X → List (List ℕ)) → List X → List (List ℕ)
grouped f [] = []
grouped f (x ∷ xs) = f x ++ grouped f xs

-- lines, each ended by LF
abbrev pub lines_text : List (List ℕ) → List ℕ
lines_text [] = []
lines_text (line ∷ lines) = line ++ 10 ∷ lines_text lines
