-- The entries of a line: what stands between two commas.
use Rattle.std.specs.Prelude.{◌+◌, ◌++◌, ◌∷◌, [], List, Option, Some, None, codes, decimal, slice_index_or, suc, zero, ℕ, ℤ}
use Rattle.emtp_fix.specs.Decimal.{fixed_text}

-- `name=value` and a tail, which is empty or a blank and a unit: a number in parts of 10^-places
abbrev pub figure_entry : List ℕ → ℕ → List ℕ → ℤ → List ℕ
figure_entry name places tail value = (name ++ 61 ∷ fixed_text value places) ++ tail

-- `name=value unit`
abbrev pub number_entry : List ℕ → ℕ → List ℕ → ℤ → List ℕ
number_entry name places unit value = figure_entry name places (32 ∷ unit) value

-- a time in seconds, or the word for none
abbrev pub time_entry : List ℕ → Option ℤ → List ℕ
time_entry name None = name ++ 61 ∷ codes "never"
time_entry name (Some time) = number_entry name 12 (codes "s") time

-- `name=value`: a whole number without a unit
abbrev pub count_entry : List ℕ → ℕ → List ℕ
count_entry name value = name ++ 61 ∷ decimal value

-- `name=value of limit`: a count, and what it may be at most
abbrev pub limited_entry : List ℕ → ℕ → ℕ → List ℕ
limited_entry name limit value = count_entry name value ++ codes " of " ++ decimal limit

-- `name=value`: a place in a list, counted from 1
abbrev pub place_entry : List ℕ → ℕ → List ℕ
place_entry name place = count_entry name (place + 1)

-- `name=value`: a word
abbrev pub word_entry : List ℕ → List ℕ → List ℕ
word_entry name word = name ++ 61 ∷ word

-- the name of a node; the word for ground is longer than a name may be, so that no node has it for a name
abbrev pub node_word : List (List ℕ) → ℕ → List ℕ
node_word nodes zero = codes "(ground)"
node_word nodes (suc at) = slice_index_or nodes at []

abbrev pub node_entry : List ℕ → List (List ℕ) → ℕ → List ℕ
node_entry name nodes node = word_entry name (node_word nodes node)

abbrev pub variable_entry : List ℕ → List (List ℕ) → ℕ → List ℕ
variable_entry name vars var = word_entry name (slice_index_or vars var [])

-- a variable, or a word for none, which has to be longer than a name may be
abbrev pub choice_entry : List ℕ → List ℕ → List (List ℕ) → Option ℕ → List ℕ
choice_entry name absent vars None = word_entry name absent
choice_entry name absent vars (Some var) = variable_entry name vars var
