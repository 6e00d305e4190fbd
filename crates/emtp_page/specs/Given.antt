-- The files that a host hands over.
use Rattle.std.specs.Prelude.{ℕ, List, [], ◌∷◌, ◌&&◌, not, map, string_bytes, if◌then◌else◌}
use Rattle.std.specs.Str.{bytes_eq}
use Rattle.emtp_io.specs.held.Files.{File}

-- files, each by its name and its bytes
abbrev pub named : List File → List (List ℕ × List ℕ)
named files = map (λ f. (string_bytes f.0, f.1.items)) files

-- two files, or none where their names are the same
abbrev pub two_files : List ℕ → List ℕ → List ℕ → List ℕ → List (List ℕ × List ℕ)
two_files a first b second = if bytes_eq a b then [] else (a, first) ∷ (b, second) ∷ []

-- three files, or none where two of their names are the same
abbrev pub three_files : List ℕ → List ℕ → List ℕ → List ℕ → List ℕ → List ℕ → List (List ℕ × List ℕ)
three_files a first b second c third =
    if not (bytes_eq a b) && not (bytes_eq a c) && not (bytes_eq b c)
    then (a, first) ∷ (b, second) ∷ (c, third) ∷ []
    else []

-- the files of these names: the first name is that of the first bytes, and so on
abbrev pub files_given : List (List ℕ) → List ℕ → List ℕ → List ℕ → List (List ℕ × List ℕ)
files_given [] first second third = []
files_given (a ∷ []) first second third = (a, first) ∷ []
files_given (a ∷ b ∷ []) first second third = two_files a first b second
files_given (a ∷ b ∷ c ∷ []) first second third = three_files a first b second c third
files_given (a ∷ b ∷ c ∷ d ∷ more) first second third = []
