-- The files that a command reads, what they hold, and how much of them is taken.
use Rattle.std.specs.Prelude.{◌≡◌, ◌⊎◌, ℕ, List, [], ◌∷◌, take, Option, Some, None, option_map, slice_index_or}
use Rattle.emtp_io.specs.Cabinet.{one_more}
use Rattle.emtp_io.specs.Whole.{TookFront}

-- a file by its name, and the most bytes of it that are read
pub record Input : Type 0 where
  pub name : List ℕ
  pub bound : ℕ

-- what is read of a file, where it is there
abbrev pub content : (List ℕ → Option (List ℕ)) → Input → Option (List ℕ)
content files input = option_map (λ bytes. take input.bound bytes) (files input.name)

abbrev pub and_content : Option (List ℕ) → Option (List (List ℕ)) → Option (List (List ℕ))
and_content None more = None
and_content (Some text) None = None
and_content (Some text) (Some texts) = Some (text ∷ texts)

-- what is read of all files, where each is there
abbrev pub contents : (List ℕ → Option (List ℕ)) → List Input → Option (List (List ℕ))
contents files [] = Some []
contents files (input ∷ more) = and_content (content files input) (contents files more)

-- One of these files is open, and at most its bound was taken of it; or none of them was opened. What is unread was so
-- before, and is so now.
abbrev pub TookOfOne : (List ℕ → Option (List ℕ)) → List Input → Option (List ℕ) → Option (List ℕ) → Type 0
TookOfOne files [] old new = new ≡ old
TookOfOne files (input ∷ more) old new = TookFront input.bound (files input.name) new ⊎ TookOfOne files more old new

-- the last of these files is open, and at most its bound was taken of it; where there is none, none was opened
abbrev pub TookOfLast : (List ℕ → Option (List ℕ)) → List Input → Option (List ℕ) → Option (List ℕ) → Type 0
TookOfLast files [] old new = new ≡ old
TookOfLast files (input ∷ []) old new = TookFront input.bound (files input.name) new
TookOfLast files (input ∷ next ∷ more) old new = TookOfLast files (next ∷ more) old new

-- a count of calls of `open` after one call for each of these files
abbrev pub opens_after : List Input → ℕ → ℕ
opens_after [] count = count
opens_after (input ∷ more) count = opens_after more (one_more count)

-- `open` was called for some of these files from the first on, once for each
abbrev pub OpenedSome : List Input → ℕ → ℕ → Type 0
OpenedSome [] before now = now ≡ before
OpenedSome (input ∷ more) before now = (now ≡ before) ⊎ OpenedSome more (one_more before) now

-- a fact that is asked where no file is read
abbrev pub UnlessAny : List Input → Type 0 → Type 0
UnlessAny [] fact = fact
UnlessAny (input ∷ more) fact = Unit {0}

-- the text at a place
abbrev pub text_at : ℕ → List (List ℕ) → List ℕ
text_at at texts = slice_index_or texts at []
