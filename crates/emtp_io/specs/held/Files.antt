-- Files in memory, by name.
use Rattle.std.specs.Prelude.{ℕ, List, drop, Bool, Option, Some, None, String, Vec, string_bytes, slice_get, option_map}
use Rattle.std.specs.List.{find}
use Rattle.std.specs.Str.{bytes_eq}
use Rattle.std.specs.declared.alloc.Global.{Global}

-- a name and its bytes
abbrev pub File : Type 0
File = String Global × Vec ℕ Global

abbrev pub is_named : List ℕ → File → Bool
is_named name file = bytes_eq (string_bytes file.0) name

-- the bytes of the first file of this name
abbrev pub file_named : List File → List ℕ → Option (List ℕ)
file_named files name = option_map (λ f. f.1.items) (find (is_named name) files)

-- the bytes of the file at this place, from a position on
abbrev pub unread_of : List File → Option ℕ → ℕ → Option (List ℕ)
unread_of files None position = None
unread_of files (Some at) position = option_map (λ f. drop position f.1.items) (slice_get files at)
