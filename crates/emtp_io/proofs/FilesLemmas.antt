-- Where a file stands in memory, and what is left of it.
use Rattle.std.proofs.Common.{◌≡◌, ℕ, ◌+◌, ◌-◌, ◌^◌, ◌<◌, ◌≤◌, min, arith, length, take, drop, get_or, length-drop, Bool, true, false, cond, nat_lt, List, [], ◌∷◌, ◌++◌, Option, Some, None, is_some, slice_get, refl, sym, ◌∙◌, ap}
use Rattle.std.specs.List.{find, position, position_or_len}
use Rattle.std.specs.Option.{option_map}
use Rattle.std.proofs.Math.Seq.{take-length}
use Rattle.std.proofs.lemmas.List.{drop_min, drop-drop, take-append-drop}
use Rattle.std.proofs.lemmas.List.Folds.{find_at}
use Rattle.std.proofs.lemmas.Option.{slice_get_past, slice_get-get_or, slice_get_read}
use Rattle.emtp_io.specs.Cabinet.{put_back}
use Rattle.emtp_io.specs.held.Files.{File, is_named, file_named, unread_of}

-- the bytes of a file from a position on, if there is a file
abbrev rest : ℕ → Option File → Option (List ℕ)
rest position file = option_map (λ f. drop position f.1.items) file

-- `position`, by the outcome of its test
abbrev place : (File → Bool) → List File → Bool → Option ℕ
place p files found = cond found (Some (position_or_len p files)) None

unread_of-first : (p : File → Bool) (files : List File) (found : Bool)
    → nat_lt (position_or_len p files) (length files) ≡ found
    → unread_of files (place p files found) 0 ≡ rest 0 (find p files)
unread_of-first p files true lt = ap (λ (o : Option File). rest 0 o) (sym (find_at p files))
unread_of-first p files false lt =
    let past : length files ≤ position_or_len p files = grind arith in
    let none : find p files ≡ None = find_at p files ∙ slice_get_past files (position_or_len p files) past in
    sym (ap (λ (o : Option File). rest 0 o) none)

-- from its first byte, a file is read whole
pub unread_of-position : (files : List File) (name : List ℕ)
    → unread_of files (position (is_named name) files) 0 ≡ file_named files name
unread_of-position files name = unread_of-first (is_named name) files _ refl

is_some-first : (p : File → Bool) (files : List File) (found : Bool)
    → nat_lt (position_or_len p files) (length files) ≡ found
    → is_some (place p files found) ≡ is_some (rest 0 (find p files))
is_some-first p [] found lt = grind (arith, find_at)
is_some-first p (file ∷ files) true lt =
    let at = position_or_len p (file ∷ files) in
    let within : at < length (file ∷ files) = grind arith in
    let some = find_at p (file ∷ files) ∙ slice_get-get_or (file ∷ files) at file within in
    sym (ap (λ (o : Option File). is_some (rest 0 o)) some)
is_some-first p (file ∷ files) false lt =
    let at = position_or_len p (file ∷ files) in
    let past : length (file ∷ files) ≤ at = grind arith in
    let none = find_at p (file ∷ files) ∙ slice_get_past (file ∷ files) at past in
    sym (ap (λ (o : Option File). is_some (rest 0 o)) none)

-- a place is found exactly where the file is there
pub is_some-position : (files : List File) (name : List ℕ)
    → is_some (position (is_named name) files) ≡ is_some (file_named files name)
is_some-position files name = is_some-first (is_named name) files _ refl

-- what stands at a place is left from a position on
pub unread_of-place : (files : List File) (opened : Option ℕ) (at position : ℕ) (file : File)
    → opened ≡ Some at → at < length files → file ≡ get_or files at file
    → unread_of files opened position ≡ Some (drop position file.1.items)
unread_of-place files opened at position file is lt read =
    ap (λ (o : Option ℕ). unread_of files o position) is
    ∙ ap (λ (o : Option File). rest position o) (slice_get_read files (length files) at file refl lt read)

pub unread_of-past : (files : List File) (opened : Option ℕ) (at position : ℕ)
    → opened ≡ Some at → length files ≤ at → unread_of files opened position ≡ None
unread_of-past files opened at position is le =
    ap (λ (o : Option ℕ). unread_of files o position) is
    ∙ ap (λ (o : Option File). rest position o) (slice_get_past files at le)

-- the bytes from a place within a file on
pub rest-min : (position : ℕ) (bytes : List ℕ)
    → take (length bytes - min position (length bytes)) (drop (min position (length bytes)) bytes)
    ≡ drop position bytes
rest-min position bytes =
    let at = min position (length bytes) in
    ap (λ (n : ℕ). take n (drop at bytes)) (sym (length-drop at bytes))
    ∙ take-length (drop at bytes)
    ∙ drop_min position bytes

pub ruleset places = (unread_of-place, unread_of-past, rest-min)

rest-read : (file : Option File) (position n : ℕ) (bytes front : List ℕ)
    → rest position file ≡ Some bytes → front ≡ take n bytes
    → rest position file ≡ put_back front (rest (position + n) file)
rest-read None position n bytes front left is = refl
rest-read (Some file) position n bytes front left is =
    let whole : drop position file.1.items ≡ bytes = cc in
    let split : front ++ drop n bytes ≡ bytes =
    ap (λ (xs : List ℕ). xs ++ drop n bytes) is ∙ take-append-drop n bytes in
    let next : drop (position + n) file.1.items ≡ drop n bytes =
    sym (drop-drop n position file.1.items) ∙ ap (λ (xs : List ℕ). drop n xs) whole in
    cc

-- the first bytes of what was left were read
pub unread_of-read : (files : List File) (opened : Option ℕ) (position n : ℕ) (bytes front : List ℕ)
    → unread_of files opened position ≡ Some bytes → front ≡ take n bytes
    → unread_of files opened position ≡ put_back front (unread_of files opened (position + n))
unread_of-read files None position n bytes front left is = refl
unread_of-read files (Some at) position n bytes front left is =
    rest-read (slice_get files at) position n bytes front left is

end-fits : (file : Option File) (position n : ℕ) (bytes : List ℕ)
    → position < 2 ^ 64 → rest position file ≡ Some bytes → n ≤ length bytes → position + n < 2 ^ 64
end-fits None position n bytes fits left le = grind arith
end-fits (Some file) position n bytes fits left le =
    let whole : drop position file.1.items ≡ bytes = cc in
    omega (arith, length-drop position file.1.items, ap length whole, file.1.ok, file.1.small)

-- the place after the bytes read is a number of the machine
pub unread_of-fits : (files : List File) (opened : Option ℕ) (position n : ℕ) (bytes : List ℕ)
    → position < 2 ^ 64 → unread_of files opened position ≡ Some bytes → n ≤ length bytes → position + n < 2 ^ 64
unread_of-fits files None position n bytes fits left le = grind arith
unread_of-fits files (Some at) position n bytes fits left le = end-fits (slice_get files at) position n bytes fits left le
