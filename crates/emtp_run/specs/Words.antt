-- What the words of a command line ask for.
use Rattle.std.specs.Prelude.{ℕ, ℤ, pos, ◌+◌, ◌-◌, ◌*◌, List, [], ◌∷◌, Bool, false, not, ◌&&◌, ◌==◌, nat_le, int_le, Option, Some, None, if◌then◌else◌, map, option_map, String, string_bytes, codes}
use Rattle.std.specs.Char.{is_ascii_digit}
use Rattle.std.specs.Option.{option_and_then}
use Rattle.std.specs.Str.{bytes_eq}
use Rattle.std.specs.declared.alloc.Global.{Global}
use Rattle.emtp_card.specs.Numeral.{few_digits}
use Rattle.emtp_phasor.specs.Scanning.{frequency_count}
use Rattle.emtp_phasor.specs.declared.scanning.TheConstants.{MOST_FREQUENCIES}

abbrev pub texts : List (String Global) → List (List ℕ)
texts words = map (λ word. string_bytes word) words

-- the three files of `run CASE CFG DAT` and of `audit CASE CFG DAT`
pub record RunFiles : Type 0 where
  pub case : List ℕ
  pub cfg : List ℕ
  pub dat : List ℕ

-- the two files of `batch CASE TIMES`
pub record BatchFiles : Type 0 where
  pub case : List ℕ
  pub times : List ℕ

-- the case of `scan CASE F0 F1 DF`, and its frequencies in micro-hertz: the first, the greatest that the last may be, and
-- from one to the next
pub record Scanned : Type 0 where
  pub case : List ℕ
  pub first : ℤ
  pub last : ℤ
  pub by : ℤ

-- what is asked for: the run of a case from its file, or of the trial case of a number; the runs of a case under each row of
-- a table of switch times; whether two files are the record of a case; the steady state of a case, or its impedance over
-- frequencies
pub data Task : Type 0 where
  Run : RunFiles → Task
  Trial : ℕ → Task
  Batch : BatchFiles → Task
  Audit : RunFiles → Task
  Phasor : List ℕ → Task
  Scan : Scanned → Task

-- a word names a file where it isn't empty and doesn't begin with a dash
abbrev pub is_name : List ℕ → Bool
is_name [] = false
is_name (first ∷ rest) = not (first == 45)

abbrev pub differ : List ℕ → List ℕ → List ℕ → Bool
differ a b c = not (bytes_eq a b) && not (bytes_eq a c) && not (bytes_eq b c)

-- a digit other than 0, which a number begins with
abbrev pub is_leading : ℕ → Bool
is_leading byte = is_ascii_digit byte && not (byte == 48)

-- the greatest trial case has 900 sections
abbrev pub in_trial : ℕ → Option ℕ
in_trial n = if nat_le n 900 then Some n else None

-- the number of a trial case is one to three digits, without a leading 0
abbrev pub trial_number : List ℕ → Option ℕ
trial_number [] = None
trial_number (a ∷ []) = if is_leading a then in_trial (a - 48) else None
trial_number (a ∷ b ∷ []) = if is_leading a && is_ascii_digit b then in_trial (10 * (a - 48) + (b - 48)) else None
trial_number (a ∷ b ∷ c ∷ []) =
    if is_leading a && is_ascii_digit b && is_ascii_digit c then in_trial (100 * (a - 48) + 10 * (b - 48) + (c - 48)) else None
trial_number (a ∷ b ∷ c ∷ d ∷ more) = None

-- a frequency of 1 hertz to 10 megahertz, in micro-hertz
abbrev pub in_scan : ℕ → Option ℤ
in_scan hertz = if nat_le 1 hertz && nat_le hertz 10000000 then Some (pos (1000000 * hertz)) else None

-- a frequency is one to eight digits, without a leading 0
abbrev pub frequency_of_word : List ℕ → Option ℤ
frequency_of_word [] = None
frequency_of_word (first ∷ rest) = if is_leading first then option_and_then in_scan (few_digits 8 (first ∷ rest)) else None

-- what the command asks for that has one word
abbrev pub of_one : List ℕ → List ℕ → Option Task
of_one command word =
    if bytes_eq command (codes "trial") then option_map Trial (trial_number word)
    else if bytes_eq command (codes "phasor") && is_name word then Some (Phasor word)
    else None

-- a scan has few frequencies, from the first one up
abbrev pub of_scan : List ℕ → Option ℤ → Option ℤ → Option ℤ → Option Task
of_scan case None last by = None
of_scan case (Some first) None by = None
of_scan case (Some first) (Some last) None = None
of_scan case (Some first) (Some last) (Some by) =
    if int_le first last && nat_le (frequency_count first last by) MOST_FREQUENCIES
    then Some (Scan (record { case = case; first = first; last = last; by = by }))
    else None

-- what the command asks for that names three files
abbrev pub of_three : List ℕ → RunFiles → Option Task
of_three command files =
    if bytes_eq command (codes "run") then Some (Run files)
    else if bytes_eq command (codes "audit") then Some (Audit files)
    else None

-- the words fit where they are `run` or `audit` and the names of three different files, `trial` and a number, `batch` and the
-- names of two different files, `phasor` and the name of a file, or `scan`, the name of a file and three frequencies
abbrev pub fits : List (List ℕ) → Option Task
fits [] = None
fits (command ∷ []) = None
fits (command ∷ word ∷ []) = of_one command word
fits (command ∷ case ∷ times ∷ []) =
    if bytes_eq command (codes "batch") && is_name case && is_name times && not (bytes_eq case times)
    then Some (Batch (record { case = case; times = times }))
    else None
fits (command ∷ case ∷ cfg ∷ dat ∷ []) =
    if is_name case && is_name cfg && is_name dat && differ case cfg dat
    then of_three command (record { case = case; cfg = cfg; dat = dat })
    else None
fits (command ∷ case ∷ first ∷ last ∷ by ∷ []) =
    if bytes_eq command (codes "scan") && is_name case
    then of_scan case (frequency_of_word first) (frequency_of_word last) (frequency_of_word by)
    else None
fits (command ∷ case ∷ first ∷ last ∷ by ∷ other ∷ more) = None
