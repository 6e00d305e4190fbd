-- The texts of a COMTRADE record (IEEE C37.111-1999): the configuration, and the data in ASCII form.
use Rattle.std.specs.Prelude.{ℕ, zero, suc, ◌+◌, ℤ, pos, ◌*ℤ◌, Bool, false, not, ◌==◌, List, [], ◌∷◌, ◌++◌, length, map, slice_index_or, codes, decimal, unsigned_abs, if◌then◌else◌}
use Rattle.std.specs.Fmt.{signed_decimal}
use Rattle.emtp_case.specs.Channel.{is_status}
use Rattle.emtp_case.specs.ChannelName.{name_of_channel}
use Rattle.emtp_case.specs.declared.case.Parts.{Parts}
use Rattle.emtp_case.specs.declared.channel.Channel.{Channel}
use Rattle.emtp_case.specs.declared.channel.Channel.TheVariants.{BranchCurrent, BranchVoltage, SwitchCurrent as CurrentChannel, NodeVoltage as NodeChannel, Tacs as OfTacs, Status, SwitchVoltage}
use Rattle.emtp_fix.specs.Decimal.{fixed_text}
use Rattle.emtp_fix.specs.Rounding.{near}
use Rattle.emtp_machine.specs.Samples.{value_at, greatest}
use Rattle.emtp_comtrade.specs.Multiplier.{multiplier_of}

-- ---- places

-- what stands at 0, at 1 and so on below n, one after the other
abbrev pub joined : {A : Type 0} → ℕ → (ℕ → List A) → List A
joined zero at = []
joined (suc n) at = joined n at ++ at n

-- how many places below n pass a test
abbrev pub count_below : (ℕ → Bool) → ℕ → ℕ
count_below test zero = 0
count_below test (suc n) = count_below test n + (if test n then 1 else 0)

-- ---- channels

abbrev pub unit_of : Channel → List ℕ
unit_of (NodeChannel n) = codes "V"
unit_of (BranchCurrent b) = codes "A"
unit_of (BranchVoltage b) = codes "V"
unit_of (CurrentChannel s) = codes "A"
unit_of (SwitchVoltage s) = codes "V"
unit_of (OfTacs v) = codes "PU"
unit_of (Status s) = []

abbrev pub is_status_at : Parts → ℕ → Bool
is_status_at p place = slice_index_or (map is_status p.channels) place false

abbrev pub is_analog_at : Parts → ℕ → Bool
is_analog_at p place = not (is_status_at p place)

abbrev pub unit_at : Parts → ℕ → List ℕ
unit_at p place = slice_index_or (map unit_of p.channels) place []

-- how many analog channels, and how many status channels, stand before a place
abbrev pub analog_before : Parts → ℕ → ℕ
analog_before p place = count_below (is_analog_at p) place

abbrev pub status_before : Parts → ℕ → ℕ
status_before p place = count_below (is_status_at p) place

-- the multiplier of the channel at a place, in 1e-9
abbrev pub multiplier_at : List (List ℤ) → ℕ → ℕ
multiplier_at samples place = multiplier_of (greatest samples place (length samples))

-- ---- the configuration

abbrev pub end_of_line : List ℕ
end_of_line = 13 ∷ 10 ∷ []

-- n,name,,,unit,multiplier, and what is the same for each channel
unfoldable pub analog_line : Parts → ℤ → ℕ → List ℕ
analog_line p multiplier place =
    decimal (analog_before p place + 1) ++ codes "," ++ name_of_channel p place ++ codes ",,,"
    ++ unit_at p place ++ codes ","
    ++ fixed_text multiplier 9 ++ codes ",0,0,-32767,32767,1,1,P" ++ end_of_line

-- n,name and an initial state of 0
unfoldable pub status_line : Parts → ℕ → List ℕ
status_line p place =
    decimal (status_before p place + 1) ++ codes "," ++ name_of_channel p place ++ codes ",,,0" ++ end_of_line

unfoldable pub analog_line_at : Parts → List (List ℤ) → ℕ → List ℕ
analog_line_at p samples place =
    if is_status_at p place then [] else analog_line p (pos (multiplier_at samples place)) place

unfoldable pub status_line_at : Parts → ℕ → List ℕ
status_line_at p place = if is_status_at p place then status_line p place else []

-- the station, and the numbers of channels
unfoldable pub cfg_head : Parts → List ℕ
cfg_head p =
    codes "EMTP,CASE,1999" ++ end_of_line ++ decimal (length p.channels) ++ codes ","
    ++ decimal (analog_before p (length p.channels))
    ++ codes "A," ++ decimal (status_before p (length p.channels)) ++ codes "D" ++ end_of_line

-- the time between two samples, in ps
abbrev pub sample_time : Parts → ℤ
sample_time p = pos p.run.every *ℤ p.run.dt

-- the line frequency, no sampling rate, the number of samples, both dates, the file's type, and the
-- unit of time stamps in microseconds
unfoldable pub cfg_tail : Parts → ℕ → List ℕ
cfg_tail p count =
    codes "60" ++ end_of_line ++ codes "0" ++ end_of_line ++ codes "0," ++ decimal count ++ end_of_line
    ++ codes "01/01/2000,00:00:00.000000" ++ end_of_line ++ codes "01/01/2000,00:00:00.000000" ++ end_of_line
    ++ codes "ASCII" ++ end_of_line ++ fixed_text (sample_time p) 6 ++ end_of_line

unfoldable pub cfg_text : Parts → List (List ℤ) → List ℕ
cfg_text p samples =
    cfg_head p ++ joined (length p.channels) (analog_line_at p samples)
    ++ joined (length p.channels) (status_line_at p)
    ++ cfg_tail p (length samples)

-- ---- the data

-- a comma and the raw value of an analog channel
unfoldable pub raw_at : Parts → List (List ℤ) → ℕ → ℕ → List ℕ
raw_at p samples sample place =
    if is_status_at p place then []
    else codes "," ++ signed_decimal (near (value_at samples sample place) (pos (multiplier_at samples place)))

-- a comma and the state of a status channel
unfoldable pub state_at : Parts → List (List ℤ) → ℕ → ℕ → List ℕ
state_at p samples sample place =
    if is_status_at p place
    then (if unsigned_abs (value_at samples sample place) == 0 then codes ",0" else codes ",1") else []

-- the number of the sample from 1, its time stamp from 0, and the values
unfoldable pub dat_line : Parts → List (List ℤ) → ℕ → List ℕ
dat_line p samples sample =
    decimal (sample + 1) ++ codes "," ++ decimal sample ++ joined (length p.channels) (raw_at p samples sample)
    ++ joined (length p.channels) (state_at p samples sample) ++ end_of_line

-- a line a sample, and the end mark of an ASCII data file
unfoldable pub dat_text : Parts → List (List ℤ) → List ℕ
dat_text p samples = joined (length samples) (dat_line p samples) ++ 26 ∷ []
