-- The channels that a card asks for in column 80: 0 none, 1 the current, 2 the voltage, 3 both, the current first.
use Rattle.std.specs.Prelude.{ℕ, ◌==◌, List, [], ◌∷◌, if◌then◌else◌}
use Rattle.emtp_case.specs.declared.channel.Channel.{Channel}
use Rattle.emtp_case.specs.declared.channel.Channel.TheVariants.{Status}

abbrev pub channels_of : ℕ → Channel → Channel → List Channel
channels_of asked current voltage =
    if asked == 0 then []
    else if asked == 1 then current ∷ []
    else if asked == 2 then voltage ∷ []
    else current ∷ voltage ∷ []

-- how many they are
abbrev pub channel_count : ℕ → ℕ
channel_count asked = if asked == 0 then 0 else if asked == 1 then 1 else if asked == 2 then 1 else 2

-- a switch of which anything is asked shows its state too
abbrev pub status_of : ℕ → ℕ → List Channel
status_of asked at = if asked == 0 then [] else Status at ∷ []

abbrev pub switch_channel_count : ℕ → ℕ
switch_channel_count asked = if asked == 0 then 0 else if asked == 1 then 2 else if asked == 2 then 2 else 3
