-- The warnings of the channels of a case.
use Rattle.std.specs.List.{list_any}
use Rattle.std.specs.Prelude.{ℕ, zero, suc, ◌+◌, ◌==◌, length, slice_get, take, Bool, false, List, [], ◌∷◌, ◌++◌, Option, Some, None}
use Rattle.emtp_case.specs.declared.channel.Channel.{Channel}
use Rattle.emtp_case.specs.declared.channel.Channel.TheVariants.{NodeVoltage, Tacs}
use Rattle.emtp_warnings.specs.Finding.{found}
use Rattle.emtp_warnings.specs.declared.finding.Finding.TheVariants.{AskedTwice}
use Rattle.emtp_warnings.specs.declared.finding.Spot.TheVariants.{Channel as OfChannel}
use Rattle.emtp_warnings.specs.declared.finding.Warning.{Warning}

-- nodes and variables alone can be named by several output cards
abbrev pub is_same : Channel → Channel → Bool
is_same (NodeVoltage node) (NodeVoltage asked) = asked == node
is_same (Tacs var) (Tacs asked) = asked == var
is_same channel other = false

abbrev pub was_asked : List Channel → Option Channel → Bool
was_asked before None = false
was_asked before (Some channel) = list_any (is_same channel) before

-- what the channel after so many warns of
abbrev pub at_channel : List Channel → ℕ → List Warning
at_channel channels place = found
    ((
      was_asked (take place channels) (slice_get channels place),
      record { spot = OfChannel (place + 1); finding = AskedTwice },
    ) ∷ [])

-- what the first channels warn of
abbrev pub up_to_channel : List Channel → ℕ → List Warning
up_to_channel channels zero = []
up_to_channel channels (suc place) = up_to_channel channels place ++ at_channel channels place

-- a channel that an earlier one asks for as well
abbrev pub channel_warnings : List Channel → List Warning
channel_warnings channels = up_to_channel channels (length channels)
