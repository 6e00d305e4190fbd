-- What is made of the cards so far: the records of the case, and the channels that were asked for.
use Rattle.emtp_case.specs.declared.limit.TheConstants.{MOST_CHANNELS}
use Rattle.std.specs.Prelude.{ℕ, ◌+◌, ◌++◌, [], List, length, nat_lt, Bool}
use Rattle.emtp_case.specs.declared.case.Parts.{Parts}
use Rattle.emtp_case.specs.declared.channel.Channel.{Channel}
use Rattle.emtp_deck.specs.declared.asked.Asked.{Asked}

pub record Made : Type 0 where
  pub parts : Parts
  pub asked : Asked

-- the channels in the order of the record
abbrev pub all_asked : Asked → List Channel
all_asked a = a.outputs ++ a.branches ++ a.switches ++ a.variables ++ a.statuses

abbrev pub count_asked : Asked → ℕ
count_asked a = length a.variables + length a.outputs + length a.branches + length a.switches + length a.statuses

abbrev pub none_asked : Asked
none_asked = record { variables = []; outputs = []; branches = []; switches = []; statuses = [] }

-- so many channels more than a record may have
abbrev pub no_room : Asked → ℕ → Bool
no_room a more = nat_lt MOST_CHANNELS (count_asked a + more)
