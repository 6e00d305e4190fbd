use Rattle.std.proofs.Common.{◌≡◌, ◌++◌}
use Rattle.std.specs.Prelude.{replicate}
use Rattle.emtp_inspect.proofs.channel_cards.add_times.Given as goal

-- so many so far
abbrev pub invariant-loop : goal.invariant-loop
invariant-loop l = l.lines.items ≡ l.initial.lines.items ++ replicate l.counter l.number
