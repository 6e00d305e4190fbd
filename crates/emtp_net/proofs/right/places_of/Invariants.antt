use Rattle.std.proofs.Common.{◌≡◌, map}
use Rattle.std.specs.List.{range_with_len}
use Rattle.emtp_net.specs.held.Rights.{place_at}
use Rattle.emtp_net.proofs.right.places_of.Given as goal

abbrev pub invariant-loop-row : goal.invariant-loop-row
invariant-loop-row l = l.places.items ≡ map (place_at l.case.parts) (range_with_len 0 l.row)
