-- The source of a card whose variable is known.
use Rattle.std.proofs.Common.{List, None, Some, length, refl, sym, ℕ, ◌≡◌, ◌≤◌}
use Rattle.emtp_case.specs.held.Sizes.{Sizes}
use Rattle.emtp_case.specs.held.Source.{HasShapeNumbers, IsNetworkShape, IsSource}
use Rattle.emtp_case.specs.declared.source.Shape.{Shape}
use Rattle.emtp_case.specs.declared.source.Shape.TheVariants.{Cosine, NodeVoltage, Pulse, Ramp, Saw, Step, SwitchCurrent, SwitchStatus, Tacs}
use Rattle.emtp_case.specs.declared.source.Source.{Source}
use Rattle.emtp_sense.proofs.Knowing.{known_name}
use Rattle.emtp_deck.specs.Sources.{driven_shape, driver_by, driver_fault, source_at}
use Rattle.emtp_netcards.specs.held.Fields.{one_variable}
use Rattle.emtp_netcards.specs.SourceCard.{source_of}
use Rattle.emtp_netcards.specs.held.SourceCard.{HasSourceCardNumbers}
use Rattle.emtp_netcards.specs.declared.source_card.SourceCard.{SourceCard}

record IsDriven (n : Sizes) (s : Source) (shape : Shape) : Type 0 where
  numbers : HasShapeNumbers s shape
  network : IsNetworkShape n shape

driven_by : (n : Sizes) (s : Source) (variables : List (List ℕ)) (name : List ℕ) (shape : Shape) → length variables ≡ n.vars → HasShapeNumbers s shape → IsNetworkShape one_variable shape → driver_by variables name shape ≡ None → IsDriven n s (driven_shape variables name shape)
driven_by n s variables name Step size numbers network e = record { numbers = numbers; network = network }
driven_by n s variables name (Ramp rise) size numbers network e = record { numbers = numbers; network = network }
driven_by n s variables name (Cosine freq phase) size numbers network e = record { numbers = numbers; network = network }
driven_by n s variables name (Tacs var) size numbers network e = record { numbers = numbers; network = rw (sym size) (known_name variables 3 (Some name) e name refl) }
driven_by n s variables name (Pulse period width) size numbers network e = absurd network
driven_by n s variables name (Saw period) size numbers network e = absurd network
driven_by n s variables name (NodeVoltage node) size numbers network e = absurd network
driven_by n s variables name (SwitchCurrent switch) size numbers network e = absurd network
driven_by n s variables name (SwitchStatus switch) size numbers network e = absurd network

pub driven_source : (n : Sizes) (variables : List (List ℕ)) (card : SourceCard) (node : ℕ) → length variables ≡ n.vars → HasSourceCardNumbers card → 1 ≤ node → node ≤ n.nodes → driver_fault variables card ≡ None → IsSource n (source_at variables card node)
driven_source n variables card node size h low high e =
    let d = driven_by n (source_of card) variables card.name card.shape size h.numbers.shape h.shape e in
    record {
      above_ground = low;
      there = high;
      numbers = record { amplitude = h.numbers.amplitude; start = h.numbers.start; stop = h.numbers.stop; shape = numbers_at (source_of card) node (driven_shape variables card.name card.shape) d.numbers };
      shape = d.network;
    }
  where
    numbers_at : (s : Source) (node : ℕ) (shape : Shape) → HasShapeNumbers s shape → HasShapeNumbers (record s { node = node; shape = shape }) shape
    numbers_at s node Step h = h
    numbers_at s node (Ramp rise) h = h
    numbers_at s node (Cosine freq phase) h = h
    numbers_at s node (Tacs var) h = h
    numbers_at s node (Pulse period width) h = h
    numbers_at s node (Saw period) h = h
    numbers_at s node (NodeVoltage n) h = record { amplitude = h.amplitude; start = h.start; stop = h.stop }
    numbers_at s node (SwitchCurrent n) h = record { amplitude = h.amplitude; start = h.start; stop = h.stop }
    numbers_at s node (SwitchStatus n) h = record { amplitude = h.amplitude; start = h.start; stop = h.stop }
