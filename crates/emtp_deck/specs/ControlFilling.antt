-- The records of the control, whose cards have no fault of sense.
use Rattle.std.specs.Prelude.{Bool, List, None, Option, Some, [], false, fold, length, map, option_map, unwrap_or, ℕ, ℤ, ◌++◌, ◌∷◌}
use Rattle.emtp_case.specs.Branch.{points_of}
use Rattle.emtp_case.specs.Case.{empty_parts}
use Rattle.emtp_case.specs.declared.branch.Point.{Point}
use Rattle.emtp_case.specs.declared.case.Parts.{Parts}
use Rattle.emtp_case.specs.declared.control.Block.{Block}
use Rattle.emtp_case.specs.declared.control.Bound.{Bound}
use Rattle.emtp_case.specs.declared.control.Bound.TheVariants.{Fixed, Named, None as NoBound}
use Rattle.emtp_case.specs.declared.control.Device.{Device}
use Rattle.emtp_case.specs.declared.control.Extra.TheVariants.{Device as DeviceExtra, Formula as FormulaExtra}
use Rattle.emtp_case.specs.declared.control.Formula.{Formula}
use Rattle.emtp_case.specs.declared.control.Input.{Input}
use Rattle.emtp_case.specs.declared.source.Shape.{Shape}
use Rattle.emtp_case.specs.declared.source.Shape.TheVariants.{NodeVoltage, SwitchCurrent, SwitchStatus}
use Rattle.emtp_case.specs.declared.source.Source.{Source}
use Rattle.emtp_sense.specs.ControlSense.{find_switch}
use Rattle.emtp_sense.specs.Names.{find_node}
use Rattle.emtp_sense.specs.Variables.{variable_number}
use Rattle.emtp_walk.specs.declared.control_cards.BlockEntry.{BlockEntry}
use Rattle.emtp_walk.specs.declared.control_cards.ExtraEntry.{ExtraEntry}
use Rattle.emtp_walk.specs.declared.control_cards.ExtraEntry.TheVariants.{Device as DeviceEntry, Formula as FormulaEntry}
use Rattle.emtp_walk.specs.declared.deck.Deck.{Deck}
use Rattle.emtp_netcards.specs.declared.source_card.SourceCard.{SourceCard}
use Rattle.emtp_netcards.specs.declared.switch_card.SwitchCard.{SwitchCard}
use Rattle.emtp_taccards.specs.Inputs.{inputs}
use Rattle.emtp_taccards.specs.declared.device_card.DeviceCard.{DeviceCard}
use Rattle.emtp_taccards.specs.declared.formula_card.FormulaCard.{FormulaCard}

-- ---- inputs

abbrev pub input_of : List (List ℕ) → Bool × List ℕ → Input
input_of variables i = record { var = variable_number variables i.1; minus = i.0 }

-- inputs without a name are none
abbrev pub inputs_of : List (List ℕ) → List (Option (Bool × List ℕ)) → List Input
inputs_of variables [] = []
inputs_of variables (None ∷ inputs) = inputs_of variables inputs
inputs_of variables (Some i ∷ inputs) = input_of variables i ∷ inputs_of variables inputs

-- ---- blocks

-- a named limit replaces the fixed one
abbrev pub bound_of : List (List ℕ) → Option (List ℕ) → Option ℤ → Bound
bound_of variables (Some name) fixed = Named (variable_number variables name)
bound_of variables None (Some x) = Fixed x
bound_of variables None None = NoBound

abbrev pub block_of : List (List ℕ) → BlockEntry → Block
block_of variables e = record {
  line = e.card.line;
  var = variable_number variables e.card.name;
  order = e.card.order;
  inputs = inputs_of variables e.card.inputs;
  gain = e.card.gain;
  top = e.top;
  bottom = e.bottom;
  low = bound_of variables e.card.low_name e.card.low;
  high = bound_of variables e.card.high_name e.card.high;
}

-- ---- supplemental cards

-- its points aren't placed yet
abbrev pub device_of : List (List ℕ) → DeviceCard → Device
device_of variables card = record {
  line = card.line;
  var = variable_number variables card.name;
  group = card.group;
  code = card.code;
  inputs = inputs_of variables card.inputs;
  a = card.a;
  b = card.b;
  c = card.c;
  d = option_map (variable_number variables) card.d;
  e = option_map (variable_number variables) card.e;
  first = 0;
  count = 0;
}

abbrev pub formula_of : List (List ℕ) → FormulaCard → Formula
formula_of variables card = record {
  line = card.line;
  var = variable_number variables card.name;
  group = card.group;
  expr = card.parsed.nodes;
  vars = map (variable_number variables) card.parsed.names;
}

abbrev pub with_device : List Point → Parts → Device → Parts
with_device points p device = record p {
  points = p.points ++ points;
  extras = p.extras ++ DeviceExtra (record device { first = length p.points; count = length points }) ∷ [];
}

abbrev pub with_extra : List (List ℕ) → List Point → Parts → ExtraEntry → Parts
with_extra variables points p (DeviceEntry card first count) =
    with_device (points_of points first count) p (device_of variables card)
with_extra variables points p (FormulaEntry card) =
    record p { extras = p.extras ++ FormulaExtra (formula_of variables card) ∷ [] }

-- the nodes and the variables, the blocks and the supplemental cards, before the network
abbrev pub control_parts : List (List ℕ) → List (List ℕ) → Deck → Parts
control_parts nodes variables deck =
    fold (with_extra variables deck.points)
    (record (empty_parts deck.run) { nodes = nodes; vars = variables; blocks = map (block_of variables) deck.control.blocks })
    deck.control.extras

-- ---- sources, which measure in the network

abbrev pub switch_place : List SwitchCard → List ℕ → ℕ
switch_place switches name = unwrap_or (find_switch switches name) 0

abbrev pub measuring : List (List ℕ) → List SwitchCard → List ℕ → Shape → Shape
measuring nodes switches name (NodeVoltage node) = NodeVoltage (unwrap_or (find_node nodes name) 0)
measuring nodes switches name (SwitchCurrent switch) = SwitchCurrent (switch_place switches name)
measuring nodes switches name (SwitchStatus switch) = SwitchStatus (switch_place switches name)
measuring nodes switches name other = other

abbrev pub tacs_source_of : List (List ℕ) → List SwitchCard → List (List ℕ) → SourceCard → Source
tacs_source_of nodes switches variables card = record {
  line = card.line;
  node = variable_number variables card.name;
  current = false;
  shape = measuring nodes switches card.name card.shape;
  amplitude = card.amplitude;
  start = card.start;
  stop = card.stop;
}
