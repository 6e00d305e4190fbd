-- Worked rows: cards, and what is warned of on them.
use Rattle.std.proofs.Common.{◌≡◌, refl, [], ◌∷◌}
use Rattle.std.specs.Prelude.{codes, pos, negsuc, Some, None, Ok, false, true}
use Rattle.emtp_card.specs.Decimal.{value_in}
use Rattle.emtp_card.specs.Field.{columns, trimmed}
use Rattle.emtp_card.specs.Lines.{fault_of_line}
use Rattle.emtp_card.specs.Name.{name_field}
use Rattle.emtp_card.specs.Number.{held_field, number_field, number_in}
use Rattle.emtp_card.specs.Numeral.{decimal_of, exponent_of, limited_whole}
use Rattle.emtp_card.specs.Whole.{whole_field, whole_in}
use Rattle.emtp_case.specs.declared.branch.Branch.TheVariants.{Line as OfLine, Lumped as OfLumped}
use Rattle.emtp_case.specs.declared.case.Parts.{Parts}
use Rattle.emtp_case.specs.declared.channel.Channel.TheVariants.{NodeVoltage, Tacs as OfVariable}
use Rattle.emtp_case.specs.declared.source.Shape.TheVariants.{Cosine, Step}
use Rattle.emtp_case.specs.declared.switch.SwitchKind.TheVariants.{Time}
use Rattle.emtp_case.specs.Branch.{capacitor_impedance}
use Rattle.emtp_fix.specs.Rounding.{near, near_abs}
use Rattle.emtp_netcards.specs.SourceCard.{active_times}
use Rattle.emtp_taccards.specs.TacsSourceCard as sources
use Rattle.emtp_taccards.specs.TacsSourceCard.{level_of, tacs_source_card}
use Rattle.emtp_warnings.specs.ChannelWarnings.{channel_warnings}
use Rattle.emtp_warnings.specs.ColumnWarnings.{column_warnings}
use Rattle.emtp_warnings.specs.Finding.{of_columns}
use Rattle.emtp_warnings.specs.RecordWarnings.{record_warnings}
use Rattle.emtp_warnings.specs.Warnings.{line_warnings}
use Rattle.emtp_warnings.specs.declared.finding.Finding.TheVariants.{AfterEnd, AskedTwice, EarlyCosine, LateName, LoneNode, NeverActs, NoFrequency, NodeZero, NotRead, NumbersTouch, OpensFirst, ShortTravel}
use Rattle.emtp_warnings.specs.declared.finding.Spot.TheVariants.{Channel, Line}
use Rattle.emtp_warnings.specs.declared.rulers.TheConstants.{COPY, FIRST_RUN, NAMES, SERIES, TIME_SWITCH, VALVE}
use Rattle.emtp_walk.specs.declared.kind.Kind.TheVariants.{Comment}

-- a flashover voltage, which ATP has in columns 45 to 54 of a switch
flashover : column_warnings TIME_SWITCH.now 39 (codes "  BUS   SEND        .005       1.0            5.E3") ≡ of_columns 39 47 50 NotRead ∷ []
flashover = refl

-- 1.5 and 0.25, each one column off
touching : column_warnings SERIES.now 12 (codes "  SRC   MID                1.5000.25") ≡ of_columns 12 32 33 (NumbersTouch 27 38) ∷ []
touching = refl

-- each number ends with its field, and the first one with its point: 600.2 and .05E5 would stand there just so
typed_so : column_warnings SERIES.now 12 (codes "  SRC   MID                 600.2.05E5") ≡ of_columns 12 32 33 (NumbersTouch 27 38) ∷ []
typed_so = refl

-- a card as it should be
right_card : column_warnings SERIES.now 12 (codes "  SRC   MID                  1.0  10.0                                         1") ≡ []
right_card = refl

-- a valve from ground to Y, its name a column too far to the left, and as it was meant
turned : column_warnings VALVE.now 30 (codes "11     Y                                                        FIREN") ≡ of_columns 30 3 8 LateName ∷ []
unfolding trimmed
turned = refl

from_ground : column_warnings VALVE.now 30 (codes "11      Y                                                       FIREN") ≡ []
from_ground = refl

-- a name that fills its field, one that isn't beside a blank field, and a name of a list
whole_name : column_warnings SERIES.now 9 (codes "  BUS12A                     1.0") ≡ []
whole_name = refl

between_two : column_warnings SERIES.now 9 (codes "   BUS12MID                  1.0") ≡ []
unfolding trimmed
between_two = refl

of_a_list : column_warnings NAMES.now 40 (codes "   BUS12") ≡ []
of_a_list = refl

-- a branch that takes the values of another has none of its own
copied : column_warnings COPY.now 13 (codes "  B     C     SRC   MID      2.0   5.0") ≡ of_columns 13 30 32 NotRead ∷ of_columns 13 36 38 NotRead ∷ []
copied = refl

-- a number behind COPT
behind : column_warnings FIRST_RUN.now 2 (codes "   1.E-4   3.E-4                  60.") ≡ of_columns 2 35 37 NotRead ∷ []
behind = refl

-- a comment that goes past column 80
comment : line_warnings 3 Comment (codes "C 280. and 2.95E5 stand here one column too far to the left, as they may where somebody counts columns.") ≡ []
comment = refl

-- a branch, a line of one and a half steps, a switch to a node of the name 0 and one that opens before it closes, a source that
-- begins after the end, one that begins before the run, and one that stops with its start
abbrev parts : Parts
parts = record {
  run = record { dt = pos 1000000; steps = 100; every = 1; tolerance = pos 10000000 };
  nodes = codes "SRC" ∷ codes "MID" ∷ codes "0" ∷ [];
  branches = OfLumped (record { line = 5; «from» = 1; to = 2; r = pos 1000000; l = pos 0; c = pos 0 })
      ∷ OfLine (record { line = 6; «from» = 1; to = 2; zc = pos 1000000; r = pos 0; delay = pos 1500000 }) ∷ [];
  trios = [];
  points = [];
  switches = record { line = 8; «from» = 2; to = 3; kind = Time (pos 100000000) (Some (pos 100000001)) (pos 0) }
      ∷ record { line = 9; «from» = 1; to = 2; kind = Time (pos 5000000) (Some (pos 4999999)) (pos 0) } ∷ [];
  sources = record { line = 10; node = 1; current = false; shape = Cosine (pos 0) (pos 0); amplitude = pos 1; start = pos 200000000; stop = None }
      ∷ record { line = 11; node = 1; current = true; shape = Cosine (pos 1) (pos 0); amplitude = pos 1; start = negsuc 0; stop = None }
      ∷ record { line = 12; node = 1; current = true; shape = Step; amplitude = pos 1; start = pos 7; stop = Some (pos 7) } ∷ [];
  vars = [];
  tacs_sources = [];
  blocks = [];
  extras = [];
  channels = [];
}

records : record_warnings parts
    ≡ record { spot = Line 6; finding = ShortTravel }
    ∷ of_columns 8 9 14 LoneNode ∷ of_columns 8 9 14 NodeZero ∷ of_columns 8 25 34 AfterEnd ∷ of_columns 9 25 34 OpensFirst
    ∷ of_columns 10 21 30 NoFrequency ∷ of_columns 10 61 70 AfterEnd ∷ of_columns 11 61 70 EarlyCosine ∷ of_columns 12 71 80 NeverActs ∷ []
unfolding near near_abs capacitor_impedance
records = refl

-- a node that two output cards name
channels : channel_warnings (NodeVoltage 2 ∷ NodeVoltage 1 ∷ NodeVoltage 2 ∷ OfVariable 2 ∷ []) ≡ (record { spot = Channel 3; finding = AskedTwice }) ∷ []
channels = refl

-- a level of 1.5 in the control, and the same card with a number where a level has none
level : tacs_source_card 5 (codes "11LEV            1.5") ≡ Ok (record { line = 5; name = codes "LEV"; current = false; shape = Step; amplitude = pos 1500000000; start = pos 0; stop = None })
unfolding tacs_source_card sources.fields_of level_of active_times fault_of_line whole_field whole_in limited_whole name_field columns trimmed number_field number_in held_field decimal_of exponent_of value_in
level = refl

level_and_more : tacs_source_card 5 (codes "11LEV            1.5       7.0") ≡ Ok (record { line = 5; name = codes "LEV"; current = false; shape = Step; amplitude = pos 1500000000; start = pos 0; stop = None })
unfolding tacs_source_card sources.fields_of level_of active_times fault_of_line whole_field whole_in limited_whole name_field columns trimmed number_field number_in held_field decimal_of exponent_of value_in
level_and_more = refl
