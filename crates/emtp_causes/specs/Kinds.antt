-- The names of kinds of lines.
use Rattle.std.specs.Prelude.{List, codes, ℕ}
use Rattle.emtp_walk.specs.declared.kind.Kind.{Kind}
use Rattle.emtp_walk.specs.declared.kind.Kind.TheVariants as read
use Rattle.emtp_causes.specs.declared.texts.TheConstants.{BEGIN_CARD, BLOCK_CARD, BRANCH_CARD, CARD_BEHIND, COEFFICIENT_CARD, COMMENT_LINE, FIRST_RUN_CARD, HYBRID_CARD, INITIAL_CARD, OUTPUT_CARD, POINT_CARD, SECOND_RUN_CARD, SECTION_END, SOURCE_CARD, SUPPLEMENTAL_CARD, SWITCH_CARD, TACS_OUTPUT_CARD, TACS_SOURCE_CARD, TOLERANCE_CARD, VINTAGE_CARD}

abbrev pub kind_name : Kind → List ℕ
kind_name read.Comment = COMMENT_LINE.now
kind_name read.SectionEnd = SECTION_END.now
kind_name read.Begin = BEGIN_CARD.now
kind_name read.Tolerance = TOLERANCE_CARD.now
kind_name read.FirstRun = FIRST_RUN_CARD.now
kind_name read.SecondRun = SECOND_RUN_CARD.now
kind_name read.Hybrid = HYBRID_CARD.now
kind_name read.Block = BLOCK_CARD.now
kind_name (read.Coefficients order) = COEFFICIENT_CARD.now
kind_name read.TacsSource = TACS_SOURCE_CARD.now
kind_name read.Extra = SUPPLEMENTAL_CARD.now
kind_name read.TacsOutput = TACS_OUTPUT_CARD.now
kind_name read.Initial = INITIAL_CARD.now
kind_name read.Vintage = VINTAGE_CARD.now
kind_name (read.Branch wide) = BRANCH_CARD.now
kind_name (read.Point scale) = POINT_CARD.now
kind_name read.Switch = SWITCH_CARD.now
kind_name read.Source = SOURCE_CARD.now
kind_name read.Output = OUTPUT_CARD.now
kind_name read.After = CARD_BEHIND.now
