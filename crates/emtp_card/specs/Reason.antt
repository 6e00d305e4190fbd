-- The numbers of the reasons for which a card is refused.
use Rattle.std.specs.Prelude.{ℕ}
use Rattle.emtp_card.specs.declared.reason.Why.{Why}
use Rattle.emtp_card.specs.declared.reason.Why.TheVariants.{ByteOutside, PastColumn80, NotANumber, NotWhole, OutOfUnitRange, TooManyLines, BadType, BadName, BadImpedance, ShortLine, BadPoints, BadOrder, UnknownName, TwoSources, TooMany, MissingSection, TooManySamples, BadExpression}

-- the number of a reason; of two faults in one place the lesser number counts
abbrev pub reason_number : Why → ℕ
reason_number ByteOutside = 1
reason_number PastColumn80 = 2
reason_number NotANumber = 3
reason_number NotWhole = 4
reason_number OutOfUnitRange = 5
reason_number TooManyLines = 6
reason_number BadType = 7
reason_number BadName = 8
reason_number BadImpedance = 9
reason_number ShortLine = 10
reason_number BadPoints = 11
reason_number BadOrder = 12
reason_number UnknownName = 13
reason_number TwoSources = 14
reason_number TooMany = 15
reason_number MissingSection = 16
reason_number TooManySamples = 17
reason_number BadExpression = 18
