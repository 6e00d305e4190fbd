-- What a check of the configuration's table asks of a field.
use Rattle.std.specs.Prelude.{pos}
use Rattle.emtp_audit.specs.Numbers.{whole_of}
use Rattle.emtp_audit.specs.Rules.{Rule, any_field, text_is, number_is}
use Rattle.emtp_audit.specs.Cfg.{letters_are, counts, is_read}
use Rattle.emtp_audit.specs.declared.check.Check.{Check}
use Rattle.emtp_audit.specs.declared.check.Check.TheVariants.{Any, Text, Letters, Number, Count, Whole}

abbrev pub rule_of : Check → Rule
rule_of Any = any_field
rule_of (Text text) = text_is text.now
rule_of (Letters text) = letters_are text.now
rule_of (Number number) = number_is (pos number)
rule_of (Count letter number) = counts letter number
rule_of Whole = λ field. is_read (whole_of field)
