-- The group and the name of a supplemental card.
use Rattle.std.specs.Prelude.{ℕ, ℤ, pos, List, Option, Some, None, Result, Ok, Err, if◌then◌else◌}
use Rattle.std.specs.Ordering.{int_eq}
use Rattle.emtp_card.specs.Name.{name_field}
use Rattle.emtp_card.specs.Whole.{whole_field}
use Rattle.emtp_card.specs.declared.fault.Fault.{Fault}
use Rattle.emtp_card.specs.declared.reason.Why.{Why}
use Rattle.emtp_card.specs.declared.reason.Why.TheVariants.{BadType}
use Rattle.emtp_case.specs.declared.control.Group.{Group}
use Rattle.emtp_case.specs.declared.control.Group.TheVariants.{Input, Inside, Output}
use Rattle.emtp_netcards.specs.Fields.{needed}
use Rattle.emtp_netcards.specs.Reading.{both, in_column}

-- columns 1 and 2: the group
abbrev pub group_of : ℤ → Result Group Why
group_of n =
    if int_eq n (pos 99) then Ok Input
    else if int_eq n (pos 88) then Ok Inside
    else if int_eq n (pos 98) then Ok Output
    else Err BadType

abbrev pub group_by : Result (Option ℤ) Why → Result Group Why
group_by (Ok None) = Err BadType
group_by (Ok (Some n)) = group_of n
group_by (Err why) = Err BadType

abbrev pub group_field : List ℕ → Result Group Why
group_field line = group_by (whole_field line 1 2)

-- the name in columns 3 to 8
unfoldable pub head_of : List ℕ → Result (Group × List ℕ) Fault
head_of line = both (in_column 1 (group_field line)) (in_column 3 (needed (name_field line 3)))
