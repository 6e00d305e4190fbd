-- Complex admittances as blocks of real numbers.
use Rattle.std.specs.Prelude.{ℕ, ◌==◌, ◌%◌, ℤ, pos, neg_ℤ, Bool, true, false, List, slice_index_or}
use Rattle.emtp_admittance.specs.declared.admittance.Admittance.{Admittance}
use Rattle.emtp_admittance.specs.declared.admittance.TwoPort.{TwoPort}

-- an even row or column stands for a real part, an odd one for an imaginary part
abbrev pub is_imaginary : ℕ → Bool
is_imaginary k = k % 2 == 1

-- what the admittance g + jb puts into a row and a column by their parts: the block of g and -b over b and g
abbrev pub in_block : Bool → Bool → Admittance → ℤ
in_block false false y = y.conductance
in_block false true y = neg_ℤ y.susceptance
in_block true false y = y.susceptance
in_block true true y = y.conductance

abbrev pub no_admittance : Admittance
no_admittance = record { conductance = pos 0; susceptance = pos 0 }

abbrev pub no_port : TwoPort
no_port = record { own = no_admittance; other = no_admittance }

abbrev pub port_at : List TwoPort → ℕ → TwoPort
port_at ports b = slice_index_or ports b no_port
