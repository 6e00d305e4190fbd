-- A record of one node and four samples, worked out by hand: as it is written, with a value one step off and two steps off,
-- with other scales, without its last line, and with another name.
use Rattle.std.proofs.Common.{◌≡◌, ℕ, ℤ, pos, ◌^◌, List, [], ◌∷◌, ◌++◌, true, false, Some, None, refl, codes}
use Rattle.emtp_case.specs.declared.case.Parts.{Parts}
use Rattle.emtp_case.specs.declared.channel.Channel.TheVariants.{NodeVoltage as NodeChannel}
use Rattle.emtp_audit.specs.declared.differs.DifferCause.TheVariants.{Missing, Wrong}
use Rattle.emtp_audit.specs.Audit.{audit_differs}
use Rattle.emtp_audit.specs.Cfg.{rates_on, scale_on, unit_on, scales_in, cfg_differs}
use Rattle.emtp_audit.specs.Dat.{first_stamp, dat_differs}
use Rattle.emtp_audit.specs.Rules.{audited_lines, comma_fields}
use Rattle.emtp_audit.specs.Numbers.{whole_of, stamp_of, decimal_in}
use Rattle.emtp_card.specs.Lines.{lines_of}
use Rattle.emtp_card.specs.Field.{trimmed}
use Rattle.emtp_card.specs.Numeral.{decimal_of, exponent_of, limited_whole}
use Rattle.emtp_card.specs.Decimal.{value_in}
use Rattle.emtp_card.specs.Number.{number_in, read_number_of}
use Rattle.emtp_fix.specs.Rounding.{near, near_abs}

one_node : Parts
one_node = record {
  run = record { dt = pos (10 ^ 8); steps = 3; every = 1; tolerance = pos 10000000 };
  nodes = codes "SRC" ∷ codes "MID" ∷ [];
  branches = [];
  trios = [];
  points = [];
  switches = [];
  sources = [];
  vars = [];
  tacs_sources = [];
  blocks = [];
  extras = [];
  channels = NodeChannel 2 ∷ [];
}

four_samples : List (List ℤ)
four_samples = (pos 0 ∷ []) ∷ (pos 50000000000 ∷ []) ∷ (pos 50000000000 ∷ []) ∷ (pos 50000000000 ∷ []) ∷ []

line : List ℕ → List ℕ
line text = text ++ 13 ∷ 10 ∷ []

ended : List ℕ → List ℕ
ended text = text ++ 10 ∷ []

cfg_with : List ℕ → List ℕ
unfolding line
cfg_with name =
    line (codes "EMTP,CASE,1999") ++ line (codes "1,1A,0D") ++ line (codes "1," ++ name ++ codes ",,,V,0.002,0,0,-32767,32767,1,1,P")
    ++ line (codes "60") ++ line (codes "0") ++ line (codes "0,4") ++ line (codes "01/01/2000,00:00:00.000000") ++ line (codes "01/01/2000,00:00:00.000000")
    ++ line (codes "ASCII") ++ line (codes "100")

dat_with : List ℕ → List ℕ → List ℕ
unfolding line
dat_with third fourth = line (codes "1,0,0") ++ line (codes "2,1,25000") ++ line third ++ fourth ++ 26 ∷ []

cfg_rated : List ℕ
unfolding ended
cfg_rated =
    ended (codes "EMTP,CASE,1999") ++ ended (codes "1,1A,0D") ++ ended (codes "1,V MID,,,V,0.002,0,0,-32767,32767,1,1,P")
    ++ ended (codes "60") ++ ended (codes "1") ++ ended (codes "10000,4") ++ ended (codes "01/01/2000,00:00:00.000000") ++ ended (codes "01/01/2000,00:00:00.000000")
    ++ ended (codes "ASCII") ++ ended (codes "1")

dat_rated : List ℕ
unfolding ended
dat_rated = ended (codes "1,0,0") ++ ended (codes "2,100,25000") ++ ended (codes "3,200,25000") ++ ended (codes "4,300,25000")

-- as written
as_written : audit_differs one_node four_samples (cfg_with (codes "V MID")) (dat_with (codes "3,2,25000") (line (codes "4,3,25000"))) ≡ None
unfolding audit_differs cfg_differs dat_differs rates_on scale_on unit_on scales_in first_stamp audited_lines comma_fields whole_of limited_whole stamp_of decimal_in lines_of trimmed decimal_of exponent_of value_in number_in read_number_of near near_abs one_node four_samples line ended cfg_with dat_with cfg_rated dat_rated
as_written = refl

one_step_off : audit_differs one_node four_samples (cfg_with (codes "V MID")) (dat_with (codes "3,2,25001") (line (codes "4,3,25000"))) ≡ None
unfolding audit_differs cfg_differs dat_differs rates_on scale_on unit_on scales_in first_stamp audited_lines comma_fields whole_of limited_whole stamp_of decimal_in lines_of trimmed decimal_of exponent_of value_in number_in read_number_of near near_abs one_node four_samples line ended cfg_with dat_with cfg_rated dat_rated
one_step_off = refl

two_steps_off : audit_differs one_node four_samples (cfg_with (codes "V MID")) (dat_with (codes "3,2,25002") (line (codes "4,3,25000"))) ≡ Some (record { dat = true; line = 3; field = 3; cause = Wrong })
unfolding audit_differs cfg_differs dat_differs rates_on scale_on unit_on scales_in first_stamp audited_lines comma_fields whole_of limited_whole stamp_of decimal_in lines_of trimmed decimal_of exponent_of value_in number_in read_number_of near near_abs one_node four_samples line ended cfg_with dat_with cfg_rated dat_rated
two_steps_off = refl

other_stamps : audit_differs one_node four_samples cfg_rated dat_rated ≡ None
unfolding audit_differs cfg_differs dat_differs rates_on scale_on unit_on scales_in first_stamp audited_lines comma_fields whole_of limited_whole stamp_of decimal_in lines_of trimmed decimal_of exponent_of value_in number_in read_number_of near near_abs one_node four_samples line ended cfg_with dat_with cfg_rated dat_rated
other_stamps = refl

last_line_missing : audit_differs one_node four_samples (cfg_with (codes "V MID")) (dat_with (codes "3,2,25000") []) ≡ Some (record { dat = true; line = 4; field = 1; cause = Missing })
unfolding audit_differs cfg_differs dat_differs rates_on scale_on unit_on scales_in first_stamp audited_lines comma_fields whole_of limited_whole stamp_of decimal_in lines_of trimmed decimal_of exponent_of value_in number_in read_number_of near near_abs one_node four_samples line ended cfg_with dat_with cfg_rated dat_rated
last_line_missing = refl

other_name : audit_differs one_node four_samples (cfg_with (codes "V MIX")) (dat_with (codes "3,2,25000") (line (codes "4,3,25000"))) ≡ Some (record { dat = false; line = 3; field = 2; cause = Wrong })
unfolding audit_differs cfg_differs dat_differs rates_on scale_on unit_on scales_in first_stamp audited_lines comma_fields whole_of limited_whole stamp_of decimal_in lines_of trimmed decimal_of exponent_of value_in number_in read_number_of near near_abs one_node four_samples line ended cfg_with dat_with cfg_rated dat_rated
other_name = refl
