-- The table of the cosine, as what it is the table of.
use Rattle.std.specs.Prelude.{◌-◌, ◌^◌, ◌+ℤ◌, ◌-ℤ◌, ◌*ℤ◌, ℕ, ℤ, pos}
use Rattle.emtp_wave.specs.Cosine.{entry}

-- the sine of so many hundredths of a degree, in 10^-12: the cosine of what is missing to a right angle
abbrev pub sine_entry : ℕ → ℤ
sine_entry j = entry (9000 - j)

-- by how much cos j cos k - sin j sin k exceeds 1 times a third number, in 10^-24
abbrev pub excess_of_sum : ℕ → ℕ → ℤ → ℤ
excess_of_sum j k third = (entry j *ℤ entry k -ℤ sine_entry j *ℤ sine_entry k) -ℤ pos (10 ^ 12) *ℤ third

-- by how much cos^2 + sin^2 exceeds 1, in 10^-24
abbrev pub excess_of_squares : ℕ → ℤ
excess_of_squares j = (entry j *ℤ entry j +ℤ sine_entry j *ℤ sine_entry j) -ℤ pos (10 ^ 24)
