-- Words in front of small texts.
use Rattle.std.proofs.Common.{◌≡◌, refl, [], ◌∷◌, map}
use Rattle.std.specs.Prelude.{codes}
use Rattle.emtp_expr.specs.Words.{dotted, exponent_length, fraction_length, mantissa_length, name_length, number_length, power_length, sign_length}

-- a point and a power belong to a number; a power without digits, and the point of a dotted word, don't
numbers : map number_length (codes "1.5E-3*X" ∷ codes "1.5E+X" ∷ codes "1.EQ.2" ∷ codes "1..EQ.2" ∷ codes "2E" ∷ codes "X" ∷ []) ≡ 6 ∷ 3 ∷ 1 ∷ 2 ∷ 1 ∷ 0 ∷ []
unfolding number_length mantissa_length fraction_length exponent_length power_length sign_length dotted
numbers = refl

-- a name has six letters and digits at most
names : map name_length (codes "SINE*2" ∷ codes "VALUE1A" ∷ codes "1A" ∷ []) ≡ 4 ∷ 6 ∷ 0 ∷ []
unfolding name_length
names = refl
