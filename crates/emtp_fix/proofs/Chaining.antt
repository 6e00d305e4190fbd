-- Stages of which each is made.
use Rattle.std.proofs.Common.{◌≡◌, Option, Some, None, Result, Ok, Err, refl}
use Rattle.emtp_fix.specs.Chain.{◌>>=◌, unless}

pub same_ok : {A E : Type 0} (x y : A) → (let r : Result A E = Ok x in r) ≡ Ok y → x ≡ y
same_ok x y e = cc

-- what is made in two stages
pub then_ok : {A B E : Type 0} (x : Result A E) (f : A → Result B E) (y : B) → (x >>= f) ≡ Ok y → (a : A) × (x ≡ Ok a) × (f a ≡ Ok y)
then_ok (Ok a) f y is = (a, refl, is)
then_ok (Err e) f y is = absurd (cc)

-- where there is an answer, there was no error
pub unless_ok : {X A E : Type 0} (o : Option X) (error : X → E) (answer : Result A E) (y : A) → unless o error answer ≡ Ok y → (o ≡ None) × (answer ≡ Ok y)
unless_ok None error answer y is = (refl, is)
unless_ok (Some x) error answer y is = absurd (cc)
