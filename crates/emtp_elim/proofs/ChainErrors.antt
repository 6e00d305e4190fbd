-- What holds of the error that stages, one after another, end with.
use Rattle.std.proofs.Common.{◌≡◌, Option, Some, None, Result, Ok, Err, IfErr, refl}
use Rattle.emtp_fix.specs.Chain.{◌>>=◌, unless}

pub then_err : {A B E : Type 0} (P : E → Type 0) (x : Result A E) (f : A → Result B E) → IfErr x P → ((a : A) → x ≡ Ok a → IfErr (f a) P) → IfErr (x >>= f) P
then_err P (Ok a) f first later = later a refl
then_err P (Err e) f first later = first

pub unless_err : {X A E : Type 0} (P : E → Type 0) (o : Option X) (error : X → E) (answer : Result A E) → ((x : X) → o ≡ Some x → P (error x)) → IfErr answer P → IfErr (unless o error answer) P
unless_err P None error answer first later = later
unless_err P (Some x) error answer first later = first x refl
