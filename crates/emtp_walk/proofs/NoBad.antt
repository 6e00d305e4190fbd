-- What it says that nothing is bad.
use Rattle.std.proofs.Common.{◌≡◌, ℕ, Option, Some, None, option_map, refl}
use Rattle.emtp_card.specs.Fault.{bad_at}
use Rattle.emtp_card.specs.declared.fault.Fault.{Fault}
use Rattle.emtp_card.specs.declared.reason.Bad.{Bad}
use Rattle.emtp_walk.specs.Answer.{first_bad}

pub no_bad : (line : ℕ) (fault : Option Fault) → option_map (bad_at line) fault ≡ None → fault ≡ None
no_bad line None e = refl
no_bad line (Some fault) e = absurd (cc)

pub nothing_before : (a b : Option Bad) → first_bad a b ≡ None → (a ≡ None) × (b ≡ None)
nothing_before None b e = (refl, e)
nothing_before (Some a) b e = absurd (cc)
