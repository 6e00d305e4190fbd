-- A call that stopped because only memory was wanting.
use Rattle.std.proofs.Common.{◌≡◌, ◌∙◌}
use Rattle.std.specs.Prelude.{Err, IfErr, Ok, Result}
use Rattle.std.specs.Result.{IsErrAnd}
use Rattle.emtp_card.specs.declared.reason.Refused.{Refused}
use Rattle.emtp_walk.specs.held.Answer.{IsWant}

-- the error of a `?` is returned as it is
pub want_left : {X : Type 0} (r : Result X Refused) (e : Refused) → IsErrAnd r (λ left. left ≡ e) → IsWant e → IfErr r IsWant
want_left (Ok x) e is want = absurd is
want_left (Err left) e is want = is ∙ want
