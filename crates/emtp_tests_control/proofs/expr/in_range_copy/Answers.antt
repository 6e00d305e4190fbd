use Rattle.std.proofs.Common.{◌≤◌, sym, subst, unsigned_abs, ℤ}
use Rattle.std.proofs.lemmas.List.Elements.{All-push}
use Rattle.emtp_expr.specs.held.Value.{AreInRange}
use Rattle.emtp_fix.proofs.Wide.{through_64}
use Rattle.emtp_fix.specs.declared.limit.TheConstants.{LARGEST_VALUE}
use Rattle.emtp_tests_control.proofs.expr.in_range_copy.Goals as goal

pub loop-value-preserved : goal.loop-value-preserved
loop-value-preserved c =
    let small = subst (λ (z : ℤ). unsigned_abs z ≤ LARGEST_VALUE) (sym (through_64 c.held.result c.held.ensures)) c.held.ensures in
    subst AreInRange (sym c.in_ok-push.ensures.items) (All-push (λ x. unsigned_abs x ≤ LARGEST_VALUE) c.loop-value.copy.items _ c.loop-value.invariant small)
