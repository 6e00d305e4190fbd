use Rattle.std.proofs.Common.{◌≡◌, true}
use Rattle.emtp_case.specs.Control.{bilinear}
use Rattle.emtp_taccards.specs.PolynomialCard.{stays}
use Rattle.emtp_taccards.proofs.polynomial_card.stays.Given as goal

abbrev pub invariant-loop-i : goal.invariant-loop-i
invariant-loop-i l = record {
  so_far : l.p ≡ bilinear l.dt l.x l.i;
  within : stays l.dt l.x l.i ≡ true;
}
