use Rattle.std.proofs.Common.{◌≤◌, ◌*ℤ◌, List, ℤ, ap, length, lt-length-set, pos, negsuc, to_z, of_z, unsigned_abs, arith}
use mir.Syntax.{w64}
use Rattle.std.proofs.lemmas.Int.{ints}
use Rattle.std.proofs.lemmas.List.{length-take}
use Rattle.emtp_case.specs.held.Case.{IsControl}
use Rattle.emtp_case.specs.held.Control.{AreKnown}
use Rattle.emtp_case.specs.declared.case.Parts.{Parts}
use Rattle.emtp_fix.proofs.Wide.{through_64}
use Rattle.emtp_fix.specs.declared.limit.TheConstants.{LARGEST_VALUE}
use Rattle.emtp_tacs.proofs.Folds.{known-set}
use Rattle.emtp_tacs.proofs.standing.set_standing.Goals as goal

six_there : (p : Parts) (values : List ℤ) → IsControl p → AreKnown p values → 6 ≤ length values
six_there p values control known = omega (arith, ap length control.standing, length-take 6 p.vars, known.one_each)

pub returns-clause-values : goal.returns-clause-values
returns-clause-values c =
    let case = c.args.case.now.parts in
    let time : unsigned_abs (to_z w64 (of_z w64 c.nanoseconds.result)) ≤ LARGEST_VALUE = rw (through_64 c.nanoseconds.result (omega (arith, c.nanoseconds.ensures.small))) (omega (arith, c.nanoseconds.ensures.small)) in
    let dt : unsigned_abs (to_z w64 (of_z w64 c.nanoseconds-2.result)) ≤ LARGEST_VALUE = rw (through_64 c.nanoseconds-2.result (omega (arith, c.nanoseconds-2.ensures.small))) (omega (arith, c.nanoseconds-2.ensures.small)) in
    let step : unsigned_abs (to_z w64 (of_z w64 (to_z w64 (of_z w64 c.from.result) *ℤ pos 1000000000))) ≤ LARGEST_VALUE = omega (arith, ints, c.from.ensures, c.requires.step, c.args.case.now.fits.draft.run.few_steps) in
    let v0 = known-set case c.args.values.now 0 (to_z w64 (of_z w64 c.nanoseconds.result)) time c.requires.values in
    let v1 = known-set case _ 1 (to_z w64 (of_z w64 (to_z w64 (of_z w64 c.from.result) *ℤ pos 1000000000))) step v0 in
    let v2 = known-set case _ 2 (to_z w64 (of_z w64 c.nanoseconds-2.result)) dt v1 in
    let v3 = known-set case _ 3 (pos 0) (omega arith) v2 in
    let v4 = known-set case _ 4 (pos 1000000000) (omega arith) v3 in
    known-set case _ 5 (negsuc 999999999) (omega arith) v4

pub bounds-values-0 : goal.bounds-values-0
bounds-values-0 c = omega (arith, six_there c.args.case.now.parts c.args.values.now c.args.case.now.fits.draft.control c.requires.values)

pub bounds-values-1 : goal.bounds-values-1
bounds-values-1 c = lt-length-set _ _ _ (omega (arith, six_there c.args.case.now.parts c.args.values.now c.args.case.now.fits.draft.control c.requires.values))

pub bounds-values-2 : goal.bounds-values-2
bounds-values-2 c = lt-length-set _ _ _ (lt-length-set _ _ _ (omega (arith, six_there c.args.case.now.parts c.args.values.now c.args.case.now.fits.draft.control c.requires.values)))

pub bounds-values-4 : goal.bounds-values-4
bounds-values-4 c = lt-length-set _ _ _ (lt-length-set _ _ _ (lt-length-set _ _ _ (lt-length-set _ _ _ (omega (arith, six_there c.args.case.now.parts c.args.values.now c.args.case.now.fits.draft.control c.requires.values)))))

pub bounds-values-5 : goal.bounds-values-5
bounds-values-5 c = lt-length-set _ _ _ (lt-length-set _ _ _ (lt-length-set _ _ _ (lt-length-set _ _ _ (lt-length-set _ _ _ (omega (arith, six_there c.args.case.now.parts c.args.values.now c.args.case.now.fits.draft.control c.requires.values))))))
