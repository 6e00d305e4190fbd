use Rattle.std.proofs.Common.{◌≡◌, to_z, of_z, FitsSigned, arith, rules}
use mir.Syntax.{w64}
use Rattle.std.proofs.lemmas.Int.{to_z-of_z, fits_signed_from_abs}
use Rattle.emtp_lumped.proofs.held.HeldBranch.step.Goals as goal

pub returns-then-next-ne0-clause-moved : goal.returns-then-next-ne0-clause-moved
returns-then-next-ne0-clause-moved c = λ is.
    let v : FitsSigned w64 c.args.v = c.ranges.v in
    let w : FitsSigned w64 c.args.w = c.ranges.w in
    simp to_z-of_z at (c.step_with_care.ensures.moved is)

pub returns-then-next-ne0-clause-out : goal.returns-then-next-ne0-clause-out
returns-then-next-ne0-clause-out c = λ is.
    let v : FitsSigned w64 c.args.v = c.ranges.v in
    let w : FitsSigned w64 c.args.w = c.ranges.w in
    simp to_z-of_z at (c.step_with_care.ensures.out is)

pub returns-clause-moved : goal.returns-clause-moved
returns-clause-moved c = λ is.
    let none = c.if-next-ne0.false in
    let v : FitsSigned w64 c.args.v = c.ranges.v in
    let w : FitsSigned w64 c.args.w = c.ranges.w in
    let across = simp to_z-of_z at (c.overflowing_difference-across.ensures (c.overflowing_next-next.ensures.overflow none)) in
    let across_fits : FitsSigned w64 c.overflowing_difference-across.result.0 = search rules in
    rw across at (simp to_z-of_z at (c.overflowing_next-next.ensures.value none))

pub returns-clause-held : goal.returns-clause-held
returns-clause-held c =
    let none = c.if-next-ne0.false in
    let small = c.overflowing_next-next.ensures.small in
    let history : FitsSigned w64 c.overflowing_next-next.result.history_current = fits_signed_from_abs w64 c.overflowing_next-next.result.history_current (omega (arith, small)) in
    let same : to_z w64 (of_z w64 c.overflowing_next-next.result.history_current) ≡ c.overflowing_next-next.result.history_current = to_z-of_z w64 c.overflowing_next-next.result.history_current history in
    rw same (record {
      companion = c.requires.companion;
      state = c.overflowing_next-next.ensures.range none;
      history = record { far = omega (arith, small); is = λ within. c.overflowing_next-next.ensures.history none };
    })
