use Rattle.std.proofs.Common.{◌≡◌, ◌∙◌, ap, pos, ◌+ℤ◌, ◌-ℤ◌, ◌%◌, to_z, refl, sym, subst, FitsSigned, arith}
use mir.Syntax.{w64}
use Rattle.std.proofs.lemmas.Int.{ints, to_z-of_z}
use Rattle.emtp_case.specs.Branch.{line_impedance}
use Rattle.emtp_fix.specs.Rounding.{near}
use Rattle.emtp_fix.specs.declared.limit.TheConstants.{PICO}
use Rattle.emtp_fix.proofs.Wide.{through_64}
use Rattle.emtp_line.specs.Mode.{far_share_of}
use Rattle.emtp_line.specs.held.Mode.{IsMode}
use Rattle.std.proofs.Math.Nat.{mod-lt}
use Rattle.emtp_line.proofs.Bounds.{made, mode_fits, quarter_range}
use Rattle.emtp_line.proofs.mode.Mode.of.Goals as goal

pub share-far_share-requires-clause-part : goal.share-far_share-requires-clause-part
share-far_share-requires-clause-part c =
    let zc64 : FitsSigned w64 c.args.zc = c.ranges.zc in
    let r64 : FitsSigned w64 c.args.r = c.ranges.r in
    let is = simp to_z-of_z at c.line_impedance.ensures in
    let end = c.requires.line.impedance in
    let z : c.narrow-z.result ≡ line_impedance c.args.zc c.args.r = omega (arith, ints, c.narrow-z.ensures, is, end.least, end.most) in
    let whole : line_impedance c.args.zc c.args.r ≡ c.args.zc +ℤ near c.args.r (pos 4) = refl in
    let q = quarter_range c.args.r c.requires.line.r in
    let h = c.requires.line.surge in
    omega (arith, ints, z, whole, q.least, q.most, h.least, h.most)

pub overflow_sub-zc : goal.overflow_sub-zc
overflow_sub-zc c =
    let zc64 : FitsSigned w64 c.args.zc = c.ranges.zc in
    let r64 : FitsSigned w64 c.args.r = c.ranges.r in
    let is = simp to_z-of_z at c.line_impedance.ensures in
    let end = c.requires.line.impedance in
    let z : c.narrow-z.result ≡ line_impedance c.args.zc c.args.r = omega (arith, ints, c.narrow-z.ensures, is, end.least, end.most) in
    let h = c.requires.line.impedance in
    let k = c.requires.line.surge in
    omega (arith, ints, z, h.least, h.most, k.least, k.most)

pub share-requires-clause-part : goal.share-requires-clause-part
share-requires-clause-part c =
    let zc64 : FitsSigned w64 c.args.zc = c.ranges.zc in
    let r64 : FitsSigned w64 c.args.r = c.ranges.r in
    let is = simp to_z-of_z at c.line_impedance.ensures in
    let end = c.requires.line.impedance in
    let z : c.narrow-z.result ≡ line_impedance c.args.zc c.args.r = omega (arith, ints, c.narrow-z.ensures, is, end.least, end.most) in
    let whole : line_impedance c.args.zc c.args.r ≡ c.args.zc +ℤ near c.args.r (pos 4) = refl in
    let q = quarter_range c.args.r c.requires.line.r in
    let h = c.requires.line.surge in
    let k = c.requires.line.impedance in
    omega (arith, ints, z, whole, q.least, q.most, h.least, h.most, k.most)

pub returns-clause-value : goal.returns-clause-value
returns-clause-value c =
    let dt : FitsSigned w64 c.args.dt = c.ranges.dt in
    let delay : FitsSigned w64 c.args.delay = c.ranges.delay in
    let zc64 : FitsSigned w64 c.args.zc = c.ranges.zc in
    let r64 : FitsSigned w64 c.args.r = c.ranges.r in
    let is = simp to_z-of_z at c.line_impedance.ensures in
    let end = c.requires.line.impedance in
    let zr : c.narrow-z.result ≡ line_impedance c.args.zc c.args.r = omega (arith, ints, c.narrow-z.ensures, is, end.least, end.most) in
    let whole : line_impedance c.args.zc c.args.r ≡ c.args.zc +ℤ near c.args.r (pos 4) = refl in
    let q = quarter_range c.args.r c.requires.line.r in
    let h = c.requires.line.surge in
    let z = to_z-of_z w64 c.narrow-z.result (omega (arith, c.narrow-z.type_inv)) ∙ zr in
    let zc = to_z-of_z w64 c.args.zc zc64 in
    let quarter : line_impedance c.args.zc c.args.r -ℤ c.args.zc ≡ near c.args.r (pos 4) = omega (arith, ints, whole) in
    let quarter' = through_64 (near c.args.r (pos 4)) (omega (arith, ints, q.least, q.most)) in
    let part = through_64 (c.args.zc -ℤ near c.args.r (pos 4)) (omega (arith, ints, h.least, h.most, q.least, q.most)) in
    let g = to_z-of_z w64 c.conductance.result (omega (arith, c.conductance.type_inv)) ∙ rw z at c.conductance.ensures.value in
    let f = to_z-of_z w64 c.share.result (omega (arith, c.share.type_inv)) ∙ rw (z, zc, quarter, quarter', part) at c.share.ensures.value in
    let far = rw (zc, z) at c.share-far_share.ensures.value in
    let a = to_z-of_z w64 c.share-far_share.result (omega (arith, c.share-far_share.type_inv)) ∙ far in
    let b = through_64 (PICO -ℤ far_share_of c.args.zc c.args.r) (omega (arith, ints, rw far at c.share-far_share.ensures.bound)) in
    let rest : to_z w64 (c.unsigned_abs-3.result % c.unsigned_abs-4.result) ≡ pos (c.unsigned_abs-3.result % c.unsigned_abs-4.result) = omega (arith, ints, mod-lt c.unsigned_abs-3.result {m = c.unsigned_abs-4.result} (omega (arith, ints, c.unsigned_abs-4.ensures.value, c.requires.dt.least)), c.unsigned_abs-4.ensures.value, c.requires.dt.most) in
    let n = simp to_z-of_z at c.unsigned_abs.ensures.value in
    let d = simp to_z-of_z at c.unsigned_abs-2.ensures.value in
    let n' = simp to_z-of_z at c.unsigned_abs-3.ensures.value in
    let d' = simp to_z-of_z at c.unsigned_abs-4.ensures.value in
    made c.args.dt c.args.zc c.args.r c.args.delay _ _ _ _ _ _ _ g f a (rw a b) (rw (n, d) refl) (rest ∙ ap pos (rw (n', d') refl)) (to_z-of_z w64 c.args.dt dt)

pub returns-clause-fits : goal.returns-clause-fits
returns-clause-fits c = subst IsMode (sym (returns-clause-value c)) (mode_fits c.args.dt c.args.zc c.args.r c.args.delay c.requires.dt c.requires.line)
