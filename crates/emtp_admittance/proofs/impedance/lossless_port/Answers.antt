use Rattle.std.proofs.Common.{◌≡◌, ◌∙◌, ◌≤◌, ◌^◌, ◌*ℤ◌, ◌-ℤ◌, neg_ℤ, pos, ap, unsigned_abs, FitsSigned, to_z, of_z, arith, rules}
use mir.Syntax.{w64, w128}
use Rattle.std.proofs.lemmas.Int.{ints, to_z-of_z}
use Rattle.emtp_fix.specs.Rounding.{near}
use Rattle.emtp_fix.specs.declared.limit.TheConstants.{ATTO, LARGEST_ENTRY}
use Rattle.emtp_admittance.specs.Impedance.{susceptance}
use Rattle.emtp_admittance.proofs.Reactances.{product_nonzero, own_small, lossless_is}
use Rattle.emtp_admittance.proofs.impedance.lossless_port.Goals as goal

span_is : (c : goal.After-product-span) → c.product-span.result ≡ c.args.sn *ℤ c.args.zc
span_is c =
    let a : FitsSigned w64 c.args.sn = c.ranges.sn in
    let b : FitsSigned w64 c.args.zc = c.ranges.zc in
    let a' : FitsSigned w128 c.args.sn = search rules in
    let b' : FitsSigned w128 c.args.zc = search rules in
    simp to_z-of_z at c.product-span.ensures.value

wide_span : (c : goal.After-product-span) → to_z w128 (of_z w128 c.product-span.result) ≡ c.product-span.result
wide_span c = omega (arith, ints, c.product-span.ensures.bound)

pub near-mutual-requires-clause-nonzero : goal.near-mutual-requires-clause-nonzero
near-mutual-requires-clause-nonzero c = rw (wide_span c) (product_nonzero c.product-span.result c.args.sn c.args.zc (span_is c) c.requires.nonzero c.requires.zc.least)

else_span : (c : goal.Else-unsigned_abs-gt-LARGEST_ENTRY) → c.product-span.result ≡ c.args.sn *ℤ c.args.zc
else_span c =
    let a : FitsSigned w64 c.args.sn = c.ranges.sn in
    let b : FitsSigned w64 c.args.zc = c.ranges.zc in
    let a' : FitsSigned w128 c.args.sn = search rules in
    let b' : FitsSigned w128 c.args.zc = search rules in
    simp to_z-of_z at c.product-span.ensures.value

else_wide : (c : goal.Else-unsigned_abs-gt-LARGEST_ENTRY) → to_z w128 (of_z w128 c.product-span.result) ≡ c.product-span.result
else_wide c = omega (arith, ints, c.product-span.ensures.bound)

pub quotient-requires-clause-nonzero : goal.quotient-requires-clause-nonzero
quotient-requires-clause-nonzero c = rw (else_wide c) (product_nonzero c.product-span.result c.args.sn c.args.zc (else_span c) c.requires.nonzero c.requires.zc.least)

mutual_is : (c : goal.Else-unsigned_abs-gt-LARGEST_ENTRY) → c.near-mutual.result ≡ near (pos (10 ^ 30)) c.product-span.result
mutual_is c = rw (else_wide c) at c.near-mutual.ensures.value

pub quotient-requires-clause-small : goal.quotient-requires-clause-small
quotient-requires-clause-small c =
    let a : FitsSigned w64 c.args.cs = c.ranges.cs in
    let narrow : to_z w64 (of_z w64 c.args.cs) ≡ c.args.cs = to_z-of_z w64 c.args.cs a in
    let wide : to_z w128 (of_z w128 c.args.cs) ≡ c.args.cs = omega (arith, ints, c.requires.cs) in
    let bound : to_z w128 (of_z w128 c.near-mutual.result) ≡ c.near-mutual.result = omega (arith, ints, c.near-mutual.ensures.bound) in
    let less : unsigned_abs (to_z w128 (of_z w128 c.near-mutual.result)) ≤ LARGEST_ENTRY = omega (arith, c.if-unsigned_abs-gt-LARGEST_ENTRY.false, c.unsigned_abs.ensures.value) in
    let size : unsigned_abs c.near-mutual.result ≤ LARGEST_ENTRY = rw bound at less in
    let known : unsigned_abs (near (pos (10 ^ 30)) c.product-span.result) ≤ LARGEST_ENTRY = rw (mutual_is c) at size in
    rw (narrow, wide, else_wide c) (own_small c.args.cs c.product-span.result c.requires.cs known)

pub susceptance-requires : goal.susceptance-requires
susceptance-requires c = omega (arith, ints, c.quotient.ensures.small)

pub returns-else-unsigned_abs-gt-LARGEST_ENTRY-clause-value : goal.returns-else-unsigned_abs-gt-LARGEST_ENTRY-clause-value
returns-else-unsigned_abs-gt-LARGEST_ENTRY-clause-value c =
    let a : FitsSigned w64 c.args.cs = c.ranges.cs in
    let narrow : to_z w64 (of_z w64 c.args.cs) ≡ c.args.cs = to_z-of_z w64 c.args.cs a in
    let wide : to_z w128 (of_z w128 c.args.cs) ≡ c.args.cs = omega (arith, ints, c.requires.cs) in
    let span : to_z w128 (of_z w128 c.product-span.result) ≡ c.product-span.result = omega (arith, ints, c.product-span.ensures.bound) in
    let b : FitsSigned w64 c.args.sn = c.ranges.sn in
    let d : FitsSigned w64 c.args.zc = c.ranges.zc in
    let b' : FitsSigned w128 c.args.sn = search rules in
    let d' : FitsSigned w128 c.args.zc = search rules in
    let is : c.product-span.result ≡ c.args.sn *ℤ c.args.zc = simp to_z-of_z at c.product-span.ensures.value in
    let coupled : c.near-mutual.result ≡ near (pos (10 ^ 30)) c.product-span.result = rw span at c.near-mutual.ensures.value in
    let bound : to_z w128 (of_z w128 c.near-mutual.result) ≡ c.near-mutual.result = omega (arith, ints, c.near-mutual.ensures.bound) in
    let less : unsigned_abs (to_z w128 (of_z w128 c.near-mutual.result)) ≤ LARGEST_ENTRY = omega (arith, c.if-unsigned_abs-gt-LARGEST_ENTRY.false, c.unsigned_abs.ensures.value) in
    let small : unsigned_abs c.near-mutual.result ≤ LARGEST_ENTRY = rw bound at less in
    let turn : c.quotient.result ≡ near (c.args.cs *ℤ ATTO) c.product-span.result = rw (narrow, wide, span) at c.quotient.ensures.value in
    let first : to_z w64 (of_z w64 (pos 0 -ℤ to_z w64 (of_z w64 c.quotient.result))) ≡ neg_ℤ c.quotient.result = omega (arith, ints, c.quotient.ensures.small) in
    let second : to_z w64 (of_z w64 (to_z w128 (of_z w128 c.near-mutual.result))) ≡ c.near-mutual.result = omega (arith, ints, small) in
    lossless_is c.args.cs c.args.sn c.args.zc c.product-span.result c.quotient.result c.near-mutual.result _ _ is coupled small turn (c.susceptance.ensures.value ∙ ap susceptance first) (c.susceptance-else-unsigned_abs-gt-LARGEST_ENTRY.ensures.value ∙ ap susceptance second)
