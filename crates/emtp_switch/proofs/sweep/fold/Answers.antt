use Rattle.std.proofs.Common.{◌≡◌, ◌≢◌, ◌∙◌, ◌≤◌, ◌<◌, ◌^◌, ◌+◌, ◌+ℤ◌, ◌-ℤ◌, ℤ, List, ap, length, length-set, neg_ℤ, pos, slice_set, of_z, to_z, unsigned_abs, arith}
use mir.Syntax.{w128}
use Rattle.std.proofs.lemmas.Int.{fits_signed_from_abs, ints}
use Rattle.std.proofs.lemmas.List.Sums.{get_or-le-sum_by, sum_by-set}
use Rattle.emtp_fix.proofs.Wide.{abs-add-le, through}
use Rattle.emtp_fix.specs.Items.{item}
use Rattle.emtp_switch.specs.held.Tree.{folded, weight}
use Rattle.emtp_switch.specs.declared.sweep.Link.{Link}
use Rattle.emtp_switch.proofs.sweep.fold.Goals as goal

-- what the near end holds once the far one is empty
abbrev left_near : Link → List ℤ → ℤ
left_near link rest = item (slice_set rest link.leaf (pos 0)) link.near

-- both ends together are within what all places hold
both_light : (link : Link) (rest : List ℤ) → link.leaf < length rest → link.near < length rest → link.leaf ≢ link.near → unsigned_abs (left_near link rest) + unsigned_abs (item rest link.leaf) ≤ weight rest
both_light link rest leaf near apart =
    let emptied : weight (slice_set rest link.leaf (pos 0)) + unsigned_abs (item rest link.leaf) ≡ weight rest + 0 = sum_by-set unsigned_abs rest link.leaf (pos 0) (pos 0) leaf in
    let there : unsigned_abs (left_near link rest) ≤ weight (slice_set rest link.leaf (pos 0)) = get_or-le-sum_by unsigned_abs (slice_set rest link.leaf (pos 0)) link.near (pos 0) (rw length-set near) in
    omega (arith, emptied, there)

-- the far end's magnitude is within what all places hold
held : (link : Link) (rest : List ℤ) → link.leaf < length rest → unsigned_abs (item rest link.leaf) ≤ weight rest
held link rest leaf = get_or-le-sum_by unsigned_abs rest link.leaf (pos 0) leaf

-- what the far end holds, as the code reads it
read : (link : Link) (rest : List ℤ) → link.leaf < length rest → weight rest ≤ 10 ^ 30 → to_z w128 (of_z w128 (item rest link.leaf)) ≡ item rest link.leaf
read link rest leaf light = through (item rest link.leaf) (omega (arith, held link rest leaf, light))

-- and its negation, as the code computes it
negated : (link : Link) (rest : List ℤ) → link.leaf < length rest → weight rest ≤ 10 ^ 30
    → to_z w128 (of_z w128 (pos 0 -ℤ to_z w128 (of_z w128 (item rest link.leaf)))) ≡ neg_ℤ (item rest link.leaf)
negated link rest leaf light =
    let plain : to_z w128 (of_z w128 (pos 0 -ℤ item rest link.leaf)) ≡ neg_ℤ (item rest link.leaf) = through (pos 0 -ℤ item rest link.leaf) (omega (arith, ints, held link rest leaf, light)) ∙ omega (arith, ints) in
    rw (read link rest leaf light) plain

-- the sum of both, as the code computes it
moved : (link : Link) (rest : List ℤ) → link.leaf < length rest → link.near < length rest → link.leaf ≢ link.near → weight rest ≤ 10 ^ 30
    → to_z w128 (of_z w128 (to_z w128 (of_z w128 (left_near link rest)) +ℤ to_z w128 (of_z w128 (item rest link.leaf)))) ≡ left_near link rest +ℤ item rest link.leaf
moved link rest leaf near apart light =
    let both = both_light link rest leaf near apart in
    let there : to_z w128 (of_z w128 (left_near link rest)) ≡ left_near link rest = through (left_near link rest) (omega (arith, both, light)) in
    rw (there, read link rest leaf light) (through (left_near link rest +ℤ item rest link.leaf) (omega (arith, both, light, abs-add-le (left_near link rest) (item rest link.leaf))))

-- and all places hold no more than before
light_left : (link : Link) (rest : List ℤ) → link.leaf < length rest → link.near < length rest → weight (folded link rest) ≤ weight rest
light_left link rest leaf near =
    let emptied : weight (slice_set rest link.leaf (pos 0)) + unsigned_abs (item rest link.leaf) ≡ weight rest + 0 = sum_by-set unsigned_abs rest link.leaf (pos 0) (pos 0) leaf in
    let filled : weight (folded link rest) + unsigned_abs (left_near link rest) ≡ weight (slice_set rest link.leaf (pos 0)) + unsigned_abs (left_near link rest +ℤ item rest link.leaf)
    = sum_by-set unsigned_abs (slice_set rest link.leaf (pos 0)) link.near (left_near link rest +ℤ item rest link.leaf) (pos 0) (rw length-set near) in
    omega (arith, emptied, filled, abs-add-le (left_near link rest) (item rest link.leaf))

pub returns-then-link-clause-rest : goal.returns-then-link-clause-rest
returns-then-link-clause-rest c = ap (slice_set (slice_set c.args.rest.now c.args.link.leaf (pos 0)) c.args.link.near) (moved c.args.link c.args.rest.now c.requires.leaf c.requires.near c.requires.apart c.requires.light)

pub returns-else-link-clause-rest : goal.returns-else-link-clause-rest
returns-else-link-clause-rest c = ap (slice_set (slice_set c.args.rest.now c.args.link.leaf (pos 0)) c.args.link.near) (moved c.args.link c.args.rest.now c.requires.leaf c.requires.near c.requires.apart c.requires.light)

pub returns-then-link-clause-light : goal.returns-then-link-clause-light
returns-then-link-clause-light c = rw (returns-then-link-clause-rest c) (light_left c.args.link c.args.rest.now c.requires.leaf c.requires.near)

pub returns-else-link-clause-light : goal.returns-else-link-clause-light
returns-else-link-clause-light c = rw (returns-else-link-clause-rest c) (light_left c.args.link c.args.rest.now c.requires.leaf c.requires.near)

pub overflow_add-rest : goal.overflow_add-rest
overflow_add-rest c =
    let link = c.args.link in
    let rest = c.args.rest.now in
    let both = both_light link rest c.requires.leaf c.requires.near c.requires.apart in
    let there : to_z w128 (of_z w128 (left_near link rest)) ≡ left_near link rest = through (left_near link rest) (omega (arith, both, c.requires.light)) in
    rw (there, read link rest c.requires.leaf c.requires.light)
    (fits_signed_from_abs w128 (left_near link rest +ℤ item rest link.leaf) (omega (arith, both, c.requires.light, abs-add-le (left_near link rest) (item rest link.leaf))))

pub overflow_sub-result : goal.overflow_sub-result
overflow_sub-result c =
    let link = c.args.link in
    let rest = c.args.rest.now in
    rw (read link rest c.requires.leaf c.requires.light) (fits_signed_from_abs w128 (pos 0 -ℤ item rest link.leaf) (omega (arith, ints, held link rest c.requires.leaf, c.requires.light)))

pub returns-then-link-clause-flow : goal.returns-then-link-clause-flow
returns-then-link-clause-flow c = rw c.if-link.true (negated c.args.link c.args.rest.now c.requires.leaf c.requires.light)

pub returns-else-link-clause-flow : goal.returns-else-link-clause-flow
returns-else-link-clause-flow c = rw c.if-link.false (read c.args.link c.args.rest.now c.requires.leaf c.requires.light)

pub returns-then-link-clause-small : goal.returns-then-link-clause-small
returns-then-link-clause-small c = rw (negated c.args.link c.args.rest.now c.requires.leaf c.requires.light) (omega (arith, ints, held c.args.link c.args.rest.now c.requires.leaf))

pub returns-else-link-clause-small : goal.returns-else-link-clause-small
returns-else-link-clause-small c = rw (read c.args.link c.args.rest.now c.requires.leaf c.requires.light) (held c.args.link c.args.rest.now c.requires.leaf)
