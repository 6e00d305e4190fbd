-- The courses of sources are known by their entries.
use Rattle.std.proofs.Common.{◌≡◌, ◌∙◌, ap, refl, arith, ◌*◌, ◌-◌, ◌^◌, ◌<◌, List, [], ℕ, ℤ, pos, get_or, codes, unsigned_abs}
use Rattle.std.specs.Prelude.{◌*ℤ◌}
use Rattle.std.proofs.lemmas.Int.{unsigned_abs-mul}
use Rattle.emtp_case.specs.held.Range.{IsBetween}
use Rattle.emtp_fix.proofs.Nearest.{unsigned_abs-near-le}
use Rattle.emtp_case.specs.held.Sizes.{Sizes}
use Rattle.emtp_case.specs.held.Source.{HasShapeNumbers, IsControlShape, IsNetworkShape}
use Rattle.emtp_case.specs.declared.source.Shape.{Shape}
use Rattle.emtp_case.specs.declared.source.Shape.TheVariants.{Cosine, NodeVoltage, Pulse, Ramp, Saw, Step, SwitchCurrent, SwitchStatus, Tacs}
use Rattle.emtp_case.specs.declared.source.Source.{Source}
use Rattle.emtp_listing.specs.HeldLines.{IsListedShape}
use Rattle.emtp_listing.specs.Law.{AllFree, AreApart, Around, HasNodeNames, HasVarNames}
use Rattle.emtp_listing.specs.NetworkLines.{degrees, shape_entries}
use Rattle.emtp_listing.proofs.Entries.{number-marked, place-marked}
use Rattle.emtp_listing.proofs.Marks.{IsMark, between-most, between-small, node-free, node-same}
use Rattle.emtp_listing.proofs.Numbers.{number-same, place-same}
use Rattle.emtp_listing.proofs.Words.{variable-free, variable-same}

pub network-listed : (n : Sizes) (k : Shape) → IsNetworkShape n k → IsListedShape n k
network-listed n Step is = tt
network-listed n (Ramp a) is = tt
network-listed n (Cosine a b) is = tt
network-listed n (Tacs a) is = is
network-listed n (Pulse a b) is = tt
network-listed n (Saw a) is = tt
network-listed n (NodeVoltage a) is = absurd is
network-listed n (SwitchCurrent a) is = absurd is
network-listed n (SwitchStatus a) is = absurd is

pub control-listed : (n : Sizes) (k : Shape) → IsControlShape n k → IsListedShape n k
control-listed n Step is = tt
control-listed n (Ramp a) is = tt
control-listed n (Cosine a b) is = tt
control-listed n (Tacs a) is = absurd is
control-listed n (Pulse a b) is = tt
control-listed n (Saw a) is = tt
control-listed n (NodeVoltage a) is = is.1
control-listed n (SwitchCurrent a) is = is
control-listed n (SwitchStatus a) is = is

degrees-small : (z : ℤ) → IsBetween 0 (10 ^ 18 - 1) z → unsigned_abs (degrees z) < 2 ^ 64
degrees-small z is =
    let most = between-most 0 (10 ^ 18 - 1) z is in
    let near = unsigned_abs-near-le (pos 9 *ℤ z) (pos 25000000) in
    let whole : unsigned_abs (pos 9 *ℤ z) ≡ 9 * unsigned_abs z = unsigned_abs-mul (pos 9) z in
    omega (arith, most, near, whole)

pub shape-free : (b : ℕ) (w : Around) (nodes vars : List (List ℕ)) (s : Source) (k : Shape) → IsMark b → HasNodeNames w nodes → HasVarNames w vars → HasShapeNumbers s k → IsListedShape w.sizes k
    → AllFree b (shape_entries nodes vars k)
shape-free b w nodes vars s Step mark few named has is = (mark.texts (codes "step") refl, tt)
shape-free b w nodes vars s (Ramp a1) mark few named has is = (mark.texts (codes "ramp") refl, (number-marked b (codes "T0") 12 (codes "s") a1 mark refl refl (between-small 1 (10 ^ 18) a1 (omega arith) has), tt))
shape-free b w nodes vars s (Cosine a1 a2) mark few named has is = (mark.texts (codes "cosine") refl, (number-marked b (codes "frequency") 6 (codes "Hz") a1 mark refl refl (between-small 0 (10 ^ 13) a1 (omega arith) has.0), (number-marked b (codes "phase") 18 (codes "turn") a2 mark refl refl (between-small 0 (10 ^ 18 - 1) a2 (omega arith) has.1), (number-marked b (codes "angle") 9 (codes "degree") (degrees a2) mark refl refl (degrees-small a2 has.1), tt))))
shape-free b w nodes vars s (Tacs a1) mark few named has is = (mark.texts (codes "driven") refl, (variable-free b (codes "control") vars a1 mark refl named.names (omega (arith, named.count, is)), tt))
shape-free b w nodes vars s (Pulse a1 a2) mark few named has is = (mark.texts (codes "pulse") refl, (number-marked b (codes "period") 12 (codes "s") a1 mark refl refl (between-small 1 (10 ^ 18) a1 (omega arith) has.0), (number-marked b (codes "width") 12 (codes "s") a2 mark refl refl (between-small 1 (10 ^ 18) a2 (omega arith) has.1), tt)))
shape-free b w nodes vars s (Saw a1) mark few named has is = (mark.texts (codes "sawtooth") refl, (number-marked b (codes "period") 12 (codes "s") a1 mark refl refl (between-small 1 (10 ^ 18) a1 (omega arith) has), tt))
shape-free b w nodes vars s (NodeVoltage a1) mark few named has is = (mark.texts (codes "voltage of a node") refl, (node-free b (codes "node") nodes a1 mark refl few.names (omega (arith, few.count, is)), tt))
shape-free b w nodes vars s (SwitchCurrent a1) mark few named has is = (mark.texts (codes "current of a switch") refl, (place-marked b (codes "switch") a1 mark refl (omega (arith, few.switches, is)), tt))
shape-free b w nodes vars s (SwitchStatus a1) mark few named has is = (mark.texts (codes "state of a switch") refl, (place-marked b (codes "switch") a1 mark refl (omega (arith, few.switches, is)), tt))

pub shape-same : (w v : Around) (nodes vars : List (List ℕ)) (s t : Source) (j k : Shape) → HasNodeNames w nodes → HasNodeNames v nodes → AreApart nodes → HasVarNames w vars → HasVarNames v vars → AreApart vars
    → HasShapeNumbers s j → HasShapeNumbers t k → IsListedShape w.sizes j → IsListedShape v.sizes k → shape_entries nodes vars j ≡ shape_entries nodes vars k → j ≡ k
shape-same w v nodes vars s t Step Step few few2 apart named named2 apart_vars has hbs is js e = refl
shape-same w v nodes vars s t Step (Ramp b1) few few2 apart named named2 apart_vars has hbs is js e = let l : 115 ≡ 114 = ap (λ (l : List (List ℕ)). get_or (get_or l 0 []) 0 0) e in absurd (omega (arith, l))
shape-same w v nodes vars s t Step (Cosine b1 b2) few few2 apart named named2 apart_vars has hbs is js e = let l : 115 ≡ 99 = ap (λ (l : List (List ℕ)). get_or (get_or l 0 []) 0 0) e in absurd (omega (arith, l))
shape-same w v nodes vars s t Step (Tacs b1) few few2 apart named named2 apart_vars has hbs is js e = let l : 115 ≡ 100 = ap (λ (l : List (List ℕ)). get_or (get_or l 0 []) 0 0) e in absurd (omega (arith, l))
shape-same w v nodes vars s t Step (Pulse b1 b2) few few2 apart named named2 apart_vars has hbs is js e = let l : 115 ≡ 112 = ap (λ (l : List (List ℕ)). get_or (get_or l 0 []) 0 0) e in absurd (omega (arith, l))
shape-same w v nodes vars s t Step (Saw b1) few few2 apart named named2 apart_vars has hbs is js e = let l : 116 ≡ 97 = ap (λ (l : List (List ℕ)). get_or (get_or l 0 []) 1 0) e in absurd (omega (arith, l))
shape-same w v nodes vars s t Step (NodeVoltage b1) few few2 apart named named2 apart_vars has hbs is js e = let l : 115 ≡ 118 = ap (λ (l : List (List ℕ)). get_or (get_or l 0 []) 0 0) e in absurd (omega (arith, l))
shape-same w v nodes vars s t Step (SwitchCurrent b1) few few2 apart named named2 apart_vars has hbs is js e = let l : 115 ≡ 99 = ap (λ (l : List (List ℕ)). get_or (get_or l 0 []) 0 0) e in absurd (omega (arith, l))
shape-same w v nodes vars s t Step (SwitchStatus b1) few few2 apart named named2 apart_vars has hbs is js e = let l : 101 ≡ 97 = ap (λ (l : List (List ℕ)). get_or (get_or l 0 []) 2 0) e in absurd (omega (arith, l))
shape-same w v nodes vars s t (Ramp a1) Step few few2 apart named named2 apart_vars has hbs is js e = let l : 114 ≡ 115 = ap (λ (l : List (List ℕ)). get_or (get_or l 0 []) 0 0) e in absurd (omega (arith, l))
shape-same w v nodes vars s t (Ramp a1) (Ramp b1) few few2 apart named named2 apart_vars has hbs is js e = ap (λ (x : ℤ). Ramp x) (number-same (codes "T0") 12 (codes "s") a1 b1 (between-small 1 (10 ^ 18) a1 (omega arith) has) (between-small 1 (10 ^ 18) b1 (omega arith) hbs) (ap (λ (l : List (List ℕ)). get_or l 1 []) e))
shape-same w v nodes vars s t (Ramp a1) (Cosine b1 b2) few few2 apart named named2 apart_vars has hbs is js e = let l : 114 ≡ 99 = ap (λ (l : List (List ℕ)). get_or (get_or l 0 []) 0 0) e in absurd (omega (arith, l))
shape-same w v nodes vars s t (Ramp a1) (Tacs b1) few few2 apart named named2 apart_vars has hbs is js e = let l : 114 ≡ 100 = ap (λ (l : List (List ℕ)). get_or (get_or l 0 []) 0 0) e in absurd (omega (arith, l))
shape-same w v nodes vars s t (Ramp a1) (Pulse b1 b2) few few2 apart named named2 apart_vars has hbs is js e = let l : 114 ≡ 112 = ap (λ (l : List (List ℕ)). get_or (get_or l 0 []) 0 0) e in absurd (omega (arith, l))
shape-same w v nodes vars s t (Ramp a1) (Saw b1) few few2 apart named named2 apart_vars has hbs is js e = let l : 114 ≡ 115 = ap (λ (l : List (List ℕ)). get_or (get_or l 0 []) 0 0) e in absurd (omega (arith, l))
shape-same w v nodes vars s t (Ramp a1) (NodeVoltage b1) few few2 apart named named2 apart_vars has hbs is js e = let l : 114 ≡ 118 = ap (λ (l : List (List ℕ)). get_or (get_or l 0 []) 0 0) e in absurd (omega (arith, l))
shape-same w v nodes vars s t (Ramp a1) (SwitchCurrent b1) few few2 apart named named2 apart_vars has hbs is js e = let l : 114 ≡ 99 = ap (λ (l : List (List ℕ)). get_or (get_or l 0 []) 0 0) e in absurd (omega (arith, l))
shape-same w v nodes vars s t (Ramp a1) (SwitchStatus b1) few few2 apart named named2 apart_vars has hbs is js e = let l : 114 ≡ 115 = ap (λ (l : List (List ℕ)). get_or (get_or l 0 []) 0 0) e in absurd (omega (arith, l))
shape-same w v nodes vars s t (Cosine a1 a2) Step few few2 apart named named2 apart_vars has hbs is js e = let l : 99 ≡ 115 = ap (λ (l : List (List ℕ)). get_or (get_or l 0 []) 0 0) e in absurd (omega (arith, l))
shape-same w v nodes vars s t (Cosine a1 a2) (Ramp b1) few few2 apart named named2 apart_vars has hbs is js e = let l : 99 ≡ 114 = ap (λ (l : List (List ℕ)). get_or (get_or l 0 []) 0 0) e in absurd (omega (arith, l))
shape-same w v nodes vars s t (Cosine a1 a2) (Cosine b1 b2) few few2 apart named named2 apart_vars has hbs is js e = ap (λ (x : ℤ). Cosine x a2) (number-same (codes "frequency") 6 (codes "Hz") a1 b1 (between-small 0 (10 ^ 13) a1 (omega arith) has.0) (between-small 0 (10 ^ 13) b1 (omega arith) hbs.0) (ap (λ (l : List (List ℕ)). get_or l 1 []) e)) ∙ ap (λ (x : ℤ). Cosine b1 x) (number-same (codes "phase") 18 (codes "turn") a2 b2 (between-small 0 (10 ^ 18 - 1) a2 (omega arith) has.1) (between-small 0 (10 ^ 18 - 1) b2 (omega arith) hbs.1) (ap (λ (l : List (List ℕ)). get_or l 2 []) e))
shape-same w v nodes vars s t (Cosine a1 a2) (Tacs b1) few few2 apart named named2 apart_vars has hbs is js e = let l : 99 ≡ 100 = ap (λ (l : List (List ℕ)). get_or (get_or l 0 []) 0 0) e in absurd (omega (arith, l))
shape-same w v nodes vars s t (Cosine a1 a2) (Pulse b1 b2) few few2 apart named named2 apart_vars has hbs is js e = let l : 99 ≡ 112 = ap (λ (l : List (List ℕ)). get_or (get_or l 0 []) 0 0) e in absurd (omega (arith, l))
shape-same w v nodes vars s t (Cosine a1 a2) (Saw b1) few few2 apart named named2 apart_vars has hbs is js e = let l : 99 ≡ 115 = ap (λ (l : List (List ℕ)). get_or (get_or l 0 []) 0 0) e in absurd (omega (arith, l))
shape-same w v nodes vars s t (Cosine a1 a2) (NodeVoltage b1) few few2 apart named named2 apart_vars has hbs is js e = let l : 99 ≡ 118 = ap (λ (l : List (List ℕ)). get_or (get_or l 0 []) 0 0) e in absurd (omega (arith, l))
shape-same w v nodes vars s t (Cosine a1 a2) (SwitchCurrent b1) few few2 apart named named2 apart_vars has hbs is js e = let l : 111 ≡ 117 = ap (λ (l : List (List ℕ)). get_or (get_or l 0 []) 1 0) e in absurd (omega (arith, l))
shape-same w v nodes vars s t (Cosine a1 a2) (SwitchStatus b1) few few2 apart named named2 apart_vars has hbs is js e = let l : 99 ≡ 115 = ap (λ (l : List (List ℕ)). get_or (get_or l 0 []) 0 0) e in absurd (omega (arith, l))
shape-same w v nodes vars s t (Tacs a1) Step few few2 apart named named2 apart_vars has hbs is js e = let l : 100 ≡ 115 = ap (λ (l : List (List ℕ)). get_or (get_or l 0 []) 0 0) e in absurd (omega (arith, l))
shape-same w v nodes vars s t (Tacs a1) (Ramp b1) few few2 apart named named2 apart_vars has hbs is js e = let l : 100 ≡ 114 = ap (λ (l : List (List ℕ)). get_or (get_or l 0 []) 0 0) e in absurd (omega (arith, l))
shape-same w v nodes vars s t (Tacs a1) (Cosine b1 b2) few few2 apart named named2 apart_vars has hbs is js e = let l : 100 ≡ 99 = ap (λ (l : List (List ℕ)). get_or (get_or l 0 []) 0 0) e in absurd (omega (arith, l))
shape-same w v nodes vars s t (Tacs a1) (Tacs b1) few few2 apart named named2 apart_vars has hbs is js e = ap (λ (x : ℕ). Tacs x) (variable-same (codes "control") vars a1 b1 apart_vars (omega (arith, named.count, is)) (omega (arith, named2.count, js)) (ap (λ (l : List (List ℕ)). get_or l 1 []) e))
shape-same w v nodes vars s t (Tacs a1) (Pulse b1 b2) few few2 apart named named2 apart_vars has hbs is js e = let l : 100 ≡ 112 = ap (λ (l : List (List ℕ)). get_or (get_or l 0 []) 0 0) e in absurd (omega (arith, l))
shape-same w v nodes vars s t (Tacs a1) (Saw b1) few few2 apart named named2 apart_vars has hbs is js e = let l : 100 ≡ 115 = ap (λ (l : List (List ℕ)). get_or (get_or l 0 []) 0 0) e in absurd (omega (arith, l))
shape-same w v nodes vars s t (Tacs a1) (NodeVoltage b1) few few2 apart named named2 apart_vars has hbs is js e = let l : 100 ≡ 118 = ap (λ (l : List (List ℕ)). get_or (get_or l 0 []) 0 0) e in absurd (omega (arith, l))
shape-same w v nodes vars s t (Tacs a1) (SwitchCurrent b1) few few2 apart named named2 apart_vars has hbs is js e = let l : 100 ≡ 99 = ap (λ (l : List (List ℕ)). get_or (get_or l 0 []) 0 0) e in absurd (omega (arith, l))
shape-same w v nodes vars s t (Tacs a1) (SwitchStatus b1) few few2 apart named named2 apart_vars has hbs is js e = let l : 100 ≡ 115 = ap (λ (l : List (List ℕ)). get_or (get_or l 0 []) 0 0) e in absurd (omega (arith, l))
shape-same w v nodes vars s t (Pulse a1 a2) Step few few2 apart named named2 apart_vars has hbs is js e = let l : 112 ≡ 115 = ap (λ (l : List (List ℕ)). get_or (get_or l 0 []) 0 0) e in absurd (omega (arith, l))
shape-same w v nodes vars s t (Pulse a1 a2) (Ramp b1) few few2 apart named named2 apart_vars has hbs is js e = let l : 112 ≡ 114 = ap (λ (l : List (List ℕ)). get_or (get_or l 0 []) 0 0) e in absurd (omega (arith, l))
shape-same w v nodes vars s t (Pulse a1 a2) (Cosine b1 b2) few few2 apart named named2 apart_vars has hbs is js e = let l : 112 ≡ 99 = ap (λ (l : List (List ℕ)). get_or (get_or l 0 []) 0 0) e in absurd (omega (arith, l))
shape-same w v nodes vars s t (Pulse a1 a2) (Tacs b1) few few2 apart named named2 apart_vars has hbs is js e = let l : 112 ≡ 100 = ap (λ (l : List (List ℕ)). get_or (get_or l 0 []) 0 0) e in absurd (omega (arith, l))
shape-same w v nodes vars s t (Pulse a1 a2) (Pulse b1 b2) few few2 apart named named2 apart_vars has hbs is js e = ap (λ (x : ℤ). Pulse x a2) (number-same (codes "period") 12 (codes "s") a1 b1 (between-small 1 (10 ^ 18) a1 (omega arith) has.0) (between-small 1 (10 ^ 18) b1 (omega arith) hbs.0) (ap (λ (l : List (List ℕ)). get_or l 1 []) e)) ∙ ap (λ (x : ℤ). Pulse b1 x) (number-same (codes "width") 12 (codes "s") a2 b2 (between-small 1 (10 ^ 18) a2 (omega arith) has.1) (between-small 1 (10 ^ 18) b2 (omega arith) hbs.1) (ap (λ (l : List (List ℕ)). get_or l 2 []) e))
shape-same w v nodes vars s t (Pulse a1 a2) (Saw b1) few few2 apart named named2 apart_vars has hbs is js e = let l : 112 ≡ 115 = ap (λ (l : List (List ℕ)). get_or (get_or l 0 []) 0 0) e in absurd (omega (arith, l))
shape-same w v nodes vars s t (Pulse a1 a2) (NodeVoltage b1) few few2 apart named named2 apart_vars has hbs is js e = let l : 112 ≡ 118 = ap (λ (l : List (List ℕ)). get_or (get_or l 0 []) 0 0) e in absurd (omega (arith, l))
shape-same w v nodes vars s t (Pulse a1 a2) (SwitchCurrent b1) few few2 apart named named2 apart_vars has hbs is js e = let l : 112 ≡ 99 = ap (λ (l : List (List ℕ)). get_or (get_or l 0 []) 0 0) e in absurd (omega (arith, l))
shape-same w v nodes vars s t (Pulse a1 a2) (SwitchStatus b1) few few2 apart named named2 apart_vars has hbs is js e = let l : 112 ≡ 115 = ap (λ (l : List (List ℕ)). get_or (get_or l 0 []) 0 0) e in absurd (omega (arith, l))
shape-same w v nodes vars s t (Saw a1) Step few few2 apart named named2 apart_vars has hbs is js e = let l : 97 ≡ 116 = ap (λ (l : List (List ℕ)). get_or (get_or l 0 []) 1 0) e in absurd (omega (arith, l))
shape-same w v nodes vars s t (Saw a1) (Ramp b1) few few2 apart named named2 apart_vars has hbs is js e = let l : 115 ≡ 114 = ap (λ (l : List (List ℕ)). get_or (get_or l 0 []) 0 0) e in absurd (omega (arith, l))
shape-same w v nodes vars s t (Saw a1) (Cosine b1 b2) few few2 apart named named2 apart_vars has hbs is js e = let l : 115 ≡ 99 = ap (λ (l : List (List ℕ)). get_or (get_or l 0 []) 0 0) e in absurd (omega (arith, l))
shape-same w v nodes vars s t (Saw a1) (Tacs b1) few few2 apart named named2 apart_vars has hbs is js e = let l : 115 ≡ 100 = ap (λ (l : List (List ℕ)). get_or (get_or l 0 []) 0 0) e in absurd (omega (arith, l))
shape-same w v nodes vars s t (Saw a1) (Pulse b1 b2) few few2 apart named named2 apart_vars has hbs is js e = let l : 115 ≡ 112 = ap (λ (l : List (List ℕ)). get_or (get_or l 0 []) 0 0) e in absurd (omega (arith, l))
shape-same w v nodes vars s t (Saw a1) (Saw b1) few few2 apart named named2 apart_vars has hbs is js e = ap (λ (x : ℤ). Saw x) (number-same (codes "period") 12 (codes "s") a1 b1 (between-small 1 (10 ^ 18) a1 (omega arith) has) (between-small 1 (10 ^ 18) b1 (omega arith) hbs) (ap (λ (l : List (List ℕ)). get_or l 1 []) e))
shape-same w v nodes vars s t (Saw a1) (NodeVoltage b1) few few2 apart named named2 apart_vars has hbs is js e = let l : 115 ≡ 118 = ap (λ (l : List (List ℕ)). get_or (get_or l 0 []) 0 0) e in absurd (omega (arith, l))
shape-same w v nodes vars s t (Saw a1) (SwitchCurrent b1) few few2 apart named named2 apart_vars has hbs is js e = let l : 115 ≡ 99 = ap (λ (l : List (List ℕ)). get_or (get_or l 0 []) 0 0) e in absurd (omega (arith, l))
shape-same w v nodes vars s t (Saw a1) (SwitchStatus b1) few few2 apart named named2 apart_vars has hbs is js e = let l : 97 ≡ 116 = ap (λ (l : List (List ℕ)). get_or (get_or l 0 []) 1 0) e in absurd (omega (arith, l))
shape-same w v nodes vars s t (NodeVoltage a1) Step few few2 apart named named2 apart_vars has hbs is js e = let l : 118 ≡ 115 = ap (λ (l : List (List ℕ)). get_or (get_or l 0 []) 0 0) e in absurd (omega (arith, l))
shape-same w v nodes vars s t (NodeVoltage a1) (Ramp b1) few few2 apart named named2 apart_vars has hbs is js e = let l : 118 ≡ 114 = ap (λ (l : List (List ℕ)). get_or (get_or l 0 []) 0 0) e in absurd (omega (arith, l))
shape-same w v nodes vars s t (NodeVoltage a1) (Cosine b1 b2) few few2 apart named named2 apart_vars has hbs is js e = let l : 118 ≡ 99 = ap (λ (l : List (List ℕ)). get_or (get_or l 0 []) 0 0) e in absurd (omega (arith, l))
shape-same w v nodes vars s t (NodeVoltage a1) (Tacs b1) few few2 apart named named2 apart_vars has hbs is js e = let l : 118 ≡ 100 = ap (λ (l : List (List ℕ)). get_or (get_or l 0 []) 0 0) e in absurd (omega (arith, l))
shape-same w v nodes vars s t (NodeVoltage a1) (Pulse b1 b2) few few2 apart named named2 apart_vars has hbs is js e = let l : 118 ≡ 112 = ap (λ (l : List (List ℕ)). get_or (get_or l 0 []) 0 0) e in absurd (omega (arith, l))
shape-same w v nodes vars s t (NodeVoltage a1) (Saw b1) few few2 apart named named2 apart_vars has hbs is js e = let l : 118 ≡ 115 = ap (λ (l : List (List ℕ)). get_or (get_or l 0 []) 0 0) e in absurd (omega (arith, l))
shape-same w v nodes vars s t (NodeVoltage a1) (NodeVoltage b1) few few2 apart named named2 apart_vars has hbs is js e = ap (λ (x : ℕ). NodeVoltage x) (node-same (codes "node") nodes a1 b1 few.names apart (omega (arith, few.count, is)) (omega (arith, few2.count, js)) (ap (λ (l : List (List ℕ)). get_or l 1 []) e))
shape-same w v nodes vars s t (NodeVoltage a1) (SwitchCurrent b1) few few2 apart named named2 apart_vars has hbs is js e = let l : 118 ≡ 99 = ap (λ (l : List (List ℕ)). get_or (get_or l 0 []) 0 0) e in absurd (omega (arith, l))
shape-same w v nodes vars s t (NodeVoltage a1) (SwitchStatus b1) few few2 apart named named2 apart_vars has hbs is js e = let l : 118 ≡ 115 = ap (λ (l : List (List ℕ)). get_or (get_or l 0 []) 0 0) e in absurd (omega (arith, l))
shape-same w v nodes vars s t (SwitchCurrent a1) Step few few2 apart named named2 apart_vars has hbs is js e = let l : 99 ≡ 115 = ap (λ (l : List (List ℕ)). get_or (get_or l 0 []) 0 0) e in absurd (omega (arith, l))
shape-same w v nodes vars s t (SwitchCurrent a1) (Ramp b1) few few2 apart named named2 apart_vars has hbs is js e = let l : 99 ≡ 114 = ap (λ (l : List (List ℕ)). get_or (get_or l 0 []) 0 0) e in absurd (omega (arith, l))
shape-same w v nodes vars s t (SwitchCurrent a1) (Cosine b1 b2) few few2 apart named named2 apart_vars has hbs is js e = let l : 117 ≡ 111 = ap (λ (l : List (List ℕ)). get_or (get_or l 0 []) 1 0) e in absurd (omega (arith, l))
shape-same w v nodes vars s t (SwitchCurrent a1) (Tacs b1) few few2 apart named named2 apart_vars has hbs is js e = let l : 99 ≡ 100 = ap (λ (l : List (List ℕ)). get_or (get_or l 0 []) 0 0) e in absurd (omega (arith, l))
shape-same w v nodes vars s t (SwitchCurrent a1) (Pulse b1 b2) few few2 apart named named2 apart_vars has hbs is js e = let l : 99 ≡ 112 = ap (λ (l : List (List ℕ)). get_or (get_or l 0 []) 0 0) e in absurd (omega (arith, l))
shape-same w v nodes vars s t (SwitchCurrent a1) (Saw b1) few few2 apart named named2 apart_vars has hbs is js e = let l : 99 ≡ 115 = ap (λ (l : List (List ℕ)). get_or (get_or l 0 []) 0 0) e in absurd (omega (arith, l))
shape-same w v nodes vars s t (SwitchCurrent a1) (NodeVoltage b1) few few2 apart named named2 apart_vars has hbs is js e = let l : 99 ≡ 118 = ap (λ (l : List (List ℕ)). get_or (get_or l 0 []) 0 0) e in absurd (omega (arith, l))
shape-same w v nodes vars s t (SwitchCurrent a1) (SwitchCurrent b1) few few2 apart named named2 apart_vars has hbs is js e = ap (λ (x : ℕ). SwitchCurrent x) (place-same (codes "switch") a1 b1 (omega (arith, few.switches, is)) (omega (arith, few2.switches, js)) (ap (λ (l : List (List ℕ)). get_or l 1 []) e))
shape-same w v nodes vars s t (SwitchCurrent a1) (SwitchStatus b1) few few2 apart named named2 apart_vars has hbs is js e = let l : 99 ≡ 115 = ap (λ (l : List (List ℕ)). get_or (get_or l 0 []) 0 0) e in absurd (omega (arith, l))
shape-same w v nodes vars s t (SwitchStatus a1) Step few few2 apart named named2 apart_vars has hbs is js e = let l : 97 ≡ 101 = ap (λ (l : List (List ℕ)). get_or (get_or l 0 []) 2 0) e in absurd (omega (arith, l))
shape-same w v nodes vars s t (SwitchStatus a1) (Ramp b1) few few2 apart named named2 apart_vars has hbs is js e = let l : 115 ≡ 114 = ap (λ (l : List (List ℕ)). get_or (get_or l 0 []) 0 0) e in absurd (omega (arith, l))
shape-same w v nodes vars s t (SwitchStatus a1) (Cosine b1 b2) few few2 apart named named2 apart_vars has hbs is js e = let l : 115 ≡ 99 = ap (λ (l : List (List ℕ)). get_or (get_or l 0 []) 0 0) e in absurd (omega (arith, l))
shape-same w v nodes vars s t (SwitchStatus a1) (Tacs b1) few few2 apart named named2 apart_vars has hbs is js e = let l : 115 ≡ 100 = ap (λ (l : List (List ℕ)). get_or (get_or l 0 []) 0 0) e in absurd (omega (arith, l))
shape-same w v nodes vars s t (SwitchStatus a1) (Pulse b1 b2) few few2 apart named named2 apart_vars has hbs is js e = let l : 115 ≡ 112 = ap (λ (l : List (List ℕ)). get_or (get_or l 0 []) 0 0) e in absurd (omega (arith, l))
shape-same w v nodes vars s t (SwitchStatus a1) (Saw b1) few few2 apart named named2 apart_vars has hbs is js e = let l : 116 ≡ 97 = ap (λ (l : List (List ℕ)). get_or (get_or l 0 []) 1 0) e in absurd (omega (arith, l))
shape-same w v nodes vars s t (SwitchStatus a1) (NodeVoltage b1) few few2 apart named named2 apart_vars has hbs is js e = let l : 115 ≡ 118 = ap (λ (l : List (List ℕ)). get_or (get_or l 0 []) 0 0) e in absurd (omega (arith, l))
shape-same w v nodes vars s t (SwitchStatus a1) (SwitchCurrent b1) few few2 apart named named2 apart_vars has hbs is js e = let l : 115 ≡ 99 = ap (λ (l : List (List ℕ)). get_or (get_or l 0 []) 0 0) e in absurd (omega (arith, l))
shape-same w v nodes vars s t (SwitchStatus a1) (SwitchStatus b1) few few2 apart named named2 apart_vars has hbs is js e = ap (λ (x : ℕ). SwitchStatus x) (place-same (codes "switch") a1 b1 (omega (arith, few.switches, is)) (omega (arith, few2.switches, js)) (ap (λ (l : List (List ℕ)). get_or l 1 []) e))
