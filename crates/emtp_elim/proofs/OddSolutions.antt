-- Elimination is odd in the right side: the opposite right sides have the opposite unknowns, and the same fault.
use Rattle.std.proofs.Common.{◌≡◌, ◌∙◌, ℕ, zero, suc, ◌-◌, ℤ, neg_ℤ, ◌-ℤ◌, ◌*ℤ◌, nat_le, nat_lt, unsigned_abs, if◌then◌else◌, Bool, List, ◌∷◌, drop, length, Option, Some, None, Ok, refl, ap, arith}
use Rattle.std.proofs.Math.Path.{fun_ext}
use Rattle.std.proofs.lemmas.Int.{ints}
use Rattle.std.proofs.lemmas.List.{length-map}
use Rattle.emtp_fix.proofs.Nearest.{near-neg}
use Rattle.emtp_fix.proofs.Quotients.{near-mul_neg}
use Rattle.emtp_fix.proofs.Wide.{mul_neg}
use Rattle.emtp_fix.specs.Rounding.{near}
use Rattle.emtp_fix.specs.declared.limit.TheConstants.{LARGEST_VALUE, PICO}
use Rattle.emtp_elim.specs.Matrix.{Matrix, entry, item, list_of, products, row_of}
use Rattle.emtp_elim.specs.held.Matrix.{opposites}
use Rattle.emtp_elim.specs.Elimination.{cleared_right, last_unknowns, less_product, ratio, solution, stage, stage_right, unknown}
use Rattle.emtp_elim.specs.Fault.{each_below, is_right_in_range, right_fault, row_fault, unknown_fault}
use Rattle.emtp_elim.specs.Outcome.{first_below, last_below, outcome}
use Rattle.emtp_elim.specs.held.Outcome.{opposite_end}
use Rattle.emtp_fix.specs.Chain.{unless}
use Rattle.emtp_fix.specs.Limit.{is_within}
use Rattle.emtp_elim.specs.declared.fault.PlainFault.TheVariants.{Row, Solve}
use Rattle.emtp_elim.specs.declared.fault.RowFault.{RowFault}
use Rattle.emtp_elim.specs.declared.fault.SolveFault.{SolveFault}
use Rattle.emtp_elim.proofs.Opposites.{abs_neg, if_turned, item_turned, list_of_turned}

less_turned : (a b m p q : ℤ) → b ≡ neg_ℤ a → q ≡ neg_ℤ p → less_product b m q ≡ neg_ℤ (less_product a m p)
less_turned a b m p q e h =
    let part : near (m *ℤ q) PICO ≡ neg_ℤ (near (m *ℤ p) PICO) = ap (λ z. near (m *ℤ z) PICO) h ∙ near-mul_neg m p PICO in
    omega (arith, ints, e, part)

-- ---- right sides

cleared_turned : (k : ℕ) (rows : Matrix) (right : List ℤ) → cleared_right k rows (opposites right) ≡ opposites (cleared_right k rows right)
cleared_turned k rows right =
    ap (λ n. list_of n (λ i. if nat_lt k i then less_product (item (opposites right) i) (ratio rows k i) (item (opposites right) k) else item (opposites right) i)) (length-map right neg_ℤ)
    ∙ list_of_turned (length right) _ _ (λ i. if_turned (nat_lt k i) (less_product (item right i) (ratio rows k i) (item right k)) (item right i) _ _ (less_turned (item right i) _ (ratio rows k i) (item right k) _ (item_turned right i) (item_turned right k)) (item_turned right i))

pub stage_turned : (rows : Matrix) (right : List ℤ) (k : ℕ) → stage_right rows (opposites right) k ≡ opposites (stage_right rows right k)
unfolding stage_right
stage_turned rows right zero = refl
stage_turned rows right (suc k) = ap (cleared_right k (stage rows k)) (stage_turned rows right k) ∙ cleared_turned k (stage rows k) (stage_right rows right k)

-- ---- unknowns

products_turned : (xs ys : List ℤ) (n : ℕ) → products xs (opposites ys) n ≡ neg_ℤ (products xs ys n)
products_turned xs ys zero = refl
products_turned xs ys (suc n) =
    let last : item xs n *ℤ item (opposites ys) n ≡ neg_ℤ (item xs n *ℤ item ys n) = ap (λ z. item xs n *ℤ z) (item_turned ys n) ∙ mul_neg (item xs n) (item ys n) in
    omega (arith, ints, products_turned xs ys n, last)

unknown_turned : (rows : Matrix) (right : List ℤ) (k : ℕ) (later : List ℤ) → unknown rows (opposites right) k (opposites later) ≡ neg_ℤ (unknown rows right k later)
unknown_turned rows right k later =
    let row = drop (suc k) (row_of rows k) in
    let sum : products row (opposites later) (length (opposites later)) ≡ neg_ℤ (products row later (length later)) =
    ap (products row (opposites later)) (length-map later neg_ℤ) ∙ products_turned row later (length later) in
    let all : item (opposites right) k *ℤ PICO -ℤ products row (opposites later) (length (opposites later)) ≡ neg_ℤ (item right k *ℤ PICO -ℤ products row later (length later)) =
    omega (arith, ints, sum, item_turned right k) in
    ap (λ z. near z (entry rows k k)) all ∙ near-neg (item right k *ℤ PICO -ℤ products row later (length later)) (entry rows k k)

unknowns_turned : (rows : Matrix) (right : List ℤ) (n : ℕ) → last_unknowns rows (opposites right) n ≡ opposites (last_unknowns rows right n)
unfolding last_unknowns
unknowns_turned rows right zero = refl
unknowns_turned rows right (suc n) =
    let k = length rows - suc n in
    ap (λ later. unknown rows (opposites right) k later ∷ later) (unknowns_turned rows right n)
    ∙ ap (λ z. z ∷ opposites (last_unknowns rows right n)) (unknown_turned rows right k (last_unknowns rows right n))

pub solution_turned : (rows : Matrix) (right : List ℤ) → solution rows (opposites right) ≡ opposites (solution rows right)
solution_turned rows right =
    ap (λ r. last_unknowns (stage rows (length rows)) r (length rows)) (stage_turned rows right (length rows))
    ∙ unknowns_turned (stage rows (length rows)) (stage_right rows right (length rows)) (length rows)

-- ---- faults

within_turned : (limit : ℕ) (x y : ℤ) → y ≡ neg_ℤ x → is_within limit y ≡ is_within limit x
within_turned limit x y e = ap (λ n. nat_le n limit) (ap unsigned_abs e ∙ abs_neg x)

right_in_range : (rows : Matrix) (right : List ℤ) (i : ℕ) → is_right_in_range rows (opposites right) i ≡ is_right_in_range rows right i
right_in_range rows right i =
    ap (each_below (suc i)) (fun_ext (λ k. within_turned LARGEST_VALUE (item (stage_right rows right k) i) (item (stage_right rows (opposites right) k) i)
    (ap (λ r. item r i) (stage_turned rows right k) ∙ item_turned (stage_right rows right k) i)))

right_fault_same : (rows : Matrix) (right : List ℤ) (i : ℕ) → right_fault rows (opposites right) i ≡ right_fault rows right i
unfolding right_fault
right_fault_same rows right i = ap (λ (b : Bool). if b then None else Some (record { row = i })) (right_in_range rows right i)

unknown_fault_same : (rows : Matrix) (right : List ℤ) (i : ℕ) → unknown_fault rows (opposites right) i ≡ unknown_fault rows right i
unfolding unknown_fault
unknown_fault_same rows right i =
    ap (λ (b : Bool). if b then None else Some (record { row = i }))
    (within_turned LARGEST_VALUE (item (solution rows right) i) (item (solution rows (opposites right)) i) (ap (λ r. item r i) (solution_turned rows right) ∙ item_turned (solution rows right) i))

-- ---- the end

by_faults : (x : Option RowFault) (y z : Option SolveFault) (s : List ℤ) → unless x Row (unless y Solve (unless z Solve (Ok (opposites s)))) ≡ opposite_end (unless x Row (unless y Solve (unless z Solve (Ok s))))
by_faults (Some x) y z s = refl
by_faults None (Some y) z s = refl
by_faults None None (Some z) s = refl
by_faults None None None s = refl

pub outcome_turned : (rows : Matrix) (right : List ℤ) → outcome rows (opposites right) ≡ opposite_end (outcome rows right)
unfolding outcome
outcome_turned rows right =
    let row = first_below (length rows) (row_fault rows) in
    ap (λ f. unless row Row (unless (first_below (length rows) f) Solve (unless (last_below (length rows) (unknown_fault rows (opposites right))) Solve (Ok (solution rows (opposites right)))))) (fun_ext (right_fault_same rows right))
    ∙ ap (λ f. unless row Row (unless (first_below (length rows) (right_fault rows right)) Solve (unless (last_below (length rows) f) Solve (Ok (solution rows (opposites right)))))) (fun_ext (unknown_fault_same rows right))
    ∙ ap (λ s. unless row Row (unless (first_below (length rows) (right_fault rows right)) Solve (unless (last_below (length rows) (unknown_fault rows right)) Solve (Ok s)))) (solution_turned rows right)
    ∙ by_faults row (first_below (length rows) (right_fault rows right)) (last_below (length rows) (unknown_fault rows right)) (solution rows right)
