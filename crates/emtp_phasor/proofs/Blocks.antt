-- The two columns of a node.
use Rattle.std.proofs.Common.{◌≡◌, ◌≢◌, ◌∙◌, sym, ap, ℕ, ◌+◌, ◌*◌, ◌/◌, ◌%◌, ◌<◌, ◌≤◌, ◌==◌, ℤ, pos, ◌+ℤ◌, unsigned_abs, Bool, true, false, if◌then◌else◌, List, length, slice_set, get_or-set_same, get_or-set_other, refl, inl, inr, arith}
use Rattle.std.proofs.lemmas.Bool.{cases_eq}
use Rattle.std.proofs.lemmas.Int.{ints}
use Rattle.emtp_fix.specs.declared.limit.TheConstants.{LARGEST_ENTRY}
use Rattle.emtp_elim.specs.Matrix.{item}
use Rattle.emtp_case.specs.declared.case.Parts.{Parts}
use Rattle.emtp_case.specs.NodeRows.{node_at}
use Rattle.emtp_case.proofs.RowsOfNodes.{is_number, isnt_number, node_low}
use Rattle.emtp_case.proofs.RowsOfNodes.{IsRowOf}
use Rattle.emtp_admittance.specs.Admittances.{in_block, is_imaginary}
use Rattle.emtp_admittance.specs.held.Admittances.{IsSmallAdmittance}
use Rattle.emtp_admittance.specs.declared.admittance.Admittance.{Admittance}

-- ---- halves

pub half_even : (k : ℕ) → 2 * k / 2 ≡ k
half_even k = omega arith

pub half_odd : (k : ℕ) → (2 * k + 1) / 2 ≡ k
half_odd k = omega arith

pub even_real : (k : ℕ) → is_imaginary (2 * k) ≡ false
even_real k = isnt_number (2 * k % 2) 1 (λ e. omega (arith, e))

pub odd_imaginary : (k : ℕ) → is_imaginary (2 * k + 1) ≡ true
odd_imaginary k = is_number ((2 * k + 1) % 2) 1 (omega arith)

other_half : (c k : ℕ) → c ≢ 2 * k → c ≢ 2 * k + 1 → c / 2 ≢ k
other_half c k even odd e = omega (arith, even, odd, e)

pub half_below : (c n : ℕ) → c < 2 * n → c / 2 < n
half_below c n below = omega (arith, below)

-- ---- an admittance in the two columns of a row

nothing : (x : ℤ) → x ≡ x +ℤ pos 0
nothing x = omega (arith, ints)

pub pair_set : (out mid new : List ℤ) (row c : ℕ) (imaginary : Bool) (y : Admittance) → 2 * row + 1 < length out → mid ≡ slice_set out (2 * row) (item out (2 * row) +ℤ in_block imaginary false y) → length mid ≡ length out
    → new ≡ slice_set mid (2 * row + 1) (item mid (2 * row + 1) +ℤ in_block imaginary true y) → item new c ≡ item out c +ℤ (if c / 2 == row then in_block imaginary (is_imaginary c) y else pos 0)
pair_set out mid new row c imaginary y inside first long second = elim (cases_eq c (2 * row)) [
  | inl even ↦
      let here : (2 * row / 2 == row) ≡ true = is_number (2 * row / 2) row (half_even row) in
      let other : item (slice_set mid (2 * row + 1) (item mid (2 * row + 1) +ℤ in_block imaginary true y)) (2 * row) ≡ item mid (2 * row) = get_or-set_other mid (2 * row + 1) (2 * row) (item mid (2 * row + 1) +ℤ in_block imaginary true y) (pos 0) (λ e. omega (arith, e)) in
      let same : item (slice_set out (2 * row) (item out (2 * row) +ℤ in_block imaginary false y)) (2 * row) ≡ item out (2 * row) +ℤ in_block imaginary false y = get_or-set_same out (2 * row) (item out (2 * row) +ℤ in_block imaginary false y) (pos 0) (omega (arith, inside)) in
      rw (even, here, even_real row) (ap (λ xs. item xs (2 * row)) second ∙ other ∙ ap (λ xs. item xs (2 * row)) first ∙ same)
  | inr uneven ↦ elim (cases_eq c (2 * row + 1)) [
    | inl odd ↦
        let here : ((2 * row + 1) / 2 == row) ≡ true = is_number ((2 * row + 1) / 2) row (half_odd row) in
        let same : item (slice_set mid (2 * row + 1) (item mid (2 * row + 1) +ℤ in_block imaginary true y)) (2 * row + 1) ≡ item mid (2 * row + 1) +ℤ in_block imaginary true y = get_or-set_same mid (2 * row + 1) (item mid (2 * row + 1) +ℤ in_block imaginary true y) (pos 0) (omega (arith, inside, long)) in
        let other : item (slice_set out (2 * row) (item out (2 * row) +ℤ in_block imaginary false y)) (2 * row + 1) ≡ item out (2 * row + 1) = get_or-set_other out (2 * row) (2 * row + 1) (item out (2 * row) +ℤ in_block imaginary false y) (pos 0) (λ e. omega (arith, e)) in
        rw (odd, here, odd_imaginary row) (ap (λ xs. item xs (2 * row + 1)) second ∙ same ∙ ap (λ x. x +ℤ in_block imaginary true y) (ap (λ xs. item xs (2 * row + 1)) first ∙ other))
    | inr elsewhere ↦
        let off : (c / 2 == row) ≡ false = isnt_number (c / 2) row (other_half c row uneven elsewhere) in
        let past : item (slice_set mid (2 * row + 1) (item mid (2 * row + 1) +ℤ in_block imaginary true y)) c ≡ item mid c = get_or-set_other mid (2 * row + 1) c (item mid (2 * row + 1) +ℤ in_block imaginary true y) (pos 0) elsewhere in
        let before : item (slice_set out (2 * row) (item out (2 * row) +ℤ in_block imaginary false y)) c ≡ item out c = get_or-set_other out (2 * row) c (item out (2 * row) +ℤ in_block imaginary false y) (pos 0) uneven in
        rw off (ap (λ xs. item xs c) second ∙ past ∙ ap (λ xs. item xs c) first ∙ before ∙ nothing (item out c))
  ]
]

-- the columns of a row are those of its node
block_of : (case : Parts) (n row j : ℕ) (x : ℤ) → IsRowOf case n row → j < length case.nodes → (if j == row then x else pos 0) ≡ (if n == node_at case j then x else pos 0)
block_of case n row j x is below = elim (cases_eq j row) [
  | inl same ↦
      let here : node_at case j ≡ n = ap (node_at case) same ∙ is.there in
      rw (is_number j row same, is_number n (node_at case j) (sym here)) refl
  | inr ne ↦
      let there : n ≢ node_at case j = λ e. ne (is.only j below (sym e)) in
      rw (isnt_number j row ne, isnt_number n (node_at case j) there) refl
]

pub node_pair_set : (case : Parts) (out mid new : List ℤ) (n row c : ℕ) (imaginary : Bool) (y : Admittance) → length out ≡ 2 * length case.nodes → IsRowOf case n row
    → mid ≡ slice_set out (2 * row) (item out (2 * row) +ℤ in_block imaginary false y) → length mid ≡ length out → new ≡ slice_set mid (2 * row + 1) (item mid (2 * row + 1) +ℤ in_block imaginary true y) → c < length out
    → item new c ≡ item out c +ℤ (if n == node_at case (c / 2) then in_block imaginary (is_imaginary c) y else pos 0)
node_pair_set case out mid new n row c imaginary y size is first long second below =
    pair_set out mid new row c imaginary y (omega (arith, size, is.within)) first long second
    ∙ ap (λ x. item out c +ℤ x) (block_of case n row (c / 2) (in_block imaginary (is_imaginary c) y) is (half_below c (length case.nodes) (omega (arith, below, size))))

-- ground has no column
pub ground_pair : (case : Parts) (out : List ℤ) (c : ℕ) (x : ℤ) → length out ≡ 2 * length case.nodes → c < length out → item out c ≡ item out c +ℤ (if 0 == node_at case (c / 2) then x else pos 0)
ground_pair case out c x size below =
    let inside : c / 2 < length case.nodes = half_below c (length case.nodes) (omega (arith, below, size)) in
    let off : (0 == node_at case (c / 2)) ≡ false = isnt_number 0 (node_at case (c / 2)) (λ e. omega (arith, e, node_low case (c / 2) inside)) in
    rw off (nothing (item out c))

-- ---- magnitudes

pub in_block_small : (row column : Bool) (y : Admittance) → IsSmallAdmittance y → unsigned_abs (in_block row column y) ≤ LARGEST_ENTRY
in_block_small false false y small = small.conductance
in_block_small false true y small = omega (arith, ints, small.susceptance)
in_block_small true false y small = small.susceptance
in_block_small true true y small = small.conductance
